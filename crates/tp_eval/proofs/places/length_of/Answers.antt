use Rattle.std.proofs.Common.{rules, ◌≡◌, ℤ, pos, to_z, ap, sym, ◌∙◌}
use Rattle.tp_value.specs.Number.{number_width}
use Rattle.tp_value.specs.Tree.{num}
use Rattle.tp_value.specs.Read.{tree}
use Rattle.tp_value.specs.declared.value.Value.TheVariants.{Num}
use Rattle.tp_value.specs.Equations.{tree_list, tree_num}
use Rattle.tp_value.proofs.Shapes.{length_of_list}
use Rattle.tp_eval.specs.Reached.{gives}
use Rattle.tp_eval.specs.Evaluate.{length_of}
use Rattle.tp_eval.proofs.places.length_of.Goals as goal

pub returns-in-List : goal.returns-in-List
returns-in-List c =
    let is = ap tree c.in-List.is ∙ tree_list c.in-List.all in
    let count = length_of_list tree c.in-List.all.items.items ∙ sym c.in-List.all.items.ok.0 ∙ sym c.len.ensures in
    let small : to_z number_width c.len.result ≡ pos c.len.result = search rules in
    ap length_of is ∙ ap (λ n. gives (num (pos n))) count ∙ ap gives (sym (ap (λ (n : ℤ). tree (Num n)) small ∙ tree_num (pos c.len.result)))
