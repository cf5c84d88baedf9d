use Rattle.std.proofs.Common.{◌≡◌, rules, to_z, of_z, ap, ap₂, sym, ◌∙◌, map, ◌++◌}
use Rattle.std.proofs.lemmas.Int.{to_z-of_z}
use Rattle.std.specs.Prelude.{◌+ℤ◌}
use Rattle.tp_value.specs.Tree.{list, of_items}
use Rattle.tp_value.specs.Read.{tree}
use Rattle.tp_value.specs.Number.{number_width, within_limit}
use Rattle.tp_value.specs.Equations.{tree_num, tree_list, items_of-of_items}
use Rattle.tp_eval.specs.Reached.{within_numbers, within_lists}
use Rattle.tp_eval.specs.Evaluate.{sum_in, number_in, list_items}
use Rattle.tp_eval.specs.Answers.{number_within}
use Rattle.tp_eval.proofs.Steps.{answers_same, number_is, then_gives}
use Rattle.tp_eval.proofs.operate.sum_of.Goals as goal

pub returns-in_ok-n-in-Num : goal.returns-in_ok-n-in-Num
returns-in_ok-n-in-Num c =
    let m = c.in-Num.m in
    let n = c.in_ok-n-in-Num.n in
    let is = ap (λ t. sum_in t (tree c.args.b)) (ap tree c.in-Num.is ∙ tree_num m) in
    let total = then_gives (number_in (tree c.args.b)) n (λ b. within_numbers (m +ℤ b)) c.in_ok-n-in-Num.ensures.value in
    let m_is : to_z number_width (of_z number_width m) ≡ m = search rules in
    let same = c.sum.ensures ∙ ap₂ (λ a b. within_limit (a +ℤ b)) m_is (to_z-of_z number_width n c.in_ok-n-in-Num.ensures.fits) in
    answers_same tree c.within.result _ _ (is ∙ total ∙ number_is (m +ℤ n) ∙ ap number_within (sym same)) c.within.ensures

pub returns-in_ok-second-in-List : goal.returns-in_ok-second-in-List
returns-in_ok-second-in-List c =
    let first = map tree c.in-List.first.items.items in
    let second = map tree c.in_ok-second-in-List.second.items.items in
    let is = ap (λ t. sum_in t (tree c.args.b)) (ap tree c.in-List.is ∙ tree_list c.in-List.first) in
    let all = then_gives (list_items (tree c.args.b)) second _ c.in_ok-second-in-List.ensures ∙ ap (λ ts. within_lists (list (of_items (ts ++ second)))) (items_of-of_items first) in
    answers_same tree c.append.result _ _ (is ∙ all) c.append.ensures
