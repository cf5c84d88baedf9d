use Rattle.std.proofs.Common.{ap, sym, ◌∙◌, map}
use Rattle.std.proofs.lemmas.List.{map-append}
use Rattle.tp_value.specs.Tree.{list, of_items}
use Rattle.tp_value.specs.Read.{tree}
use Rattle.tp_value.specs.Equations.{tree_list}
use Rattle.tp_eval.specs.Reached.{within_lists}
use Rattle.tp_eval.proofs.Steps.{answers_same}
use Rattle.tp_eval.proofs.operate.append.Goals as goal

pub returns : goal.returns
returns c =
    let first = c.args.first.items.items in
    let second = c.args.second.items.items in
    let all = tree_list _ ∙ ap (λ ts. list (of_items ts)) (ap (map tree) c.in_ok-append.ensures.items ∙ map-append tree first second) in
    answers_same tree c.limited.result _ _ (sym (ap within_lists all)) c.limited.ensures
