use Rattle.std.proofs.Common.{ap, sym, ◌∙◌, arith, Some}
use Rattle.tp_value.specs.Read.{tree}
use Rattle.tp_value.specs.Shape.{item_of}
use Rattle.tp_value.specs.Equations.{tree_list}
use Rattle.tp_value.proofs.Shapes.{item_of_list, no_item}
use Rattle.tp_value.proofs.equality.item.Goals as goal

pub returns-then-place-len : goal.returns-then-place-len
returns-then-place-len c =
    let seen = ap tree c.in-List.is ∙ tree_list c.in-List.all in
    ap (λ v. Some (tree v)) c.index.ensures ∙ item_of_list tree c.in-List.all.items.items c.args.at c.index.result.now (omega (arith, c.in-List.all.items.ok.0)) ∙ ap (λ t. item_of t c.args.at) (sym seen)

pub returns-else-place-len : goal.returns-else-place-len
returns-else-place-len c =
    let seen = ap tree c.in-List.is ∙ tree_list c.in-List.all in
    no_item tree c.in-List.all.items.items c.args.at (omega (arith, c.in-List.all.items.ok.0)) ∙ ap (λ t. item_of t c.args.at) (sym seen)
