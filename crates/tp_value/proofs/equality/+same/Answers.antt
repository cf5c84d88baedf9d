use Rattle.std.proofs.Common.{ap, sym, ◌∙◌, map, arith, refl}
use Rattle.tp_value.specs.Tree.{list, of_items}
use Rattle.tp_value.specs.Read.{tree}
use Rattle.tp_value.specs.Equations.{tree_list}
use Rattle.tp_value.proofs.Shapes.{lists_same, length_same, same_at, take_all}
use Rattle.tp_value.proofs.equality.+same.Goals as goal

pub returns-then-len : goal.returns-then-len
returns-then-len t c =
    let a = ap tree c.in-List.is ∙ tree_list c.in-List.xs in
    let b = ap tree c.in-List-b.is ∙ tree_list c.in-List-b.ys in (
      λ h. absurd (cc),
      λ e. absurd (omega (arith, length_same tree c.in-List.xs.items.items c.in-List-b.ys.items.items (lists_same _ _ (sym a ∙ e ∙ b)), c.in-List.xs.items.ok.0, c.in-List-b.ys.items.ok.0)),
    )

pub returns-then-not-same : goal.returns-then-not-same
returns-then-not-same t c =
    let a = ap tree c.in-List.is ∙ tree_list c.in-List.xs in
    let b = ap tree c.in-List-b.is ∙ tree_list c.in-List-b.ys in (
      λ h. absurd (cc),
      λ e. c.if-not-same.ensures.1 (ap tree c.index.ensures ∙ same_at tree c.in-List.xs.items.items c.in-List-b.ys.items.items c.loop-i.i _ _ (lists_same _ _ (sym a ∙ e ∙ b))
          (omega (arith, c.in-List.xs.items.ok.0)) ∙ ap tree (sym c.index-in-loop-i.ensures)),
    )

pub returns-after-loop-i : goal.returns-after-loop-i
returns-after-loop-i t c =
    let a = ap tree c.in-List.is ∙ tree_list c.in-List.xs in
    let b = ap tree c.in-List-b.is ∙ tree_list c.in-List-b.ys in
    let x = take_all c.loop-i.i c.in-List.xs.items.items (omega (arith, c.in-List.xs.items.ok.0, c.in-List-b.ys.items.ok.0)) in
    let y = take_all c.loop-i.i c.in-List-b.ys.items.items (omega (arith, c.in-List.xs.items.ok.0, c.in-List-b.ys.items.ok.0)) in (
      λ h. a ∙ ap (λ ts. list (of_items ts)) (ap (map tree) (sym x) ∙ c.loop-i.invariant ∙ ap (map tree) y) ∙ sym b,
      λ e. refl,
    )
