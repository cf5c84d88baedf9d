use Rattle.std.proofs.Common.{ap, sym, ◌∙◌, subst, arith}
use Rattle.tp_value.specs.declared.value.Shape.{Shape}
use Rattle.tp_value.specs.Read.{tree}
use Rattle.tp_value.specs.Shape.{shape_of}
use Rattle.tp_value.specs.ShortLists.{HasShortLists}
use Rattle.tp_value.specs.Equations.{tree_list}
use Rattle.tp_value.proofs.Shapes.{length_of_list}
use Rattle.tp_value.proofs.equality.whole_shape.Goals as goal

pub overflow_cast-result : goal.overflow_cast-result
overflow_cast-result c =
    let seen = ap tree c.in-List.is ∙ tree_list c.in-List.all in
    let short = subst HasShortLists seen c.requires in
    omega (arith, short.0, length_of_list tree c.in-List.all.items.items, c.in-List.all.items.ok.0)

pub returns-in-List : goal.returns-in-List
returns-in-List c =
    let seen = ap tree c.in-List.is ∙ tree_list c.in-List.all in
    ap Shape.Items (c.len.ensures ∙ c.in-List.all.items.ok.0 ∙ sym (length_of_list tree c.in-List.all.items.items)) ∙ ap shape_of (sym seen)
