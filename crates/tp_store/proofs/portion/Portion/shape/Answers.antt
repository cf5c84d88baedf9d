use Rattle.std.proofs.Common.{ap, ap₂, sym, ◌∙◌}
use Rattle.std.specs.Option.{option_copied}
use Rattle.tp_value.specs.Read.{tree}
use Rattle.tp_value.specs.Shape.{shape_at_path}
use Rattle.tp_store.specs.Facts.{kept_shape}
use Rattle.tp_store.proofs.PortionViews.{found_limit, kept_alone, kept_beside}
use Rattle.tp_store.proofs.portion.Portion.shape.Goals as goal

pub shape_inside-requires : goal.shape_inside-requires
shape_inside-requires c = found_limit c.self.inside.lasting c.self.inside.parts c.self.inside.wholes.entries _ c.self.view_is c.self.invariant _ _ (sym c.whole_of.ensures ∙ ap option_copied c.in-Some.is) _ c.deref.ensures

pub returns-in-Some : goal.returns-in-Some
returns-in-Some c =
    let found = sym c.whole_of.ensures ∙ ap option_copied c.in-Some.is in
    c.shape_inside.ensures ∙ ap₂ (λ at w. shape_at_path at (tree w)) c.as_slice.ensures.value c.deref.ensures
    ∙ kept_alone c.self.inside.lasting c.self.inside.parts c.self.inside.wholes.entries _ c.self.view_is c.self.invariant _ _ found _ ∙ ap (kept_shape c.args.self.now.facts) c.path.view_is

pub returns-in-None : goal.returns-in-None
returns-in-None c =
    let none = sym c.whole_of.ensures ∙ ap option_copied c.in-None.is in
    c.shape.ensures ∙ ap (kept_shape c.self.inside.parts.facts) (sym c.path.view_is)
    ∙ kept_beside c.self.inside.lasting c.self.inside.parts c.self.inside.wholes.entries _ c.self.view_is c.self.invariant _ none _ ∙ ap (kept_shape c.args.self.now.facts) c.path.view_is
