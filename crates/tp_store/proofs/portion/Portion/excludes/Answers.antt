use Rattle.std.proofs.Common.{ap, ap₂, sym, ◌∙◌}
use Rattle.std.specs.Option.{option_copied}
use Rattle.tp_value.specs.Read.{tree}
use Rattle.tp_value.specs.Shape.{shape_at_path}
use Rattle.tp_store.specs.Facts.{is_excluded}
use Rattle.tp_store.specs.Known.{is_none}
use Rattle.tp_store.proofs.WholeLooks.{none_seen}
use Rattle.tp_store.proofs.PortionViews.{found_limit, excluded_alone, excluded_beside}
use Rattle.tp_store.proofs.portion.Portion.excludes.Goals as goal

pub shape_inside-requires : goal.shape_inside-requires
shape_inside-requires c = found_limit c.self.inside.lasting c.self.inside.parts c.self.inside.wholes.entries _ c.self.view_is c.self.invariant _ _ (sym c.whole_of.ensures ∙ ap option_copied c.in-Some.is) _ c.deref.ensures

pub returns-in-Some : goal.returns-in-Some
returns-in-Some c =
    let found = sym c.whole_of.ensures ∙ ap option_copied c.in-Some.is in
    none_seen c.shape_inside.result c.is_none.result c.is_none.ensures
    ∙ ap is_none (c.shape_inside.ensures ∙ ap₂ (λ at w. shape_at_path at (tree w)) c.as_slice.ensures.value c.deref.ensures)
    ∙ excluded_alone c.self.inside.lasting c.self.inside.parts c.self.inside.wholes.entries _ c.self.view_is c.self.invariant _ _ found _ ∙ ap (is_excluded c.args.self.now.facts) c.path.view_is

pub returns-in-None : goal.returns-in-None
returns-in-None c =
    let none = sym c.whole_of.ensures ∙ ap option_copied c.in-None.is in
    c.excludes.ensures ∙ ap (is_excluded c.self.inside.parts.facts) (sym c.path.view_is)
    ∙ excluded_beside c.self.inside.lasting c.self.inside.parts c.self.inside.wholes.entries _ c.self.view_is c.self.invariant _ none _ ∙ ap (is_excluded c.args.self.now.facts) c.path.view_is
