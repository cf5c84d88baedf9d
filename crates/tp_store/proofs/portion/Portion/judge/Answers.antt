use Rattle.std.proofs.Common.{◌≢◌, Some, ap, ap₂, sym, ◌∙◌, subst}
use Rattle.std.specs.Option.{option_copied}
use Rattle.tp_value.specs.declared.path.Path.{Path}
use Rattle.tp_value.specs.Read.{tree}
use Rattle.tp_value.specs.Shape.{shape_at_path}
use Rattle.tp_store.specs.Facts.{fact}
use Rattle.tp_store.specs.Answers.{IsNoted}
use Rattle.tp_store.specs.declared.note.Noted.TheVariants as noted
use Rattle.tp_store.proofs.PortionViews.{found_limit, kept_noted, clash_noted, noted_beside}
use Rattle.tp_store.proofs.portion.Portion.judge.Goals as goal

pub has_shape-requires : goal.has_shape-requires
has_shape-requires c = found_limit c.self.inside.lasting c.self.inside.parts c.self.inside.wholes.entries _ c.self.view_is c.self.invariant _ _ (sym c.whole_of.ensures ∙ ap option_copied c.in-Some.is) _ c.deref.ensures

pub returns-then-has_shape : goal.returns-then-has_shape
returns-then-has_shape c =
    let found = sym c.whole_of.ensures ∙ ap option_copied c.in-Some.is in
    let P : Path → Type 0 = λ p. IsNoted c.args.self.now.facts (fact p c.args.shape) noted.Kept in
    let same = ap₂ (λ at w. shape_at_path at (tree w)) (sym c.as_slice.ensures.value) (sym c.deref.ensures) ∙ c.has_shape.ensures.same c.if-has_shape.true in
    subst P c.path.view_is (kept_noted c.self.inside.lasting c.self.inside.parts c.self.inside.wholes.entries _ c.self.view_is c.self.invariant _ _ found _ c.args.shape same)

pub returns-else-has_shape : goal.returns-else-has_shape
returns-else-has_shape c =
    let found = sym c.whole_of.ensures ∙ ap option_copied c.in-Some.is in
    let P : Path → Type 0 = λ p. IsNoted c.args.self.now.facts (fact p c.args.shape) noted.Clash in
    let other : shape_at_path _ (tree c.in-Some.value.now.value) ≢ Some c.args.shape = λ e. c.has_shape.ensures.other c.if-has_shape.false (ap₂ (λ at w. shape_at_path at (tree w)) c.as_slice.ensures.value c.deref.ensures ∙ e) in
    subst P c.path.view_is (clash_noted c.self.inside.lasting c.self.inside.parts c.self.inside.wholes.entries _ c.self.view_is c.self.invariant _ _ found _ c.args.shape other)

pub returns-in-None : goal.returns-in-None
returns-in-None c =
    let none = sym c.whole_of.ensures ∙ ap option_copied c.in-None.is in
    let P : Path → Type 0 = λ p. IsNoted c.args.self.now.facts (fact p c.args.shape) c.judge.result in
    let Q : Path → Type 0 = λ p. IsNoted c.self.inside.parts.facts (fact p c.args.shape) c.judge.result in
    subst P c.path.view_is (noted_beside c.self.inside.lasting c.self.inside.parts c.self.inside.wholes.entries _ c.self.view_is c.self.invariant _ none _ c.args.shape c.judge.result (subst Q (sym c.path.view_is) c.judge.ensures))
