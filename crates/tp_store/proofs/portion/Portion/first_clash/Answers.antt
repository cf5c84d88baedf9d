use Rattle.std.proofs.Common.{◌≡◌, Option, Some, refl, ap, ap₂, sym, ◌∙◌, subst}
use Rattle.std.specs.Option.{option_copied}
use Rattle.std.specs.Result.{IfOk}
use Rattle.tp_value.specs.declared.path.Fact.{Fact}
use Rattle.tp_value.specs.Read.{tree}
use Rattle.tp_value.specs.Shape.{shape_at_path}
use Rattle.tp_store.specs.Facts.{kept_shape}
use Rattle.tp_store.specs.Known.{first_clash}
use Rattle.tp_store.specs.Wholes.{facts_of_value}
use Rattle.tp_store.proofs.FactMapLemmas.{kept_already}
use Rattle.tp_store.proofs.Paths.{same_shape-decides}
use Rattle.tp_store.proofs.PortionViews.{found_limit, seen_apart, kept_noted, first_alone, first_beside}
use Rattle.tp_store.proofs.portion.Portion.first_clash.Goals as goal

pub returns-in_default : goal.returns-in_default
returns-in_default c =
    let none = sym c.whole_of.ensures ∙ ap option_copied c.in_default.is in
    let f = c.args.fact.now in
    let of : f.path.var ≡ _ = ap (λ (g : Fact). g.path.var) (sym c.fact.view_is) in
    subst (λ (o : Option Fact). IfOk c.first_clash.result (λ first. first ≡ o)) (first_beside c.self.inside.lasting c.self.inside.parts c.self.inside.wholes.entries _ c.self.view_is c.self.invariant _ none f of) c.first_clash.ensures

pub has_shape-requires : goal.has_shape-requires
has_shape-requires c = found_limit c.self.inside.lasting c.self.inside.parts c.self.inside.wholes.entries _ c.self.view_is c.self.invariant _ _ (sym c.whole_of.ensures ∙ ap option_copied c.in-Some.is) _ c.deref.ensures

pub returns-then-has_shape : goal.returns-then-has_shape
returns-then-has_shape c =
    let found = sym c.whole_of.ensures ∙ ap option_copied c.in-Some.is in
    let F = c.args.self.now.facts in
    let f = c.args.fact.now in
    let K : Fact → Type 0 = λ g. kept_shape F g.path ≡ Some g.shape in
    let same = ap₂ (λ at w. shape_at_path at (tree w)) (sym c.as_slice.ensures.value) (sym c.deref.ensures) ∙ c.has_shape.ensures.same c.if-has_shape.true in
    let kept = subst K c.fact.view_is (kept_noted c.self.inside.lasting c.self.inside.parts c.self.inside.wholes.entries _ c.self.view_is c.self.invariant _ _ found _ _ same) in
    sym (kept_already F f f.shape (seen_apart c.self.inside.lasting c.self.inside.parts c.self.inside.wholes.entries _ c.self.view_is c.self.invariant) kept ((same_shape-decides f.shape f.shape).1 refl))

pub returns-in_default-find_clash : goal.returns-in_default-find_clash
returns-in_default-find_clash c =
    let found = sym c.whole_of.ensures ∙ ap option_copied c.in-Some.is in
    let f = c.args.fact.now in
    let of : f.path.var ≡ _ = ap (λ (g : Fact). g.path.var) (sym c.fact.view_is) in
    let facts = c.as_slice-2.ensures.value ∙ c.in_ok-facts.ensures ∙ ap (facts_of_value _) (ap tree c.deref-2.ensures) in
    sym (ap option_copied c.in_default-find_clash.is) ∙ c.find_clash.ensures ∙ ap (λ fs. first_clash fs f) facts ∙ first_alone c.self.inside.lasting c.self.inside.parts c.self.inside.wholes.entries _ c.self.view_is c.self.invariant _ _ found f of

pub returns : goal.returns
returns c =
    let found = sym c.whole_of.ensures ∙ ap option_copied c.in-Some.is in
    let f = c.args.fact.now in
    let of : f.path.var ≡ _ = ap (λ (g : Fact). g.path.var) (sym c.fact.view_is) in
    let facts = c.as_slice-2.ensures.value ∙ c.in_ok-facts.ensures ∙ ap (facts_of_value _) (ap tree c.deref-2.ensures) in
    ap Some c.in_ok-first.ensures ∙ sym (ap option_copied c.in-Some-find_clash.is) ∙ c.find_clash.ensures ∙ ap (λ fs. first_clash fs f) facts ∙ first_alone c.self.inside.lasting c.self.inside.parts c.self.inside.wholes.entries _ c.self.view_is c.self.invariant _ _ found f of
