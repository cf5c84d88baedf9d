use Rattle.std.proofs.Common.{◌≡◌, ap, ap₂, sym, ◌∙◌, subst}
use Rattle.std.specs.Option.{option_copied}
use Rattle.std.specs.Result.{IfOk}
use Rattle.tp_value.specs.Read.{tree}
use Rattle.tp_store.specs.Known.{Full, full}
use Rattle.tp_store.specs.Answers.{full_of}
use Rattle.tp_store.specs.Wholes.{full_inside}
use Rattle.tp_store.proofs.PortionViews.{full_alone, full_beside}
use Rattle.tp_store.proofs.portion.Portion.full.Goals as goal

pub returns-in-Some : goal.returns-in-Some
returns-in-Some c =
    let found = sym c.whole_of.ensures ∙ ap option_copied c.in-Some.is in
    let is = ap₂ (λ w at. full_inside (tree w) at) c.deref.ensures c.as_slice.ensures.value ∙ full_alone c.self.inside.lasting c.self.inside.parts c.self.inside.wholes.entries _ c.self.view_is c.self.invariant _ _ found _ ∙ ap (full c.args.self.now.facts) c.path.view_is in
    subst (λ (o : Full). IfOk c.full_inside.result (λ known. full_of known ≡ o)) is c.full_inside.ensures

pub returns-in-None : goal.returns-in-None
returns-in-None c =
    let none = sym c.whole_of.ensures ∙ ap option_copied c.in-None.is in
    let is = ap (full c.self.inside.parts.facts) (sym c.path.view_is) ∙ full_beside c.self.inside.lasting c.self.inside.parts c.self.inside.wholes.entries _ c.self.view_is c.self.invariant _ none _ ∙ ap (full c.args.self.now.facts) c.path.view_is in
    subst (λ (o : Full). IfOk c.full_in.result (λ known. full_of known ≡ o)) is c.full_in.ensures
