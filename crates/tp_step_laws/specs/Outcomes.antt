-- What more facts leave of facts and of outcomes of expressions.
use Rattle.std.specs.Prelude.{◌≡◌, ◌++◌, true, false, List, Some}
use Rattle.tp_value.specs.declared.value.Shape.{Shape}
use Rattle.tp_value.specs.declared.path.Path.{Path}
use Rattle.tp_value.specs.declared.path.Fact.{Fact}
use Rattle.tp_meaning.specs.Syntax.{ExprTree, Definition}
use Rattle.tp_store.specs.Changes.{HaveSameShapes}
use Rattle.tp_store.specs.Facts.{kept_shape, is_excluded}
use Rattle.tp_store.specs.Known.{NoClash, Addition, adds, refuses, addition, Full, absent, undecided, too_long, value, full}
use Rattle.tp_eval.specs.Outcome.{outcome, place_outcome, PlaceOutcome}
use Rattle.tp_scene.specs.Scene.{Bindings}
use Rattle.tp_eval.specs.Outcome as found

-- What is kept stays kept.
abbrev pub KnowsMore : List Fact → List Fact → Type 0
KnowsMore fs gs = (p : Path) (sh : Shape) → kept_shape fs p ≡ Some sh → kept_shape gs p ≡ Some sh

-- the facts aren't added, since one of them clashes
abbrev pub RefusesFacts : Addition → Type 0
RefusesFacts (adds news) = ⊥
RefusesFacts (refuses kept new) = Unit {0}

-- added to more facts, the same is known as if these had been added, or they are refused
abbrev pub AddsAlike : (gs news : List Fact) → Addition → Type 0
AddsAlike gs news (adds more) = HaveSameShapes (gs ++ more) (gs ++ news)
AddsAlike gs news (refuses kept new) = Unit {0}

-- A whole value stays, also one that is too long, and so does what is excluded.
abbrev pub GrownFull : Full → Full → Type 0
GrownFull absent o = o ≡ absent
GrownFull (undecided p) o = Unit {0}
GrownFull too_long o = o ≡ too_long
GrownFull (value t) o = o ≡ value t

-- What facts say of places and of additions stays so.
pub record StaysKnown (fs gs : List Fact) : Type 0 where
  pub excluded : (p : Path) → is_excluded fs p ≡ true → is_excluded gs p ≡ true
  pub allowed : (p : Path) (sh : Shape) → kept_shape fs p ≡ Some sh → is_excluded gs p ≡ false
  pub wholes : (p : Path) → GrownFull (full fs p) (full gs p)
  pub refused : (facts : List Fact) → RefusesFacts (addition fs facts)
      → RefusesFacts (addition gs facts)
  pub added : (facts news : List Fact) → addition fs facts ≡ adds news
      → AddsAlike gs news (addition gs facts)

-- It does where more is known.
abbrev pub FactsGrow : Type 0
FactsGrow = (fs gs : List Fact) → NoClash fs → NoClash gs → KnowsMore fs gs → StaysKnown fs gs

-- A value, a fault and a passed limit stay; what waits may become anything.
abbrev pub GrownOutcome : found.Outcome → found.Outcome → Type 0
GrownOutcome (found.value t) o = o ≡ found.value t
GrownOutcome (found.wait p) o = Unit {0}
GrownOutcome (found.fault k) o = o ≡ found.fault k
GrownOutcome (found.over k) o = o ≡ found.over k

-- and so of places
abbrev pub GrownPlace : PlaceOutcome → PlaceOutcome → Type 0
GrownPlace (found.path p) o = o ≡ found.path p
GrownPlace (found.other (found.value t)) o = o ≡ found.other (found.value t)
GrownPlace (found.other (found.wait p)) o = Unit {0}
GrownPlace (found.other (found.fault k)) o = o ≡ found.other (found.fault k)
GrownPlace (found.other (found.over k)) o = o ≡ found.other (found.over k)

-- They do where more is known.
abbrev pub OutcomesGrow : Type 0
OutcomesGrow = (fs gs : List Fact) → NoClash fs → NoClash gs → KnowsMore fs gs
    → (defs : List Definition) (e : ExprTree) (env : Bindings)
    → GrownOutcome (outcome fs defs e env) (outcome gs defs e env)
    × GrownPlace (place_outcome fs defs e env) (place_outcome gs defs e env)
