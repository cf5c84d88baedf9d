-- What facts say of the states that agree with them. A state is given by the values of the
-- variables, by their numbers.
use Rattle.std.specs.Prelude.{◌≡◌, ◌↔◌, ℕ, true, false, List, ◌++◌, map, Some, None, slice_get}
use Rattle.tp_value.specs.Tree.{Tree}
use Rattle.tp_value.specs.Limits.{is_within_list_limit}
use Rattle.tp_value.specs.declared.path.Path.{Path}
use Rattle.tp_value.specs.declared.path.Fact.{Fact}
use Rattle.tp_value.specs.Shape.{item_at}
use Rattle.tp_store.specs.Facts.{clash, kept_shape, is_excluded, facts_at, AgreesWith, AgreesWithAll}
use Rattle.tp_store.specs.Known.{NoClash, clashes_with_some, first_clash, adds, refuses, addition, Full, absent, undecided, too_long, value, full, Variable, AreOfVariables, lasting_facts, facts_below}
use Rattle.tp_store.specs.Changes.{HaveSameShapes}

-- No state agrees with two facts that clash.
abbrev pub ClashesAgreeNowhere : Type 0
ClashesAgreeNowhere =
    (values : ℕ → Tree) (f g : Fact) → clash f g ≡ true → AgreesWith values f → AgreesWith values g
    → ⊥

-- A state agrees with the facts of a value at a path exactly where it has this value there.
abbrev pub FactsSayTheValue : Type 0
FactsSayTheValue =
    (values : ℕ → Tree) (p : Path) (t : Tree) → AgreesWithAll values (facts_at p t)
    ↔ (item_at p.at (values p.var.number) ≡ Some t)

-- what is known of the value at a path says of the variable's value
abbrev pub FullSays : List ℕ → Tree → Full → Type 0
FullSays at s absent = item_at at s ≡ None
FullSays at s (undecided q) = Unit {0}
FullSays at s too_long = (t : Tree) × (item_at at s ≡ Some t) × (is_within_list_limit t ≡ false)
FullSays at s (value t) = (item_at at s ≡ Some t) × (is_within_list_limit t ≡ true)

-- and it is right in each state that agrees with the facts.
abbrev pub FullIsRight : Type 0
FullIsRight =
    (facts : List Fact) (values : ℕ → Tree) → AgreesWithAll values facts → (p : Path)
    → FullSays p.at (values p.var.number) (full facts p)

-- A path that is open has no shape yet, and none is excluded there.
abbrev pub OpenIsUndecided : Type 0
OpenIsUndecided =
    (facts : List Fact) (p q : Path) → NoClash facts → full facts p ≡ undecided q
    → (kept_shape facts q ≡ None) × (is_excluded facts q ≡ false)

-- two lists from which the same is known
pub record KnowTheSame (fs gs : List Fact) : Type 0 where
  pub excluded : (p : Path) → is_excluded fs p ≡ is_excluded gs p
  pub wholes : (p : Path) → full fs p ≡ full gs p
  pub meetings : (f : Fact) → clashes_with_some fs f ≡ clashes_with_some gs f
  pub first : (f : Fact) → first_clash fs f ≡ first_clash gs f
  pub additions : (facts : List Fact) → addition fs facts ≡ addition gs facts
  pub states : (values : ℕ → Tree) → AgreesWithAll values fs ↔ AgreesWithAll values gs

-- What is known depends on the shapes at each path alone.
abbrev pub SameShapesSameStore : Type 0
SameShapesSameStore =
    (fs gs : List Fact) → NoClash fs → NoClash gs → HaveSameShapes fs gs → KnowTheSame fs gs

-- Where facts are added, a state agrees with what is then kept exactly where it agrees with what
-- was kept and with these facts.
abbrev pub AddingAddsMeaning : Type 0
AddingAddsMeaning =
    (old facts news new : List Fact) → addition old facts ≡ adds news → NoClash old → NoClash facts
    → NoClash new → HaveSameShapes new (old ++ news)
    → (values : ℕ → Tree) → AgreesWithAll values new
    ↔ (AgreesWithAll values old × AgreesWithAll values facts)

-- Where they are refused, no state agrees with both.
abbrev pub RefusedAgreeNowhere : Type 0
RefusedAgreeNowhere =
    (old facts : List Fact) (kept new : Fact) → addition old facts ≡ refuses kept new
    → (values : ℕ → Tree) → AgreesWithAll values old → AgreesWithAll values facts → ⊥

-- Nothing that is done makes a clash.
pub record NoClashArises : Type 0 where
  pub adding : (kept facts news : List Fact) → addition kept facts ≡ adds news → NoClash kept
      → NoClash facts → NoClash (kept ++ news)
  pub value_facts : (p : Path) (t : Tree) → NoClash (facts_at p t)
  pub advancing : (facts : List Fact) → NoClash facts → NoClash (lasting_facts facts)
  pub below : (n : ℕ) (facts : List Fact) → NoClash facts → NoClash (facts_below n facts)

-- Facts without a clash, each of one of these variables, have a state that agrees with all of them.
abbrev pub HasAgreeingState : Type 0
HasAgreeingState =
    (xs : List Variable) (facts : List Fact) → NoClash facts → AreOfVariables xs facts
    → (values : ℕ → Tree) × AgreesWithAll values facts

-- the static variable with this number is one of these
abbrev pub IsLasting : List Variable → ℕ → Type 0
IsLasting xs n = slice_get (map (λ v. v.lasting) xs) n ≡ Some true

-- Such a state can be chosen with any values of the static variables that agree with the static
-- facts.
abbrev pub LastingExtends : Type 0
LastingExtends =
    (xs : List Variable) (facts : List Fact) → NoClash facts → AreOfVariables xs facts
    → (lasting : ℕ → Tree) → AgreesWithAll lasting (lasting_facts facts)
    → (values : ℕ → Tree) × AgreesWithAll values facts
    × ((n : ℕ) → IsLasting xs n → values n ≡ lasting n)
