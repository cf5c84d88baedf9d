-- Sides of equations that are places, and sides that are known already.
use Rattle.std.proofs.Common.{◌≡◌, ◌⊎◌, inl, inr, ℕ, zero, suc, ◌<◌, Bool, true, false, List, [], Option, Some, None, refl, ap, sym, subst, ◌∙◌, arith}
use Rattle.std.specs.Option.{option_map}
use Rattle.tp_value.specs.Tree.{Tree, SameTreeIsEquality}
use Rattle.tp_value.specs.declared.path.Path.{Path}
use Rattle.tp_value.specs.declared.path.VarId.{VarId}
use Rattle.tp_value.specs.declared.path.Fact.{Fact}
use Rattle.tp_meaning.specs.Syntax.{ExprTree, bound, global, size, index, Definition, BindingTree}
use Rattle.tp_meaning.specs.Fits.{IsVariable}
use Rattle.tp_store.specs.Facts.{facts_at}
use Rattle.tp_store.specs.Known as store
use Rattle.tp_store.specs.Known.{Variable, IsVariableOf, NoClash, full, addition}
use Rattle.tp_eval.specs.Reached.{Reached, reaches, stops, waits, faults, passes, with_reached}
use Rattle.tp_eval.specs.Evaluate.{PlaceFound, at_path, inside, is_place, of_full, value_at, indexed_value, evaluate, find_place, depth_limit}
use Rattle.tp_eval.specs.Outcome as found
use Rattle.tp_eval.specs.Outcome.{outcome, outcome_reached, place_outcome, place_reached}
use Rattle.tp_eval.proofs.Answered.{eval_is, place_is}
use Rattle.tp_scene.specs.Step as row
use Rattle.tp_scene.specs.Fits.{kinds_in}
use Rattle.tp_scene.proofs.PathFits.{PathFits, path_fits}
use Rattle.tp_decide.specs.Fits.{ExprFitsStore}
use Rattle.tp_decide.specs.Found.{PathIn, IsNoSize}
use Rattle.tp_decide.specs.Equated.{outcome_at, outcome_of_place, AreValuePaths, SetsNoValue, sets_length, AreEqual}
use Rattle.tp_decide.proofs.EquationLemmas.{plain_target, side, side_same, equal_vanishes, right_value}
use Rattle.tp_decide.proofs.KnownLemmas.{known_adds_nothing}

no_size : (e : ExprTree) → is_place e ≡ true → IsNoSize e
no_size (size e) h = absurd (cc)
no_size _ h = tt

placed : (e : ExprTree) → is_place e ≡ true → row.is_placed e ≡ true
placed (size e) h = absurd (cc)
placed (bound i) h = h
placed (global x) h = h
placed (index e i) h = h
placed _ h = absurd (cc)

-- a place's path is of a variable of the store that the expression fits
pub path_of_variable : (facts : List Fact) (defs : List Definition) (variables : List Variable) (e : ExprTree) (env : List BindingTree) → ExprFitsStore defs variables e env
    → (p : Path) → found.path p ≡ place_outcome facts defs e env → IsVariableOf variables p.var
path_of_variable facts defs variables e env h p is =
    let all = kinds_in variables in
    let among : (x : VarId) → IsVariable h.kinds x → IsVariable all x = λ x f. h.globals x.number x.lasting f in
    (subst (PathFits facts defs h.kinds all among) (sym is) (path_fits facts defs h.kinds all among e env h.expr h.bindings)).0

-- Where the side can set the value at a path, it has what is found there.
abbrev IsFoundThere : List Fact → row.SideOf → Type 0
IsFoundThere facts s = (p : Path) → s.target ≡ Some (row.value_at p) → s.found ≡ outcome_at facts p

module _ (facts : List Fact) where
  any_count : (o : store.Full) (c : ℕ) → outcome_reached (of_full o c) ≡ outcome_reached (of_full o 0)
  any_count store.absent c = refl
  any_count (store.undecided p) c = refl
  any_count store.too_long c = refl
  any_count (store.value t) c = refl

  read_outcome : (r : Reached PlaceFound) → outcome_reached (with_reached r (value_at facts)) ≡ outcome_of_place facts (place_reached facts r)
  read_outcome (reaches (at_path p) c) = any_count (full facts p) c
  read_outcome (reaches (inside t at) c) = refl
  read_outcome (stops (waits p)) = refl
  read_outcome (stops (faults k)) = refl
  read_outcome (stops (passes k)) = refl

  found_there : (o : store.Full) (t : Tree) → outcome_reached (of_full o 0) ≡ found.value t → o ≡ store.value t
  found_there store.absent t h = absurd (cc)
  found_there (store.undecided p) t h = absurd (cc)
  found_there store.too_long t h = absurd (cc)
  found_there (store.value u) t h = let same : u ≡ t = cc h in ap store.value same

  module _ (defs : List Definition) (env : List BindingTree) where
    place_read : (n : ℕ) (e : ExprTree) → 0 < n → is_place e ≡ true → evaluate facts defs n e env 0 ≡ with_reached (find_place facts defs n e env 0) (value_at facts)
    place_read zero e l h = absurd (omega arith)
    place_read (suc d) (bound i) l h = refl
    place_read (suc d) (global x) l h = refl
    place_read (suc d) (index e i) l h = ap (λ (w : Bool). indexed_value (λ x. evaluate facts defs d x env) (λ x. find_place facts defs d x env) facts env w e i 0) h
    place_read (suc d) _ l h = absurd (cc)

    -- a place is evaluated to what is found there
    pub place_is_read : (e : ExprTree) → is_place e ≡ true → outcome facts defs e env ≡ outcome_of_place facts (place_outcome facts defs e env)
    place_is_read e h =
        sym (eval_is facts defs e env (outcome_reached (evaluate facts defs depth_limit e env 0)) refl) ∙ ap outcome_reached (place_read depth_limit e (omega arith) h)
        ∙ read_outcome (find_place facts defs depth_limit e env 0) ∙ ap (outcome_of_place facts) (place_is facts defs e env (place_reached facts (find_place facts defs depth_limit e env 0)) refl)

    place_target : (e : ExprTree) → is_place e ≡ true → row.target_of defs facts e env ≡ row.target_at row.value_at (place_outcome facts defs e env)
    place_target e h = plain_target defs facts env e (no_size e h) ∙ ap (λ (b : Bool). row.target_if defs facts b row.value_at e env) h

    -- the side that a place is
    pub place_side : (e : ExprTree) → is_place e ≡ true → (o : found.PlaceOutcome) → o ≡ place_outcome facts defs e env
        → side true (row.target_at row.value_at o) (outcome_of_place facts o) ≡ row.side_of defs facts e env
    place_side e h o is =
        side_same true (row.is_placed e) (row.target_at row.value_at o) (row.target_of defs facts e env) (outcome_of_place facts o) (outcome facts defs e env)
        (sym (placed e h)) (ap (row.target_at row.value_at) is ∙ sym (place_target e h)) (ap (outcome_of_place facts) is ∙ sym (place_is_read e h))

    no_value_target : (e : ExprTree) → is_place e ≡ false → (p : Path) → row.target_of defs facts e env ≡ Some (row.value_at p) → ⊥
    no_value_target (size e) h p q = no_length (is_place e) q
      where
        no_path : (o : found.PlaceOutcome) → row.target_at row.length_at o ≡ Some (row.value_at p) → ⊥
        no_path (found.path r) k = absurd (cc k)
        no_path (found.other o) k = absurd (cc k)

        no_length : (b : Bool) → row.target_if defs facts b row.length_at e env ≡ Some (row.value_at p) → ⊥
        no_length false k = absurd (cc k)
        no_length true k = no_path (place_outcome facts defs e env) k
    no_value_target e h p q =
        let none : None ≡ Some (row.value_at p) = sym (ap (λ (b : Bool). row.target_if defs facts b row.value_at e env) h) ∙ q in
        absurd (cc none)

    read_place : (o : found.PlaceOutcome) (p : Path) → row.target_at row.value_at o ≡ Some (row.value_at p) → outcome_of_place facts o ≡ outcome_at facts p
    read_place (found.path r) p q = let same : r ≡ p = cc q in ap (outcome_at facts) same
    read_place (found.other o) p q = absurd (cc q)

    read_if : (e : ExprTree) (b : Bool) → is_place e ≡ b → IsFoundThere facts (row.side_of defs facts e env)
    read_if e true h = λ p q. place_is_read e h ∙ read_place (place_outcome facts defs e env) p (sym (place_target e h) ∙ q)
    read_if e false h = λ p q. absurd (no_value_target e h p q)

    pub side_is_read : (e : ExprTree) → IsFoundThere facts (row.side_of defs facts e env)
    side_is_read e = read_if e (is_place e) refl

    at_path_if : (e : ExprTree) → is_place e ≡ true → (o : Option Path) → PathIn o row.value_at (row.target_if defs facts (is_place e) row.value_at e env) → option_map row.value_at o ≡ row.target_of defs facts e env
    at_path_if e h o found = found ∙ sym (plain_target defs facts env e (no_size e h))

    pub sets_at : (e : ExprTree) → is_place e ≡ true → (p : Path) → PathIn (Some p) row.value_at (row.target_if defs facts (is_place e) row.value_at e env) → row.target_of defs facts e env ≡ Some (row.value_at p)
    sets_at e h p found = sym (at_path_if e h (Some p) found)

    pub sets_nowhere : (e : ExprTree) → is_place e ≡ true → PathIn None row.value_at (row.target_if defs facts (is_place e) row.value_at e env) → SetsNoValue (row.target_of defs facts e env)
    sets_nowhere e h found p q = let none : None ≡ Some (row.value_at p) = at_path_if e h None found ∙ q in absurd (cc none)

  by_values : (b c : Bool) (s t : Option row.Target) (x y : found.Outcome) (n : row.Numbers) → SetsNoValue s ⊎ SetsNoValue t → row.equate_values facts (side b s x) (side c t y) ≡ row.equate facts (side b s x) (side c t y) n
  by_values b c None t x y n h = refl
  by_values b c (Some (row.length_at p)) t x y n h = refl
  by_values b c (Some (row.value_at p)) None x y n h = refl
  by_values b c (Some (row.value_at p)) (Some (row.length_at q)) x y n h = refl
  by_values b c (Some (row.value_at p)) (Some (row.value_at q)) x y n (inl k) = absurd (k p refl)
  by_values b c (Some (row.value_at p)) (Some (row.value_at q)) x y n (inr k) = absurd (k q refl)

  -- an equation goes by values where a side can set no value
  pub goes_by_values : (l r : row.SideOf) (n : row.Numbers) → AreValuePaths l.target r.target None → row.equate_values facts l r ≡ row.equate facts l r n
  goes_by_values l r n h = by_values l.placed r.placed l.target r.target l.found r.found n h

  known_meets : (b : Bool) (o : Option row.Target) (t : Tree) → SameTreeIsEquality → sets_length o ≡ false → ((p : Path) → o ≡ Some (row.value_at p) → addition facts (facts_at p t) ≡ store.adds [])
      → row.vanishes ≡ row.meets facts (side b o (found.value t)) t
  known_meets b None t law n k = equal_vanishes t t law refl
  known_meets b (Some (row.value_at p)) t law n k = ap row.added (sym (k p refl))
  known_meets b (Some (row.length_at p)) t law n k = absurd (cc n)

  -- an equation of sides that are known already vanishes
  pub equal_sides : (l r : row.SideOf) → SameTreeIsEquality → NoClash facts → IsFoundThere facts l → AreEqual l r → row.vanishes ≡ row.equate_values facts l r
  equal_sides l r law n read h =
      let t = h.values.value in
      let there : (p : Path) → l.target ≡ Some (row.value_at p) → addition facts (facts_at p t) ≡ store.adds [] =
      λ p q. known_adds_nothing facts n p t (found_there (full facts p) t (sym (read p q) ∙ h.values.first)) in
      known_meets l.placed l.target t law h.no_length there ∙ right_value facts l.placed l.target t t r h.values.second
      ∙ ap (λ x. row.equate_values facts (side l.placed l.target x) r) (sym h.values.first)
