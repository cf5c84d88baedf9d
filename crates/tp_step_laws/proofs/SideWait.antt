-- A side of an equation that waits where more is known, but not of what it waits for.
use Rattle.std.proofs.Common.{◌≡◌, ◌⊎◌, inl, inr, true, List, Option, Some, None, refl, ap, sym, ◌∙◌, subst}
use Rattle.tp_value.specs.Tree.{Tree}
use Rattle.tp_value.specs.declared.path.Path.{Path}
use Rattle.tp_value.specs.declared.path.Fact.{Fact}
use Rattle.tp_value.specs.Shape.{item_at}
use Rattle.tp_kernel.specs.declared.fault.LimitKind.{LimitKind}
use Rattle.tp_meaning.specs.Syntax.{ExprTree, size, Definition}
use Rattle.tp_store.specs.Known.{NoClash}
use Rattle.tp_eval.specs.Reached.{Reached, reaches, stops, waits, faults, passes, with_reached}
use Rattle.tp_eval.specs.Evaluate as ev
use Rattle.tp_eval.specs.Evaluate.{PlaceFound, at_path, inside, is_place, find_place, depth_limit}
use Rattle.tp_eval.specs.Outcome as found
use Rattle.tp_eval.specs.Outcome.{outcome, place_outcome, outcome_reached, place_reached, PlaceOutcome}
use Rattle.tp_scene.specs.Scene.{Bindings}
use Rattle.tp_scene.specs.Step.{Target, value_at, length_at, target_at, side_of}
use Rattle.tp_step_laws.specs.Outcomes.{KnowsMore, GrownOutcome, GrownPlace}
use Rattle.tp_step_laws.specs.WaitingRows.{IsUndecided}
use Rattle.tp_step_laws.proofs.OutcomesGrow.{is_limit, More, evaluate_deeper, outcomes_grow}
use Rattle.tp_step_laws.proofs.OutcomesWait.{outcomes_wait}
use Rattle.tp_step_laws.proofs.SideGrow.{read_place, read_size, element_waits, place_goes, stays_some, of_side}

-- a value, a fault and a passed limit stay; and so does what waits, where it isn't decided
abbrev pub StaysOutcome : List Fact → found.Outcome → found.Outcome → Type 0
StaysOutcome gs (found.value t) o = o ≡ found.value t
StaysOutcome gs (found.wait p) o = IsUndecided gs p → o ≡ found.wait p
StaysOutcome gs (found.fault k) o = o ≡ found.fault k
StaysOutcome gs (found.over k) o = o ≡ found.over k

pub both_stay : (gs : List Fact) (a b : found.Outcome) → GrownOutcome a b → ((p : Path) → a ≡ found.wait p → IsUndecided gs p → b ≡ found.wait p) → StaysOutcome gs a b
both_stay gs (found.value t) b g w = g
both_stay gs (found.wait p) b g w = w p refl
both_stay gs (found.fault k) b g w = g
both_stay gs (found.over k) b g w = g

-- A side with this target and this outcome stays as it is: it has a value, or what it waits for
-- isn't decided, or it passes a limit and has a target.
abbrev pub IsSteady : List Fact → Option Target → found.Outcome → Type 0
IsSteady gs t (found.value v) = Unit {0}
IsSteady gs t (found.wait p) = IsUndecided gs p
IsSteady gs t (found.fault k) = ⊥
IsSteady gs None (found.over k) = ⊥
IsSteady gs (Some x) (found.over k) = Unit {0}

-- What a side can set it can set still; and where it can set nothing it still can't, if it is steady.
pub record SideWaits (gs : List Fact) (t : Option Target) (o : found.Outcome) (t' : Option Target) (o' : found.Outcome) : Type 0 where
  pub goes_on : StaysOutcome gs o o'
  pub some : (x : Target) → t ≡ Some x → t' ≡ Some x
  pub none : t ≡ None → IsSteady gs None o → t' ≡ None

pub target_same : (gs : List Fact) (t : Option Target) (o : found.Outcome) (t' : Option Target) (o' : found.Outcome) → SideWaits gs t o t' o' → IsSteady gs t o → t' ≡ t
target_same gs None o t' o' s h = s.none refl h
target_same gs (Some x) o t' o' s h = s.some x refl

pub outcome_same : (gs : List Fact) (t : Option Target) (o o' : found.Outcome) → StaysOutcome gs o o' → IsSteady gs t o → o' ≡ o
outcome_same gs t (found.wait p) o' s h = s h
outcome_same gs t (found.fault k) o' s h = absurd h
outcome_same gs t (found.value v) o' s h = s
outcome_same gs t (found.over k) o' s h = s

-- it waits for this path, or passes a limit
abbrev Stalls : found.Outcome → Path → Type 0
Stalls o p = (o ≡ found.wait p) ⊎ ((k : LimitKind) × (o ≡ found.over k))

steady_open : (gs : List Fact) (o : found.Outcome) (p : Path) → Stalls o p → IsSteady gs None o → IsUndecided gs p
steady_open gs o p (inl e) h = subst (IsSteady gs None) e h
steady_open gs o p (inr (k, e)) h = absurd (subst (IsSteady gs None) e h)

-- the value of a place waits for what the place waits for
value_by : (facts : List Fact) (r : Reached PlaceFound) (o : Path) → place_reached facts r ≡ found.other (found.wait o) → Stalls (outcome_reached (with_reached r (ev.value_at facts))) o
value_by facts (reaches (at_path q) c) o e = absurd (cc e)
value_by facts (reaches (inside t at) c) o e = absurd (element_waits (item_at at t) c o e)
value_by facts (stops (waits q)) o e = let s : q ≡ o = cc e in inl (ap found.wait s)
value_by facts (stops (faults k)) o e = absurd (cc e)
value_by facts (stops (passes k)) o e = absurd (cc e)

-- and so does its size, which is one level deeper and may pass the limit on depth instead
size_by : (facts : List Fact) (r r' : Reached PlaceFound) (o : Path) → More is_limit r r' → place_reached facts r' ≡ found.other (found.wait o) → Stalls (outcome_reached (with_reached r (ev.size_at facts))) o
size_by facts (reaches x c) r' o m e = absurd (place_goes facts x c o (ap (place_reached facts) (sym m) ∙ e))
size_by facts (stops (waits q)) r' o m e =
    let same : found.other (found.wait q) ≡ found.other (found.wait o) = ap (place_reached facts) (sym m) ∙ e in
    let s : q ≡ o = cc same in
    inl (ap found.wait s)
size_by facts (stops (faults k)) r' o m e =
    let same : found.other (found.fault k) ≡ found.other (found.wait o) = ap (place_reached facts) (sym m) ∙ e in
    absurd (cc same)
size_by facts (stops (passes k)) r' o m e = inr (k, refl)

none_stays : (target : Path → Target) (a b : PlaceOutcome) → GrownPlace a b → ((o : Path) → a ≡ found.other (found.wait o) → b ≡ found.other (found.wait o)) → target_at target a ≡ None → target_at target b ≡ None
none_stays target (found.path p) b g w n = absurd (cc n)
none_stays target (found.other (found.value t)) b g w n = ap (target_at target) g
none_stays target (found.other (found.wait p)) b g w n = ap (target_at target) (w p refl)
none_stays target (found.other (found.fault k)) b g w n = ap (target_at target) g
none_stays target (found.other (found.over k)) b g w n = ap (target_at target) g

module _ (defs : List Definition) (fs gs : List Fact) (fc : NoClash fs) (gc : NoClash gs) (more : KnowsMore fs gs) (env : Bindings) where
  pub stays : (e : ExprTree) → StaysOutcome gs (outcome fs defs e env) (outcome gs defs e env)
  stays e = both_stay gs _ _ (outcomes_grow fs gs fc gc more defs e env).0 (λ p w u. (outcomes_wait fs gs fc gc more defs e env p u).0 w)

  abbrev Waits : (Path → Target) → ExprTree → ExprTree → Type 0
  Waits target e x = SideWaits gs (target_at target (place_outcome fs defs e env)) (outcome fs defs x env) (target_at target (place_outcome gs defs e env)) (outcome gs defs x env)

  -- of the place e, where x waits for what e waits for
  by_path : (target : Path → Target) (e x : ExprTree) → ((o : Path) → place_outcome fs defs e env ≡ found.other (found.wait o) → Stalls (outcome fs defs x env) o) → Waits target e x
  by_path target e x h =
      let grown = (outcomes_grow fs gs fc gc more defs e env).1 in
      record {
        goes_on = stays x;
        some = λ t n. stays_some target _ _ grown t n;
        none = λ n u. none_stays target _ _ grown (λ o y. (outcomes_wait fs gs fc gc more defs e env o (steady_open gs _ o (h o y) u)).1 y) n;
      }

  place_side : (e : ExprTree) → is_place e ≡ true → Waits value_at e e
  unfolding outcome place_outcome
  place_side e p = by_path value_at e e (λ o y. subst (λ (r : Reached Tree). Stalls (outcome_reached r) o) (sym (read_place fs defs 1999 e env 0 p)) (value_by fs (find_place fs defs depth_limit e env 0) o y))

  size_side : (e : ExprTree) → is_place e ≡ true → Waits length_at e (size e)
  unfolding outcome place_outcome
  size_side e p = by_path length_at e (size e) (λ o y. subst (λ (r : Reached Tree). Stalls (outcome_reached r) o) (sym (read_size fs defs 1999 e env 0 p)) (size_by fs (find_place fs defs 1999 e env 0) (find_place fs defs 2000 e env 0) o ((evaluate_deeper fs defs 1999).1 e env 0) y))

  -- what isn't a place can't be set
  no_target : (e : ExprTree) → SideWaits gs None (outcome fs defs e env) None (outcome gs defs e env)
  no_target e = record { goes_on = stays e; some = λ x n. n; none = λ n u. refl }

  pub value_side : (v : Tree) → SideWaits gs None (found.value v) None (found.value v)
  value_side v = record { goes_on = refl; some = λ x n. n; none = λ n u. refl }

  abbrev Side : ExprTree → Type 0
  Side e = SideWaits gs (side_of defs fs e env).target (side_of defs fs e env).found (side_of defs gs e env).target (side_of defs gs e env).found

  pub side_waits : (e : ExprTree) → Side e
  side_waits = of_side (SideWaits gs) defs fs gs env no_target place_side size_side
