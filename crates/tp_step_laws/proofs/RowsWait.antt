-- The rows of the table that wait, where more is known, but not of what they wait for.
use Rattle.std.proofs.Common.{◌≡◌, ℤ, pos, negsuc, int_le, ℕ, zero, suc, nat_lt, Bool, true, false, ◌&&◌, ◌||◌, not, List, [], ◌∷◌, slice_get, Option, Some, None, refl, ap, ap₂, sym, ◌∙◌, subst, if◌then◌else◌}
use Rattle.std.proofs.lemmas.Bool.{false_from_ne_true}
use Rattle.tp_value.specs.Tree.{Tree, num, truth, list, same_tree}
use Rattle.tp_value.specs.Limits.{length_limit}
use Rattle.tp_value.specs.declared.path.Path.{Path}
use Rattle.tp_value.specs.declared.path.Fact.{Fact}
use Rattle.tp_value.specs.declared.value.Shape.{Shape}
use Rattle.tp_value.specs.declared.value.Shape.TheVariants.{Items}
use Rattle.tp_kernel.specs.declared.fault.FaultKind.TheVariants.{NoElement}
use Rattle.tp_meaning.specs.Syntax.{ExprTree, ExprTrees, no_expr, expr_then, FormulaTree, test, equation, next_equation, empty, more, next, weak_next, if_more, if_empty, branch, len, assign, chop, for_from, forall_from, project, call, input, display, Definition, BindingTree, place_binding, known_binding}
use Rattle.tp_meaning.specs.Value.{is_upper}
use Rattle.tp_meaning.specs.Inputs.{input_at}
use Rattle.tp_store.specs.Facts.{fact, facts_at, kept_shape, is_excluded}
use Rattle.tp_store.specs.Known.{NoClash, Addition, adds, refuses, addition}
use Rattle.tp_eval.specs.Outcome as found
use Rattle.tp_eval.specs.Outcome.{outcome, place_outcome, PlaceOutcome}
use Rattle.tp_scene.specs.declared.answer.Cell.TheVariants.{Part, End}
use Rattle.tp_scene.specs.declared.answer.Clash.TheVariants.{NoValue}
use Rattle.tp_scene.specs.Scene.{Bindings, Side, Ending, Going, Do, Later, Shown, Split, SplitProject, Closed, Opened, Running, Entries, Place}
use Rattle.tp_scene.specs.Step.{PickOutcome, reduces, waits, rests, clashes, misses, passes, Numbers, region_limit, marking, with_region, by_status, with_value, with_truth, with_number, Target, value_at, length_at, added, set, meets, shares, by_shapes, equate_places, equate_values, equate, SideOf, side_of, side_with, with_values, with_place, with_arguments, called, length_left, from_port, formula_step}
use Rattle.tp_scene.specs.Pick.{Setting}
use Rattle.tp_scene.specs.Fits.{IsCalm}
use Rattle.tp_step_laws.specs.Rows.{Grows}
use Rattle.tp_step_laws.specs.Outcomes.{KnowsMore, GrownPlace}
use Rattle.tp_step_laws.specs.WaitingRows.{IsUndecided, StaysIdle, LeafRowsWait, HolderRowsWait}
use Rattle.tp_step_laws.proofs.OutcomesGrow.{outcomes_grow}
use Rattle.tp_step_laws.proofs.OutcomesWait.{outcomes_wait}
use Rattle.tp_step_laws.proofs.SideWait.{StaysOutcome, IsSteady, SideWaits, target_same, outcome_same, stays, side_waits, value_side}

-- a side of this form
abbrev side : Bool → Option Target → found.Outcome → SideOf
side b t o = record { placed = b; target = t; found = o }

-- an outcome that isn't idle
abbrev IsBusy : PickOutcome → Type 0
IsBusy (reduces r) = Unit {0}
IsBusy (waits first other) = ⊥
IsBusy rests = ⊥
IsBusy (clashes c) = Unit {0}
IsBusy (misses port) = Unit {0}
IsBusy (passes k) = Unit {0}

busy_if : (b : Bool) (x y : PickOutcome) → IsBusy x → IsBusy y → IsBusy (if b then x else y)
busy_if true x y h k = h
busy_if false x y h k = k

busy_marking : (z : Side) (b : Bool) (d : ℕ) (news : Entries) (i : ℕ) → IsBusy (marking z b d news i)
busy_marking z true d news i = tt
busy_marking z false d news i = tt

busy_region : (d : ℕ) (news : Entries) (i : ℕ) → IsBusy (with_region d news i)
busy_region d news i = busy_if (nat_lt d region_limit) _ _ tt tt

busy_added : (a : Addition) → IsBusy (added a)
busy_added (adds facts) = tt
busy_added (refuses kept new) = tt

busy_set : (facts : List Fact) (t : Target) (v : Tree) → IsBusy (set facts t v)
busy_set facts (value_at p) v = busy_added (addition facts (facts_at p v))
busy_set facts (length_at p) (num (pos n)) = busy_if (nat_lt length_limit n) _ _ tt (busy_added (addition facts (fact p (Items n) ∷ [])))
busy_set facts (length_at p) (num (negsuc n)) = tt
busy_set facts (length_at p) (truth b) = tt
busy_set facts (length_at p) (list ts) = tt

module _ (gs : List Fact) (q : Place) where
  busy : (o u : PickOutcome) → IsBusy o → StaysIdle gs q o u
  busy (waits first other) u h = elim h [ ]
  busy rests u h = elim h [ ]
  busy o u h = tt

  -- by the status of a region of this place, which is more than it was
  status_row : (p : Place) → Grows p q → (a b a' b' : PickOutcome) → (p.is Going ≡ true → StaysIdle gs q a (by_status q a' b')) → (p.is Ending ≡ true → StaysIdle gs q b (by_status q a' b')) → StaysIdle gs q (by_status p a b) (by_status q a' b')
  status_row p up a b a' b' h k = go (p.is Going) (p.is Ending) refl refl
    where
      go : (x y : Bool) → p.is Going ≡ x → p.is Ending ≡ y → StaysIdle gs q (if x then a else (if y then b else waits (End p.region p.depth) None)) (by_status q a' b')
      go true y e f = h e
      go false true e f = k f
      go false false e f = λ u.
          ap₂ (λ (x y : Bool). if x then a' else (if y then b' else waits (End q.region q.depth) None)) (u.0 up.region Going) (u.0 up.region Ending)
          ∙ ap₂ (λ (r d : ℕ). waits (End r d) None) up.region up.depth

module _ (w : Setting) (fs gs : List Fact) (fc : NoClash fs) (gc : NoClash gs) (knows : KnowsMore fs gs) (q : Place) where
  abbrev Idle : PickOutcome → PickOutcome → Type 0
  Idle = StaysIdle gs q

  busy_row : (o u : PickOutcome) → IsBusy o → Idle o u
  busy_row = busy gs q

  value_row : (a b : found.Outcome) (f g : Tree → PickOutcome) → StaysOutcome gs a b → ((v : Tree) → Idle (f v) (g v)) → Idle (with_value a f) (with_value b g)
  value_row (found.value t) b f g h k = subst (λ (o : found.Outcome). Idle (f t) (with_value o g)) (sym h) (k t)
  value_row (found.wait x) b f g h k = λ u. ap (λ (o : found.Outcome). with_value o g) (h u.0)
  value_row a b f g h k = tt

  truth_row : (a b : found.Outcome) (f g : Bool → PickOutcome) → StaysOutcome gs a b → ((v : Bool) → IsBusy (f v)) → Idle (with_truth a f) (with_truth b g)
  truth_row (found.value (truth t)) b f g h k = busy_row _ _ (k t)
  truth_row (found.wait x) b f g h k = λ u. ap (λ (o : found.Outcome). with_truth o g) (h u.0)
  truth_row a b f g h k = tt

  number_row : (a b : found.Outcome) (f g : ℤ → PickOutcome) → StaysOutcome gs a b → ((v : ℤ) → IsBusy (f v)) → Idle (with_number a f) (with_number b g)
  number_row (found.value (num m)) b f g h k = busy_row _ _ (k m)
  number_row (found.wait x) b f g h k = λ u. ap (λ (o : found.Outcome). with_number o g) (h u.0)
  number_row a b f g h k = tt

  pair_waits : (d : Bool) (x y : Path) (u : PickOutcome) → (IsUndecided gs x → IsUndecided gs y → u ≡ (if d then waits (Part x) (Some (Part y)) else waits (Part y) (Some (Part x))))
      → Idle (if d then waits (Part x) (Some (Part y)) else waits (Part y) (Some (Part x))) u
  pair_waits true x y u e = λ h. e h.0 (h.1 (Part y) refl)
  pair_waits false x y u e = λ h. e (h.1 (Part x) refl) h.0

  busy_meets : (b : Bool) (t : Option Target) (u v : Tree) → IsBusy (meets fs (side b t (found.value u)) v)
  busy_meets b (Some t) u v = busy_set fs t v
  busy_meets b None u v = busy_if (same_tree u v) _ _ tt tt

  -- an equation by values: what waits goes on so, if each steady side stays as it is
  values_wait : (b c : Bool) (l r : Option Target) (x y : found.Outcome) (u : PickOutcome) → (IsSteady gs l x → IsSteady gs r y → u ≡ equate_values gs (side b l x) (side c r y))
      → Idle (equate_values fs (side b l x) (side c r y)) u
  values_wait b c l r (found.value t) (found.value v) u e = busy_row _ _ (busy_meets b l t v)
  values_wait b c (Some t) r (found.wait o) (found.value v) u e = busy_row _ _ (busy_set fs t v)
  values_wait b c None r (found.wait o) (found.value v) u e = λ h. e h.0 tt
  values_wait b c l (Some t) (found.value v) (found.wait o) u e = busy_row _ _ (busy_set fs t v)
  values_wait b c l None (found.value v) (found.wait o) u e = λ h. e tt h.0
  values_wait b c l r (found.wait o) (found.wait a) u e = pair_waits (c && not b) o a u e
  values_wait b c l (Some (value_at a)) (found.wait o) (found.over k) u e = λ h. e h.0 tt
  values_wait b c l (Some (length_at a)) (found.wait o) (found.over k) u e = tt
  values_wait b c l None (found.wait o) (found.over k) u e = tt
  values_wait b c (Some (value_at a)) r (found.over k) (found.wait o) u e = λ h. e tt h.0
  values_wait b c (Some (length_at a)) r (found.over k) (found.wait o) u e = tt
  values_wait b c None r (found.over k) (found.wait o) u e = tt
  values_wait b c l r x (found.value v) u e = tt
  values_wait b c l r x (found.wait o) u e = tt
  values_wait b c l r x (found.fault k) u e = tt
  values_wait b c l r (found.fault j) (found.over k) u e = tt
  values_wait b c l r x (found.over k) u e = tt

  -- what is steady stays as it is, and so does what is made of it
  side_same : (b : Bool) (t : Option Target) (o : found.Outcome) (l : SideOf) → l.placed ≡ b → SideWaits gs t o l.target l.found → IsSteady gs t o → l ≡ side b t o
  side_same b t o l e s h = λ i. record { placed = e i; target = target_same gs t o l.target l.found s h i; found = outcome_same gs t o l.found s.goes_on h i }

  sides_same : (b c : Bool) (l r : Option Target) (x y : found.Outcome) (l' r' : SideOf) → l'.placed ≡ b → r'.placed ≡ c → SideWaits gs l x l'.target l'.found → SideWaits gs r y r'.target r'.found
      → (f : SideOf → SideOf → PickOutcome) → IsSteady gs l x → IsSteady gs r y → f l' r' ≡ f (side b l x) (side c r y)
  sides_same b c l r x y l' r' d e s t f h k = ap₂ f (side_same b l x l' d s h) (side_same c r y r' e t k)

  equate_values_wait : (l r l' r' : SideOf) → l'.placed ≡ l.placed → r'.placed ≡ r.placed → SideWaits gs l.target l.found l'.target l'.found → SideWaits gs r.target r.found r'.target r'.found
      → Idle (equate_values fs l r) (equate_values gs l' r')
  equate_values_wait l r l' r' d e s t = values_wait l.placed r.placed l.target r.target l.found r.found _ (sides_same l.placed r.placed l.target r.target l.found r.found l' r' d e s t (equate_values gs))

  -- an equation, whatever numbers new items take
  module _ (n m : Numbers) where
    busy_shares : (x y : Path) (sh : Shape) (a : Addition) → IsBusy (shares x y sh n a)
    busy_shares x y sh (adds facts) = tt
    busy_shares x y sh (refuses kept new) = tt

    places_wait : (x y : Path) → Idle (equate_places fs x y n) (equate_places gs x y m)
    places_wait x y = go (is_excluded fs y || is_excluded fs x) (kept_shape fs y) (kept_shape fs x)
      where
        go : (b : Bool) (s t : Option Shape) → Idle (if b then clashes (NoValue NoElement) else by_shapes fs x y n s t) (equate_places gs x y m)
        go true s t = tt
        go false (Some sh) t = busy_row _ _ (busy_shares x y sh (addition fs (fact x sh ∷ [])))
        go false None (Some sh) = busy_row _ _ (busy_shares x y sh (addition fs (fact y sh ∷ [])))
        go false None None = λ u.
            (let right = u.0 in
            let left = u.1 (Part x) refl in
            ap₂ (λ (b c : Bool). if b || c then clashes (NoValue NoElement) else by_shapes gs x y m (kept_shape gs y) (kept_shape gs x)) right.1 left.1
            ∙ ap₂ (by_shapes gs x y m) right.0 left.0)

    equate_wait : (l r l' r' : SideOf) → l'.placed ≡ l.placed → r'.placed ≡ r.placed → SideWaits gs l.target l.found l'.target l'.found → SideWaits gs r.target r.found r'.target r'.found
        → Idle (equate fs l r n) (equate gs l' r' m)
    equate_wait l r l' r' d e s t = go l.target r.target s t
      where
        still : (a b : Option Target) → SideWaits gs a l.found l'.target l'.found → SideWaits gs b r.found r'.target r'.found → IsSteady gs a l.found → IsSteady gs b r.found
            → equate gs l' r' m ≡ equate gs (side l.placed a l.found) (side r.placed b r.found) m
        still a b s t = sides_same l.placed r.placed a b l.found r.found l' r' d e s t (λ x y. equate gs x y m)

        go : (a b : Option Target) → SideWaits gs a l.found l'.target l'.found → SideWaits gs b r.found r'.target r'.found → Idle (equate fs (side l.placed a l.found) (side r.placed b r.found) n) (equate gs l' r' m)
        go (Some (value_at x)) (Some (value_at y)) s t =
            let there : equate gs l' r' m ≡ equate_places gs x y m = ap₂ (λ (a b : Option Target). equate gs (side l'.placed a l'.found) (side r'.placed b r'.found) m) (s.some (value_at x) refl) (t.some (value_at y) refl) in
            subst (λ (o : PickOutcome). Idle (equate_places fs x y n) o) (sym there) (places_wait x y)
        go (Some (value_at x)) (Some (length_at y)) s t = values_wait l.placed r.placed (Some (value_at x)) (Some (length_at y)) l.found r.found _ (still (Some (value_at x)) (Some (length_at y)) s t)
        go (Some (value_at x)) None s t = values_wait l.placed r.placed (Some (value_at x)) None l.found r.found _ (still (Some (value_at x)) None s t)
        go (Some (length_at x)) b s t = values_wait l.placed r.placed (Some (length_at x)) b l.found r.found _ (still (Some (length_at x)) b s t)
        go None b s t = values_wait l.placed r.placed None b l.found r.found _ (still None b s t)

  module _ (p : Place) (n m : Numbers) (up : Grows p q) (env : Bindings) where
    found_by : (e : ExprTree) → StaysOutcome gs (outcome fs w.defs e env) (outcome gs w.defs e env)
    found_by = stays w.defs fs gs fc gc knows env

    place_row : (a b : PlaceOutcome) (f g : BindingTree → PickOutcome) → GrownPlace a b → ((x : Path) → a ≡ found.other (found.wait x) → IsUndecided gs x → b ≡ found.other (found.wait x)) → ((v : BindingTree) → Idle (f v) (g v))
        → Idle (with_place a f) (with_place b g)
    place_row (found.path x) b f g h i k = subst (λ (o : PlaceOutcome). Idle (f (place_binding x)) (with_place o g)) (sym h) (k (place_binding x))
    place_row (found.other (found.value t)) b f g h i k = subst (λ (o : PlaceOutcome). Idle (f (known_binding t)) (with_place o g)) (sym h) (k (known_binding t))
    place_row (found.other (found.wait x)) b f g h i k = λ u. ap (λ (o : PlaceOutcome). with_place o g) (i x refl u.0)
    place_row a b f g h i k = tt

    argument_row : (b : Bool) (e : ExprTree) (f g : BindingTree → PickOutcome) → ((v : BindingTree) → Idle (f v) (g v))
        → Idle (if b then with_place (place_outcome fs w.defs e env) f else with_value (outcome fs w.defs e env) (λ v. f (known_binding v)))
        (if b then with_place (place_outcome gs w.defs e env) g else with_value (outcome gs w.defs e env) (λ v. g (known_binding v)))
    argument_row true e f g k = place_row _ _ f g (outcomes_grow fs gs fc gc knows w.defs e env).1 (λ x a u. (outcomes_wait fs gs fc gc knows w.defs e env x u).1 a) k
    argument_row false e f g k = value_row _ _ _ _ (found_by e) (λ v. k (known_binding v))

    arguments_row : (es : ExprTrees) (xs : List (List ℕ)) (f g : Bindings → PickOutcome) → ((vs : Bindings) → Idle (f vs) (g vs)) → Idle (with_arguments w.defs fs es xs env f) (with_arguments w.defs gs es xs env g)
    arguments_row no_expr [] f g k = k []
    arguments_row (expr_then e es) (x ∷ xs) f g k = argument_row (is_upper x) e _ _ (λ b. arguments_row es xs _ _ (λ bs. k (b ∷ bs)))
    arguments_row no_expr (x ∷ xs) f g k = tt
    arguments_row (expr_then e es) [] f g k = tt

    values_row : (es : ExprTrees) (f g : List Tree → PickOutcome) → ((vs : List Tree) → Idle (f vs) (g vs)) → Idle (with_values w.defs fs es env f) (with_values w.defs gs es env g)
    values_row no_expr f g k = k []
    values_row (expr_then e es) f g k = value_row _ _ _ _ (found_by e) (λ v. values_row es _ _ (λ vs. k (v ∷ vs)))

    call_row : (d : Option Definition) (es : ExprTrees) → Idle (called w.defs fs d es env n) (called w.defs gs d es env m)
    call_row (Some d) es = arguments_row es d.parameters _ _ (λ bs. tt)
    call_row None es = tt

    busy_length : (k : ℤ) → IsBusy (length_left k env n)
    busy_length (pos zero) = tt
    busy_length (pos (suc k)) = tt
    busy_length (negsuc k) = tt

    port_row : (v : Option Tree) (port : List ℕ) (x : ExprTree) → Idle (from_port fs v port (side_of w.defs fs x env)) (from_port gs v port (side_of w.defs gs x env))
    port_row None port x = tt
    port_row (Some v) port x = equate_values_wait
        (side_of w.defs fs x env) (side_with v) (side_of w.defs gs x env) (side_with v) refl refl
        (side_waits w.defs fs gs fc gc knows env x) (value_side w.defs fs gs fc gc knows env v)

    formula_row : (f : FormulaTree) → Idle (formula_step w.defs w.inputs w.state fs f env p n) (formula_step w.defs w.inputs w.state gs f env q m)
    formula_row (test e) = truth_row _ _ _ _ (found_by e) (λ b. busy_if b _ _ tt tt)
    formula_row (equation l r) = equate_wait n m
        (side_of w.defs fs l env) (side_of w.defs fs r env) (side_of w.defs gs l env) (side_of w.defs gs r env) refl refl
        (side_waits w.defs fs gs fc gc knows env l) (side_waits w.defs fs gs fc gc knows env r)
    formula_row (next_equation k t e) = value_row _ _ _ _ (found_by e) (λ v. busy_row _ _ (busy_marking Going _ _ _ _))
    formula_row empty = busy_row _ _ (busy_marking Ending _ _ _ _)
    formula_row more = busy_row _ _ (busy_marking Going _ _ _ _)
    formula_row (next f) = busy_row _ _ (busy_marking Going _ _ _ _)
    formula_row (weak_next f) = status_row gs q p up _ _ _ _ (λ e. tt) (λ e. tt)
    formula_row (if_more f) = status_row gs q p up _ _ _ _ (λ e. tt) (λ e. tt)
    formula_row (if_empty f) = status_row gs q p up _ _ _ _ (λ e. tt) (λ e. tt)
    formula_row (branch e f g) = truth_row _ _ _ _ (found_by e) (λ b. tt)
    formula_row (len e) = number_row _ _ _ _ (found_by e) busy_length
    formula_row (assign t e) = value_row _ _ _ _ (found_by e) (λ v. tt)
    formula_row (chop f g) = busy_row _ _ (busy_region _ _ _)
    formula_row (for_from name k e f) = number_row _ _ _ _ (found_by e) (λ i. busy_if (int_le i k) _ _ tt (busy_region _ _ _))
    formula_row (forall_from name k e f) = number_row _ _ _ _ (found_by e) (λ i. busy_if (int_le i k) _ _ tt tt)
    formula_row (project f g) = busy_row _ _ (busy_region _ _ _)
    formula_row (call i es) = call_row (slice_get w.defs i) es
    formula_row (input x port) = port_row (input_at w.inputs w.state port) port x
    formula_row (display es) = values_row es _ _ (λ vs. tt)
    formula_row f = tt

pub leaf_rows_wait : LeafRowsWait
leaf_rows_wait w fs gs fc gc knows (Do f env) p q n m up = formula_row w fs gs fc gc knows q p n m up env f
leaf_rows_wait w fs gs fc gc knows (Later f env) p q n m up = refl
leaf_rows_wait w fs gs fc gc knows (Shown vs) p q n m up = refl

-- what the status of a region that goes, and of one that ends, decides
by_going : (q : Place) (a b : PickOutcome) → q.is Going ≡ true → by_status q a b ≡ a
by_going q a b e = ap (λ (g : Bool). if g then a else (if q.is Ending then b else waits (End q.region q.depth) None)) e

by_ending : (q : Place) (a b : PickOutcome) → IsCalm q → q.is Ending ≡ true → by_status q a b ≡ b
by_ending q a b calm e =
    let g : q.is Going ≡ false = false_from_ne_true (q.is Going) (calm e) in
    ap₂ (λ (x y : Bool). if x then a else (if y then b else waits (End q.region q.depth) None)) g e

pub holder_rows_wait : HolderRowsWait
holder_rows_wait w fs gs (Split f env) p q n m up calm held second held' second' = status_row gs q p up _ _ _ _ (λ e. by_going q _ _ (up.sides Going e)) (λ e. tt)
holder_rows_wait w fs gs (SplitProject f env) p q n m up calm held second held' second' = status_row gs q p up _ _ _ _ (λ e. by_going q _ _ (up.sides Going e)) (λ e. tt)
holder_rows_wait w fs gs Closed p q n m up calm held second held' second' = refl
holder_rows_wait w fs gs (Opened f env) p q n m up calm held second held' second' = status_row gs q p up _ _ _ _ (λ e. tt) (λ e. by_ending q _ _ calm (up.sides Ending e))
holder_rows_wait w fs gs (Running f env) p q n m up calm held second held' second' = refl
