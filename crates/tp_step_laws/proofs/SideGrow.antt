-- A side of an equation where more is known.
use Rattle.std.proofs.Common.{◌≡◌, ℕ, suc, pos, Bool, true, false, List, Option, Some, None, refl, ap, sym, ◌∙◌, subst, if◌then◌else◌}
use Rattle.tp_value.specs.Tree.{Tree, num}
use Rattle.tp_value.specs.declared.value.Shape.{Shape}
use Rattle.tp_value.specs.declared.value.Shape.TheVariants.{Items}
use Rattle.tp_value.specs.declared.path.Path.{Path}
use Rattle.tp_value.specs.declared.path.Fact.{Fact}
use Rattle.tp_value.specs.Shape.{item_at}
use Rattle.tp_value.specs.Limits.{is_within_list_limit}
use Rattle.tp_kernel.specs.declared.fault.FaultKind.{FaultKind}
use Rattle.tp_kernel.specs.declared.fault.FaultKind.TheVariants.{NoElement}
use Rattle.tp_meaning.specs.Syntax.{ExprTree, bound, global, size, index, Definition}
use Rattle.tp_meaning.specs.Inputs.{InputTable}
use Rattle.tp_store.specs.Facts.{kept_shape, is_excluded}
use Rattle.tp_store.specs.Known.{NoClash, Whole, known, open_at, whole, deepest, absent, too_long, limited, Full, value, full}
use Rattle.tp_eval.specs.Reached.{Reached, reaches, stops, waits, faults, passes, with_reached, fault}
use Rattle.tp_eval.specs.Evaluate as ev
use Rattle.tp_eval.specs.Evaluate.{PlaceFound, at_path, inside, is_place, element_in, of_full, length_in, evaluate, find_place, depth_limit}
use Rattle.tp_eval.specs.Outcome as found
use Rattle.tp_eval.specs.Outcome.{outcome, place_outcome, outcome_reached, place_reached, PlaceOutcome}
use Rattle.tp_scene.specs.Scene.{Bindings}
use Rattle.tp_scene.specs.Step.{Target, value_at, length_at, target_at, target_if, side_of}
use Rattle.tp_step_laws.specs.Outcomes.{KnowsMore, GrownPlace}
use Rattle.tp_step_laws.proofs.OutcomesGrow.{is_limit, More, evaluate_deeper, outcomes_grow}
use Rattle.tp_step_laws.proofs.Kept.{TargetKnown}
use Rattle.tp_step_laws.proofs.EqGrow.{SideGrows}

-- a place is read where it is, and its size one level deeper
pub read_place : (facts : List Fact) (defs : List Definition) (d : ℕ) (e : ExprTree) (env : Bindings) (c : ℕ) → is_place e ≡ true → evaluate facts defs (suc d) e env c ≡ with_reached (find_place facts defs (suc d) e env c) (ev.value_at facts)
read_place facts defs d (bound i) env c p = refl
read_place facts defs d (global x) env c p = refl
read_place facts defs d (index e i) env c p = ap (λ (b : Bool). ev.indexed_value (λ x. evaluate facts defs d x env) (λ x. find_place facts defs d x env) facts env b e i c) p
read_place facts defs d e env c p = absurd (cc)

pub read_size : (facts : List Fact) (defs : List Definition) (d : ℕ) (e : ExprTree) (env : Bindings) (c : ℕ) → is_place e ≡ true → evaluate facts defs (suc d) (size e) env c ≡ with_reached (find_place facts defs d e env c) (ev.size_at facts)
read_size facts defs d e env c p = ap (λ (b : Bool). ev.size_of (λ x. evaluate facts defs d x env) (λ x. find_place facts defs d x env) facts env b e c) p

-- what has a value doesn't wait as a place
pub element_waits : (o : Option Tree) (c : ℕ) (p : Path) → found.other (outcome_reached (element_in o c)) ≡ found.other (found.wait p) → ⊥
element_waits (Some t) c p e = let q : outcome_reached (element_in (Some t) c) ≡ found.wait p = cc e in cc
element_waits None c p e = let q : outcome_reached (element_in None c) ≡ found.wait p = cc e in cc

goes_by : (facts : List Fact) (f : PlaceFound → ℕ → Reached Tree) (r : Reached PlaceFound) (u : Tree) (p : Path) → outcome_reached (with_reached r f) ≡ found.value u → place_reached facts r ≡ found.other (found.wait p) → ⊥
goes_by facts f (reaches (at_path q) c) u p h e = cc
goes_by facts f (reaches (inside t at) c) u p h e = element_waits (item_at at t) c p e
goes_by facts f (stops (waits q)) u p h e = cc
goes_by facts f (stops (faults k)) u p h e = cc
goes_by facts f (stops (passes k)) u p h e = cc

-- what waits as a place waits
place_waits : (facts : List Fact) (f : PlaceFound → ℕ → Reached Tree) (r : Reached PlaceFound) (p : Path) → place_reached facts r ≡ found.other (found.wait p) → outcome_reached (with_reached r f) ≡ found.wait p
place_waits facts f (reaches (at_path q) c) p e = absurd (cc e)
place_waits facts f (reaches (inside t at) c) p e = absurd (element_waits (item_at at t) c p e)
place_waits facts f (stops (waits q)) p e = let z : found.wait q ≡ found.wait p = cc e in z
place_waits facts f (stops (faults k)) p e = absurd (cc e)
place_waits facts f (stops (passes k)) p e = absurd (cc e)

path_waited : (target : Path → Target) (a b : PlaceOutcome) (x : Target) → GrownPlace a b → target_at target a ≡ None → target_at target b ≡ Some x → (p : Path) × (a ≡ found.other (found.wait p))
path_waited target (found.path p) b x g n h = absurd (cc n)
path_waited target (found.other (found.wait p)) b x g n h = (p, refl)
path_waited target o b x g n h = absurd (let z : None ≡ Some x = sym (ap (target_at target) g) ∙ h in cc)

stays_none : (target : Path → Target) (a b : PlaceOutcome) → GrownPlace a b → ((p : Path) → a ≡ found.other (found.wait p) → ⊥) → target_at target a ≡ None → target_at target b ≡ None
stays_none target (found.path p) b g w n = absurd (cc n)
stays_none target (found.other (found.wait p)) b g w n = absurd (w p refl)
stays_none target x b g w n = ap (target_at target) g

pub stays_some : (target : Path → Target) (a b : PlaceOutcome) → GrownPlace a b → (x : Target) → target_at target a ≡ Some x → target_at target b ≡ Some x
stays_some target (found.path p) b g x n = ap (target_at target) g ∙ n
stays_some target (found.other o) b g x n = absurd (cc n)

pub some_path : (target : Path → Target) (a : PlaceOutcome) (x : Target) → target_at target a ≡ Some x → (p : Path) × (a ≡ found.path p) × (target p ≡ x)
some_path target (found.path p) x n = let q : target p ≡ x = cc n in (p, refl, q)
some_path target (found.other o) x n = absurd (cc n)

full_found : (o : Full) (c : ℕ) (v : Tree) → outcome_reached (of_full o c) ≡ found.value v → o ≡ value v
full_found (value t) c v e = let q : t ≡ v = cc e in ap value q
full_found x c v e = absurd (cc e)

pub path_same : (facts : List Fact) (x : PlaceFound) (c : ℕ) (p : Path) → place_reached facts (reaches x c) ≡ found.path p → x ≡ at_path p
path_same facts (at_path q) c p e = let s : q ≡ p = cc e in ap at_path s
path_same facts (inside t at) c p e = absurd (cc e)

known_value : (facts : List Fact) (r : Reached PlaceFound) (p : Path) (v : Tree) → place_reached facts r ≡ found.path p → outcome_reached (with_reached r (ev.value_at facts)) ≡ found.value v → full facts p ≡ value v
known_value facts (reaches x c) p v e h = full_found (full facts p) c v (ap (λ y. outcome_reached (ev.value_at facts y c)) (sym (path_same facts x c p e)) ∙ h)
known_value facts (stops (waits q)) p v e h = absurd (cc e)
known_value facts (stops (faults k)) p v e h = absurd (cc e)
known_value facts (stops (passes k)) p v e h = absurd (cc e)

-- a path with a fault is excluded
absent_path : (facts : List Fact) (r : Reached PlaceFound) (p : Path) (k : FaultKind) → place_reached facts r ≡ found.path p → outcome_reached (with_reached r (ev.value_at facts)) ≡ found.fault k → is_excluded facts p ≡ true
absent_path facts (reaches x c) p k e h = go (is_excluded facts p) (whole (suc (deepest facts)) facts p) refl (ap (λ y. outcome_reached (ev.value_at facts y c)) (sym (path_same facts x c p e)) ∙ h)
  where
    limits : (b : Bool) (t : Tree) → outcome_reached (of_full (if b then value t else too_long) c) ≡ found.fault k → ⊥
    limits true t z = cc
    limits false t z = cc

    go : (b : Bool) (w : Whole) → is_excluded facts p ≡ b → outcome_reached (of_full (if b then absent else limited w) c) ≡ found.fault k → is_excluded facts p ≡ true
    go true w x z = x
    go false (open_at q) x z = absurd (cc z)
    go false (known t) x z = absurd (limits (is_within_list_limit t) t z)
absent_path facts (stops (waits q)) p k e h = absurd (cc e)
absent_path facts (stops (faults j)) p k e h = absurd (cc e)
absent_path facts (stops (passes j)) p k e h = absurd (cc e)

-- of a place's size
size_goes : (facts : List Fact) (r r' : Reached PlaceFound) (u : Tree) → outcome_reached (with_reached r (ev.size_at facts)) ≡ found.value u → More is_limit r r' → (x : PlaceFound) × (c : ℕ) × (r' ≡ reaches x c) × (outcome_reached (ev.size_at facts x c) ≡ found.value u)
size_goes facts (reaches x c) r' u h m = (x, c, m, h)
size_goes facts (stops (waits q)) r' u h m = absurd (cc h)
size_goes facts (stops (faults k)) r' u h m = absurd (cc h)
size_goes facts (stops (passes k)) r' u h m = absurd (cc h)

shape_size : (facts : List Fact) (p : Path) (c : ℕ) (v : Tree) → outcome_reached (ev.size_at facts (at_path p) c) ≡ found.value v → TargetKnown facts (length_at p) v
shape_size facts p c v h = go (is_excluded facts p) (kept_shape facts p) refl h
  where
    go : (b : Bool) (o : Option Shape) → kept_shape facts p ≡ o → outcome_reached ((if b then fault NoElement else length_in p o) c) ≡ found.value v → TargetKnown facts (length_at p) v
    go false (Some (Items n)) x h = let q : num (pos n) ≡ v = cc h in (n, sym q, x)
    go b o x h = absurd (cc h)

pub place_goes : (facts : List Fact) (x : PlaceFound) (c : ℕ) (p : Path) → place_reached facts (reaches x c) ≡ found.other (found.wait p) → ⊥
place_goes facts (at_path q) c p e = cc
place_goes facts (inside t at) c p e = element_waits (item_at at t) c p e

-- What is so of a side's target and outcome, and of those where more is known, by whether it is a place.
module _ (Holds : Option Target → found.Outcome → Option Target → found.Outcome → Type 0) (defs : List Definition) (fs gs : List Fact) (env : Bindings) (no_target : (e : ExprTree) → Holds None (outcome fs defs e env) None (outcome gs defs e env)) where
  abbrev pub HoldsAt : (Path → Target) → ExprTree → ExprTree → Type 0
  HoldsAt target e x = Holds (target_at target (place_outcome fs defs e env)) (outcome fs defs x env) (target_at target (place_outcome gs defs e env)) (outcome gs defs x env)

  by_place : (target : Path → Target) (e x : ExprTree) → (is_place e ≡ true → HoldsAt target e x) → (b : Bool) → is_place e ≡ b
      → Holds (target_if defs fs b target e env) (outcome fs defs x env) (target_if defs gs b target e env) (outcome gs defs x env)
  by_place target e x h true p = h p
  by_place target e x h false p = no_target x

  pub of_side : ((e : ExprTree) → is_place e ≡ true → HoldsAt value_at e e) → ((e : ExprTree) → is_place e ≡ true → HoldsAt length_at e (size e))
      → (e : ExprTree) → Holds (side_of defs fs e env).target (side_of defs fs e env).found (side_of defs gs e env).target (side_of defs gs e env).found
  of_side at_place at_size (size e) = by_place length_at e (size e) (at_size e) (is_place e) refl
  of_side at_place at_size (index e i) = by_place value_at (index e i) (index e i) (at_place (index e i)) (is_place e) refl
  of_side at_place at_size (bound i) = at_place (bound i) refl
  of_side at_place at_size (global x) = at_place (global x) refl
  of_side at_place at_size e = no_target e

module _ (defs : List Definition) (fs gs : List Fact) (fc : NoClash fs) (gc : NoClash gs) (more : KnowsMore fs gs) (env : Bindings) where
  abbrev Grows : (Path → Target) → ExprTree → ExprTree → Type 0
  Grows target e x = SideGrows gs (target_at target (place_outcome fs defs e env)) (outcome fs defs x env) (target_at target (place_outcome gs defs e env)) (outcome gs defs x env)

  place_side : (e : ExprTree) → is_place e ≡ true → Grows value_at e e
  unfolding outcome place_outcome
  place_side e p =
      let g = outcomes_grow fs gs fc gc more defs e env in
      record {
        target = λ x h. stays_some value_at _ _ g.1 x h;
        none = λ n u h. stays_none value_at _ _ g.1 (λ q w. goes_by fs (ev.value_at fs) (find_place fs defs depth_limit e env 0) u q (ap outcome_reached (sym (read_place fs defs 1999 e env 0 p)) ∙ h) w) n;
        arises = λ q n h.
            (let r = path_waited value_at _ _ (value_at q) g.1 n h in
            (r.0, ap outcome_reached (read_place fs defs 1999 e env 0 p) ∙ place_waits fs (ev.value_at fs) (find_place fs defs depth_limit e env 0) r.0 r.1));
        absent = λ q k h z.
            (let s = some_path value_at _ (value_at q) h in
            let same : s.0 ≡ q = let y = s.2 in cc in
            subst (λ (x : Path). is_excluded gs x ≡ true) same (absent_path gs (find_place gs defs depth_limit e env 0) s.0 k s.1 (ap outcome_reached (sym (read_place gs defs 1999 e env 0 p)) ∙ z)));
        grown = g.0;
        known = λ x v h k. let s = some_path value_at _ x h in subst (λ (t : Target). TargetKnown gs t v) s.2 (known_value gs (find_place gs defs depth_limit e env 0) s.0 v s.1 (ap outcome_reached (sym (read_place gs defs 1999 e env 0 p)) ∙ k));
      }

  size_side : (e : ExprTree) → is_place e ≡ true → Grows length_at e (size e)
  unfolding outcome place_outcome
  size_side e p =
      let g = outcomes_grow fs gs fc gc more defs e env in
      let o = outcomes_grow fs gs fc gc more defs (size e) env in
      record {
        target = λ x h. stays_some length_at _ _ g.1 x h;
        none = λ n u h.
            (let r = size_goes fs (find_place fs defs 1999 e env 0) (find_place fs defs 2000 e env 0) u (ap outcome_reached (sym (read_size fs defs 1999 e env 0 p)) ∙ h) ((evaluate_deeper fs defs 1999).1 e env 0) in
            stays_none length_at _ _ g.1 (λ q w. place_goes fs r.0 r.1 q (ap (place_reached fs) (sym r.2) ∙ w)) n);
        arises = λ q n h. absurd (let s = some_path length_at _ (value_at q) h in let y = s.2 in cc);
        absent = λ q k h z. absurd (let s = some_path length_at _ (value_at q) h in let y = s.2 in cc);
        grown = o.0;
        known = λ x v h k.
            (let r = size_goes gs (find_place gs defs 1999 e env 0) (find_place gs defs 2000 e env 0) v (ap outcome_reached (sym (read_size gs defs 1999 e env 0 p)) ∙ k) ((evaluate_deeper gs defs 1999).1 e env 0) in
            let s = some_path length_at _ x h in
            let q = path_same gs r.0 r.1 s.0 (ap (place_reached gs) (sym r.2) ∙ s.1) in
            subst (λ (t : Target). TargetKnown gs t v) s.2 (shape_size gs s.0 r.1 v (ap (λ y. outcome_reached (ev.size_at gs y r.1)) (sym q) ∙ r.3)));
      }

  -- what isn't a place can't be set
  no_target : (e : ExprTree) → SideGrows gs None (outcome fs defs e env) None (outcome gs defs e env)
  no_target e = record { target = λ x h. absurd (cc h); none = λ n u h. refl; arises = λ q n h. absurd (cc h); absent = λ q k h z. absurd (cc h); grown = (outcomes_grow fs gs fc gc more defs e env).0; known = λ x v h k. absurd (cc h) }

  pub value_side : (v : Tree) → SideGrows gs None (found.value v) None (found.value v)
  value_side v = record { target = λ x h. absurd (cc h); none = λ n u h. refl; arises = λ q n h. absurd (cc h); absent = λ q k h z. absurd (cc h); grown = refl; known = λ x v h k. absurd (cc h) }

  module _ (inputs : InputTable) (state : ℕ) where
    abbrev Side : ExprTree → Type 0
    Side e = SideGrows gs (side_of defs fs e env).target (side_of defs fs e env).found (side_of defs gs e env).target (side_of defs gs e env).found

    pub side_grows : (e : ExprTree) → Side e
    side_grows = of_side (SideGrows gs) defs fs gs env no_target place_side size_side
