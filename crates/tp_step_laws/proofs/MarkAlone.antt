-- A step that sets a mark makes no region.
use Rattle.std.proofs.Common.{◌≡◌, ℤ, pos, negsuc, int_le, ℕ, zero, suc, nat_lt, Bool, true, false, ◌&&◌, ◌||◌, not, List, [], ◌∷◌, slice_get, Option, Some, None, refl, if◌then◌else◌}
use Rattle.std.specs.Option.{is_some}
use Rattle.std.proofs.lemmas.Bool.{false≢true}
use Rattle.tp_value.specs.Tree.{Tree, num, truth, same_tree}
use Rattle.tp_value.specs.Limits.{length_limit}
use Rattle.tp_value.specs.declared.path.Path.{Path}
use Rattle.tp_value.specs.declared.path.Fact.{Fact}
use Rattle.tp_value.specs.declared.value.Shape.{Shape}
use Rattle.tp_value.specs.declared.value.Shape.TheVariants.{Items}
use Rattle.tp_kernel.specs.declared.fault.LimitKind.{LimitKind}
use Rattle.tp_meaning.specs.Syntax.{ExprTree, ExprTrees, no_expr, expr_then, FormulaTree, test, equation, next_equation, empty, more, next, weak_next, if_more, if_empty, branch, len, assign, chop, for_from, forall_from, project, call, input, display, Definition, BindingTree, place_binding, known_binding}
use Rattle.tp_meaning.specs.Value.{is_upper}
use Rattle.tp_meaning.specs.Inputs.{InputTable, input_at}
use Rattle.tp_store.specs.Facts.{fact, facts_at, kept_shape, is_excluded}
use Rattle.tp_store.specs.Known.{Addition, adds, refuses, addition}
use Rattle.tp_eval.specs.Outcome as found
use Rattle.tp_eval.specs.Outcome.{PlaceOutcome, outcome, place_outcome}
use Rattle.tp_scene.specs.Scene.{Bindings, Side, Ending, Going, Leaf, Do, Entries, Place}
use Rattle.tp_scene.specs.Step.{region_limit, PickOutcome, reduces, waits, rests, clashes, misses, passes, Numbers, marking, with_region, by_status, with_value, with_truth, with_number, Target, value_at, length_at, set, added, SideOf, side_with, meets, shares, by_shapes, passes_or_waits, equate_places, equate_values, equate, side_of, with_values, with_place, with_argument, with_arguments, called, length_left, from_port, formula_step, leaf_step}

abbrev pub MarkAlone : PickOutcome → Type 0
MarkAlone (reduces r) = is_some r.mark ≡ true → r.regions ≡ 0
MarkAlone (waits first other) = Unit {0}
MarkAlone rests = Unit {0}
MarkAlone (clashes c) = Unit {0}
MarkAlone (misses port) = Unit {0}
MarkAlone (passes k) = Unit {0}

abbrev P : PickOutcome → Type 0
P = MarkAlone

if_alone : (c : Bool) (o u : PickOutcome) → P o → P u → P (if c then o else u)
if_alone true o u h k = h
if_alone false o u h k = k

marking_alone : (z : Side) (c : Bool) (d : ℕ) (news : Entries) (i : ℕ) → P (marking z c d news i)
marking_alone z true d news i = tt
marking_alone z false d news i = λ _. refl

region_alone : (d : ℕ) (news : Entries) (i : ℕ) → P (with_region d news i)
region_alone d news i = if_alone (nat_lt d region_limit) _ _ (λ e. absurd (false≢true e)) tt

status_alone : (p : Place) (o u : PickOutcome) → P o → P u → P (by_status p o u)
status_alone p o u h k = if_alone (p.is Going) _ _ h (if_alone (p.is Ending) _ _ k tt)

value_alone : (o : found.Outcome) (f : Tree → PickOutcome) → ((v : Tree) → P (f v)) → P (with_value o f)
value_alone (found.value t) f h = h t
value_alone (found.wait q) f h = tt
value_alone (found.fault k) f h = tt
value_alone (found.over k) f h = tt

truth_alone : (o : found.Outcome) (f : Bool → PickOutcome) → ((c : Bool) → P (f c)) → P (with_truth o f)
truth_alone (found.value (truth c)) f h = h c
truth_alone o f h = tt

number_alone : (o : found.Outcome) (f : ℤ → PickOutcome) → ((k : ℤ) → P (f k)) → P (with_number o f)
number_alone (found.value (num k)) f h = h k
number_alone o f h = tt

added_alone : (o : Addition) → P (added o)
added_alone (adds news) = λ _. refl
added_alone (refuses old new) = tt

length_alone : (k : ℤ) (env : Bindings) (n : Numbers) → P (length_left k env n)
length_alone (pos zero) env n = λ _. refl
length_alone (pos (suc k)) env n = λ _. refl
length_alone (negsuc k) env n = tt

shares_alone : (x y : Path) (sh : Shape) (n : Numbers) (o : Addition) → P (shares x y sh n o)
shares_alone x y sh n (adds news) = λ _. refl
shares_alone x y sh n (refuses old new) = tt

module _ (facts : List Fact) where
  set_alone : (t : Target) (v : Tree) → P (set facts t v)
  set_alone (value_at q) v = added_alone (addition facts (facts_at q v))
  set_alone (length_at q) (num (pos k)) = if_alone (nat_lt length_limit k) _ _ tt (added_alone (addition facts (fact q (Items k) ∷ [])))
  set_alone (length_at q) t = tt

  meets_alone : (c : Bool) (target : Option Target) (o : found.Outcome) (v : Tree) → P (meets facts (record { placed = c; target = target; found = o }) v)
  meets_alone c (Some t) o v = set_alone t v
  meets_alone c None (found.value t) v = if_alone (same_tree t v) _ _ (λ _. refl) tt
  meets_alone c None (found.wait q) v = tt
  meets_alone c None (found.fault k) v = tt
  meets_alone c None (found.over k) v = tt

  over_alone : (t : Option Target) (q : Path) (k : LimitKind) → P (passes_or_waits facts t q k)
  over_alone (Some (value_at p)) q k = tt
  over_alone (Some (length_at q)) p k = tt
  over_alone None q k = tt

  equate_values_alone : (l r : SideOf) → P (equate_values facts l r)
  equate_values_alone l r = go l.found r.found where
    go : (x y : found.Outcome) → P (equate_values facts (record { placed = l.placed; target = l.target; found = x }) (record { placed = r.placed; target = r.target; found = y }))
    go x (found.fault k) = tt
    go (found.fault j) y = tt
    go (found.wait q) (found.over k) = over_alone r.target q k
    go (found.over j) (found.wait q) = over_alone l.target q j
    go x (found.over k) = tt
    go (found.over j) y = tt
    go x (found.value s) = meets_alone l.placed l.target x s
    go (found.value t) (found.wait q) = meets_alone r.placed r.target (found.wait q) t
    go (found.wait q) (found.wait s) = if_alone (r.placed && not l.placed) _ _ tt tt

  places_alone : (x y : Path) (n : Numbers) → P (equate_places facts x y n)
  places_alone x y n = if_alone (is_excluded facts y || is_excluded facts x) _ _ tt (by (kept_shape facts y) (kept_shape facts x))
    where
      by : (s t : Option Shape) → P (by_shapes facts x y n s t)
      by (Some sh) t = shares_alone x y sh n (addition facts (fact x sh ∷ []))
      by None (Some sh) = shares_alone x y sh n (addition facts (fact y sh ∷ []))
      by None None = tt

  equate_alone : (l r : SideOf) (n : Numbers) → P (equate facts l r n)
  equate_alone l r n = by l.target r.target where
    by : (s t : Option Target) → P (equate facts (record { placed = l.placed; target = s; found = l.found }) (record { placed = r.placed; target = t; found = r.found }) n)
    by (Some (value_at x)) (Some (value_at y)) = places_alone x y n
    by (Some (value_at x)) (Some (length_at y)) = equate_values_alone (record { placed = l.placed; target = Some (value_at x); found = l.found }) (record { placed = r.placed; target = Some (length_at y); found = r.found })
    by (Some (value_at x)) None = equate_values_alone (record { placed = l.placed; target = Some (value_at x); found = l.found }) (record { placed = r.placed; target = None; found = r.found })
    by (Some (length_at x)) t = equate_values_alone (record { placed = l.placed; target = Some (length_at x); found = l.found }) (record { placed = r.placed; target = t; found = r.found })
    by None t = equate_values_alone (record { placed = l.placed; target = None; found = l.found }) (record { placed = r.placed; target = t; found = r.found })

  module _ (defs : List Definition) (env : Bindings) where
    place_alone : (o : PlaceOutcome) (f : BindingTree → PickOutcome) → ((x : BindingTree) → P (f x)) → P (with_place o f)
    place_alone (found.path q) f k = k (place_binding q)
    place_alone (found.other o) f k = value_alone o _ (λ v. k (known_binding v))

    argument_alone : (x : List ℕ) (e : ExprTree) (f : BindingTree → PickOutcome) → ((y : BindingTree) → P (f y)) → P (with_argument defs facts x e env f)
    argument_alone x e f k = if_alone (is_upper x) _ _ (place_alone (place_outcome facts defs e env) f k) (value_alone (outcome facts defs e env) _ (λ v. k (known_binding v)))

    arguments_alone : (es : ExprTrees) (xs : List (List ℕ)) (f : Bindings → PickOutcome) → ((ys : Bindings) → P (f ys)) → P (with_arguments defs facts es xs env f)
    arguments_alone no_expr [] f k = k []
    arguments_alone (expr_then e es) (x ∷ xs) f k = argument_alone x e _ (λ y. arguments_alone es xs _ (λ ys. k (y ∷ ys)))
    arguments_alone x y f k = tt

    values_alone : (es : ExprTrees) (f : List Tree → PickOutcome) → ((vs : List Tree) → P (f vs)) → P (with_values defs facts es env f)
    values_alone no_expr f k = k []
    values_alone (expr_then e es) f k = value_alone (outcome facts defs e env) _ (λ v. values_alone es _ (λ vs. k (v ∷ vs)))

    called_alone : (d : Option Definition) (es : ExprTrees) (n : Numbers) → P (called defs facts d es env n)
    called_alone (Some d) es n = arguments_alone es d.parameters _ (λ ys. λ _. refl)
    called_alone None es n = tt

    module _ (inputs : InputTable) (state : ℕ) (p : Place) (n : Numbers) where
      port_alone : (v : Option Tree) (port : List ℕ) (side : SideOf) → P (from_port facts v port side)
      port_alone None port side = tt
      port_alone (Some v) port side = equate_values_alone side (side_with v)

      row : (f : FormulaTree) → P (formula_step defs inputs state facts f env p n)
      row (test e) = truth_alone (outcome facts defs e env) _ (λ c. if_alone c _ _ (λ _. refl) tt)
      row (equation l r) = equate_alone (side_of defs facts l env) (side_of defs facts r env) n
      row (next_equation k t e) = value_alone (outcome facts defs e env) _ (λ v. marking_alone Going (p.is Ending) p.depth _ 1)
      row empty = marking_alone Ending (p.is Going) p.depth _ 0
      row more = marking_alone Going (p.is Ending) p.depth _ 0
      row (next f) = marking_alone Going (p.is Ending) p.depth _ 1
      row (weak_next f) = status_alone p _ _ (λ _. refl) (λ _. refl)
      row (if_more f) = status_alone p _ _ (λ _. refl) (λ _. refl)
      row (if_empty f) = status_alone p _ _ (λ _. refl) (λ _. refl)
      row (branch e f g) = truth_alone (outcome facts defs e env) _ (λ c _. refl)
      row (len e) = number_alone (outcome facts defs e env) _ (λ k. length_alone k env n)
      row (assign t e) = value_alone (outcome facts defs e env) _ (λ v _. refl)
      row (chop f g) = region_alone p.depth _ 2
      row (for_from x k e f) = number_alone (outcome facts defs e env) _ (λ m. if_alone (int_le m k) _ _ (λ _. refl) (region_alone p.depth _ 2))
      row (forall_from x k e f) = number_alone (outcome facts defs e env) _ (λ m. if_alone (int_le m k) _ _ (λ _. refl) (λ _. refl))
      row (project f g) = region_alone p.depth _ 2
      row (call i es) = called_alone (slice_get defs i) es n
      row (input x port) = port_alone (input_at inputs state port) port (side_of defs facts x env)
      row (display es) = values_alone es _ (λ vs. λ _. refl)
      row f = λ _. refl

pub leaf_alone : (defs : List Definition) (inputs : InputTable) (state : ℕ) (facts : List Fact) (l : Leaf) (p : Place) (n : Numbers) → MarkAlone (leaf_step defs inputs state facts l p n)
leaf_alone defs inputs state facts (Do f env) p n = row facts defs env inputs state p n f
leaf_alone defs inputs state facts l p n = tt
