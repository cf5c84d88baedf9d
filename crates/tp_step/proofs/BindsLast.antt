-- Only `exists` gives a local, and it binds it last.
use Rattle.std.proofs.Common.{◌≡◌, ℤ, pos, negsuc, int_le, ℕ, zero, suc, nat_lt, Bool, true, false, ◌&&◌, ◌||◌, not, List, [], ◌∷◌, ◌++◌, slice_get, Option, Some, None, refl, ap, if◌then◌else◌}
use Rattle.std.proofs.lemmas.List.{same_from_push}
use Rattle.tp_value.specs.Tree.{Tree, num, truth, list, same_tree}
use Rattle.tp_value.specs.Limits.{length_limit}
use Rattle.tp_value.specs.declared.path.Path.{Path}
use Rattle.tp_value.specs.declared.path.Fact.{Fact}
use Rattle.tp_value.specs.declared.value.Shape.{Shape}
use Rattle.tp_value.specs.declared.value.Shape.TheVariants.{Items}
use Rattle.tp_kernel.specs.declared.fault.FaultKind.TheVariants.{NoElement}
use Rattle.tp_kernel.specs.declared.fault.LimitKind.{LimitKind}
use Rattle.tp_meaning.specs.Syntax.{ExprTree, ExprTrees, no_expr, expr_then, FormulaTree, trivial, test, equation, next_equation, empty, more, next, weak_next, if_more, if_empty, always, conjunction, branch, len, assign, chop, while, for_from, forall_from, project, exists, call, input, display, Definition, BindingTree, place_binding, known_binding}
use Rattle.tp_meaning.specs.Value.{is_upper}
use Rattle.tp_meaning.specs.Inputs.{InputTable, input_at}
use Rattle.tp_store.specs.Facts.{fact, facts_at, kept_shape, is_excluded}
use Rattle.tp_store.specs.Known.{Addition, adds, refuses, addition, Variable}
use Rattle.tp_eval.specs.Outcome as found
use Rattle.tp_eval.specs.Outcome.{PlaceOutcome, outcome, place_outcome}
use Rattle.tp_scene.specs.declared.answer.Clash.TheVariants.{NoValue}
use Rattle.tp_scene.specs.Scene.{Bindings, Side, Ending, Going, Do, Later, Shown, Entries, none, leaf, node, Place}
use Rattle.tp_scene.specs.Step.{region_limit, PickOutcome, reduces, waits, rests, clashes, misses, passes, Numbers, marking, with_region, by_status, with_value, with_truth, with_number, Target, value_at, length_at, set, added, shares, by_shapes, equate_places, passes_or_waits, SideOf, meets, equate_values, equate, side_of, with_values, with_place, with_argument, with_arguments, called, length_left, from_port, formula_step}
use Rattle.tp_decide.specs.declared.decision.Decision.{Decision}
use Rattle.tp_decide.specs.declared.decision.Decision.TheVariants as decision
use Rattle.tp_decide.specs.Decided.{decided_outcome}
use Rattle.tp_decide.specs.ReadBound.{env_of}
use Rattle.tp_slots.specs.Plain.{bare}
use Rattle.tp_step.specs.Chosen.{BindsThere}

-- what the first item is under
abbrev first_bindings : Entries → Bindings
first_bindings none = []
first_bindings (leaf i (Do f env) rest) = env
first_bindings (leaf i (Later f env) rest) = []
first_bindings (leaf i (Shown vs) rest) = []
first_bindings (node i k h held g second rest) = []

module _ (env : Bindings) where
  -- where there is a new local, one item has it bound last
  abbrev pub IsLast : Option Variable → Entries → Type 0
  IsLast None news = Unit {0}
  IsLast (Some x) news = (i : ℕ) × (f : FormulaTree) × (b : BindingTree) × (news ≡ leaf i (Do f (env ++ b ∷ [])) none)

  abbrev pub BindsLast : PickOutcome → Type 0
  BindsLast (reduces r) = IsLast r.local r.news
  BindsLast (waits first other) = Unit {0}
  BindsLast rests = Unit {0}
  BindsLast (clashes c) = Unit {0}
  BindsLast (misses port) = Unit {0}
  BindsLast (passes k) = Unit {0}

  if_both : (b : Bool) (o o' : PickOutcome) → BindsLast o → BindsLast o' → BindsLast (if b then o else o')
  if_both true o o' h h' = h
  if_both false o o' h h' = h'

  by_place_status : (p : Place) (o o' : PickOutcome) → BindsLast o → BindsLast o' → BindsLast (by_status p o o')
  by_place_status p o o' h h' = if_both (p.is Going) o _ h (if_both (p.is Ending) o' _ h' tt)

  by_mark : (z : Side) (x : Bool) (depth : ℕ) (news : Entries) (items : ℕ) → BindsLast (marking z x depth news items)
  by_mark z true depth news items = tt
  by_mark z false depth news items = tt

  by_region : (depth : ℕ) (news : Entries) (items : ℕ) → BindsLast (with_region depth news items)
  by_region depth news items = if_both (nat_lt depth region_limit) _ _ tt tt

  by_value : (o : found.Outcome) (f : Tree → PickOutcome) → ((t : Tree) → BindsLast (f t)) → BindsLast (with_value o f)
  by_value (found.value t) f h = h t
  by_value (found.wait p) f h = tt
  by_value (found.fault k) f h = tt
  by_value (found.over k) f h = tt

  by_truth : (o : found.Outcome) (f : Bool → PickOutcome) → ((b : Bool) → BindsLast (f b)) → BindsLast (with_truth o f)
  by_truth (found.value (truth b)) f h = h b
  by_truth o f h = tt

  by_number : (o : found.Outcome) (f : ℤ → PickOutcome) → ((n : ℤ) → BindsLast (f n)) → BindsLast (with_number o f)
  by_number (found.value (num n)) f h = h n
  by_number o f h = tt

  by_place : (o : PlaceOutcome) (f : BindingTree → PickOutcome) → ((b : BindingTree) → BindsLast (f b)) → BindsLast (with_place o f)
  by_place (found.path p) f h = h (place_binding p)
  by_place (found.other o) f h = by_value o (λ v. f (known_binding v)) (λ v. h (known_binding v))

  by_addition : (o : Addition) → BindsLast (added o)
  by_addition (adds facts) = tt
  by_addition (refuses kept new) = tt

  module _ (facts : List Fact) where
    by_set : (t : Target) (v : Tree) → BindsLast (set facts t v)
    by_set (value_at p) v = by_addition (addition facts (facts_at p v))
    by_set (length_at p) (num (pos n)) = if_both (nat_lt length_limit n) _ _ tt (by_addition (addition facts (fact p (Items n) ∷ [])))
    by_set (length_at p) (num (negsuc n)) = tt
    by_set (length_at p) (truth b) = tt
    by_set (length_at p) (list ts) = tt

    by_meeting : (placed : Bool) (t : Option Target) (o : found.Outcome) (v : Tree) → BindsLast (meets facts (record { placed = placed; target = t; found = o }) v)
    by_meeting placed (Some t) o v = by_set t v
    by_meeting placed None (found.value u) v = if_both (same_tree u v) _ _ tt tt
    by_meeting placed None (found.wait p) v = tt
    by_meeting placed None (found.fault k) v = tt
    by_meeting placed None (found.over k) v = tt

    by_passing : (t : Option Target) (p : Path) (k : LimitKind) → BindsLast (passes_or_waits facts t p k)
    by_passing (Some (value_at q)) p k = tt
    by_passing (Some (length_at q)) p k = tt
    by_passing None p k = tt

    by_equation : (lp : Bool) (lt : Option Target) (lo : found.Outcome) (rp : Bool) (rt : Option Target) (ro : found.Outcome)
        → BindsLast (equate_values facts (record { placed = lp; target = lt; found = lo }) (record { placed = rp; target = rt; found = ro }))
    by_equation lp lt x rp rt (found.fault k) = tt
    by_equation lp lt (found.fault j) rp rt y = tt
    by_equation lp lt (found.wait p) rp rt (found.over k) = by_passing rt p k
    by_equation lp lt (found.over j) rp rt (found.wait q) = by_passing lt q j
    by_equation lp lt x rp rt (found.over k) = tt
    by_equation lp lt (found.over j) rp rt y = tt
    by_equation lp lt x rp rt (found.value v) = by_meeting lp lt x v
    by_equation lp lt (found.value v) rp rt (found.wait q) = by_meeting rp rt (found.wait q) v
    by_equation lp lt (found.wait p) rp rt (found.wait q) = if_both (rp && not lp) _ _ tt tt

    by_sharing : (p q : Path) (sh : Shape) (n : Numbers) (o : Addition) → BindsLast (shares p q sh n o)
    by_sharing p q sh n (adds news) = tt
    by_sharing p q sh n (refuses kept new) = tt

    by_both_shapes : (p q : Path) (n : Numbers) (of_right of_left : Option Shape) → BindsLast (by_shapes facts p q n of_right of_left)
    by_both_shapes p q n (Some sh) o = by_sharing p q sh n (addition facts (fact p sh ∷ []))
    by_both_shapes p q n None (Some sh) = by_sharing p q sh n (addition facts (fact q sh ∷ []))
    by_both_shapes p q n None None = tt

    by_places : (p q : Path) (n : Numbers) → BindsLast (equate_places facts p q n)
    by_places p q n = if_both (is_excluded facts q || is_excluded facts p) (clashes (NoValue NoElement)) _ tt (by_both_shapes p q n (kept_shape facts q) (kept_shape facts p))

    by_targets : (lp : Bool) (lt : Option Target) (lo : found.Outcome) (rp : Bool) (rt : Option Target) (ro : found.Outcome) (n : Numbers)
        → BindsLast (equate facts (record { placed = lp; target = lt; found = lo }) (record { placed = rp; target = rt; found = ro }) n)
    by_targets lp (Some (value_at p)) lo rp (Some (value_at q)) ro n = by_places p q n
    by_targets lp (Some (value_at p)) lo rp (Some (length_at q)) ro n = by_equation lp (Some (value_at p)) lo rp (Some (length_at q)) ro
    by_targets lp (Some (value_at p)) lo rp None ro n = by_equation lp (Some (value_at p)) lo rp None ro
    by_targets lp (Some (length_at p)) lo rp rt ro n = by_equation lp (Some (length_at p)) lo rp rt ro
    by_targets lp None lo rp rt ro n = by_equation lp None lo rp rt ro

    by_sides : (l r : SideOf) (n : Numbers) → BindsLast (equate facts l r n)
    by_sides l r n = by_targets l.placed l.target l.found r.placed r.target r.found n

    by_port : (o : Option Tree) (port : List ℕ) (side : SideOf) → BindsLast (from_port facts o port side)
    by_port None port side = tt
    by_port (Some v) port side = by_equation side.placed side.target side.found false None (found.value v)

  by_length : (k : ℤ) (n : Numbers) → BindsLast (length_left k env n)
  by_length (pos zero) n = tt
  by_length (pos (suc k)) n = tt
  by_length (negsuc k) n = tt

  module _ (defs : List Definition) (facts : List Fact) where
    by_values : (es : ExprTrees) (f : List Tree → PickOutcome) → ((vs : List Tree) → BindsLast (f vs)) → BindsLast (with_values defs facts es env f)
    by_values no_expr f h = h []
    by_values (expr_then e es) f h = by_value (outcome facts defs e env) _ (λ v. by_values es (λ vs. f (v ∷ vs)) (λ vs. h (v ∷ vs)))

    by_argument : (x : List ℕ) (e : ExprTree) (f : BindingTree → PickOutcome) → ((b : BindingTree) → BindsLast (f b)) → BindsLast (with_argument defs facts x e env f)
    by_argument x e f h = if_both (is_upper x) _ _ (by_place (place_outcome facts defs e env) f h) (by_value (outcome facts defs e env) _ (λ v. h (known_binding v)))

    by_arguments : (es : ExprTrees) (xs : List (List ℕ)) (f : Bindings → PickOutcome) → ((bs : Bindings) → BindsLast (f bs)) → BindsLast (with_arguments defs facts es xs env f)
    by_arguments no_expr [] f h = h []
    by_arguments (expr_then e es) (x ∷ xs) f h = by_argument x e _ (λ b. by_arguments es xs (λ bs. f (b ∷ bs)) (λ bs. h (b ∷ bs)))
    by_arguments no_expr (x ∷ xs) f h = tt
    by_arguments (expr_then e es) [] f h = tt

    by_call : (d : Option Definition) (es : ExprTrees) (n : Numbers) → BindsLast (called defs facts d es env n)
    by_call (Some d) es n = by_arguments es d.parameters _ (λ args. tt)
    by_call None es n = tt

    -- a line for each kind that doesn't just become other items
    pub binds_last : (inputs : InputTable) (state : ℕ) (f : FormulaTree) (p : Place) (n : Numbers) → BindsLast (formula_step defs inputs state facts f env p n)
    binds_last inputs state trivial p n = tt
    binds_last inputs state (test e) p n = by_truth (outcome facts defs e env) _ (λ b. if_both b _ _ tt tt)
    binds_last inputs state (equation l r) p n = by_sides facts (side_of defs facts l env) (side_of defs facts r env) n
    binds_last inputs state (next_equation k t e) p n = by_value (outcome facts defs e env) _ (λ v. by_mark Going (p.is Ending) p.depth _ 1)
    binds_last inputs state empty p n = by_mark Ending (p.is Going) p.depth none 0
    binds_last inputs state more p n = by_mark Going (p.is Ending) p.depth none 0
    binds_last inputs state (next f) p n = by_mark Going (p.is Ending) p.depth _ 1
    binds_last inputs state (weak_next f) p n = by_place_status p _ _ tt tt
    binds_last inputs state (if_more f) p n = by_place_status p _ _ tt tt
    binds_last inputs state (if_empty f) p n = by_place_status p _ _ tt tt
    binds_last inputs state (always f) p n = tt
    binds_last inputs state (conjunction fs) p n = tt
    binds_last inputs state (branch e f g) p n = by_truth (outcome facts defs e env) _ (λ b. tt)
    binds_last inputs state (len e) p n = by_number (outcome facts defs e env) _ (λ k. by_length k n)
    binds_last inputs state (assign t e) p n = by_value (outcome facts defs e env) _ (λ v. tt)
    binds_last inputs state (chop f g) p n = by_region p.depth _ 2
    binds_last inputs state (while e f) p n = tt
    binds_last inputs state (for_from x k e f) p n = by_number (outcome facts defs e env) _ (λ m. if_both (int_le m k) _ _ tt (by_region p.depth _ 2))
    binds_last inputs state (forall_from x k e f) p n = by_number (outcome facts defs e env) _ (λ m. if_both (int_le m k) _ _ tt tt)
    binds_last inputs state (project f g) p n = by_region p.depth _ 2
    binds_last inputs state (exists x lasting f) p n = (n.item 0, f, place_binding (record { var = record { number = n.local; lasting = lasting }; at = [] }), refl)
    binds_last inputs state (call i es) p n = by_call (slice_get defs i) es n
    binds_last inputs state (input x port) p n = by_port facts (input_at inputs state port) port (side_of defs facts x env)
    binds_last inputs state (display es) p n = by_values es _ (λ vs. tt)

  -- So what is bound is under the bindings of what was due.
  pub binds_there : (f : FormulaTree) (facts : List Fact) (n : Numbers) (d : Decision) → BindsLast (decided_outcome facts n d) → BindsThere (bare (Do f env)) d
  binds_there f facts n (decision.Binds name lasting body) h =
      (same_from_push (env_of body) env (place_binding (record { var = record { number = n.local; lasting = lasting }; at = [] })) h.2 (ap first_bindings h.3)).0
  binds_there f facts n (decision.Becomes news m) h = tt
  binds_there f facts n (decision.Splits first after) h = tt
  binds_there f facts n (decision.Opens outer piece) h = tt
  binds_there f facts n (decision.Sets p v) h = tt
  binds_there f facts n (decision.Measures p k) h = tt
  binds_there f facts n (decision.Shares to k news) h = tt
  binds_there f facts n (decision.Waits first other) h = tt
  binds_there f facts n decision.Rests h = tt
  binds_there f facts n (decision.Clashes c) h = tt
  binds_there f facts n (decision.Misses port) h = tt
  binds_there f facts n (decision.Passes k) h = tt
