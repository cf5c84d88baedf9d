-- What each row of the table of formulas gives, told by its parts, for any properties of formulas, expressions, bindings and outcomes that are closed under what the rows do.
-- A table follows so: a `Bundle` is chosen, `RowsKeep` shown for it, `formula_told` gives `Told`,
-- and what the table says is read off that (`of_told` in NewFacts.antt). `holder_step` isn't told:
-- each table has rows for it. A new kind has a line in `PartsOf` and one in `row`; where it gives
-- what no row gave so far, as two regions, `Told` changes, and the tables that take it apart.
use Rattle.std.proofs.Common.{◌≡◌, ℤ, pos, negsuc, ◌+ℤ◌, int_le, ◌⊎◌, inl, inr, ℕ, zero, suc, ◌-◌, ◌+◌, ◌<◌, ◌≤◌, nat_lt, Bool, true, false, ◌&&◌, ◌||◌, not, List, [], ◌∷◌, ◌++◌, length, slice_get, Option, Some, None, refl, ap, sym, subst, arith, if◌then◌else◌}
use Rattle.std.proofs.lemmas.Bool.{cond_both, or_parts}
use Rattle.std.proofs.lemmas.List.{length-append}
use Rattle.tp_value.specs.Tree.{Tree, num, truth, same_tree}
use Rattle.tp_value.specs.Limits.{length_limit}
use Rattle.tp_value.specs.declared.path.Path.{Path}
use Rattle.tp_value.specs.declared.path.Fact.{Fact}
use Rattle.tp_value.specs.declared.value.Shape.{Shape}
use Rattle.tp_value.specs.declared.value.Shape.TheVariants.{Num, Truth, Items}
use Rattle.tp_kernel.specs.declared.fault.LimitKind.{LimitKind}
use Rattle.tp_kernel.specs.declared.fault.LimitKind.TheVariants as limit
use Rattle.tp_meaning.specs.Syntax.{ExprTree, ExprTrees, no_expr, expr_then, numeral, known, bound, size, index, FormulaTree, FormulaTrees, no_formula, formula_then, formulas_of, trivial, test, equation, next_equation, empty, more, next, weak_next, if_more, if_empty, always, conjunction, branch, len, assign, chop, while, for_from, forall_from, project, exists, call, input, display, Definition, BindingTree, place_binding, known_binding}
use Rattle.tp_meaning.specs.Nexts.{nexts}
use Rattle.tp_meaning.specs.Value.{is_upper}
use Rattle.tp_meaning.specs.Inputs.{InputTable, input_at}
use Rattle.tp_store.specs.Facts.{fact, facts_at, kept_shape, is_excluded}
use Rattle.tp_store.specs.Known.{Variable, Addition, adds, refuses, addition}
use Rattle.tp_eval.specs.Evaluate.{is_place}
use Rattle.tp_eval.specs.Outcome as found
use Rattle.tp_eval.specs.Outcome.{PlaceOutcome, outcome, place_outcome}
use Rattle.tp_scene.specs.declared.answer.Cell.{Cell}
use Rattle.tp_scene.specs.declared.answer.Cell.TheVariants.{Part, End}
use Rattle.tp_scene.specs.declared.answer.Clash.{Clash}
use Rattle.tp_scene.specs.declared.answer.Clash.TheVariants.{Facts, Marks, False, NoValue}
use Rattle.tp_scene.specs.Scene.{Bindings, Side, Ending, Going, other_side, Leaf, Do, Later, Shown, Holder, Split, SplitProject, Closed, Opened, Running, Entries, none, leaf, node, new_head, no_region, Place}
use Rattle.tp_scene.specs.Step.{region_limit, Reduction, PickOutcome, reduces, waits, rests, clashes, misses, passes, Numbers, becomes, knows, marking, with_region, by_status, with_value, with_truth, with_number, Target, value_at, length_at, target_at, target_if, target_of, set, added, SideOf, meets, item_equations, shape_equations, both_places, shares, by_shapes, passes_or_waits, equate_places, equate_values, equate, all_do, count_of, side_of, side_with, with_values, with_place, with_argument, with_arguments, called, length_left, from_port, formula_step}

-- Properties of what rows are made of: of a formula, and an expression, under so many bindings; of a binding; of what an expression is found to be; of
-- new facts before they are added; of a name of a local or a port; and of a new local, which is assumed where the new items are told.
pub record Bundle : Type 1 where
  pub formula : FormulaTree → ℕ → Type 0
  pub formulas : FormulaTrees → ℕ → Type 0
  pub expr : ExprTree → ℕ → Type 0
  pub exprs : ExprTrees → ℕ → Type 0
  pub binding : BindingTree → Type 0
  pub evaluated : found.Outcome → Type 0
  pub new_facts : List Fact → Type 0
  pub name : List ℕ → Type 0
  pub local : Option Variable → Type 0

-- each of the bindings has it
abbrev pub AllBound : Bundle → Bindings → Type 0
AllBound b [] = Unit {0}
AllBound b (x ∷ env) = b.binding x × AllBound b env

pub bound_at : (b : Bundle) (env : Bindings) (i : ℕ) (x : BindingTree) → AllBound b env → slice_get env i ≡ Some x → b.binding x
bound_at b [] i x h e = absurd (cc)
bound_at b (y ∷ env) zero x h e = let q : y ≡ x = cc in subst (λ (z : BindingTree). b.binding z) q h.0
bound_at b (y ∷ env) (suc i) x h e = bound_at b env i x h.1 e

one_more : (b : Bundle) (env : Bindings) (x : BindingTree) → AllBound b env → b.binding x → AllBound b (env ++ x ∷ [])
one_more b [] x h k = (k, tt)
one_more b (y ∷ env) x h k = (h.0, one_more b env x h.1 k)

-- What a count of turns from k owes, where m names are bound: its last number, that of the turn at
-- hand, what is done in a turn, and, where turns are left, the count of these.
pub record TurnParts (b : Bundle) (k : ℤ) (e : ExprTree) (f : FormulaTree) (others : ℤ → FormulaTree) (m : ℕ) : Type 0 where
  pub last : b.expr e m
  pub number : b.binding (known_binding (num k))
  pub turn : b.formula f (suc m)
  pub left : (j : ℤ) → b.evaluated (found.value (num j)) → int_le j k ≡ false → b.formula (others j) m

-- What a formula with the property owes, where m names are bound: the property of each formula that
-- its row gives, which may be none of its own parts (see `while`, `assign`), and of each expression
-- that is evaluated. They are taken by position, in `row` and where they are shown (`fit_parts`).
abbrev pub PartsOf : Bundle → FormulaTree → ℕ → Type 0
PartsOf b trivial m = Unit {0}
PartsOf b (test e) m = b.expr e m
PartsOf b (equation l r) m = b.expr l m × b.expr r m
PartsOf b (next_equation k t e) m = b.expr e m × ((v : Tree) → b.evaluated (found.value v) → b.formula (nexts (k - 1) (equation t (known v))) m)
PartsOf b empty m = Unit {0}
PartsOf b more m = Unit {0}
PartsOf b (next f) m = b.formula f m
PartsOf b (weak_next f) m = b.formula f m
PartsOf b (if_more f) m = b.formula f m
PartsOf b (if_empty f) m = b.formula f m
PartsOf b (always f) m = b.formula f m × b.formula (weak_next (always f)) m
PartsOf b (conjunction fs) m = b.formulas fs m
PartsOf b (branch e f g) m = b.expr e m × b.formula f m × b.formula g m
PartsOf b (len e) m = b.expr e m × b.formula empty m × ((k : ℕ) → b.formula (next (len (numeral (pos k)))) m)
PartsOf b (assign t e) m = b.expr e m × ((v : Tree) → b.evaluated (found.value v) → b.formula (always (if_empty (equation t (known v)))) m)
PartsOf b (chop f g) m = b.formula f m × b.formula g m
PartsOf b (while e f) m = b.formula (branch e (chop (conjunction (formulas_of (f ∷ more ∷ []))) (while e f)) empty) m
PartsOf b (for_from x k e f) m =
    b.formula empty m × TurnParts b k e f (λ j. for_from x (k +ℤ pos 1) (numeral j) f) m
PartsOf b (forall_from x k e f) m = TurnParts b k e f (λ j. forall_from x (k +ℤ pos 1) (numeral j) f) m
PartsOf b (project f g) m = b.formula f m × b.formula g m
PartsOf b (exists x lasting f) m = b.name x × b.formula f (suc m)
PartsOf b (call i es) m = b.exprs es m
PartsOf b (input x port) m = b.expr x m × b.name port
PartsOf b (display es) m = b.exprs es m

-- what has the property in a list, and under a size, has it alone
pub record Lists (b : Bundle) : Type 0 where
  pub first_formula : (f : FormulaTree) (fs : FormulaTrees) (m : ℕ) → b.formulas (formula_then f fs) m → b.formula f m
  pub other_formulas : (f : FormulaTree) (fs : FormulaTrees) (m : ℕ) → b.formulas (formula_then f fs) m → b.formulas fs m
  pub first_expr : (e : ExprTree) (es : ExprTrees) (m : ℕ) → b.exprs (expr_then e es) m → b.expr e m
  pub other_exprs : (e : ExprTree) (es : ExprTrees) (m : ℕ) → b.exprs (expr_then e es) m → b.exprs es m
  pub sized : (e : ExprTree) (m : ℕ) → b.expr (size e) m → b.expr e m

abbrev pub PlaceHas : Bundle → PlaceOutcome → Type 0
PlaceHas b (found.path q) = b.binding (place_binding q)
PlaceHas b (found.other o) = b.evaluated o

-- Said of a step in a region of this place, where these facts are known and new items and regions take these numbers.
module _ (b : Bundle) (facts : List Fact) (p : Place) (n : Numbers) where
  abbrev pub PhraseTold : FormulaTree → Bindings → Type 0
  PhraseTold f env = b.formula f (length env) × AllBound b env

  -- what is done later is left where the region goes on, or is marked so by the step
  abbrev pub LeafTold : Option Side → Leaf → Type 0
  LeafTold mark (Do f env) = PhraseTold f env
  LeafTold mark (Later f env) = PhraseTold f env × ((mark ≡ Some Going) ⊎ (p.is Going ≡ true))
  LeafTold mark (Shown vs) = Unit {0}

  -- new leaves, of which the first has this number, in order; after them comes that one
  abbrev pub LeavesTold : Option Side → (from : ℕ) → Entries → (to : ℕ) → Type 0
  LeavesTold mark from none to = to ≡ from
  LeavesTold mark from (leaf id l rest) to = (id ≡ n.item from) × LeafTold mark l × LeavesTold mark (suc from) rest to
  LeavesTold mark from (node id k h held g second rest) to = ⊥

  -- a left or an outer region: no row of a formula gives one of the others, which come of holders
  abbrev pub HolderTold : Holder → Type 0
  HolderTold (Split f env) = PhraseTold f env
  HolderTold (SplitProject f env) = ⊥
  HolderTold Closed = ⊥
  HolderTold (Opened f env) = PhraseTold f env
  HolderTold (Running f env) = ⊥

  -- one new region with one item
  pub record RegionTold (es : Entries) : Type 0 where
    pub holder : Holder
    pub told : HolderTold holder
    pub item : FormulaTree
    pub env : Bindings
    pub phrase : PhraseTold item env
    pub shallow : nat_lt p.depth region_limit ≡ true
    pub is : es ≡ node (n.item 1) holder (new_head n.region) (leaf (n.item 0) (Do item env) none) no_region none none

  -- no facts, or those of xs that weren't kept yet (`adds_all` in tp_store says so)
  abbrev pub FactsTold : List Fact → Type 0
  FactsTold fs = (fs ≡ []) ⊎ ((xs : List Fact) × b.new_facts xs × (addition facts xs ≡ adds fs))

  -- a region that the step marks isn't of the other side, and the step gives new leaves, or one new region
  pub record ReductionTold (r : Reduction) : Type 0 where
    pub facts_of : FactsTold r.facts
    pub mark : (z : Side) → r.mark ≡ Some z → p.is (other_side z) ≡ false
    pub name : (x : Variable) → r.local ≡ Some x → b.name x.name
    pub news : b.local r.local → (LeavesTold r.mark 0 r.news r.items × (r.regions ≡ 0)) ⊎ (RegionTold r.news × (r.items ≡ 2) × (r.regions ≡ 1))

  -- a wait is for what an expression waits for, or for the end of this region, which is open
  abbrev pub CellTold : Cell → Type 0
  CellTold (Part q) = b.evaluated (found.wait q)
  CellTold (End region depth) = (p.region ≡ region) × (p.is Ending ≡ false) × (p.is Going ≡ false) × (p.depth ≡ depth)

  abbrev pub OtherTold : Option Cell → Type 0
  OtherTold None = Unit {0}
  OtherTold (Some c) = CellTold c

  abbrev pub ClashTold : Clash → Type 0
  ClashTold (Facts old new) = (xs : List Fact) × b.new_facts xs × (addition facts xs ≡ refuses old new)
  ClashTold (Marks depth) = p.depth ≡ depth
  ClashTold False = Unit {0}
  ClashTold (NoValue k) = Unit {0}

  -- that of an evaluation, or else of a list's length, in `set`, or of depth, in `with_region`
  abbrev pub LimitTold : LimitKind → Type 0
  LimitTold k = b.evaluated (found.over k) ⊎ ((k ≡ limit.List) ⊎ (k ≡ limit.Nest))

  -- (a formula never rests: `Later` and `Shown` do)
  abbrev pub Told : PickOutcome → Type 0
  Told (reduces r) = ReductionTold r
  Told (waits first other) = CellTold first × OtherTold other
  Told rests = ⊥
  Told (clashes c) = ClashTold c
  Told (misses port) = b.name port
  Told (passes k) = LimitTold k

-- What is owed for a bundle: each property passes on to what rows make of it. `value` and `place`
-- are had from `Evaluates` (Evaluated.antt). `body` and `value_bound` are for `call`, `read` for
-- `input`, `local_bound` for `exists`, the others for equations: the next two for those that set a
-- value or a length, the last three for those of two places.
pub record RowsKeep (b : Bundle) (defs : List Definition) (inputs : InputTable) (state : ℕ) (facts : List Fact) (n : Numbers) : Type 0 where
  pub lists : Lists b
  pub parts : (f : FormulaTree) (m : ℕ) → b.formula f m → PartsOf b f m
  pub body : (i : ℕ) (d : Definition) → slice_get defs i ≡ Some d → b.formula d.formula (length d.parameters)
  pub value : (e : ExprTree) (env : Bindings) → b.expr e (length env) → AllBound b env → b.evaluated (outcome facts defs e env)
  pub place : (e : ExprTree) (env : Bindings) → b.expr e (length env) → AllBound b env → PlaceHas b (place_outcome facts defs e env)
  pub read : (port : List ℕ) (v : Tree) → input_at inputs state port ≡ Some v → b.evaluated (found.value v)
  pub value_bound : (v : Tree) → b.evaluated (found.value v) → b.binding (known_binding v)
  pub local_bound : (x : Variable) → b.local (Some x) → b.binding (place_binding (record { var = record { number = n.local; lasting = x.lasting }; at = [] }))
  pub sets : (q : Path) (v : Tree) → b.binding (place_binding q) → b.evaluated (found.value v) → b.new_facts (facts_at q v)
  pub lengthens : (q : Path) (k : ℕ) → b.binding (place_binding q) → nat_lt length_limit k ≡ false → b.new_facts (fact q (Items k) ∷ [])
  pub shared : (q : Path) (k i : ℕ) → b.binding (place_binding q) → kept_shape facts q ≡ Some (Items k) → i < k → b.formula (equation (index (bound 0) (numeral (pos i))) (index (bound 1) (numeral (pos i)))) 2
  pub shapes : (p q : Path) (sh : Shape) → b.binding (place_binding p) → b.binding (place_binding q) → kept_shape facts q ≡ Some sh → b.new_facts (fact p sh ∷ [])
  pub open_path : (q : Path) → b.binding (place_binding q) → kept_shape facts q ≡ None → is_excluded facts q ≡ false → b.evaluated (found.wait q)

module _ (b : Bundle) (defs : List Definition) (inputs : InputTable) (state : ℕ) (facts : List Fact) (n : Numbers) (closed : RowsKeep b defs inputs state facts n) (p : Place) where
  abbrev P : PickOutcome → Type 0
  P = Told b facts p n

  abbrev Phrase : FormulaTree → Bindings → Type 0
  Phrase = PhraseTold b facts p n

  abbrev Leaves : Option Side → ℕ → Entries → ℕ → Type 0
  Leaves = LeavesTold b facts p n

  no_mark : (z : Side) → None ≡ Some z → p.is (other_side z) ≡ false
  no_mark z e = absurd (cc)

  no_name : (x : Variable) → None ≡ Some x → b.name x.name
  no_name x e = absurd (cc)

  leaves_told : (news : Entries) (items : ℕ) → Leaves None 0 news items → P (becomes news items)
  leaves_told news items h = record { facts_of = inl refl; mark = no_mark; name = no_name; news = λ l. inl (h, refl) }

  nothing_told : P (becomes none 0)
  nothing_told = leaves_told none 0 refl

  one_told : (f : FormulaTree) (env : Bindings) → Phrase f env → P (becomes (leaf (n.item 0) (Do f env) none) 1)
  one_told f env h = leaves_told _ 1 (refl, h, refl)

  knows_told : (xs fs : List Fact) → b.new_facts xs → addition facts xs ≡ adds fs → P (knows fs)
  knows_told xs fs h e = record { facts_of = inr (xs, h, e); mark = no_mark; name = no_name; news = λ l. inl (refl, refl) }

  region_told : (k : Holder) → HolderTold b facts p n k → (f : FormulaTree) (env : Bindings) → Phrase f env
      → P (with_region p.depth (node (n.item 1) k (new_head n.region) (leaf (n.item 0) (Do f env) none) no_region none none) 2)
  region_told k h f env x = cond_both (nat_lt p.depth region_limit) _ _ P
      (λ d. record {
        facts_of = inl refl;
        mark = no_mark;
        name = no_name;
        news = λ l. inr (record { holder = k; told = h; item = f; env = env; phrase = x; shallow = d; is = refl }, refl, refl);
      })
      (λ d. inr (inr refl))

  marking_told : (z : Side) (c : Bool) → p.is (other_side z) ≡ c → (news : Entries) (items : ℕ) → Leaves (Some z) 0 news items → P (marking z c p.depth news items)
  marking_told z true q news items h = refl
  marking_told z false q news items h = record {
    facts_of = inl refl;
    mark = λ x e. let s : z ≡ x = cc in subst (λ (y : Side). p.is (other_side y) ≡ false) s q;
    name = no_name;
    news = λ l. inl (h, refl);
  }

  if_told : (c : Bool) (o o' : PickOutcome) → P o → P o' → P (if c then o else o')
  if_told true o o' h h' = h
  if_told false o o' h h' = h'

  status_told : (o o' : PickOutcome) → (p.is Going ≡ true → P o) → P o' → P (by_status p o o')
  status_told o o' h h' = cond_both (p.is Going) _ _ P h (λ g. cond_both (p.is Ending) _ _ P (λ e. h') (λ e. ((refl, e, g, refl), tt)))

  value_told : (o : found.Outcome) (f : Tree → PickOutcome) → b.evaluated o → ((t : Tree) → b.evaluated (found.value t) → P (f t)) → P (with_value o f)
  value_told (found.value t) f u h = h t u
  value_told (found.wait q) f u h = (u, tt)
  value_told (found.fault k) f u h = tt
  value_told (found.over k) f u h = inl u

  truth_told : (o : found.Outcome) (f : Bool → PickOutcome) → b.evaluated o → ((c : Bool) → P (f c)) → P (with_truth o f)
  truth_told (found.value (truth c)) f u h = h c
  truth_told (found.wait q) f u h = (u, tt)
  truth_told (found.over k) f u h = inl u
  truth_told o f u h = tt

  number_told : (o : found.Outcome) (f : ℤ → PickOutcome) → b.evaluated o → ((k : ℤ) → b.evaluated (found.value (num k)) → P (f k)) → P (with_number o f)
  number_told (found.value (num k)) f u h = h k u
  number_told (found.wait q) f u h = (u, tt)
  number_told (found.over k) f u h = inl u
  number_told o f u h = tt

  -- equations
  abbrev PathOf : Target → Path
  PathOf (value_at q) = q
  PathOf (length_at q) = q

  abbrev Sets : Option Target → Type 0
  Sets None = Unit {0}
  Sets (Some t) = b.binding (place_binding (PathOf t))

  added_told : (xs : List Fact) → b.new_facts xs → (o : Addition) → addition facts xs ≡ o → P (added o)
  added_told xs h (adds news) e = knows_told xs news h e
  added_told xs h (refuses old new) e = (xs, h, e)

  set_told : (t : Target) (v : Tree) → Sets (Some t) → b.evaluated (found.value v) → P (set facts t v)
  set_told (value_at q) v h u = added_told _ (closed.sets q v h u) (addition facts (facts_at q v)) refl
  set_told (length_at q) (num (pos k)) h u = cond_both (nat_lt length_limit k) _ _ P (λ e. inr (inl refl)) (λ e. added_told _ (closed.lengthens q k h e) (addition facts (fact q (Items k) ∷ [])) refl)
  set_told (length_at q) t h u = tt

  meets_told : (c : Bool) (target : Option Target) (o : found.Outcome) (v : Tree) → Sets target → b.evaluated o → b.evaluated (found.value v) → P (meets facts (record { placed = c; target = target; found = o }) v)
  meets_told c (Some t) o v h u w = set_told t v h w
  meets_told c None (found.value t) v h u w = if_told (same_tree t v) _ _ nothing_told tt
  meets_told c None (found.wait q) v h u w = (u, tt)
  meets_told c None (found.fault k) v h u w = tt
  meets_told c None (found.over k) v h u w = inl u

  over_told : (t : Option Target) (q : Path) (k : LimitKind) → b.evaluated (found.wait q) → b.evaluated (found.over k) → P (passes_or_waits facts t q k)
  over_told (Some (value_at p)) q k u v = (u, tt)
  over_told (Some (length_at p)) q k u v = inl v
  over_told None q k u v = inl v

  equate_values_told : (l r : SideOf) → Sets l.target → Sets r.target → b.evaluated l.found → b.evaluated r.found → P (equate_values facts l r)
  equate_values_told l r tl tr = go l.found r.found where
    go : (x y : found.Outcome) → b.evaluated x → b.evaluated y → P (equate_values facts (record { placed = l.placed; target = l.target; found = x }) (record { placed = r.placed; target = r.target; found = y }))
    go x (found.fault k) u v = tt
    go (found.fault j) y u v = tt
    go (found.wait q) (found.over k) u v = over_told r.target q k u v
    go (found.over j) (found.wait q) u v = over_told l.target q j v u
    go x (found.over k) u v = inl v
    go (found.over j) y u v = inl u
    go x (found.value s) u v = meets_told l.placed l.target x s tl u v
    go (found.value t) (found.wait q) u v = meets_told r.placed r.target (found.wait q) t tr v u
    go (found.wait q) (found.wait s) u v = if_told (r.placed && not l.placed) _ _ (u, v) (v, u)

  -- two places
  items_told : (x y : Path) → AllBound b (both_places x y) → (m i from : ℕ)
      → ((j : ℕ) → i ≤ j → j < i + m → b.formula (equation (index (bound 0) (numeral (pos j))) (index (bound 1) (numeral (pos j)))) 2)
      → Leaves None from (all_do (item_equations m i) (both_places x y) n.item from) (from + count_of (item_equations m i))
  items_told x y bs zero i from h = omega arith
  items_told x y bs (suc m) i from h = (
    refl,
    (h i (omega arith) (omega arith), bs),
    subst (λ (c : ℕ). Leaves None (suc from) (all_do (item_equations m (suc i)) (both_places x y) n.item (suc from)) c) (let e : suc from + count_of (item_equations m (suc i)) ≡ from + suc (count_of (item_equations m (suc i))) = omega arith in e)
        (items_told x y bs m (suc i) (suc from) (λ j u v. h j (omega (arith, u)) (omega (arith, v)))),
  )

  shape_told : (x y q : Path) → AllBound b (both_places x y) → b.binding (place_binding q) → (sh : Shape) → kept_shape facts q ≡ Some sh → Leaves None 0 (all_do (shape_equations sh) (both_places x y) n.item 0) (count_of (shape_equations sh))
  shape_told x y q bs h (Items k) e =
      subst (λ (c : ℕ). Leaves None 0 (all_do (item_equations k 0) (both_places x y) n.item 0) c) (let z : 0 + count_of (item_equations k 0) ≡ count_of (item_equations k 0) = omega arith in z)
      (items_told x y bs k 0 0 (λ j u v. closed.shared q k j h e (omega (arith, v))))
  shape_told x y q bs h (Num z) e = refl
  shape_told x y q bs h (Truth c) e = refl

  shares_told : (x y : Path) (sh : Shape) → Leaves None 0 (all_do (shape_equations sh) (both_places x y) n.item 0) (count_of (shape_equations sh)) → (xs : List Fact) → b.new_facts xs → (o : Addition) → addition facts xs ≡ o → P (shares x y sh n o)
  shares_told x y sh h xs u (adds news) e = record { facts_of = inr (xs, u, e); mark = no_mark; name = no_name; news = λ l. inl (h, refl) }
  shares_told x y sh h xs u (refuses old new) e = (xs, u, e)

  places_told : (x y : Path) → b.binding (place_binding x) → b.binding (place_binding y) → P (equate_places facts x y n)
  places_told x y hx hy = cond_both (is_excluded facts y || is_excluded facts x) _ _ P (λ e. tt) (λ e. by (kept_shape facts y) (kept_shape facts x) refl refl (or_parts (is_excluded facts y) (is_excluded facts x) e))
    where
      by : (s t : Option Shape) → kept_shape facts y ≡ s → kept_shape facts x ≡ t → (is_excluded facts y ≡ false) × (is_excluded facts x ≡ false) → P (by_shapes facts x y n s t)
      by (Some sh) t u v e = shares_told x y sh (shape_told x y y (hx, (hy, tt)) hy sh u) _ (closed.shapes x y sh hx hy u) (addition facts (fact x sh ∷ [])) refl
      by None (Some sh) u v e = shares_told x y sh (shape_told x y x (hx, (hy, tt)) hx sh v) _ (closed.shapes y x sh hy hx v) (addition facts (fact y sh ∷ [])) refl
      by None None u v e = (closed.open_path y hy u e.0, closed.open_path x hx v e.1)

  equate_told : (l r : SideOf) → Sets l.target → Sets r.target → b.evaluated l.found → b.evaluated r.found → P (equate facts l r n)
  equate_told l r tl tr u v = by l.target r.target tl tr where
    by : (s t : Option Target) → Sets s → Sets t → P (equate facts (record { placed = l.placed; target = s; found = l.found }) (record { placed = r.placed; target = t; found = r.found }) n)
    by (Some (value_at x)) (Some (value_at y)) hs ht = places_told x y hs ht
    by (Some (value_at x)) (Some (length_at y)) hs ht = equate_values_told (record { placed = l.placed; target = Some (value_at x); found = l.found }) (record { placed = r.placed; target = Some (length_at y); found = r.found }) hs ht u v
    by (Some (value_at x)) None hs ht = equate_values_told (record { placed = l.placed; target = Some (value_at x); found = l.found }) (record { placed = r.placed; target = None; found = r.found }) hs ht u v
    by (Some (length_at x)) t hs ht = equate_values_told (record { placed = l.placed; target = Some (length_at x); found = l.found }) (record { placed = r.placed; target = t; found = r.found }) hs ht u v
    by None t hs ht = equate_values_told (record { placed = l.placed; target = None; found = l.found }) (record { placed = r.placed; target = t; found = r.found }) hs ht u v

  module _ (env : Bindings) (bs : AllBound b env) where
    abbrev Fit : ExprTree → Type 0
    Fit e = b.expr e (length env)

    value_of_told : (e : ExprTree) → Fit e → b.evaluated (outcome facts defs e env)
    value_of_told e h = closed.value e env h bs

    target_if_told : (target : Path → Target) → ((q : Path) → PathOf (target q) ≡ q) → (c : Bool) (e : ExprTree) → Fit e → Sets (target_if defs facts c target e env)
    target_if_told target same false e h = tt
    target_if_told target same true e h = go (place_outcome facts defs e env) (closed.place e env h bs) where
      go : (o : PlaceOutcome) → PlaceHas b o → Sets (target_at target o)
      go (found.path q) x = subst (λ (y : Path). b.binding (place_binding y)) (sym (same q)) x
      go (found.other o) x = tt

    target_told : (e : ExprTree) → Fit e → Sets (target_of defs facts e env)
    target_told (size e) h = target_if_told length_at (λ q. refl) (is_place e) e (closed.lists.sized e (length env) h)
    target_told e h = target_if_told value_at (λ q. refl) (is_place e) e h

    values_told : (es : ExprTrees) (f : List Tree → PickOutcome) → b.exprs es (length env) → ((vs : List Tree) → P (f vs)) → P (with_values defs facts es env f)
    values_told no_expr f h k = k []
    values_told (expr_then e es) f h k = value_told (outcome facts defs e env) _ (value_of_told e (closed.lists.first_expr e es _ h)) (λ v u. values_told es _ (closed.lists.other_exprs e es _ h) (λ vs. k (v ∷ vs)))

    place_told : (o : PlaceOutcome) → PlaceHas b o → (f : BindingTree → PickOutcome) → ((x : BindingTree) → b.binding x → P (f x)) → P (with_place o f)
    place_told (found.path q) h f k = k (place_binding q) h
    place_told (found.other o) h f k = value_told o _ h (λ v u. k (known_binding v) (closed.value_bound v u))

    argument_told : (x : List ℕ) (e : ExprTree) → Fit e → (f : BindingTree → PickOutcome) → ((y : BindingTree) → b.binding y → P (f y)) → P (with_argument defs facts x e env f)
    argument_told x e h f k = if_told (is_upper x) _ _ (place_told (place_outcome facts defs e env) (closed.place e env h bs) f k) (value_told (outcome facts defs e env) _ (value_of_told e h) (λ v u. k (known_binding v) (closed.value_bound v u)))

    arguments_told : (es : ExprTrees) (xs : List (List ℕ)) (f : Bindings → PickOutcome) → b.exprs es (length env) → ((ys : Bindings) → AllBound b ys → length ys ≡ length xs → P (f ys)) → P (with_arguments defs facts es xs env f)
    arguments_told no_expr [] f h k = k [] tt refl
    arguments_told (expr_then e es) (x ∷ xs) f h k =
        argument_told x e (closed.lists.first_expr e es _ h) _ (λ y u. arguments_told es xs _ (closed.lists.other_exprs e es _ h) (λ ys v q. k (y ∷ ys) (u, v) (ap suc q)))
    arguments_told x y f h k = tt

    called_told : (i : ℕ) (d : Option Definition) → slice_get defs i ≡ d → (es : ExprTrees) → b.exprs es (length env) → P (called defs facts d es env n)
    called_told i (Some d) e es h = arguments_told es d.parameters _ h (λ ys v q. one_told d.formula ys (subst (λ (j : ℕ). b.formula d.formula j) (sym q) (closed.body i d e), v))
    called_told i None e es h = tt

    length_told : (k : ℤ) → b.formula empty (length env) → ((j : ℕ) → b.formula (next (len (numeral (pos j)))) (length env)) → P (length_left k env n)
    length_told (pos zero) h g = one_told _ _ (h, bs)
    length_told (pos (suc k)) h g = one_told _ _ (g k, bs)
    length_told (negsuc k) h g = tt

    port_told : (v : Option Tree) (port : List ℕ) (x : ExprTree) → input_at inputs state port ≡ v → Fit x → b.name port → P (from_port facts v port (side_of defs facts x env))
    port_told None port x e h m = m
    port_told (Some v) port x e h m = equate_values_told (side_of defs facts x env) (side_with v) (target_told x h) tt (value_of_told x h) (closed.read port v e)

    all_told : (fs : FormulaTrees) (from : ℕ) → b.formulas fs (length env) → Leaves None from (all_do fs env n.item from) (from + count_of fs)
    all_told no_formula from h = omega arith
    all_told (formula_then f fs) from h = (refl, (closed.lists.first_formula f fs _ h, bs), subst (λ (c : ℕ). Leaves None (suc from) (all_do fs env n.item (suc from)) c) (let e : suc from + count_of fs ≡ from + suc (count_of fs) = omega arith in e) (all_told fs (suc from) (closed.lists.other_formulas f fs _ h)))

    -- one more binding
    under : (f : FormulaTree) (x : BindingTree) → b.formula f (suc (length env)) → b.binding x → Phrase f (env ++ x ∷ [])
    under f x h k = (subst (λ (m : ℕ). b.formula f m) (let q = length-append env (x ∷ []) in let e : suc (length env) ≡ length (env ++ x ∷ []) = omega (arith, q) in e) h, one_more b env x bs k)

    chosen : (c : Bool) (f g : FormulaTree) → b.formula f (length env) → b.formula g (length env) → b.formula (if c then f else g) (length env)
    chosen true f g h k = h
    chosen false f g h k = k

    row : (f : FormulaTree) → PartsOf b f (length env) → P (formula_step defs inputs state facts f env p n)
    row trivial h = nothing_told
    row (test e) h = truth_told _ _ (value_of_told e h) (λ c. if_told c _ _ nothing_told tt)
    row (equation l r) h = equate_told (side_of defs facts l env) (side_of defs facts r env) (target_told l h.0) (target_told r h.1) (value_of_told l h.0) (value_of_told r h.1)
    row (next_equation k t e) h = value_told _ _ (value_of_told e h.0) (λ v u. marking_told Going (p.is Ending) refl _ 1 (refl, ((h.1 v u, bs), inl refl), refl))
    row empty h = marking_told Ending (p.is Going) refl none 0 refl
    row more h = marking_told Going (p.is Ending) refl none 0 refl
    row (next f) h = marking_told Going (p.is Ending) refl _ 1 (refl, ((h, bs), inl refl), refl)
    row (weak_next f) h = status_told _ _ (λ g. leaves_told _ 1 (refl, ((h, bs), inr g), refl)) nothing_told
    row (if_more f) h = status_told _ _ (λ g. one_told f env (h, bs)) nothing_told
    row (if_empty f) h = status_told _ _ (λ g. nothing_told) (one_told f env (h, bs))
    row (always f) h = leaves_told _ 2 (refl, (h.0, bs), (refl, (h.1, bs), refl))
    row (conjunction fs) h = leaves_told _ _ (subst (λ (c : ℕ). Leaves None 0 (all_do fs env n.item 0) c) (let e : 0 + count_of fs ≡ count_of fs = omega arith in e) (all_told fs 0 h))
    row (branch e f g) h = truth_told _ _ (value_of_told e h.0) (λ c. one_told (if c then f else g) env (chosen c f g h.1 h.2, bs))
    row (len e) h = number_told _ _ (value_of_told e h.0) (λ k u. length_told k h.1 h.2)
    row (assign t e) h = value_told _ _ (value_of_told e h.0) (λ v u. one_told _ env (h.1 v u, bs))
    row (chop f g) h = region_told (Split g env) (h.1, bs) f env (h.0, bs)
    row (while e f) h = one_told _ env (h, bs)
    row (for_from x k e f) h = number_told _ _ (value_of_told e h.1.last) (λ m u. cond_both (int_le m k) _ _ P (λ l. one_told _ env (h.0, bs))
        (λ l. region_told (Split (for_from x (k +ℤ pos 1) (numeral m) f) env) (h.1.left m u l, bs) f _ (under f (known_binding (num k)) h.1.turn h.1.number)))
    row (forall_from x k e f) h = number_told _ _ (value_of_told e h.last) (λ m u. cond_both (int_le m k) _ _ P (λ l. nothing_told)
        (λ l. leaves_told _ 2 (refl, under f (known_binding (num k)) h.turn h.number, (refl, (h.left m u l, bs), refl))))
    row (project f g) h = region_told (Opened f env) (h.0, bs) g env (h.1, bs)
    row (exists x lasting f) h = record {
      facts_of = inl refl;
      mark = no_mark;
      name = λ y e. let s : record { name = x; lasting = lasting } ≡ y = cc in subst (λ (z : Variable). b.name z.name) s h.0;
      news = λ l. inl ((refl, under f _ h.1 (closed.local_bound (record { name = x; lasting = lasting }) l), refl), refl);
    }
    row (call i es) h = called_told i (slice_get defs i) refl es h
    row (input x port) h = port_told (input_at inputs state port) port x refl h.0 h.1
    row (display es) h = values_told es _ h (λ vs. leaves_told _ 1 (refl, tt, refl))

  pub formula_told : (f : FormulaTree) (env : Bindings) → PhraseTold b facts p n f env → P (formula_step defs inputs state facts f env p n)
  formula_told f env h = row env h.1 f (closed.parts f (length env) h.0)
