-- What each item becomes.
use Rattle.std.specs.Prelude.{ℤ, pos, negsuc, ◌+ℤ◌, int_le, ℕ, zero, suc, ◌-◌, nat_lt, Bool, true, false, ◌&&◌, ◌||◌, not, List, [], ◌∷◌, ◌++◌, Option, Some, None, slice_get, if◌then◌else◌}
use Rattle.tp_value.specs.Tree.{Tree, num, truth, list, same_tree}
use Rattle.tp_value.specs.Limits.{length_limit}
use Rattle.tp_value.specs.declared.path.Path.{Path}
use Rattle.tp_value.specs.declared.path.Fact.{Fact}
use Rattle.tp_value.specs.declared.value.Shape.{Shape}
use Rattle.tp_value.specs.declared.value.Shape.TheVariants.{Num, Truth, Items}
use Rattle.tp_kernel.specs.declared.fault.FaultKind.TheVariants.{WrongKind, NoElement}
use Rattle.tp_kernel.specs.declared.fault.LimitKind.{LimitKind}
use Rattle.tp_kernel.specs.declared.fault.LimitKind.TheVariants as limit
use Rattle.tp_meaning.specs.Syntax.{ExprTree, ExprTrees, no_expr, expr_then, numeral, known, bound, size, index, FormulaTree, FormulaTrees, trivial, test, equation, next_equation, empty, more, next, weak_next, if_more, if_empty, always, conjunction, branch, len, assign, chop, while, for_from, forall_from, project, exists, call, input, display, no_formula, formula_then, formulas_of, Definition, BindingTree, place_binding, known_binding}
use Rattle.tp_meaning.specs.Nexts.{nexts}
use Rattle.tp_meaning.specs.Value.{is_upper, number_of, truth_of}
use Rattle.tp_meaning.specs.Inputs.{InputTable, input_at}
use Rattle.tp_store.specs.Facts.{fact, facts_at, kept_shape, is_excluded}
use Rattle.tp_store.specs.Known.{Addition, adds, refuses, addition, Variable}
use Rattle.tp_eval.specs.Evaluate.{is_place}
use Rattle.tp_eval.specs.Outcome as found
use Rattle.tp_eval.specs.Outcome.{outcome, PlaceOutcome, place_outcome}
use Rattle.tp_scene.specs.declared.answer.Cell.{Cell}
use Rattle.tp_scene.specs.declared.answer.Cell.TheVariants.{Part, End}
use Rattle.tp_scene.specs.declared.answer.Clash.{Clash}
use Rattle.tp_scene.specs.declared.answer.Clash.TheVariants.{Facts, Marks, False, NoValue}
use Rattle.tp_scene.specs.Scene.{Bindings, Side, Ending, Going, Leaf, Do, Later, Shown, Holder, Split, SplitProject, Closed, Opened, Running, Entries, none, leaf, Region, new_head, split_then, closed_then, opened_then, running_then, Place}

-- What a reduction gives in place of the item: new entries, of which so many items and regions took
-- new numbers; perhaps a new local variable; perhaps a mark on the region where the item stands;
-- and new facts.
pub record Reduction : Type 0 where
  pub news : Entries
  pub items : ℕ
  pub regions : ℕ
  pub local : Option Variable
  pub mark : Option Side
  pub facts : List Fact

-- What comes of picking an item: it is reduced; it waits for a cell, and perhaps a second one; it
-- rests; it meets a clash; the inputs have no value for the port; or it passes a limit.
pub data PickOutcome : Type 0 where
  reduces : Reduction → PickOutcome
  waits : (first : Cell) (other : Option Cell) → PickOutcome
  rests : PickOutcome
  clashes : Clash → PickOutcome
  misses : (port : List ℕ) → PickOutcome
  passes : LimitKind → PickOutcome

-- The numbers that new items and regions take, in order, and that of a new local.
pub record Numbers : Type 0 where
  pub item : ℕ → ℕ
  pub region : ℕ
  pub local : ℕ

-- the greatest depth of a region
abbrev pub region_limit : ℕ
region_limit = 400

-- the item becomes these entries, of which so many items are new
abbrev pub becomes : (news : Entries) → (items : ℕ) → PickOutcome
becomes news n =
    reduces (record { news = news; items = n; regions = 0; local = None; mark = None; facts = [] })

abbrev pub vanishes : PickOutcome
vanishes = becomes none 0

abbrev pub knows : List Fact → PickOutcome
knows facts =
    reduces (record {
      news = none;
      items = 0;
      regions = 0;
      local = None;
      mark = None;
      facts = facts;
    })

-- The same, with a mark on the region. A region doesn't both end and go on.
abbrev pub marking : Side → (is_other : Bool) → (depth : ℕ) → (news : Entries) → (items : ℕ)
    → PickOutcome
marking z true depth news n = clashes (Marks depth)
marking z false depth news n =
    reduces (record {
      news = news;
      items = n;
      regions = 0;
      local = None;
      mark = Some z;
      facts = [];
    })

abbrev pub ending : Place → PickOutcome
ending p = marking Ending (p.is Going) p.depth none 0

abbrev pub going : Place → (news : Entries) → (items : ℕ) → PickOutcome
going p news n = marking Going (p.is Ending) p.depth news n

-- the item becomes these entries, with one new region
abbrev pub becomes_with_region : (news : Entries) → (items : ℕ) → PickOutcome
becomes_with_region news n =
    reduces (record { news = news; items = n; regions = 1; local = None; mark = None; facts = [] })

-- the same, where that region is one deeper than the item's
abbrev pub with_region : (depth : ℕ) → (news : Entries) → (items : ℕ) → PickOutcome
with_region depth news n =
    if nat_lt depth region_limit then becomes_with_region news n else passes limit.Nest

-- a region with this number and one item
abbrev pub region_of : (number id : ℕ) → FormulaTree → Bindings → Region
region_of number id f env = record { head = new_head number; entries = leaf id (Do f env) none }

-- by whether the region goes, ends, or neither is known
abbrev pub by_status : Place → (if_goes if_ends : PickOutcome) → PickOutcome
by_status p if_goes if_ends =
    if p.is Going then if_goes
    else (if p.is Ending then if_ends else waits (End p.region p.depth) None)

-- the outcome of an expression decides, or its value does
abbrev pub with_value : found.Outcome → (Tree → PickOutcome) → PickOutcome
with_value (found.value t) f = f t
with_value (found.wait p) f = waits (Part p) None
with_value (found.fault k) f = clashes (NoValue k)
with_value (found.over k) f = passes k

-- what a value is, where it is of the kind that is wanted
abbrev pub of_wanted : {A : Type 0} → Option A → (A → PickOutcome) → PickOutcome
of_wanted (Some x) f = f x
of_wanted None f = clashes (NoValue WrongKind)

abbrev pub with_truth : found.Outcome → (Bool → PickOutcome) → PickOutcome
with_truth o f = with_value o (λ t. of_wanted (truth_of t) f)

abbrev pub with_number : found.Outcome → (ℤ → PickOutcome) → PickOutcome
with_number o f = with_value o (λ t. of_wanted (number_of t) f)

-- What an equation can set: the value at a path, or the length of the list there.
pub data Target : Type 0 where
  value_at : Path → Target
  length_at : Path → Target

abbrev pub target_at : (Path → Target) → PlaceOutcome → Option Target
target_at target (found.path p) = Some (target p)
target_at target (found.other o) = None

abbrev pub added : Addition → PickOutcome
added (adds facts) = knows facts
added (refuses kept new) = clashes (Facts kept new)

-- the items of a conjunction
abbrev pub all_do : FormulaTrees → Bindings → (number : ℕ → ℕ) → (from : ℕ) → Entries
all_do no_formula env number k = none
all_do (formula_then f fs) env number k = leaf (number k) (Do f env) (all_do fs env number (suc k))

abbrev pub count_of : FormulaTrees → ℕ
count_of no_formula = 0
count_of (formula_then f fs) = suc (count_of fs)

-- The items of one place equal those of another, m of them from item i on, where the two places are
-- what is bound first and second.
abbrev pub item_equations : (m i : ℕ) → FormulaTrees
item_equations zero i = no_formula
item_equations (suc m) i =
    formula_then (equation (index (bound 0) (numeral (pos i))) (index (bound 1) (numeral (pos i))))
    (item_equations m (suc i))

-- what is left to say of two places with this shape, so that they are equal
abbrev pub shape_equations : Shape → FormulaTrees
shape_equations (Items k) = item_equations k 0
shape_equations (Num n) = no_formula
shape_equations (Truth b) = no_formula

abbrev pub both_places : (left right : Path) → Bindings
both_places p q = place_binding p ∷ place_binding q ∷ []

-- The shape that one of two places has is the other's too, and their items are equal; by what comes
-- of adding the other's fact.
abbrev pub shares : (left right : Path) → Shape → Numbers → Addition → PickOutcome
shares p q sh n (adds facts) =
    reduces (record {
      news = all_do (shape_equations sh) (both_places p q) n.item 0;
      items = count_of (shape_equations sh);
      regions = 0;
      local = None;
      mark = None;
      facts = facts;
    })
shares p q sh n (refuses kept new) = clashes (Facts kept new)

-- a side of an equation: whether it is a place or the size of one, what it can set, and its outcome
pub record SideOf : Type 0 where
  pub placed : Bool
  pub target : Option Target
  pub found : found.Outcome

-- the side has a value that was found
abbrev pub side_with : Tree → SideOf
side_with v = record { placed = false; target = None; found = found.value v }

module _ (facts : List Fact) where
  -- the target gets this value
  abbrev pub set : Target → Tree → PickOutcome
  set (value_at p) v = added (addition facts (facts_at p v))
  set (length_at p) (num (pos n)) =
      if nat_lt length_limit n then passes limit.List
      else added (addition facts (fact p (Items n) ∷ []))
  set (length_at p) (num (negsuc n)) = clashes False
  set (length_at p) (truth b) = clashes (NoValue WrongKind)
  set (length_at p) (list ts) = clashes (NoValue WrongKind)

  -- The other side has this value: where this side can be set it is set, else the two are compared.
  abbrev pub meets : SideOf → Tree → PickOutcome
  meets side v = by_target side.target side.found
    where
      by_target : Option Target → found.Outcome → PickOutcome
      by_target (Some t) o = set t v
      by_target None (found.value u) = if same_tree u v then vanishes else clashes False
      by_target None (found.wait p) = waits (Part p) None
      by_target None (found.fault k) = clashes (NoValue k)
      by_target None (found.over k) = passes k

  -- Both sides wait, for p on the left and for q on the right.
  abbrev pub both_wait : (left_placed right_placed : Bool) → (p q : Path) → PickOutcome
  both_wait l r p q =
      if r && not l then waits (Part p) (Some (Part q)) else waits (Part q) (Some (Part p))

  -- Two places: the right one's shape is the left one's too; or the left one's is the right one's;
  -- or neither has a shape yet.
  abbrev pub by_shapes : (left right : Path) → Numbers → (of_right of_left : Option Shape)
      → PickOutcome
  by_shapes p q n (Some sh) other = shares p q sh n (addition facts (fact p sh ∷ []))
  by_shapes p q n None (Some sh) = shares p q sh n (addition facts (fact q sh ∷ []))
  by_shapes p q n None None = waits (Part q) (Some (Part p))

  -- Two places are equal item by item, as soon as one of them has a shape, where both can be there.
  abbrev pub equate_places : (left right : Path) → Numbers → PickOutcome
  equate_places p q n =
      if is_excluded facts q || is_excluded facts p then clashes (NoValue NoElement)
      else by_shapes p q n (kept_shape facts q) (kept_shape facts p)

  -- One side waits, and the other passes a limit. Where that other side is a place, its value may
  -- not be needed: what waits may come to a place too.
  abbrev pub passes_or_waits : (passing : Option Target) → (waiting : Path) → LimitKind
      → PickOutcome
  passes_or_waits (Some (value_at q)) p k = waits (Part p) None
  passes_or_waits (Some (length_at q)) p k = passes k
  passes_or_waits None p k = passes k

  -- Two sides by what is found of them. A fault of the right side comes before one of the left
  -- side, a fault before a limit, and either before anything else. Then a value on the right
  -- decides before one on the left.
  abbrev pub equate_values : SideOf → SideOf → PickOutcome
  equate_values l r = by_outcomes l.found r.found
    where
      by_outcomes : (left right : found.Outcome) → PickOutcome
      by_outcomes o (found.fault k) = clashes (NoValue k)
      by_outcomes (found.fault k) o = clashes (NoValue k)
      by_outcomes (found.wait p) (found.over k) = passes_or_waits r.target p k
      by_outcomes (found.over k) (found.wait q) = passes_or_waits l.target q k
      by_outcomes o (found.over k) = passes k
      by_outcomes (found.over k) o = passes k
      by_outcomes o (found.value v) = meets l v
      by_outcomes (found.value v) (found.wait q) = meets r v
      by_outcomes (found.wait p) (found.wait q) = both_wait l.placed r.placed p q

  -- An equation: two places are equal by shape, anything else by value.
  abbrev pub equate : SideOf → SideOf → Numbers → PickOutcome
  equate l r n = by_targets l.target r.target
    where
      by_targets : (left right : Option Target) → PickOutcome
      by_targets (Some (value_at p)) (Some (value_at q)) = equate_places p q n
      by_targets left right = equate_values l r

  -- the side has the value that the port has, if it has one
  abbrev pub from_port : Option Tree → (port : List ℕ) → SideOf → PickOutcome
  from_port None port side = misses port
  from_port (Some v) port side = equate_values side (side_with v)

abbrev pub is_placed : ExprTree → Bool
is_placed (size e) = is_place e
is_placed e = is_place e

abbrev pub with_place : PlaceOutcome → (BindingTree → PickOutcome) → PickOutcome
with_place (found.path p) f = f (place_binding p)
with_place (found.other o) f = with_value o (λ v. f (known_binding v))

abbrev pub length_left : ℤ → Bindings → Numbers → PickOutcome
length_left (pos zero) env n = becomes (leaf (n.item 0) (Do empty env) none) 1
length_left (pos (suc k)) env n =
    becomes (leaf (n.item 0) (Do (next (len (numeral (pos k)))) env) none) 1
length_left (negsuc k) env n = clashes False

-- a loop's turns from k to below m
abbrev pub turns : (name : List ℕ) → (k m : ℤ) → FormulaTree → Bindings → Place → Numbers
    → PickOutcome
turns name k m f env p n =
    if int_le m k then becomes (leaf (n.item 0) (Do empty env) none) 1
    else with_region p.depth
    (split_then (n.item 1) (region_of n.region (n.item 0) f (env ++ known_binding (num k) ∷ []))
    (for_from name (k +ℤ pos 1) (numeral m) f) env none) 2

abbrev pub instances : (name : List ℕ) → (k m : ℤ) → FormulaTree → Bindings → Numbers → PickOutcome
instances name k m f env n =
    if int_le m k then vanishes
    else becomes (leaf (n.item 0) (Do f (env ++ known_binding (num k) ∷ []))
    (leaf (n.item 1) (Do (forall_from name (k +ℤ pos 1) (numeral m) f) env) none)) 2

-- Said where these facts are known.
module _ (defs : List Definition) (facts : List Fact) where
  abbrev pub value_of : ExprTree → Bindings → found.Outcome
  value_of e env = outcome facts defs e env

  abbrev pub target_if : Bool → (Path → Target) → ExprTree → Bindings → Option Target
  target_if true target e env = target_at target (place_outcome facts defs e env)
  target_if false target e env = None

  -- what an equation can set by a side of this form
  abbrev pub target_of : ExprTree → Bindings → Option Target
  target_of (size e) env = target_if (is_place e) length_at e env
  target_of e env = target_if (is_place e) value_at e env

  abbrev pub side_of : ExprTree → Bindings → SideOf
  side_of e env = record { placed = is_placed e; target = target_of e env; found = value_of e env }

  -- the values of expressions from left to right, or the outcome of the first that has none
  abbrev pub with_values : ExprTrees → Bindings → (List Tree → PickOutcome) → PickOutcome
  with_values no_expr env f = f []
  with_values (expr_then e es) env f =
      with_value (value_of e env) (λ v. with_values es env (λ vs. f (v ∷ vs)))

  abbrev pub with_argument : (name : List ℕ) → ExprTree → Bindings → (BindingTree → PickOutcome)
      → PickOutcome
  with_argument x e env f =
      if is_upper x then with_place (place_outcome facts defs e env) f
      else with_value (value_of e env) (λ v. f (known_binding v))

  -- what the parameters are bound to, from left to right
  abbrev pub with_arguments : ExprTrees → List (List ℕ) → Bindings → (Bindings → PickOutcome)
      → PickOutcome
  with_arguments no_expr [] env f = f []
  with_arguments (expr_then e es) (x ∷ xs) env f =
      with_argument x e env (λ b. with_arguments es xs env (λ bs. f (b ∷ bs)))
  with_arguments no_expr (x ∷ xs) env f = clashes (NoValue NoElement)
  with_arguments (expr_then e es) [] env f = clashes (NoValue NoElement)

  abbrev pub called : Option Definition → ExprTrees → Bindings → Numbers → PickOutcome
  called (Some d) es env n =
      with_arguments es d.parameters env
      (λ args. becomes (leaf (n.item 0) (Do d.formula args) none) 1)
  called None es env n = clashes (NoValue NoElement)

-- Said in a state with this number of its own, where these facts are known.
module _ (defs : List Definition) (inputs : InputTable) (state : ℕ) (facts : List Fact) where
  -- what a formula that is to hold from this state on becomes
  abbrev pub formula_step : FormulaTree → Bindings → Place → Numbers → PickOutcome
  formula_step trivial env p n = vanishes
  formula_step (test e) env p n =
      with_truth (value_of defs facts e env) (λ b. if b then vanishes else clashes False)
  formula_step (equation l r) env p n =
      equate facts (side_of defs facts l env) (side_of defs facts r env) n
  formula_step (next_equation k t e) env p n =
      with_value (value_of defs facts e env)
      (λ v. going p (leaf (n.item 0) (Later (nexts (k - 1) (equation t (known v))) env) none) 1)
  formula_step empty env p n = ending p
  formula_step more env p n = going p none 0
  formula_step (next f) env p n = going p (leaf (n.item 0) (Later f env) none) 1
  formula_step (weak_next f) env p n =
      by_status p (becomes (leaf (n.item 0) (Later f env) none) 1) vanishes
  formula_step (if_more f) env p n =
      by_status p (becomes (leaf (n.item 0) (Do f env) none) 1) vanishes
  formula_step (if_empty f) env p n =
      by_status p vanishes (becomes (leaf (n.item 0) (Do f env) none) 1)
  formula_step (always f) env p n =
      becomes (leaf (n.item 0) (Do f env) (leaf (n.item 1) (Do (weak_next (always f)) env) none)) 2
  formula_step (conjunction fs) env p n = becomes (all_do fs env n.item 0) (count_of fs)
  formula_step (branch e f g) env p n =
      with_truth (value_of defs facts e env)
      (λ b. becomes (leaf (n.item 0) (Do (if b then f else g) env) none) 1)
  formula_step (len e) env p n = with_number (value_of defs facts e env) (λ k. length_left k env n)
  formula_step (assign t e) env p n =
      with_value (value_of defs facts e env)
      (λ v. becomes (leaf (n.item 0) (Do (always (if_empty (equation t (known v)))) env) none) 1)
  formula_step (chop f g) env p n =
      with_region p.depth (split_then (n.item 1) (region_of n.region (n.item 0) f env) g env none) 2
  formula_step (while e f) env p n =
      becomes (leaf (n.item 0)
      (Do (branch e (chop (conjunction (formulas_of (f ∷ more ∷ []))) (while e f)) empty) env) none)
      1
  formula_step (for_from name k e f) env p n =
      with_number (value_of defs facts e env) (λ m. turns name k m f env p n)
  formula_step (forall_from name k e f) env p n =
      with_number (value_of defs facts e env) (λ m. instances name k m f env n)
  formula_step (project f g) env p n =
      with_region p.depth (opened_then (n.item 1) (region_of n.region (n.item 0) g env) f env none)
      2
  formula_step (exists name lasting f) env p n =
      reduces (record {
        news = leaf (n.item 0)
            (Do f (env ++ place_binding
            (record { var = record { number = n.local; lasting = lasting }; at = [] }) ∷ [])) none;
        items = 1;
        regions = 0;
        local = Some (record { name = name; lasting = lasting });
        mark = None;
        facts = [];
      })
  formula_step (call i es) env p n = called defs facts (slice_get defs i) es env n
  formula_step (input x port) env p n =
      from_port facts (input_at inputs state port) port (side_of defs facts x env)
  formula_step (display es) env p n =
      with_values defs facts es env (λ vs. becomes (leaf (n.item 0) (Shown vs) none) 1)

  abbrev pub leaf_step : Leaf → Place → Numbers → PickOutcome
  leaf_step (Do f env) p n = formula_step f env p n
  leaf_step (Later f env) p n = rests
  leaf_step (Shown vs) p n = rests

  -- What an item with a region becomes, by the place of that region's items. `held` and `second`
  -- are the regions.
  abbrev pub holder_step : Holder → (held second : Region) → Place → Numbers → PickOutcome
  holder_step (Split f env) held second q n =
      by_status q rests (becomes (closed_then (n.item 0) held (leaf (n.item 1) (Do f env) none)) 2)
  holder_step (SplitProject f env) held second q n =
      by_status q rests (becomes
      (closed_then (n.item 0) held (opened_then (n.item 1) second f env none)) 2)
  holder_step Closed held second q n = rests
  holder_step (Opened f env) held second q n =
      by_status q (becomes_with_region
      (running_then (n.item 2)
      (record {
        head = new_head n.region;
        entries = leaf (n.item 0) (Do f env) (leaf (n.item 1) (Do more env) none);
      }) held f env
      none) 3) rests
  holder_step (Running f env) held second q n = rests
