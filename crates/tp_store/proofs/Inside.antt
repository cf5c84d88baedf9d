-- The facts of a value speak of each path of its variable: one has the path, or excludes it.
use Rattle.std.proofs.Common.{◌≡◌, inl, inr, ℕ, zero, suc, ◌+◌, ◌≤◌, true, false, not, eqb, nat_le, List, [], ◌∷◌, ◌++◌, length, Option, Some, None, slice_get, refl, ap, sym, ◌∙◌, subst, arith, append_assoc, append-nil}
use Rattle.std.specs.Option.{option_and_then}
use Rattle.std.proofs.lemmas.Bool.{and_from, and_parts, eq-eqb, le-ltb, leb-true}
use Rattle.tp_value.specs.Tree.{Tree, Trees, num, truth, list, nil, cons, items_of}
use Rattle.tp_value.specs.Limits.{items_in, items_within, item_limit, depth_of, value_depth_limit, is_within_list_limit}
use Rattle.tp_value.specs.ShortLists.{HasShortLists, HaveShortLists}
use Rattle.tp_value.specs.Shape.{shape_of, item_of, item_at}
use Rattle.tp_value.specs.declared.value.Shape.{Shape}
use Rattle.tp_value.specs.declared.path.VarId.{VarId}
use Rattle.tp_value.specs.declared.path.Path.{Path}
use Rattle.tp_value.specs.declared.path.Fact.{Fact}
use Rattle.tp_store.specs.Facts.{same_variable, has_item, leaves_out, is_excluded, item_path, fact, facts_at, facts_of_items}
use Rattle.tp_store.specs.Nodes.{path_along}
use Rattle.tp_store.proofs.Paths.{same_variable-decides}
use Rattle.tp_store.proofs.Members.{In, in_left, in_right, excluded_from}

-- the path of an element of what stands at a path
abbrev below : Path → List ℕ → Path
below p ks = path_along p.var (p.at ++ ks)

own_fact : (p : Path) (t : Tree) → In (fact p (shape_of t)) (facts_at p t)
own_fact p (num n) = inl refl
own_fact p (truth b) = inl refl
own_fact p (list ts) = inl refl

-- the facts of an item are some of the list's
of_an_item : (p : Path) (f : Fact) (j : ℕ) (ts : Trees) (k i : ℕ) (v : Tree) → slice_get (items_of ts) k ≡ Some v → i ≡ j + k → In f (facts_at (item_path p i) v) → In f (facts_of_items p j ts)
of_an_item p f j nil k i v h e here = absurd (cc h)
of_an_item p f j (cons t ts) zero i v h e here =
    let first : v ≡ t = cc h in
    let same : i ≡ j = omega (arith, e) in
    let at_place : In f (facts_at (item_path p j) v) = subst (λ n. In f (facts_at (item_path p n) v)) same here in
    in_left f (facts_at (item_path p j) t) (facts_of_items p (suc j) ts) (subst (λ u. In f (facts_at (item_path p j) u)) first at_place)
of_an_item p f j (cons t ts) (suc k) i v h e here =
    let next : i ≡ suc j + k = omega (arith, e) in
    in_right f (facts_at (item_path p j) t) (facts_of_items p (suc j) ts) (of_an_item p f (suc j) ts k i v h next here)

item_in : (p : Path) (f : Fact) (t v : Tree) (k : ℕ) → item_of t k ≡ Some v → In f (facts_at (item_path p k) v) → In f (facts_at p t)
item_in p f (num n) v k h here = absurd (cc h)
item_in p f (truth b) v k h here = absurd (cc h)
item_in p f (list ts) v k h here = inr (of_an_item p f 0 ts k k v h (omega arith) here)

further : (p : Path) (k : ℕ) (ks : List ℕ) → (p.at ++ k ∷ []) ++ ks ≡ p.at ++ k ∷ ks
further p k ks = append_assoc p.at (k ∷ []) ks

element_in : (at : List ℕ) (p : Path) (t u : Tree) → item_at at t ≡ Some u → In (fact (below p at) (shape_of u)) (facts_at p t)
element_in [] p t u h =
    let same : t ≡ u = cc h in
    let here : p.at ≡ p.at ++ [] = sym (append-nil p.at) in
    let P : List ℕ → Type 0 = λ ks. In (fact (path_along p.var ks) (shape_of u)) (facts_at p t) in
    subst P here (subst (λ w. In (fact p (shape_of w)) (facts_at p t)) same (own_fact p t))
element_in (k ∷ ks) p t u h =
    let f = fact (below p (k ∷ ks)) (shape_of u) in
    let P : Option Tree → Type 0 = λ o. item_of t k ≡ o → option_and_then (item_at ks) o ≡ Some u → In f (facts_at p t) in
    let none : P None = λ e q. absurd (cc q) in
    let some : (v : Tree) → P (Some v) = λ v e q. item_in p f t v k e (subst (λ js. In (fact (path_along p.var js) (shape_of u)) (facts_at (item_path p k) v)) (further p k ks) (element_in ks (item_path p k) v u q)) in
    let cases : P (item_of t k) = elim (item_of t k) as P [ None ↦ none | Some v ↦ some v ] in
    cases refl h

-- a fact of the value leaves no element there
record LeavesOut (p : Path) (t : Tree) (at : List ℕ) : Type 0 where
  by : Fact
  is_in : In by (facts_at p t)
  variable : by.path.var ≡ p.var
  out : leaves_out by.path.at by.shape (p.at ++ at) ≡ true

no_item_left : (at : List ℕ) (sh : Shape) (k : ℕ) (ks : List ℕ) → has_item sh k ≡ false → leaves_out at sh (at ++ k ∷ ks) ≡ true
no_item_left [] sh k ks h = ap not h
no_item_left (j ∷ js) sh k ks h = and_from (eqb j j) (leaves_out js sh (js ++ k ∷ ks)) (eq-eqb j j refl) (no_item_left js sh k ks h)

past_items : (ts : List Tree) (k : ℕ) → slice_get ts k ≡ None → length ts ≤ k
past_items [] k h = omega arith
past_items (t ∷ ts) zero h = absurd (cc h)
past_items (t ∷ ts) (suc k) h = let rest = past_items ts k h in omega (arith, rest)

lacks_index : (t : Tree) (k : ℕ) → item_of t k ≡ None → has_item (shape_of t) k ≡ false
lacks_index (num n) k h = refl
lacks_index (truth b) k h = refl
lacks_index (list ts) k h = le-ltb k (length (items_of ts)) (past_items (items_of ts) k h)

leaves_element : (at : List ℕ) (p : Path) (t : Tree) → item_at at t ≡ None → LeavesOut p t at
leaves_element [] p t h = absurd (cc h)
leaves_element (k ∷ ks) p t h =
    let P : Option Tree → Type 0 = λ o. item_of t k ≡ o → option_and_then (item_at ks) o ≡ None → LeavesOut p t (k ∷ ks) in
    let none : P None = λ e q. record { by = fact p (shape_of t); is_in = own_fact p t; variable = refl; out = no_item_left p.at (shape_of t) k ks (lacks_index t k e) } in
    let some : (v : Tree) → P (Some v) = λ v e q.
    (let r = leaves_element ks (item_path p k) v q in
    record { by = r.by; is_in = item_in p r.by t v k e r.is_in; variable = r.variable; out = ap (leaves_out r.by.path.at r.by.shape) (sym (further p k ks)) ∙ r.out }) in
    let cases : P (item_of t k) = elim (item_of t k) as P [ None ↦ none | Some v ↦ some v ] in
    cases refl h

-- what stands at a path in the value of a variable has its shape by a fact of the value
pub path_in_value : (x : VarId) (t : Tree) (at : List ℕ) (u : Tree) → item_at at t ≡ Some u → In (fact (path_along x at) (shape_of u)) (facts_at (path_along x []) t)
path_in_value x t at u h = element_in at (path_along x []) t u h

-- and where nothing stands, a fact of the value excludes the path
pub path_outside : (x : VarId) (t : Tree) (at : List ℕ) → item_at at t ≡ None → is_excluded (facts_at (path_along x []) t) (path_along x at) ≡ true
path_outside x t at h =
    let r = leaves_element at (path_along x []) t h in
    excluded_from (facts_at (path_along x []) t) (path_along x at) r.by r.is_in
    (and_from (same_variable r.by.path.var x) (leaves_out r.by.path.at r.by.shape at) ((same_variable-decides r.by.path.var x).1 r.variable) r.out)

-- all facts of what stands at a path are facts of the value
elements_in : (at : List ℕ) (p : Path) (t u : Tree) → item_at at t ≡ Some u → (f : Fact) → In f (facts_at (below p at) u) → In f (facts_at p t)
elements_in [] p t u h f i =
    let same : u ≡ t = sym (cc h) in
    let P : List ℕ → Type 0 = λ ks. In f (facts_at (path_along p.var ks) u) in
    subst (λ w. In f (facts_at p w)) same (subst P (append-nil p.at) i)
elements_in (k ∷ ks) p t u h f i =
    let P : Option Tree → Type 0 = λ o. item_of t k ≡ o → option_and_then (item_at ks) o ≡ Some u → In f (facts_at p t) in
    let none : P None = λ e q. absurd (cc q) in
    let some : (v : Tree) → P (Some v) = λ v e q. item_in p f t v k e (elements_in ks (item_path p k) v u q f (subst (λ js. In f (facts_at (path_along p.var js) u)) (sym (further p k ks)) i)) in
    let cases : P (item_of t k) = elim (item_of t k) as P [ None ↦ none | Some v ↦ some v ] in
    cases refl h

pub facts_inside : (x : VarId) (t : Tree) (at : List ℕ) (u : Tree) → item_at at t ≡ Some u → (f : Fact) → In f (facts_at (path_along x at) u) → In f (facts_at (path_along x []) t)
facts_inside x t at u h f i = elements_in at (path_along x []) t u h f i

-- the lists of a value within the limit are short
mutual
  lists_short : (t : Tree) → items_in t ≤ item_limit → HasShortLists t
  lists_short (num n) h = tt
  lists_short (truth b) h = tt
  lists_short (list ts) h =
      let within : items_within ts ≤ item_limit = h in
      let few = no_more_items ts in (omega (arith, within, few), all_short ts within)

  all_short : (ts : Trees) → items_within ts ≤ item_limit → HaveShortLists ts
  all_short nil h = tt
  all_short (cons t ts) h = (lists_short t (omega (arith, h)), all_short ts (omega (arith, h)))

  no_more_items : (ts : Trees) → length (items_of ts) ≤ items_within ts
  no_more_items nil = omega arith
  no_more_items (cons t ts) = let rest = no_more_items ts in omega (arith, rest)

pub short_lists : (t : Tree) → is_within_list_limit t ≡ true → HasShortLists t
short_lists t h = lists_short t (leb-true (items_in t) item_limit (and_parts (nat_le (depth_of t) value_depth_limit) (nat_le (items_in t) item_limit) h).1)
