-- Below a value that is known as a whole, each path has a shape or is excluded; and a path that is open below another is of its variable.
use Rattle.std.proofs.Common.{◌≡◌, ℕ, zero, suc, ◌+◌, ◌≤◌, ◌<◌, inl, inr, Bool, true, false, not, eqb, List, [], ◌∷◌, ◌++◌, Option, Some, None, refl, sym, ap, subst, ◌∙◌, arith, append-nil, append_assoc, if◌then◌else◌}
use Rattle.std.proofs.lemmas.Bool.{cases_lt, and_from, both_ways, eq-eqb, le-ltb}
use Rattle.tp_value.specs.Tree.{Tree}
use Rattle.tp_value.specs.Limits.{is_within_list_limit}
use Rattle.tp_value.specs.declared.value.Shape.{Shape}
use Rattle.tp_value.specs.declared.value.Shape.TheVariants.{Num, Truth, Items}
use Rattle.tp_value.specs.declared.path.Path.{Path}
use Rattle.tp_value.specs.declared.path.Fact.{Fact}
use Rattle.tp_store.specs.Facts.{same_variable, has_item, leaves_out, kept_shape, is_excluded, item_path, fact}
use Rattle.tp_store.specs.Known.{Whole, WholeItems, known, open_at, all_known, item_open_at, and_items, list_of_items, items_known, with_shape, whole, deepest, limited, full, absent, undecided, too_long, value}
use Rattle.tp_store.proofs.Members.{kept_in, excluded_from}
use Rattle.tp_store.proofs.Paths.{same_variable-decides}

-- what stands at further indices
abbrev pub beyond : Path → List ℕ → Path
beyond p ks = record { var = p.var; at = p.at ++ ks }

leaves : (at : List ℕ) (sh : Shape) (k : ℕ) (ks : List ℕ) → has_item sh k ≡ false → leaves_out at sh (at ++ k ∷ ks) ≡ true
leaves [] sh k ks e = ap not e
leaves (j ∷ at) sh k ks e = and_from (eqb j j) (leaves_out at sh (at ++ k ∷ ks)) (eq-eqb j j refl) (leaves at sh k ks e)

-- the parts of a list of items
parts_known : (w : Whole) (rest : WholeItems) (ts : List Tree) → and_items w rest ≡ all_known ts → (u : Tree) × (us : List Tree) × (w ≡ known u) × (rest ≡ all_known us)
parts_known (open_at q) rest ts h = absurd (cc)
parts_known (known u) (item_open_at q) ts h = absurd (cc)
parts_known (known u) (all_known us) ts h = (u, us, refl, refl)

item_known : (item : Path → Whole) (p : Path) (m k : ℕ) (ts : List Tree) → items_known item p m k ≡ all_known ts → (j : ℕ) → k ≤ j → j < m + k → (u : Tree) × (item (item_path p j) ≡ known u)
item_known item p zero k ts h j l u = absurd (omega (arith, l, u))
item_known item p (suc m) k ts h j l u =
    let r = parts_known (item (item_path p k)) (items_known item p m (suc k)) ts h in
    elim (cases_lt k j) [
      | inl x ↦ item_known item p m (suc k) r.1 r.3 j x (omega (arith, u))
      | inr x ↦ (let y : k ≡ j = omega (arith, l, x) in (r.0, subst (λ (i : ℕ). item (item_path p i) ≡ known r.0) y r.2))
    ]

list_known : (w : WholeItems) (t : Tree) → list_of_items w ≡ known t → (ts : List Tree) × (w ≡ all_known ts)
list_known (all_known ts) t h = (ts, refl)
list_known (item_open_at q) t h = absurd (cc)

open_list : (w : WholeItems) (q : Path) → list_of_items w ≡ open_at q → w ≡ item_open_at q
open_list (all_known ts) q h = absurd (cc)
open_list (item_open_at r) q h = let s : r ≡ q = cc in ap item_open_at s

items_var : (item : Path → Whole) (p q : Path) → ((j : ℕ) → item (item_path p j) ≡ open_at q → q.var ≡ p.var) → (m k : ℕ) → items_known item p m k ≡ item_open_at q → q.var ≡ p.var
items_var item p q h zero k e = absurd (cc)
items_var item p q h (suc m) k e = by (item (item_path p k)) (items_known item p m (suc k)) (h k) (items_var item p q h m (suc k)) e
  where
    by : (w : Whole) (rest : WholeItems) → (w ≡ open_at q → q.var ≡ p.var) → (rest ≡ item_open_at q → q.var ≡ p.var) → and_items w rest ≡ item_open_at q → q.var ≡ p.var
    by (open_at r) rest f g x = let s : r ≡ q = cc in f (ap open_at s)
    by (known t) (item_open_at r) f g x = let s : r ≡ q = cc in g (ap item_open_at s)
    by (known t) (all_known ts) f g x = absurd (cc)

module _ (facts : List Fact) where
  -- the path has no shape, and isn't excluded
  abbrev IsMissing : Path → Type 0
  IsMissing p = (kept_shape facts p ≡ None) × (is_excluded facts p ≡ false)

  not_here : (p : Path) (sh : Shape) → kept_shape facts p ≡ Some sh → IsMissing (beyond p []) → ⊥
  not_here p sh e m =
      let path : List ℕ → Path = λ at. record { var = p.var; at = at } in
      let none = ap (λ at. kept_shape facts (path at)) (sym (append-nil p.at)) ∙ m.0 in
      let both : Some sh ≡ None = sym e ∙ none in absurd (cc)

  not_beyond : (p : Path) (sh : Shape) (k : ℕ) (ks : List ℕ) → kept_shape facts p ≡ Some sh → has_item sh k ≡ false → IsMissing (beyond p (k ∷ ks)) → ⊥
  not_beyond p sh k ks e out m = both_ways (is_excluded facts (beyond p (k ∷ ks))) m.1
      (excluded_from facts (beyond p (k ∷ ks)) (fact p sh) (kept_in facts p sh e)
      (and_from (same_variable p.var p.var) (leaves_out p.at sh (p.at ++ k ∷ ks)) ((same_variable-decides p.var p.var).1 refl) (leaves p.at sh k ks out)))

  no_items : (p : Path) (sh : Shape) → kept_shape facts p ≡ Some sh → ((k : ℕ) → has_item sh k ≡ false) → (ks : List ℕ) → IsMissing (beyond p ks) → ⊥
  no_items p sh e out [] m = not_here p sh e m
  no_items p sh e out (k ∷ ks) m = not_beyond p sh k ks e (out k) m

  module _ (d : ℕ) (below : (p : Path) (t : Tree) → whole d facts p ≡ known t → (ks : List ℕ) → IsMissing (beyond p ks) → ⊥) where
    items_there : (p : Path) (n : ℕ) (ts : List Tree) → kept_shape facts p ≡ Some (Items n) → items_known (whole d facts) p n 0 ≡ all_known ts → (ks : List ℕ) → IsMissing (beyond p ks) → ⊥
    items_there p n ts e h [] m = not_here p (Items n) e m
    items_there p n ts e h (k ∷ ks) m = elim (cases_lt k n) [
      | inl l ↦ (let r = item_known (whole d facts) p n 0 ts h k (omega arith) (omega (arith, l)) in
          let path : List ℕ → Path = λ at. record { var = p.var; at = at } in
          below (item_path p k) r.0 r.1 ks (subst (λ at. IsMissing (path at)) (sym (append_assoc p.at (k ∷ []) ks)) m))
      | inr l ↦ not_beyond p (Items n) k ks e (le-ltb k n l) m
    ]

    step_there : (p : Path) (t : Tree) (o : Option Shape) → kept_shape facts p ≡ o → with_shape (whole d facts) p o ≡ known t → (ks : List ℕ) → IsMissing (beyond p ks) → ⊥
    step_there p t None e h ks m = absurd (cc)
    step_there p t (Some (Num n)) e h ks m = no_items p (Num n) e (λ k. refl) ks m
    step_there p t (Some (Truth b)) e h ks m = no_items p (Truth b) e (λ k. refl) ks m
    step_there p t (Some (Items n)) e h ks m = let r = list_known (items_known (whole d facts) p n 0) t h in items_there p n r.0 e r.1 ks m

  whole_there : (d : ℕ) (p : Path) (t : Tree) → whole d facts p ≡ known t → (ks : List ℕ) → IsMissing (beyond p ks) → ⊥
  whole_there zero p t h ks m = absurd (cc)
  whole_there (suc d) p t h ks m = step_there d (whole_there d) p t (kept_shape facts p) refl h ks m

  shape_var : (item : Path → Whole) (p q : Path) (o : Option Shape) → ((j : ℕ) → item (item_path p j) ≡ open_at q → q.var ≡ p.var) → with_shape item p o ≡ open_at q → q.var ≡ p.var
  shape_var item p q None h e = let s : p ≡ q = cc in ap (λ (x : Path). x.var) (sym s)
  shape_var item p q (Some (Num n)) h e = absurd (cc)
  shape_var item p q (Some (Truth b)) h e = absurd (cc)
  shape_var item p q (Some (Items n)) h e = items_var item p q h n 0 (open_list (items_known item p n 0) q e)

  whole_var : (d : ℕ) (p q : Path) → whole d facts p ≡ open_at q → q.var ≡ p.var
  whole_var zero p q h = let s : p ≡ q = cc in ap (λ (x : Path). x.var) (sym s)
  whole_var (suc d) p q h = shape_var (whole d facts) p q (kept_shape facts p) (λ j. whole_var d (item_path p j) q) h

  limited_known : (w : Whole) (t : Tree) → limited w ≡ value t → w ≡ known t
  limited_known (open_at q) t h = absurd (cc)
  limited_known (known u) t h = by (is_within_list_limit u) h
    where
      by : (b : Bool) → (if b then value u else too_long) ≡ value t → known u ≡ known t
      by true e = let s : u ≡ t = cc in ap known s
      by false e = absurd (cc)

  limited_open : (w : Whole) (q : Path) → limited w ≡ undecided q → w ≡ open_at q
  limited_open (open_at r) q h = let s : r ≡ q = cc in ap open_at s
  limited_open (known u) q h = by (is_within_list_limit u) h
    where
      by : (b : Bool) → (if b then value u else too_long) ≡ undecided q → known u ≡ open_at q
      by true e = absurd (cc)
      by false e = absurd (cc)

  pub full_there : (p : Path) (t : Tree) → full facts p ≡ value t → (ks : List ℕ) → IsMissing (beyond p ks) → ⊥
  full_there p t h = whole_there (suc (deepest facts)) p t (by (is_excluded facts p) h)
    where
      by : (b : Bool) → (if b then absent else limited (whole (suc (deepest facts)) facts p)) ≡ value t → whole (suc (deepest facts)) facts p ≡ known t
      by true e = absurd (cc)
      by false e = limited_known (whole (suc (deepest facts)) facts p) t e

  pub full_var : (p q : Path) → full facts p ≡ undecided q → q.var ≡ p.var
  full_var p q h = whole_var (suc (deepest facts)) p q (by (is_excluded facts p) h)
    where
      by : (b : Bool) → (if b then absent else limited (whole (suc (deepest facts)) facts p)) ≡ undecided q → whole (suc (deepest facts)) facts p ≡ open_at q
      by true e = absurd (cc)
      by false e = limited_open (whole (suc (deepest facts)) facts p) q e
