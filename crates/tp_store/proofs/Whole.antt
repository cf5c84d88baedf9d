-- A whole value, item by item.
use Rattle.std.proofs.Common.{◌≡◌, ℕ, zero, suc, ◌+◌, ◌-◌, ◌<◌, ◌≤◌, List, [], ◌∷◌, ◌++◌, Option, None, refl, ap, sym, ◌∙◌, arith, append_assoc}
use Rattle.std.proofs.lemmas.List.{append-nil}
use Rattle.tp_value.specs.Tree.{Tree}
use Rattle.tp_value.specs.declared.value.Shape.{Shape}
use Rattle.tp_value.specs.declared.path.Path.{Path}
use Rattle.tp_value.specs.declared.path.Fact.{Fact}
use Rattle.tp_store.specs.Facts.{item_path, kept_shape}
use Rattle.tp_store.specs.Known.{Whole, WholeItems, known, open_at, all_known, item_open_at, and_items, items_known, with_shape, whole}

-- what is known of some items, after these
abbrev pub before : List Tree → WholeItems → WholeItems
before ts (all_known us) = all_known (ts ++ us)
before ts (item_open_at q) = item_open_at q

before-and : (ts : List Tree) (t : Tree) (w : WholeItems) → before ts (and_items (known t) w) ≡ before (ts ++ t ∷ []) w
before-and ts t (all_known us) = ap all_known (sym (append_assoc ts (t ∷ []) us))
before-and ts t (item_open_at q) = refl

items_known-at : (item : Path → Whole) (p : Path) (n k : ℕ) → k < n → items_known item p (n - k) k ≡ and_items (item (item_path p k)) (items_known item p (n - (k + 1)) (k + 1))
items_known-at item p n k h =
    let e : n - k ≡ suc (n - (k + 1)) = omega arith in
    let f : suc k ≡ k + 1 = omega arith in
    ap (λ m. items_known item p m k) e ∙ ap (λ j. and_items (item (item_path p k)) (items_known item p (n - (k + 1)) j)) f

-- one more item is known
pub known_more : (item : Path → Whole) (p : Path) (n k : ℕ) (ts : List Tree) (t : Tree) → k < n → item (item_path p k) ≡ known t
    → before (ts ++ t ∷ []) (items_known item p (n - (k + 1)) (k + 1)) ≡ before ts (items_known item p (n - k) k)
known_more item p n k ts t h e =
    sym (before-and ts t _) ∙ ap (λ w. before ts (and_items w (items_known item p (n - (k + 1)) (k + 1)))) (sym e) ∙ ap (before ts) (sym (items_known-at item p n k h))

-- the first open one
pub open_here : (item : Path → Whole) (p q : Path) (n k : ℕ) (ts : List Tree) → k < n → item (item_path p k) ≡ open_at q → before ts (items_known item p (n - k) k) ≡ item_open_at q
open_here item p q n k ts h e = ap (before ts) (items_known-at item p n k h ∙ ap (λ w. and_items w (items_known item p (n - (k + 1)) (k + 1))) e)

pub known_all : (item : Path → Whole) (p : Path) (n k : ℕ) (ts : List Tree) → n ≤ k → before ts (items_known item p (n - k) k) ≡ all_known ts
known_all item p n k ts h =
    let e : n - k ≡ 0 = omega arith in
    ap (λ m. before ts (items_known item p m k)) e ∙ ap all_known (append-nil ts)

-- by the shape that is kept
pub whole_step : (d : ℕ) (fs : List Fact) (p : Path) (o : Option Shape) → 0 < d → kept_shape fs p ≡ o → whole d fs p ≡ with_shape (whole (d - 1) fs) p o
whole_step zero fs p o l e = absurd (omega (arith, l))
whole_step (suc d) fs p o l e =
    let m : suc d - 1 ≡ d = omega arith in
    ap (with_shape (whole d fs) p) e ∙ ap (λ n. with_shape (whole n fs) p o) (sym m)

pub whole_open : (d : ℕ) (fs : List Fact) (p : Path) → kept_shape fs p ≡ None → whole d fs p ≡ open_at p
whole_open zero fs p e = refl
whole_open (suc d) fs p e = ap (with_shape (whole d fs) p) e
