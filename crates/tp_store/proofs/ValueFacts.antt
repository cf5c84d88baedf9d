-- The facts of a value, item by item.
use Rattle.std.proofs.Common.{◌≡◌, ℕ, zero, suc, ◌+◌, ◌<◌, ◌≤◌, List, [], ◌∷◌, ◌++◌, length, map, drop, get_or, refl, ap, sym, ◌∙◌, arith, append_assoc, append-nil}
use Rattle.tp_value.specs.Tree.{Tree, list, items_of, of_items}
use Rattle.tp_value.specs.Limits.{items_in, items_within}
use Rattle.tp_value.specs.declared.value.Shape.TheVariants.{Items}
use Rattle.tp_value.specs.declared.path.Path.{Path}
use Rattle.tp_value.specs.declared.path.Fact.{Fact}
use Rattle.tp_value.proofs.Shapes.{length_of_list}
use Rattle.tp_store.specs.Facts.{facts_at, facts_of_items, item_path, fact}

drop_items : {A : Type 0} (f : A → Tree) (p : Path) (j : ℕ) (xs : List A) (k : ℕ) (v : A) → k < length xs → v ≡ get_or xs k v
    → facts_of_items p j (of_items (map f (drop k xs))) ≡ facts_at (item_path p j) (f v) ++ facts_of_items p (suc j) (of_items (map f (drop (suc k) xs)))
drop_items f p j [] k v l e = absurd (omega arith)
drop_items f p j (x ∷ xs) zero v l e = ap (λ y. facts_at (item_path p j) (f y) ++ facts_of_items p (suc j) (of_items (map f xs))) (sym e)
drop_items f p j (x ∷ xs) (suc k) v l e = drop_items f p j xs k v (omega arith) e

-- the facts of one more item
pub next_item : {A : Type 0} (f : A → Tree) (p : Path) (xs : List A) (k : ℕ) (v : A) (out : List Fact) → k < length xs → v ≡ get_or xs k v
    → (out ++ facts_at (item_path p k) (f v)) ++ facts_of_items p (k + 1) (of_items (map f (drop (k + 1) xs))) ≡ out ++ facts_of_items p k (of_items (map f (drop k xs)))
next_item f p xs k v out l e =
    let n : k + 1 ≡ suc k = omega arith in
    ap (λ m. (out ++ facts_at (item_path p k) (f v)) ++ facts_of_items p m (of_items (map f (drop m xs)))) n
    ∙ append_assoc out (facts_at (item_path p k) (f v)) (facts_of_items p (suc k) (of_items (map f (drop (suc k) xs)))) ∙ ap (λ fs. out ++ fs) (sym (drop_items f p k xs k v l e))

none_left : {A : Type 0} (xs : List A) (k : ℕ) → length xs ≤ k → drop k xs ≡ []
none_left [] zero h = refl
none_left [] (suc k) h = refl
none_left (x ∷ xs) zero h = absurd (omega arith)
none_left (x ∷ xs) (suc k) h = none_left xs k (omega arith)

pub after_items : {A : Type 0} (f : A → Tree) (p : Path) (xs : List A) (k : ℕ) (out : List Fact) → length xs ≤ k → out ≡ out ++ facts_of_items p k (of_items (map f (drop k xs)))
after_items f p xs k out h = sym (ap (λ ys. out ++ facts_of_items p k (of_items (map f ys))) (none_left xs k h) ∙ append-nil out)

-- those of a list
pub list_facts : {A : Type 0} (f : A → Tree) (p : Path) (xs : List A) (before after : List Fact) (g : Fact) (n : ℕ) → n ≡ length xs → g ≡ fact p (Items n) → after ≡ before ++ g ∷ []
    → after ++ facts_of_items p 0 (of_items (map f xs)) ≡ before ++ facts_at p (list (of_items (map f xs)))
list_facts f p xs before after g n h e q =
    let len : n ≡ length (items_of (of_items (map f xs))) = h ∙ sym (length_of_list f xs) in
    let head : g ≡ fact p (Items (length (items_of (of_items (map f xs))))) = e ∙ ap (λ m. fact p (Items m)) len in
    ap (λ fs. fs ++ facts_of_items p 0 (of_items (map f xs))) (q ∙ ap (λ y. before ++ y ∷ []) head) ∙ append_assoc before (fact p (Items (length (items_of (of_items (map f xs))))) ∷ []) (facts_of_items p 0 (of_items (map f xs)))

fewer_items : {A : Type 0} (f : A → Tree) (xs : List A) (k : ℕ) (v : A) → k < length xs → v ≡ get_or xs k v → items_in (f v) < items_within (of_items (map f xs))
fewer_items f [] k v l e = absurd (omega arith)
fewer_items f (x ∷ xs) zero v l e = let q : items_in (f v) ≡ items_in (f x) = ap (λ y. items_in (f y)) e in omega arith
fewer_items f (x ∷ xs) (suc k) v l e = let q : items_in (f v) < items_within (of_items (map f xs)) = fewer_items f xs k v (omega arith) e in omega arith

pub item_less : {A : Type 0} (f : A → Tree) (xs : List A) (k : ℕ) (v : A) (t : Tree) → k < length xs → v ≡ get_or xs k v → t ≡ list (of_items (map f xs)) → items_in (f v) < items_in t
item_less f xs k v t l e q = let s : items_in t ≡ items_within (of_items (map f xs)) = ap items_in q in let r = fewer_items f xs k v l e in omega (arith, r)
