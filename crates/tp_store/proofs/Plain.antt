-- The first items of a variable's value that are numbers and truths.
use Rattle.std.proofs.Common.{◌≡◌, ℕ, zero, suc, ◌+◌, ◌<◌, ◌≤◌, Bool, true, false, cond, List, [], ◌∷◌, ◌++◌, Option, Some, None, refl, ap, sym, ◌∙◌, subst, inl, inr, arith}
use Rattle.std.specs.List.{IsDistinct}
use Rattle.std.proofs.lemmas.Bool.{cases_eq}
use Rattle.tp_value.specs.Tree.{Tree, num, truth}
use Rattle.tp_value.specs.declared.value.Shape.{Shape}
use Rattle.tp_value.specs.declared.value.Shape.TheVariants.{Num, Truth, Items}
use Rattle.tp_value.specs.declared.path.VarId.{VarId}
use Rattle.tp_value.specs.declared.path.Path.{Path}
use Rattle.tp_value.specs.declared.path.Fact.{Fact}
use Rattle.tp_store.specs.Facts.{same_path, kept_shape, item_path}
use Rattle.tp_store.specs.Known.{known, open_at, and_items, item_open_at, items_known, list_of_items, with_shape, whole}
use Rattle.tp_store.specs.Changes.{HaveSameShapes}
use Rattle.tp_store.specs.FactMap.{IsNumberOrTruth}
use Rattle.tp_store.specs.declared.nodes.Nodes.{Nodes}
use Rattle.tp_store.specs.Nodes.{same_edge, edges_in, nodes_in, facts_in_tree, path_along, ArePlainBelow, ArePlainItems, IsTree}
use Rattle.tp_store.proofs.Trees.{kept_is}
use Rattle.tp_store.proofs.Growth.{length_nodes}

plain_some : (o : Option Shape) → IsNumberOrTruth o → (sh : Shape) × (o ≡ Some sh)
plain_some None h = absurd h
plain_some (Some sh) h = (sh, refl)

-- such an item is known
plain_known : (d : ℕ) (fs : List Fact) (p : Path) → IsNumberOrTruth (kept_shape fs p) → (t : Tree) × (whole (suc d) fs p ≡ known t)
plain_known d fs p h = by (kept_shape fs p) h
  where
    by : (o : Option Shape) → IsNumberOrTruth o → (t : Tree) × (with_shape (whole d fs) p o ≡ known t)
    by None i = absurd i
    by (Some (Num n)) i = (num n, refl)
    by (Some (Truth b)) i = (truth b, refl)
    by (Some (Items n)) i = absurd i

-- The items of a list before index c are such, and of that one nothing is kept.
module _ (fs : List Fact) (p : Path) (c : ℕ) (plain : (k : ℕ) → k < c → IsNumberOrTruth (kept_shape fs (item_path p k))) (none : kept_shape fs (item_path p c) ≡ None) where
  open_from : (d m k : ℕ) → k ≤ c → c < k + m → items_known (whole (suc d) fs) p m k ≡ item_open_at (item_path p c)
  open_from d zero k low high = absurd (omega (arith, low, high))
  open_from d (suc m) k low high =
      let rest = items_known (whole (suc d) fs) p m (suc k) in
      elim (cases_eq k c) [
        | inl same ↦ (let here : whole (suc d) fs (item_path p k) ≡ open_at (item_path p c) = ap (λ j. whole (suc d) fs (item_path p j)) same ∙ ap (with_shape (whole d fs) (item_path p c)) none in
            ap (λ w. and_items w rest) here)
        | inr other ↦ (let x = plain_known d fs (item_path p k) (plain k (omega (arith, low, other))) in
            ap (λ w. and_items w rest) x.1 ∙ ap (and_items (known x.0)) (open_from d m (suc k) (omega (arith, low, other)) (omega (arith, high))))
      ]

  -- so that one is the first that is open
  pub open_first : (d n : ℕ) → kept_shape fs p ≡ Some (Items n) → c < n → whole (suc (suc d)) fs p ≡ open_at (item_path p c)
  open_first d n list less = ap (with_shape (whole (suc d) fs) p) list ∙ ap list_of_items (open_from d n 0 (omega arith) (omega (arith, less)))

pub kept_first : (xs ys : List Fact) (p : Path) (sh : Shape) → kept_shape xs p ≡ Some sh → kept_shape (xs ++ ys) p ≡ Some sh
kept_first [] ys p sh h = absurd (cc h)
kept_first (x ∷ xs) ys p sh h =
    let P : Bool → Type 0 = λ b. cond b (Some x.shape) (kept_shape xs p) ≡ Some sh → cond b (Some x.shape) (kept_shape (xs ++ ys) p) ≡ Some sh in
    (elim (same_path x.path p) as P [ true ↦ λ e. e | false ↦ λ e. kept_first xs ys p sh e ]) h

-- they stay so where facts come
pub plain_stays : (x : VarId) (old news new : List Fact) (c : ℕ) → HaveSameShapes new (old ++ news) → ArePlainBelow c x old → ArePlainBelow c x new
plain_stays x old news new c same plain = λ k less.
    let here = plain k less in
    let s = plain_some (kept_shape old (path_along x (k ∷ []))) here in
    let there : kept_shape new (path_along x (k ∷ [])) ≡ Some s.0 = same (path_along x (k ∷ [])) ∙ kept_first old news (path_along x (k ∷ [])) s.0 s.1 in
    subst (λ o. IsNumberOrTruth o) (s.1 ∙ sym there) here

-- as the nodes tell it, and as the facts do
pub plain_items : (t : Nodes) (x : VarId) (c : ℕ) → IsTree t → IsDistinct same_edge (edges_in t) → ArePlainBelow c x (facts_in_tree x.lasting t) → ArePlainItems c x.number t
plain_items t x c tree unique plain = λ k less.
    subst (λ o. IsNumberOrTruth o) (kept_is x.lasting (edges_in t) (nodes_in t) tree.rooted unique (length_nodes t) (path_along x (k ∷ [])) refl) (plain k less)

pub plain_facts : (t : Nodes) (x : VarId) (c : ℕ) → IsTree t → IsDistinct same_edge (edges_in t) → ArePlainItems c x.number t → ArePlainBelow c x (facts_in_tree x.lasting t)
plain_facts t x c tree unique plain = λ k less.
    subst (λ o. IsNumberOrTruth o) (sym (kept_is x.lasting (edges_in t) (nodes_in t) tree.rooted unique (length_nodes t) (path_along x (k ∷ [])) refl)) (plain k less)
