-- A value that is known at a path already is added there without a new fact.
use Rattle.std.proofs.Common.{◌≡◌, inl, inr, ℕ, zero, suc, Bool, true, false, List, [], ◌∷◌, length, Option, Some, None, refl, ap, sym, ◌∙◌, subst, if◌then◌else◌}
use Rattle.tp_value.specs.Tree.{Tree, num, truth, list, items_of, of_items}
use Rattle.tp_value.specs.Limits.{is_within_list_limit}
use Rattle.tp_value.specs.declared.value.Shape.{Shape}
use Rattle.tp_value.specs.declared.value.Shape.TheVariants.{Num, Truth, Items}
use Rattle.tp_value.specs.declared.path.Path.{Path}
use Rattle.tp_value.specs.declared.path.Fact.{Fact}
use Rattle.tp_store.specs.Facts.{kept_shape, is_excluded, fact, item_path, facts_at, facts_of_items}
use Rattle.tp_store.specs.Known.{NoClash, is_none, Addition, adds, refuses, new_facts, addition, Whole, WholeItems, known, open_at, all_known, item_open_at, and_items, list_of_items, items_known, with_shape, whole, deepest, value, too_long, absent, limited, full}
use Rattle.tp_store.proofs.Members.{In, in_append, in_filter, kept_in, apart_in}
use Rattle.tp_store.proofs.Adding.{adds_all, refused_by}

items_back : (ts : List Tree) → length (items_of (of_items ts)) ≡ length ts
items_back [] = refl
items_back (t ∷ ts) = ap suc (items_back ts)

no_members : (xs : List Fact) → ((f : Fact) → In f xs → ⊥) → xs ≡ []
no_members [] h = refl
no_members (x ∷ xs) h = absurd (h x (inl refl))

module _ (facts : List Fact) where
  abbrev IsKept : Fact → Type 0
  IsKept f = kept_shape facts f.path ≡ Some f.shape

  abbrev AreKept : List Fact → Type 0
  AreKept fs = (f : Fact) → In f fs → IsKept f

  -- as many items as the shape says
  count_and : (w : Whole) (rest : WholeItems) (ts : List Tree) (n : ℕ) → and_items w rest ≡ all_known ts → ((us : List Tree) → rest ≡ all_known us → length us ≡ n) → length ts ≡ suc n
  count_and (open_at q) rest ts n h k = absurd (cc h)
  count_and (known u) (item_open_at q) ts n h k = absurd (cc h)
  count_and (known u) (all_known us) ts n h k = let same : ts ≡ u ∷ us = cc h in ap length same ∙ ap suc (k us refl)

  count_known : (item : Path → Whole) (p : Path) (n k : ℕ) (ts : List Tree) → items_known item p n k ≡ all_known ts → length ts ≡ n
  count_known item p zero k ts h = let same : ts ≡ [] = cc h in ap length same
  count_known item p (suc n) k ts h = count_and (item (item_path p k)) (items_known item p n (suc k)) ts n h (λ us. count_known item p n (suc k) us)

  -- the facts of each item are kept
  and_kept : (p : Path) (k : ℕ) (w : Whole) (rest : WholeItems) (ts : List Tree) → and_items w rest ≡ all_known ts → ((u : Tree) → w ≡ known u → AreKept (facts_at (item_path p k) u))
      → ((us : List Tree) → rest ≡ all_known us → AreKept (facts_of_items p (suc k) (of_items us))) → AreKept (facts_of_items p k (of_items ts))
  and_kept p k (open_at q) rest ts h a b = absurd (cc h)
  and_kept p k (known u) (item_open_at q) ts h a b = absurd (cc h)
  and_kept p k (known u) (all_known us) ts h a b =
      let same : u ∷ us ≡ ts = cc h in
      let P : List Tree → Type 0 = λ xs. AreKept (facts_of_items p k (of_items xs)) in
      let both : P (u ∷ us) = λ f i. elim (in_append f (facts_at (item_path p k) u) (facts_of_items p (suc k) (of_items us)) i) [ inl j ↦ a u refl f j | inr j ↦ b us refl f j ] in
      subst P same both

  items_kept : (item : Path → Whole) → ((q : Path) (u : Tree) → item q ≡ known u → AreKept (facts_at q u)) → (p : Path) (n k : ℕ) (ts : List Tree) → items_known item p n k ≡ all_known ts → AreKept (facts_of_items p k (of_items ts))
  items_kept item ih p zero k ts h =
      let same : [] ≡ ts = cc h in
      let P : List Tree → Type 0 = λ xs. AreKept (facts_of_items p k (of_items xs)) in
      let none : P [] = λ f i. absurd i in
      subst P same none
  items_kept item ih p (suc n) k ts h = and_kept p k (item (item_path p k)) (items_known item p n (suc k)) ts h (λ u. ih (item_path p k) u) (λ us. items_kept item ih p n (suc k) us)

  one_kept : (p : Path) (sh : Shape) → kept_shape facts p ≡ Some sh → AreKept (fact p sh ∷ [])
  one_kept p sh e f i = elim i [ inl q ↦ subst IsKept q e | inr j ↦ absurd j ]

  list_kept : (p : Path) (n : ℕ) (t : Tree) (w : WholeItems) → kept_shape facts p ≡ Some (Items n) → list_of_items w ≡ known t
      → ((ts : List Tree) → w ≡ all_known ts → (length ts ≡ n) × AreKept (facts_of_items p 0 (of_items ts))) → AreKept (facts_at p t)
  list_kept p n t (item_open_at q) e h k = absurd (cc h)
  list_kept p n t (all_known ts) e h k =
      let same : list (of_items ts) ≡ t = cc h in
      let P : Tree → Type 0 = λ u. AreKept (facts_at p u) in
      let rest = k ts refl in
      let head : IsKept (fact p (Items (length (items_of (of_items ts))))) = e ∙ ap (λ m. Some (Items m)) (sym rest.0 ∙ sym (items_back ts)) in
      let all : P (list (of_items ts)) = λ f i. elim i [ inl q ↦ subst IsKept q head | inr j ↦ rest.1 f j ] in
      subst P same all

  shape_kept : (item : Path → Whole) → ((q : Path) (u : Tree) → item q ≡ known u → AreKept (facts_at q u)) → (p : Path) (t : Tree) (o : Option Shape) → kept_shape facts p ≡ o → with_shape item p o ≡ known t → AreKept (facts_at p t)
  shape_kept item ih p t None e h = absurd (cc h)
  shape_kept item ih p t (Some (Num n)) e h =
      let same : num n ≡ t = cc h in
      let P : Tree → Type 0 = λ u. AreKept (facts_at p u) in
      subst P same (one_kept p (Num n) e)
  shape_kept item ih p t (Some (Truth b)) e h =
      let same : truth b ≡ t = cc h in
      let P : Tree → Type 0 = λ u. AreKept (facts_at p u) in
      subst P same (one_kept p (Truth b) e)
  shape_kept item ih p t (Some (Items n)) e h = list_kept p n t (items_known item p n 0) e h (λ ts k. (count_known item p n 0 ts k, items_kept item ih p n 0 ts k))

  whole_kept : (d : ℕ) (p : Path) (t : Tree) → whole d facts p ≡ known t → AreKept (facts_at p t)
  whole_kept zero p t h = absurd (cc h)
  whole_kept (suc d) p t h = shape_kept (whole d facts) (λ q u. whole_kept d q u) p t (kept_shape facts p) refl h

  within_whole : (b : Bool) (u t : Tree) → (if b then value u else too_long) ≡ value t → known u ≡ known t
  within_whole true u t h = let same : u ≡ t = cc h in ap known same
  within_whole false u t h = absurd (cc h)

  full_whole : (b : Bool) (w : Whole) (t : Tree) → (if b then absent else limited w) ≡ value t → w ≡ known t
  full_whole true w t h = absurd (cc h)
  full_whole false (open_at q) t h = absurd (cc h)
  full_whole false (known u) t h = within_whole (is_within_list_limit u) u t h

  nothing_new : (fs : List Fact) → AreKept fs → new_facts facts fs ≡ []
  nothing_new fs k = no_members (new_facts facts fs) contradicted
    where
      contradicted : (f : Fact) → In f (new_facts facts fs) → ⊥
      contradicted f i =
          let m = in_filter (λ (y : Fact). is_none (kept_shape facts y.path)) f fs i in
          let no : false ≡ true = sym (ap is_none (k f m.0)) ∙ m.1 in
          absurd (cc)

  kept_add_nothing : NoClash facts → (fs : List Fact) → AreKept fs → (o : Addition) → addition facts fs ≡ o → o ≡ adds []
  kept_add_nothing n fs k (adds news) e = ap adds (sym (adds_all facts fs news e).new ∙ nothing_new fs k)
  kept_add_nothing n fs k (refuses old new) e =
      let r = refused_by facts fs (new_facts facts fs) old new e in
      let i : In new facts = kept_in facts new.path new.shape (k new r.new_given) in
      let no : false ≡ true = sym (apart_in facts old new n r.old_kept i) ∙ r.clashes in
      absurd (cc)

  pub known_adds_nothing : NoClash facts → (p : Path) (t : Tree) → full facts p ≡ value t → addition facts (facts_at p t) ≡ adds []
  known_adds_nothing n p t h = kept_add_nothing n (facts_at p t) (whole_kept (suc (deepest facts)) p t (full_whole (is_excluded facts p) (whole (suc (deepest facts)) facts p) t h)) (addition facts (facts_at p t)) refl

  -- a fact that is kept already is nothing new
  pub shape_adds_nothing : NoClash facts → (p : Path) (sh : Shape) → kept_shape facts p ≡ Some sh → addition facts (fact p sh ∷ []) ≡ adds []
  shape_adds_nothing n p sh e = kept_add_nothing n (fact p sh ∷ []) (one_kept p sh e) (addition facts (fact p sh ∷ [])) refl
