-- Facts under a renaming of variables.
use Rattle.std.proofs.Common.{◌≡◌, inl, inr, ℕ, zero, suc, Bool, true, false, not, ◌&&◌, ◌||◌, cond, eqb, max, List, [], ◌∷◌, ◌++◌, length, Option, Some, None, refl, ap, ap₂, sym, ◌∙◌, subst, if◌then◌else◌}
use Rattle.std.proofs.lemmas.Bool.{cases_Bool, eqb-true, eq-eqb, both_ways, false_from_ne_true}
use Rattle.tp_value.specs.Tree.{Tree, Trees, list, nil, cons, same_truth, items_of}
use Rattle.tp_value.specs.Limits.{is_within_list_limit}
use Rattle.tp_value.specs.declared.value.Shape.{Shape}
use Rattle.tp_value.specs.declared.value.Shape.TheVariants.{Items}
use Rattle.tp_value.specs.declared.path.VarId.{VarId}
use Rattle.tp_value.specs.declared.path.Path.{Path}
use Rattle.tp_value.specs.declared.path.Fact.{Fact}
use Rattle.tp_store.specs.Changes.{HaveSameShapes}
use Rattle.tp_store.specs.Facts.{same_variable, same_indices, same_path, same_shape, leaves_out, excludes, clash, kept_shape, is_excluded, item_path, fact, facts_at, facts_of_items}
use Rattle.tp_store.specs.Known.{NoClash, clashes_with_some, is_none, is_earlier, earlier_of, first_clash, Addition, adds, refuses, refused_or, checked, new_facts, addition, Whole, known, open_at, WholeItems, all_known, item_open_at, and_items, list_of_items, items_known, with_shape, whole, deepest, Full, absent, undecided, too_long, value, limited, full}
use Rattle.tp_store.proofs.States.{same_shapes_same_store}
use Rattle.tp_step_laws.specs.Renaming.{renamed_fact, renamed_facts, FactsAlike}
use Rattle.tp_step_laws.specs.Maps.{Permutation, Renaming, renamed_variable, renamed_path}

pub eqb_to : (π : Permutation) (a b : ℕ) → eqb (π.to a) (π.to b) ≡ eqb a b
eqb_to π a b = elim (cases_Bool (eqb a b)) [
  | inl y ↦ eq-eqb _ _ (ap π.to (eqb-true a b y)) ∙ sym y
  | inr y ↦ false_from_ne_true (eqb (π.to a) (π.to b)) (λ e. both_ways (eqb a b) y (eq-eqb a b (sym (π.undone a) ∙ ap π.back (eqb-true _ _ e) ∙ π.undone b))) ∙ sym y
]

module _ (ρ : Renaming) where
  same_variable_to : (x y : VarId) → same_variable (renamed_variable ρ x) (renamed_variable ρ y) ≡ same_variable x y
  same_variable_to x y = ap (λ b. b && same_truth x.lasting y.lasting) (eqb_to ρ.local x.number y.number)

  pub same_path_to : (p q : Path) → same_path (renamed_path ρ p) (renamed_path ρ q) ≡ same_path p q
  same_path_to p q = ap (λ b. b && same_indices p.at q.at) (same_variable_to p.var q.var)

  excludes_to : (f : Fact) (p : Path) → excludes (renamed_fact ρ f) (renamed_path ρ p) ≡ excludes f p
  excludes_to f p = ap (λ b. b && leaves_out f.path.at f.shape p.at) (same_variable_to f.path.var p.var)

  clash_to : (f g : Fact) → clash (renamed_fact ρ f) (renamed_fact ρ g) ≡ clash f g
  clash_to f g = ap₂ (λ a b. a || b) (ap (λ a. a && not (same_shape f.shape g.shape)) (same_path_to f.path g.path)) (ap₂ (λ a b. a || b) (excludes_to f g.path) (excludes_to g f.path))

  pub kept_to : (fs : List Fact) (p : Path) → kept_shape (renamed_facts ρ fs) (renamed_path ρ p) ≡ kept_shape fs p
  kept_to [] p = refl
  kept_to (f ∷ fs) p = ap₂ (λ b o. cond b (Some f.shape) o) (same_path_to f.path p) (kept_to fs p)

  excluded_to : (fs : List Fact) (p : Path) → is_excluded (renamed_facts ρ fs) (renamed_path ρ p) ≡ is_excluded fs p
  excluded_to [] p = refl
  excluded_to (f ∷ fs) p = ap₂ (λ a b. a || b) (excludes_to f p) (excluded_to fs p)

  meets_to : (fs : List Fact) (f : Fact) → clashes_with_some (renamed_facts ρ fs) (renamed_fact ρ f) ≡ clashes_with_some fs f
  meets_to [] f = refl
  meets_to (g ∷ gs) f = ap₂ (λ a b. a || b) (clash_to g f) (meets_to gs f)

  pub NoClash-to : (fs : List Fact) → NoClash fs → NoClash (renamed_facts ρ fs)
  NoClash-to [] n = tt
  NoClash-to (f ∷ fs) n = (kept_to fs f.path ∙ n.0, meets_to fs f ∙ n.1, NoClash-to fs n.2)

  abbrev option_to : Option Fact → Option Fact
  option_to None = None
  option_to (Some f) = Some (renamed_fact ρ f)

  earlier_to : (g : Fact) (o : Option Fact) → earlier_of (renamed_fact ρ g) (option_to o) ≡ renamed_fact ρ (earlier_of g o)
  earlier_to g None = refl
  earlier_to g (Some f) = go (is_earlier f g)
    where
      go : (b : Bool) → (if b then renamed_fact ρ f else renamed_fact ρ g) ≡ renamed_fact ρ (if b then f else g)
      go true = refl
      go false = refl

  first_to : (fs : List Fact) (f : Fact) → first_clash (renamed_facts ρ fs) (renamed_fact ρ f) ≡ option_to (first_clash fs f)
  first_to [] f = refl
  first_to (g ∷ gs) f = ap₂ (λ b o. cond b (Some (earlier_of (renamed_fact ρ g) o)) o) (clash_to g f) (first_to gs f) ∙ go (clash g f)
    where
      go : (b : Bool) → cond b (Some (earlier_of (renamed_fact ρ g) (option_to (first_clash gs f)))) (option_to (first_clash gs f)) ≡ option_to (cond b (Some (earlier_of g (first_clash gs f))) (first_clash gs f))
      go true = ap Some (earlier_to g (first_clash gs f))
      go false = refl

  abbrev pub addition_to : Addition → Addition
  addition_to (adds news) = adds (renamed_facts ρ news)
  addition_to (refuses old new) = refuses (renamed_fact ρ old) (renamed_fact ρ new)

  news_to : (ks fs : List Fact) → new_facts (renamed_facts ρ ks) (renamed_facts ρ fs) ≡ renamed_facts ρ (new_facts ks fs)
  news_to ks [] = refl
  news_to ks (f ∷ fs) = ap₂ (λ o rest. cond (is_none o) (renamed_fact ρ f ∷ rest) rest) (kept_to ks f.path) (news_to ks fs) ∙ go (is_none (kept_shape ks f.path))
    where
      go : (b : Bool) → cond b (renamed_fact ρ f ∷ renamed_facts ρ (new_facts ks fs)) (renamed_facts ρ (new_facts ks fs)) ≡ renamed_facts ρ (cond b (f ∷ new_facts ks fs) (new_facts ks fs))
      go true = refl
      go false = refl

  checked_to : (ks fs : List Fact) (a : Addition) → checked (renamed_facts ρ ks) (renamed_facts ρ fs) (addition_to a) ≡ addition_to (checked ks fs a)
  checked_to ks [] a = refl
  checked_to ks (f ∷ fs) a = ap₂ (λ o rest. refused_or o (renamed_fact ρ f) rest) (first_to ks f) (checked_to ks fs a) ∙ go (first_clash ks f)
    where
      go : (o : Option Fact) → refused_or (option_to o) (renamed_fact ρ f) (addition_to (checked ks fs a)) ≡ addition_to (refused_or o f (checked ks fs a))
      go None = refl
      go (Some g) = refl

  adding_to : (ks fs : List Fact) → addition (renamed_facts ρ ks) (renamed_facts ρ fs) ≡ addition_to (addition ks fs)
  adding_to ks fs = ap (λ ns. checked (renamed_facts ρ ks) (renamed_facts ρ fs) (adds ns)) (news_to ks fs) ∙ checked_to ks fs (adds (new_facts ks fs))

  deepest_to : (fs : List Fact) → deepest (renamed_facts ρ fs) ≡ deepest fs
  deepest_to [] = refl
  deepest_to (f ∷ fs) = ap (max (length f.path.at)) (deepest_to fs)

  abbrev whole_to : Whole → Whole
  whole_to (known t) = known t
  whole_to (open_at q) = open_at (renamed_path ρ q)

  abbrev items_to : WholeItems → WholeItems
  items_to (all_known ts) = all_known ts
  items_to (item_open_at q) = item_open_at (renamed_path ρ q)

  and_to : (a : Whole) (b : WholeItems) → and_items (whole_to a) (items_to b) ≡ items_to (and_items a b)
  and_to (open_at q) b = refl
  and_to (known t) (item_open_at q) = refl
  and_to (known t) (all_known ts) = refl

  list_to : (b : WholeItems) → list_of_items (items_to b) ≡ whole_to (list_of_items b)
  list_to (all_known ts) = refl
  list_to (item_open_at q) = refl

  items_are : (f g : Path → Whole) → ((q : Path) → g (renamed_path ρ q) ≡ whole_to (f q)) → (p : Path) (m k : ℕ) → items_known g (renamed_path ρ p) m k ≡ items_to (items_known f p m k)
  items_are f g h p zero k = refl
  items_are f g h p (suc m) k = ap₂ and_items (h (item_path p k)) (items_are f g h p m (suc k)) ∙ and_to (f (item_path p k)) (items_known f p m (suc k))

  shape_is : (f g : Path → Whole) → ((q : Path) → g (renamed_path ρ q) ≡ whole_to (f q)) → (p : Path) (o : Option Shape) → with_shape g (renamed_path ρ p) o ≡ whole_to (with_shape f p o)
  shape_is f g h p (Some (Items n)) = ap list_of_items (items_are f g h p n 0) ∙ list_to (items_known f p n 0)
  shape_is f g h p m = refl

  whole_is : (d : ℕ) (fs : List Fact) (p : Path) → whole d (renamed_facts ρ fs) (renamed_path ρ p) ≡ whole_to (whole d fs p)
  whole_is zero fs p = refl
  whole_is (suc d) fs p = ap (with_shape (whole d (renamed_facts ρ fs)) (renamed_path ρ p)) (kept_to fs p) ∙ shape_is (whole d fs) (whole d (renamed_facts ρ fs)) (whole_is d fs) p (kept_shape fs p)

  abbrev pub full_to : Full → Full
  full_to absent = absent
  full_to (undecided q) = undecided (renamed_path ρ q)
  full_to too_long = too_long
  full_to (value t) = value t

  full_is : (fs : List Fact) (p : Path) → full (renamed_facts ρ fs) (renamed_path ρ p) ≡ full_to (full fs p)
  full_is fs p =
      ap₂ (λ b w. cond b absent (limited w)) (excluded_to fs p) (ap (λ d. whole (suc d) (renamed_facts ρ fs) (renamed_path ρ p)) (deepest_to fs) ∙ whole_is (suc (deepest fs)) fs p)
      ∙ go (is_excluded fs p) (whole (suc (deepest fs)) fs p)
    where
      limits : (b : Bool) (t : Tree) → cond b (value t) too_long ≡ full_to (cond b (value t) too_long)
      limits true t = refl
      limits false t = refl

      go : (b : Bool) (w : Whole) → cond b absent (limited (whole_to w)) ≡ full_to (cond b absent (limited w))
      go false (known t) = limits (is_within_list_limit t) t
      go b w = refl

  map_append : (xs ys : List Fact) → renamed_facts ρ (xs ++ ys) ≡ renamed_facts ρ xs ++ renamed_facts ρ ys
  map_append [] ys = refl
  map_append (x ∷ xs) ys = ap (λ l. renamed_fact ρ x ∷ l) (map_append xs ys)

  mutual
    pub facts_at_to : (p : Path) (t : Tree) → facts_at (renamed_path ρ p) t ≡ renamed_facts ρ (facts_at p t)
    facts_at_to p (list ts) = ap (λ l. fact (renamed_path ρ p) (Items (length (items_of ts))) ∷ l) (facts_of_items_to p 0 ts)
    facts_at_to p t = refl

    facts_of_items_to : (p : Path) (k : ℕ) (ts : Trees) → facts_of_items (renamed_path ρ p) k ts ≡ renamed_facts ρ (facts_of_items p k ts)
    facts_of_items_to p k nil = refl
    facts_of_items_to p k (cons t ts) = ap₂ (λ a b. a ++ b) (facts_at_to (item_path p k) t) (facts_of_items_to p (suc k) ts) ∙ sym (map_append (facts_at (item_path p k) t) (facts_of_items p (suc k) ts))

  -- each path is a renamed one
  abbrev back_path : Path → Path
  back_path q = record { var = record { number = ρ.local.back q.var.number; lasting = q.var.lasting }; at = q.at }

  there : (q : Path) → renamed_path ρ (back_path q) ≡ q
  there q = λ i. record { var = record { number = ρ.local.redone q.var.number i; lasting = q.var.lasting }; at = q.at }

  module _ (fs gs : List Fact) (fc : NoClash fs) (gc : NoClash gs) (alike : FactsAlike ρ fs gs) where
    same_shapes : HaveSameShapes (renamed_facts ρ fs) gs
    same_shapes q = subst (λ (x : Path). kept_shape (renamed_facts ρ fs) x ≡ kept_shape gs x) (there q) (kept_to fs (back_path q) ∙ sym (alike (back_path q)))

    pub fulls_alike : (p : Path) → full gs (renamed_path ρ p) ≡ full_to (full fs p)
    fulls_alike p = sym ((same_shapes_same_store (renamed_facts ρ fs) gs (NoClash-to fs fc) gc same_shapes).wholes (renamed_path ρ p)) ∙ full_is fs p

    pub excluded_alike : (p : Path) → is_excluded gs (renamed_path ρ p) ≡ is_excluded fs p
    excluded_alike p = sym ((same_shapes_same_store (renamed_facts ρ fs) gs (NoClash-to fs fc) gc same_shapes).excluded (renamed_path ρ p)) ∙ excluded_to fs p

    pub additions_alike : (facts : List Fact) → addition gs (renamed_facts ρ facts) ≡ addition_to (addition fs facts)
    additions_alike facts = sym ((same_shapes_same_store (renamed_facts ρ fs) gs (NoClash-to fs fc) gc same_shapes).additions (renamed_facts ρ facts)) ∙ adding_to fs facts
