-- Facts of a value that is known are kept, and setting what is known: nothing is new, or it is refused.
use Rattle.std.proofs.Common.{◌≡◌, ◌⊎◌, inl, inr, pos, negsuc, ℕ, zero, suc, ◌+◌, nat_lt, eqb, Bool, true, false, not, ◌&&◌, cond, List, [], ◌∷◌, ◌++◌, length, Option, Some, None, refl, ap, ap₂, sym, ◌∙◌, subst, arith, if◌then◌else◌}
use Rattle.std.proofs.lemmas.Bool.{cases_Bool, both_ways, or_left, ltb-true, eqb-true, cond-false}
use Rattle.tp_value.specs.Tree.{Tree, Trees, num, truth, list, nil, cons, items_of, of_items}
use Rattle.tp_value.specs.Shape.{shape_of}
use Rattle.tp_value.specs.Equations.{items_of-of_items}
use Rattle.tp_value.specs.Limits.{length_limit, is_within_list_limit}
use Rattle.tp_value.specs.declared.value.Shape.{Shape}
use Rattle.tp_value.specs.declared.value.Shape.TheVariants.{Num, Truth, Items}
use Rattle.tp_value.specs.declared.path.Path.{Path}
use Rattle.tp_value.specs.declared.path.Fact.{Fact}
use Rattle.tp_store.specs.Changes.{HaveSameShapes}
use Rattle.tp_store.specs.Facts.{same_path, same_shape, clash, kept_shape, is_excluded, item_path, fact, facts_at, facts_of_items}
use Rattle.tp_store.specs.Known.{NoClash, is_none, first_clash, Addition, adds, refuses, refused_or, checked, new_facts, addition, Whole, known, WholeItems, all_known, item_open_at, and_items, list_of_items, items_known, with_shape, whole, deepest, absent, too_long, value, limited, full}
use Rattle.tp_store.proofs.Paths.{same_path-refl}
use Rattle.tp_store.proofs.Members.{In, in_left, in_right, in_append, kept_in, in_kept, apart_in}
use Rattle.tp_store.proofs.Adding.{AddsAll, adds_all, given_in, news_given}
use Rattle.tp_store.proofs.First.{FirstOf, first_is}
use Rattle.tp_store.proofs.States.{no_clash_arises}
use Rattle.tp_kernel.specs.declared.fault.LimitKind.TheVariants as limit
use Rattle.tp_scene.specs.Step.{Reduction, PickOutcome, reduces, passes, knows, added, Target, value_at, length_at, set}
use Rattle.tp_step_laws.specs.Outcomes.{KnowsMore}
use Rattle.tp_step_laws.specs.Within.{LengthsAreWithin}
use Rattle.tp_step_laws.specs.Rows.{IsFailure}
use Rattle.tp_step_laws.proofs.FactsGrow.{items_more, deeper_known, whole_more, kept_before, kept_after}

same_knows : (gs : List Fact) → KnowsMore gs gs
same_knows gs p sh h = h

items_count : (g : Path → Whole) (p : Path) (m k : ℕ) (ts : List Tree) → items_known g p m k ≡ all_known ts → length ts ≡ m
items_count g p zero k ts e = let q : [] ≡ ts = cc e in ap length (sym q)
items_count g p (suc m) k ts e = go (items_count g p m (suc k)) (g (item_path p k)) (items_known g p m (suc k)) refl e
  where
    go : ((us : List Tree) → items_known g p m (suc k) ≡ all_known us → length us ≡ m) → (a : Whole) (b : WholeItems) → items_known g p m (suc k) ≡ b → and_items a b ≡ all_known ts → length ts ≡ suc m
    go up (known t) (all_known us) x z = let q : (t ∷ us) ≡ ts = cc z in ap length (sym q) ∙ ap suc (up us x)
    go up y b x z = absurd (cc z)

-- the facts of a value that is known are facts of the list
items_in : (gs : List Fact) (g : Path → Whole) → ((q : Path) (t : Tree) → g q ≡ known t → (f : Fact) → In f (facts_at q t) → In f gs)
    → (p : Path) (m k : ℕ) (ts : List Tree) → items_known g p m k ≡ all_known ts → (f : Fact) → In f (facts_of_items p k (of_items ts)) → In f gs
items_in gs g h p zero k ts e f i = let q : [] ≡ ts = cc e in absurd (subst (λ (us : List Tree). In f (facts_of_items p k (of_items us))) (sym q) i)
items_in gs g h p (suc m) k ts e f i = go (items_in gs g h p m (suc k)) (g (item_path p k)) (items_known g p m (suc k)) refl refl e
  where
    go : ((us : List Tree) → items_known g p m (suc k) ≡ all_known us → (f : Fact) → In f (facts_of_items p (suc k) (of_items us)) → In f gs)
        → (a : Whole) (b : WholeItems) → g (item_path p k) ≡ a → items_known g p m (suc k) ≡ b → and_items a b ≡ all_known ts → In f gs
    go up (known t) (all_known us) x y z = let q : (t ∷ us) ≡ ts = cc z in
        elim (in_append f (facts_at (item_path p k) t) (facts_of_items p (suc k) (of_items us)) (subst (λ (vs : List Tree). In f (facts_of_items p k (of_items vs))) (sym q) i)) [
          | inl j ↦ h (item_path p k) t x f j
          | inr j ↦ up us y f j
        ]
    go up u b x y z = absurd (cc z)

whole_in : (gs : List Fact) (d : ℕ) (p : Path) (t : Tree) → whole d gs p ≡ known t → (f : Fact) → In f (facts_at p t) → In f gs
whole_in gs zero p t e f i = absurd (cc e)
whole_in gs (suc d) p t e f i = go (whole_in gs d) (kept_shape gs p) refl e
  where
    here : (sh : Shape) → kept_shape gs p ≡ Some sh → fact p sh ≡ f → In f gs
    here sh x q = subst (λ (y : Fact). In y gs) q (kept_in gs p sh x)

    lists : ((q : Path) (t : Tree) → whole d gs q ≡ known t → (f : Fact) → In f (facts_at q t) → In f gs) → (n : ℕ) → kept_shape gs p ≡ Some (Items n) → (w : WholeItems) → items_known (whole d gs) p n 0 ≡ w → list_of_items w ≡ known t → In f gs
    lists up n x (item_open_at q) y z = absurd (cc z)
    lists up n x (all_known ts) y z = let q : list (of_items ts) ≡ t = cc z in
        elim (subst (λ (u : Tree). In f (facts_at p u)) (sym q) i) [
          | inl j ↦ here (Items n) x (ap (λ k. fact p (Items k)) (sym (items_count (whole d gs) p n 0 ts y) ∙ ap length (sym (items_of-of_items ts))) ∙ j)
          | inr j ↦ items_in gs (whole d gs) up p n 0 ts y f j
        ]

    go : ((q : Path) (t : Tree) → whole d gs q ≡ known t → (f : Fact) → In f (facts_at q t) → In f gs) → (o : Option Shape) → kept_shape gs p ≡ o → with_shape (whole d gs) p o ≡ known t → In f gs
    go up None x z = absurd (cc z)
    go up (Some (Num n)) x z = let q : num n ≡ t = cc z in elim (subst (λ (u : Tree). In f (facts_at p u)) (sym q) i) [ inl j ↦ here (Num n) x j | inr j ↦ absurd j ]
    go up (Some (Truth b)) x z = let q : truth b ≡ t = cc z in elim (subst (λ (u : Tree). In f (facts_at p u)) (sym q) i) [ inl j ↦ here (Truth b) x j | inr j ↦ absurd j ]
    go up (Some (Items n)) x z = lists up n x (items_known (whole d gs) p n 0) refl z

full_whole : (gs : List Fact) (p : Path) (t : Tree) → full gs p ≡ value t → whole (suc (deepest gs)) gs p ≡ known t
full_whole gs p t e = go (is_excluded gs p) (whole (suc (deepest gs)) gs p) e
  where
    limits : (b : Bool) (u : Tree) → cond b (value u) too_long ≡ value t → known u ≡ known t
    limits true u z = let q : u ≡ t = cc z in ap known q
    limits false u z = absurd (cc z)

    go : (b : Bool) (w : Whole) → cond b absent (limited w) ≡ value t → w ≡ known t
    go false (known u) z = limits (is_within_list_limit u) u z
    go b w z = absurd (cc z)

-- and where the facts of a value are facts of the list, it is known at some depth
module _ (gs : List Fact) (apart : NoClash gs) where
  pub more_depth : (m d : ℕ) (p : Path) (t : Tree) → whole d gs p ≡ known t → whole (m + d) gs p ≡ known t
  more_depth m d p t e = deeper_known gs gs apart apart (same_knows gs) m d p t e

  shape_in : (p : Path) (sh : Shape) → In (fact p sh) gs → kept_shape gs p ≡ Some sh
  shape_in p sh i = in_kept gs (fact p sh) apart i

  of_items_back : (ts : Trees) → of_items (items_of ts) ≡ ts
  of_items_back nil = refl
  of_items_back (cons t ts) = ap (cons t) (of_items_back ts)

  mutual
    pub tree_known : (t : Tree) (p : Path) → ((f : Fact) → In f (facts_at p t) → In f gs) → (d : ℕ) × (whole d gs p ≡ known t)
    tree_known (num n) p h = (1, ap (with_shape (whole 0 gs) p) (shape_in p (Num n) (h _ (inl refl))))
    tree_known (truth b) p h = (1, ap (with_shape (whole 0 gs) p) (shape_in p (Truth b) (h _ (inl refl))))
    tree_known (list ts) p h =
        let r = trees_known ts p 0 (λ f i. h f (inr i)) in
        (suc r.0, ap (with_shape (whole r.0 gs) p) (shape_in p (shape_of (list ts)) (h _ (inl refl))) ∙ ap list_of_items r.1 ∙ ap (λ us. known (list us)) (of_items_back ts))

    trees_known : (ts : Trees) (p : Path) (k : ℕ) → ((f : Fact) → In f (facts_of_items p k ts) → In f gs) → (d : ℕ) × (items_known (whole d gs) p (length (items_of ts)) k ≡ all_known (items_of ts))
    trees_known nil p k h = (0, refl)
    trees_known (cons t ts) p k h =
        let a = tree_known t (item_path p k) (λ f i. h f (in_left f (facts_at (item_path p k) t) (facts_of_items p (suc k) ts) i)) in
        let b = trees_known ts p (suc k) (λ f i. h f (in_right f (facts_at (item_path p k) t) (facts_of_items p (suc k) ts) i)) in
        let s : b.0 + a.0 ≡ a.0 + b.0 = omega arith in (
          b.0 + a.0,
          ap₂ and_items (more_depth b.0 a.0 (item_path p k) t a.1)
              (items_more (whole b.0 gs) (whole (b.0 + a.0) gs) p (λ q u x. ap (λ n. whole n gs q) s ∙ more_depth a.0 b.0 q u x) (length (items_of ts)) (suc k) (items_of ts) b.1),
        )

-- what is known at a target
abbrev pub TargetKnown : List Fact → Target → Tree → Type 0
TargetKnown gs (value_at p) v = full gs p ≡ value v
TargetKnown gs (length_at p) v = (n : ℕ) × (v ≡ num (pos n)) × (kept_shape gs p ≡ Some (Items n))

abbrev pub target_facts : Target → Tree → List Fact
target_facts (value_at p) v = facts_at p v
target_facts (length_at p) (num (pos n)) = fact p (Items n) ∷ []
target_facts (length_at p) (num (negsuc n)) = []
target_facts (length_at p) (truth b) = []
target_facts (length_at p) (list ts) = []

-- setting gives new facts, or it is bad
pub set_form : (fs : List Fact) (t : Target) (v : Tree) → ((news : List Fact) × (set fs t v ≡ knows news) × (addition fs (target_facts t v) ≡ adds news)) ⊎ IsFailure (set fs t v)
set_form fs (value_at p) v = go (addition fs (facts_at p v)) refl
  where
    go : (a : Addition) → addition fs (facts_at p v) ≡ a → ((news : List Fact) × (added (addition fs (facts_at p v)) ≡ knows news) × (addition fs (facts_at p v) ≡ adds news)) ⊎ IsFailure (added (addition fs (facts_at p v)))
    go (adds news) e = inl (news, ap added e, e)
    go (refuses old new) e = inr (subst (λ (a : Addition). IsFailure (added a)) (sym e) tt)
set_form fs (length_at p) (num (pos n)) = go (nat_lt length_limit n) (addition fs (fact p (Items n) ∷ [])) refl
  where
    go : (b : Bool) (a : Addition) → addition fs (fact p (Items n) ∷ []) ≡ a
        → ((news : List Fact) × ((if b then passes limit.List else added (addition fs (fact p (Items n) ∷ []))) ≡ knows news) × (addition fs (fact p (Items n) ∷ []) ≡ adds news)) ⊎ IsFailure (if b then passes limit.List else added (addition fs (fact p (Items n) ∷ [])))
    go true a e = inr tt
    go false (adds news) e = inl (news, ap added e, e)
    go false (refuses old new) e = inr (subst (λ (a : Addition). IsFailure (added a)) (sym e) tt)
set_form fs (length_at p) t = inr tt

-- what a value says of a target stands apart
pub target_apart : (t : Target) (v : Tree) → NoClash (target_facts t v)
target_apart (value_at p) v = no_clash_arises.value_facts p v
target_apart (length_at p) (num (pos n)) = (refl, refl, tt)
target_apart (length_at p) t = tt

facts_in : PickOutcome → List Fact
facts_in (reduces r) = r.facts
facts_in o = []

pub reduced_facts : (r s : Reduction) → reduces r ≡ reduces s → r.facts ≡ s.facts
unfolding facts_in
reduced_facts r s e = ap facts_in e

-- what a set gives is the addition of what it says
pub set_adds : (fs : List Fact) (t : Target) (v : Tree) (news : List Fact) → set fs t v ≡ knows news → addition fs (target_facts t v) ≡ adds news
set_adds fs t v news e = elim (set_form fs t v) [
  | inl z ↦ subst (λ (xs : List Fact). addition fs (target_facts t v) ≡ adds xs) (reduced_facts _ _ (sym z.1 ∙ e)) z.2
  | inr bad ↦ absurd (subst (λ (o : PickOutcome). IsFailure o) e bad)
]

no_news : (gs facts : List Fact) → NoClash gs → ((f : Fact) → In f facts → In f gs) → (new_facts gs facts ≡ []) × ((ns : List Fact) → checked gs facts (adds ns) ≡ adds ns)
no_news gs [] apart h = (refl, λ ns. refl)
no_news gs (f ∷ fs) apart h =
    let up = no_news gs fs apart (λ g i. h g (inr i)) in
    let k : kept_shape gs f.path ≡ Some f.shape = in_kept gs f apart (h f (inl refl)) in
    (ap (λ o. cond (is_none o) (f ∷ new_facts gs fs) (new_facts gs fs)) k ∙ up.0, λ ns. free (first_clash gs f) (first_is gs f) (checked gs fs (adds ns)) ∙ up.1 ns)
  where
    free : (o : Option Fact) → FirstOf gs f o → (rest : Addition) → refused_or o f rest ≡ rest
    free None x rest = refl
    free (Some g) x rest = absurd (both_ways (clash g f) (apart_in gs g f apart x.kept (h f (inl refl))) x.clashes)

pub adds_none : (gs facts : List Fact) → NoClash gs → ((f : Fact) → In f facts → In f gs) → addition gs facts ≡ adds []
adds_none gs facts apart h = let r = no_news gs facts apart h in r.1 (new_facts gs facts) ∙ ap adds r.0

pub known_in : (gs : List Fact) (t : Target) (v : Tree) → TargetKnown gs t v → (f : Fact) → In f (target_facts t v) → In f gs
known_in gs (value_at p) v k f i = whole_in gs (suc (deepest gs)) p v (full_whole gs p v k) f i
known_in gs (length_at p) v k f i = elim (subst (λ (u : Tree). In f (target_facts (length_at p) u)) k.1 i) [
  | inl e ↦ subst (λ (g : Fact). In g gs) e (kept_in gs p (Items k.0) k.2)
  | inr j ↦ absurd j
]

-- what is known is set again, and nothing is new
pub set_known : (gs : List Fact) → NoClash gs → LengthsAreWithin gs → (t : Target) (v : Tree) → TargetKnown gs t v → set gs t v ≡ knows []
set_known gs apart within (value_at p) v k = ap added (adds_none gs (facts_at p v) apart (known_in gs (value_at p) v k))
set_known gs apart within (length_at p) v k =
    let le = within p k.0 k.2 in
    ap (set gs (length_at p)) k.1
    ∙ cond-false (nat_lt length_limit k.0) _ _ (elim (cases_Bool (nat_lt length_limit k.0)) [ inl y ↦ absurd (let l = ltb-true length_limit k.0 y in omega (arith, l, le)) | inr y ↦ y ])
    ∙ ap added (adds_none gs (fact p (Items k.0) ∷ []) apart (λ f i. known_in gs (length_at p) (num (pos k.0)) (k.0, refl, k.2) f i))

-- what was new before is known
pub news_known : (fs gs news : List Fact) (t : Target) (v : Tree) → NoClash gs → TargetKnown gs t v → addition fs (target_facts t v) ≡ adds news → HaveSameShapes gs (gs ++ news)
news_known fs gs news t v apart k e p = go (kept_shape gs p) (kept_shape news p) refl refl
  where
    a : AddsAll fs (target_facts t v) news
    a = adds_all fs (target_facts t v) news e

    go : (o u : Option Shape) → kept_shape gs p ≡ o → kept_shape news p ≡ u → kept_shape gs p ≡ kept_shape (gs ++ news) p
    go (Some sh) u x y = x ∙ sym (kept_before gs news p sh x)
    go None None x y = x ∙ sym (kept_after gs news p x ∙ y)
    go None (Some sh) x y = absurd (let q = in_kept gs (fact p sh) apart (known_in gs t v k (fact p sh) (news_given fs (target_facts t v) news a (fact p sh) (kept_in news p sh y))) in let z : None ≡ Some sh = sym x ∙ q in cc)

-- another value is refused
module _ (gs : List Fact) (apart : NoClash gs) where
  value_clashes : (p : Path) (v u : Tree) → full gs p ≡ value v → (u ≡ v → ⊥) → (news : List Fact) → addition gs (facts_at p u) ≡ adds news → ⊥
  value_clashes p v u k ne news e =
      let hs = gs ++ news in
      let a = adds_all gs (facts_at p u) news e in
      let both : NoClash hs = no_clash_arises.adding gs (facts_at p u) news e apart (no_clash_arises.value_facts p u) in
      let all : (f : Fact) → In f (facts_at p u) → In f hs = λ f i. elim (given_in gs (facts_at p u) news a f i) [ inl j ↦ in_left f gs news j | inr j ↦ in_right f gs news j ] in
      let new = tree_known hs both u p all in
      let old = whole_more gs hs apart both (λ q sh x. kept_before gs news q sh x) (suc (deepest gs)) p v (full_whole gs p v k) in
      let s : suc (deepest gs) + new.0 ≡ new.0 + suc (deepest gs) = omega arith in
      let w : known u ≡ known v = sym (more_depth hs both (suc (deepest gs)) new.0 p u new.1) ∙ ap (λ n. whole n hs p) s ∙ more_depth hs both new.0 (suc (deepest gs)) p v old in
      let q : u ≡ v = cc w in ne q

  length_clashes : (p : Path) (n m : ℕ) → kept_shape gs p ≡ Some (Items n) → (m ≡ n → ⊥) → (news : List Fact) → addition gs (fact p (Items m) ∷ []) ≡ adds news → ⊥
  length_clashes p n m k ne news e =
      let a = adds_all gs (fact p (Items m) ∷ []) news e in
      let other : same_shape (Items n) (Items m) ≡ false = elim (cases_Bool (eqb n m)) [ inl y ↦ absurd (ne (sym (eqb-true n m y))) | inr y ↦ y ] in
      both_ways (clash (fact p (Items n)) (fact p (Items m))) (a.apart (fact p (Items n)) (fact p (Items m)) (kept_in gs p (Items n) k) (inl refl))
      (or_left (same_path p p && not (same_shape (Items n) (Items m))) _ (ap₂ (λ x y. x && not y) (same_path-refl p) other))

  pub set_other : (t : Target) (v u : Tree) → TargetKnown gs t v → (u ≡ v → ⊥) → IsFailure (set gs t u)
  set_other (value_at p) v u k ne = elim (set_form gs (value_at p) u) [ inr b ↦ b | inl x ↦ absurd (value_clashes p v u k ne x.0 x.2) ]
  set_other (length_at p) v (num (pos m)) k ne = elim (set_form gs (length_at p) (num (pos m))) [
    | inr b ↦ b
    | inl x ↦ absurd (length_clashes p k.0 m k.2 (λ q. ne (ap (λ i. num (pos i)) q ∙ sym k.1)) x.0 x.2)
  ]
  set_other (length_at p) v t k ne = tt
