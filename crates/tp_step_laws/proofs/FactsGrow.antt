-- What facts say stays so where more is known.
use Rattle.std.proofs.Common.{◌≡◌, inl, inr, ℕ, zero, suc, ◌+◌, ◌<◌, Bool, true, false, not, ◌&&◌, cond, List, [], ◌∷◌, ◌++◌, length, Option, Some, None, refl, ap, ap₂, sym, ◌∙◌, subst, arith}
use Rattle.std.proofs.lemmas.Bool.{cases_Bool, both_ways, or_right, or_left, false_from_ne_true}
use Rattle.tp_value.specs.Tree.{Tree}
use Rattle.tp_value.specs.Limits.{is_within_list_limit}
use Rattle.tp_value.specs.declared.value.Shape.{Shape}
use Rattle.tp_value.specs.declared.value.Shape.TheVariants.{Num, Truth, Items}
use Rattle.tp_value.specs.declared.path.Path.{Path}
use Rattle.tp_value.specs.declared.path.Fact.{Fact}
use Rattle.tp_store.specs.Changes.{HaveSameShapes}
use Rattle.tp_store.specs.Facts.{same_path, same_shape, excludes, clash, kept_shape, is_excluded, item_path, fact}
use Rattle.tp_store.specs.Known.{NoClash, is_none, Addition, adds, refuses, new_facts, addition, Whole, known, open_at, WholeItems, all_known, item_open_at, and_items, list_of_items, items_known, with_shape, whole, deepest, absent, too_long, value, limited, full}
use Rattle.tp_store.proofs.Paths.{same_path-decides}
use Rattle.tp_store.proofs.Members.{In, kept_in, in_kept, apart_in, excluded_by, excluded_from}
use Rattle.tp_store.proofs.Adding.{AddsAll, adds_all, refused_by}
use Rattle.tp_store.proofs.Same.{deep_enough}
use Rattle.tp_step_laws.specs.Outcomes.{KnowsMore, RefusesFacts, AddsAlike, GrownFull, FactsGrow}

pub deep_more : (m d : ℕ) (fs : List Fact) (p : Path) → deepest fs < length p.at + d → whole d fs p ≡ whole (m + d) fs p
deep_more zero d fs p h = let e : 0 + d ≡ d = omega arith in ap (λ n. whole n fs p) (sym e)
deep_more (suc m) d fs p h =
    let e : suc m + d ≡ suc (m + d) = omega arith in
    deep_more m d fs p h ∙ deep_enough (m + d) fs p (omega arith) ∙ ap (λ n. whole n fs p) (sym e)

-- items that are all known by one reading are so by another that knows each of them
pub items_more : (f g : Path → Whole) (p : Path) → ((q : Path) (t : Tree) → f q ≡ known t → g q ≡ known t) → (m k : ℕ) (ts : List Tree) → items_known f p m k ≡ all_known ts → items_known g p m k ≡ all_known ts
items_more f g p h zero k ts e = e
items_more f g p h (suc m) k ts e = go (items_more f g p h m (suc k)) (f (item_path p k)) (items_known f p m (suc k)) refl refl e
  where
    go : ((us : List Tree) → items_known f p m (suc k) ≡ all_known us → items_known g p m (suc k) ≡ all_known us) → (a : Whole) (b : WholeItems) → f (item_path p k) ≡ a → items_known f p m (suc k) ≡ b → and_items a b ≡ all_known ts → and_items (g (item_path p k)) (items_known g p m (suc k)) ≡ all_known ts
    go up (known t) (all_known us) x y z = ap₂ and_items (h (item_path p k) t x) (up us y) ∙ z
    go up u b x y z = absurd (cc z)

shape_more : (f g : Path → Whole) (p : Path) → ((q : Path) (t : Tree) → f q ≡ known t → g q ≡ known t) → (o u : Option Shape) → ((sh : Shape) → o ≡ Some sh → u ≡ Some sh) → (t : Tree) → with_shape f p o ≡ known t → with_shape g p u ≡ known t
shape_more f g p h None u k t e = absurd (cc e)
shape_more f g p h (Some (Num n)) u k t e = ap (with_shape g p) (k (Num n) refl) ∙ e
shape_more f g p h (Some (Truth b)) u k t e = ap (with_shape g p) (k (Truth b) refl) ∙ e
shape_more f g p h (Some (Items n)) u k t e = ap (with_shape g p) (k (Items n) refl) ∙ lists (items_known f p n 0) refl e
  where
    lists : (w : WholeItems) → items_known f p n 0 ≡ w → list_of_items w ≡ known t → list_of_items (items_known g p n 0) ≡ known t
    lists (item_open_at q) x y = absurd (cc y)
    lists (all_known ts) x y = ap list_of_items (items_more f g p h n 0 ts x) ∙ y

module _ (fs gs : List Fact) (fc : NoClash fs) (gc : NoClash gs) (more : KnowsMore fs gs) where
  pub in_more : (f : Fact) → In f fs → In f gs
  in_more f i = kept_in gs f.path f.shape (more f.path f.shape (in_kept fs f fc i))

  excluded_more : (p : Path) → is_excluded fs p ≡ true → is_excluded gs p ≡ true
  excluded_more p h = let r = excluded_by fs p h in excluded_from gs p r.0 (in_more r.0 r.1) r.2

  -- a path with a shape isn't excluded
  allowed_more : (p : Path) (sh : Shape) → kept_shape fs p ≡ Some sh → is_excluded gs p ≡ false
  allowed_more p sh h = false_from_ne_true (is_excluded gs p) (λ e.
      let r = excluded_by gs p e in
      let i : In (fact p sh) gs = kept_in gs p sh (more p sh h) in
      both_ways (clash r.0 (fact p sh)) (apart_in gs r.0 (fact p sh) gc r.1 i) (or_right (same_path r.0.path p && not (same_shape r.0.shape sh)) _ (or_left (excludes r.0 p) _ r.2)))

  pub whole_more : (d : ℕ) (p : Path) (t : Tree) → whole d fs p ≡ known t → whole d gs p ≡ known t
  whole_more zero p t e = absurd (cc e)
  whole_more (suc d) p t e = shape_more (whole d fs) (whole d gs) p (whole_more d) (kept_shape fs p) (kept_shape gs p) (more p) t e

  has_shape : (d : ℕ) (p : Path) (t : Tree) → whole d fs p ≡ known t → (sh : Shape) × (kept_shape fs p ≡ Some sh)
  has_shape zero p t e = absurd (cc e)
  has_shape (suc d) p t e = go (kept_shape fs p) refl e
    where
      go : (o : Option Shape) → kept_shape fs p ≡ o → with_shape (whole d fs) p o ≡ known t → (sh : Shape) × (kept_shape fs p ≡ Some sh)
      go None x y = absurd (cc y)
      go (Some sh) x y = (sh, x)

  -- a whole value at some depth is one at each greater depth
  pub deeper_known : (m d : ℕ) (p : Path) (t : Tree) → whole d gs p ≡ known t → whole (m + d) gs p ≡ known t
  deeper_known m zero p t e = absurd (cc e)
  deeper_known m (suc d) p t e = let s : m + suc d ≡ suc (m + d) = omega arith in
      ap (λ n. whole n gs p) s ∙ shape_more (whole d gs) (whole (m + d) gs) p (λ q u x. deeper_known m d q u x) (kept_shape gs p) (kept_shape gs p) (λ sh x. x) t e

  full_known : (p : Path) (t : Tree) → whole (suc (deepest fs)) fs p ≡ known t → full gs p ≡ limited (known t)
  full_known p t e =
      let x = deepest fs in
      let y = deepest gs in
      let swap : x + suc y ≡ y + suc x = omega arith in
      let w : whole (suc y) gs p ≡ known t = deep_more x (suc y) gs p (omega arith) ∙ ap (λ n. whole n gs p) swap ∙ deeper_known y (suc x) p t (whole_more (suc x) p t e) in
      let s = has_shape (suc x) p t e in
      ap₂ (λ b o. cond b absent (limited o)) (allowed_more p s.0 s.1) w

  wholes_more : (p : Path) → GrownFull (full fs p) (full gs p)
  wholes_more p = go (is_excluded fs p) (whole (suc (deepest fs)) fs p) refl refl
    where
      limits : (b : Bool) (t : Tree) → full gs p ≡ cond b (value t) too_long → GrownFull (cond b (value t) too_long) (full gs p)
      limits true t h = h
      limits false t h = h

      go : (b : Bool) (o : Whole) → is_excluded fs p ≡ b → whole (suc (deepest fs)) fs p ≡ o → GrownFull (cond b absent (limited o)) (full gs p)
      go true o e h = ap (λ b. cond b absent (limited (whole (suc (deepest gs)) gs p))) (excluded_more p e)
      go false (open_at q) e h = tt
      go false (known t) e h = limits (is_within_list_limit t) t (full_known p t h)

  refused_more : (facts : List Fact) → RefusesFacts (addition fs facts) → RefusesFacts (addition gs facts)
  refused_more facts h = go (addition fs facts) (addition gs facts) refl refl h
    where
      go : (a b : Addition) → addition fs facts ≡ a → addition gs facts ≡ b → RefusesFacts a → RefusesFacts b
      go (adds news) b x y h = elim h [ ]
      go (refuses old new) (refuses o n) x y h = tt
      go (refuses old new) (adds news) x y h =
          let r = refused_by fs facts (new_facts fs facts) old new x in
          let a = adds_all gs facts news y in
          both_ways (clash old new) (a.apart old new (in_more old r.old_kept) r.new_given) r.clashes

pub kept_after : (xs ys : List Fact) (p : Path) → kept_shape xs p ≡ None → kept_shape (xs ++ ys) p ≡ kept_shape ys p
kept_after [] ys p e = refl
kept_after (x ∷ xs) ys p e = go (kept_after xs ys p) (same_path x.path p) e
  where
    go : (kept_shape xs p ≡ None → kept_shape (xs ++ ys) p ≡ kept_shape ys p) → (b : Bool) → cond b (Some x.shape) (kept_shape xs p) ≡ None → cond b (Some x.shape) (kept_shape (xs ++ ys) p) ≡ kept_shape ys p
    go up true e = absurd (cc e)
    go up false e = up e

pub kept_before : (xs ys : List Fact) (p : Path) (sh : Shape) → kept_shape xs p ≡ Some sh → kept_shape (xs ++ ys) p ≡ Some sh
kept_before [] ys p sh e = absurd (cc e)
kept_before (x ∷ xs) ys p sh e = go (kept_before xs ys p sh) (same_path x.path p) e
  where
    go : (kept_shape xs p ≡ Some sh → kept_shape (xs ++ ys) p ≡ Some sh) → (b : Bool) → cond b (Some x.shape) (kept_shape xs p) ≡ Some sh → cond b (Some x.shape) (kept_shape (xs ++ ys) p) ≡ Some sh
    go up true e = e
    go up false e = up e

-- of the facts at a path that isn't kept none is left out
kept_news : (ks fs : List Fact) (p : Path) → kept_shape ks p ≡ None → kept_shape (new_facts ks fs) p ≡ kept_shape fs p
kept_news ks [] p e = refl
kept_news ks (f ∷ fs) p e = elim (cases_Bool (same_path f.path p)) [
  | inl y ↦ (let s : kept_shape ks f.path ≡ None = ap (kept_shape ks) ((same_path-decides f.path p).0 y) ∙ e in rw s (rw y refl))
  | inr y ↦ rw y (go (kept_news ks fs p e) (is_none (kept_shape ks f.path)) y)
]
  where
    go : kept_shape (new_facts ks fs) p ≡ kept_shape fs p → (b : Bool) → same_path f.path p ≡ false → kept_shape (cond b (f ∷ new_facts ks fs) (new_facts ks fs)) p ≡ kept_shape fs p
    go up true y = rw y up
    go up false y = up

pub added_shapes : (fs gs facts : List Fact) → KnowsMore fs gs → HaveSameShapes (gs ++ new_facts gs facts) (gs ++ new_facts fs facts)
added_shapes fs gs facts more p = go (kept_shape gs p) refl
  where
    less : kept_shape gs p ≡ None → (o : Option Shape) → kept_shape fs p ≡ o → kept_shape fs p ≡ None
    less e None x = x
    less e (Some sh) x = absurd (let y = more p sh x in cc)

    go : (o : Option Shape) → kept_shape gs p ≡ o → kept_shape (gs ++ new_facts gs facts) p ≡ kept_shape (gs ++ new_facts fs facts) p
    go (Some sh) e = kept_before gs (new_facts gs facts) p sh e ∙ sym (kept_before gs (new_facts fs facts) p sh e)
    go None e = kept_after gs (new_facts gs facts) p e ∙ kept_news gs facts p e ∙ sym (kept_news fs facts p (less e (kept_shape fs p) refl)) ∙ sym (kept_after gs (new_facts fs facts) p e)

pub facts_grow : FactsGrow
facts_grow fs gs fc gc more = record {
  excluded = excluded_more fs gs fc gc more;
  allowed = allowed_more fs gs fc gc more;
  wholes = wholes_more fs gs fc gc more;
  refused = refused_more fs gs fc gc more;
  added = λ facts news h. go facts news (adds_all fs facts news h) (addition gs facts) refl;
}
  where
    go : (facts news : List Fact) → AddsAll fs facts news → (o : Addition) → addition gs facts ≡ o → AddsAlike gs news o
    go facts news a (refuses old new) e = tt
    go facts news a (adds more') e = let b = adds_all gs facts more' e in
        let P : List Fact → List Fact → Type 0 = λ x y. HaveSameShapes (gs ++ x) (gs ++ y) in
        subst (λ (x : List Fact). P x news) b.new (subst (λ (y : List Fact). P (new_facts gs facts) y) a.new (added_shapes fs gs facts more))
