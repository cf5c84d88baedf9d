-- Facts as the entries of a map, and what look-ups along a path tell of them.
use Rattle.std.proofs.Common.{◌≡◌, inl, inr, ℕ, zero, suc, ◌+◌, ◌-◌, ◌<◌, max, Bool, true, false, not, ◌&&◌, ◌||◌, cond, eqb, List, [], ◌∷◌, ◌++◌, length, take, drop, get_or, Option, Some, None, refl, ap, ap₂, sym, ◌∙◌, subst, arith}
use Rattle.std.proofs.lemmas.Bool.{both_ways, false_from_ne_true, and_parts, or_from, eq-eqb, eqb-true}
use Rattle.std.specs.List.{slice_get}
use Rattle.tp_value.specs.declared.value.Shape.{Shape}
use Rattle.tp_value.specs.declared.path.VarId.{VarId}
use Rattle.tp_value.specs.declared.path.Path.{Path}
use Rattle.tp_value.specs.declared.path.Fact.{Fact}
use Rattle.tp_store.specs.Facts.{same_variable, same_path, same_shape, has_item, leaves_out, excludes, clash, kept_shape, is_excluded, fact}
use Rattle.tp_store.specs.Known.{NoClash, is_earlier, earlier_of, first_clash, deepest}
use Rattle.tp_store.specs.FactMap.{lacks_item, outer_path}
use Rattle.tp_store.proofs.Paths.{same_variable-decides, same_shape-decides, fact_from}
use Rattle.tp_store.proofs.Members.{In, kept_in, none_kept, in_kept, excluded_by, excluded_from, apart_in}

-- a list at one of its items
pub split_at : {A : Type 0} (xs : List A) (i : ℕ) (d : A) → i < length xs → xs ≡ take i xs ++ get_or xs i d ∷ drop (i + 1) xs
split_at [] i d h = absurd (omega arith)
split_at (x ∷ xs) zero d h = refl
split_at (x ∷ xs) (suc i) d h =
    let n : suc (i + 1) ≡ suc i + 1 = omega arith in
    ap (λ ys. x ∷ ys) (split_at xs i d (omega arith)) ∙ ap (λ m. x ∷ (take i xs ++ get_or xs i d ∷ drop m (x ∷ xs))) n

-- a fact is left out by what stands at its first indices
pub leaves_at : (at : List ℕ) (sh : Shape) (n : ℕ) → n < length at → leaves_out (take n at) sh at ≡ not (has_item sh (get_or at n 0))
leaves_at [] sh n h = absurd (omega arith)
leaves_at (k ∷ ks) sh zero h = refl
leaves_at (k ∷ ks) sh (suc n) h = ap (λ b. b && leaves_out (take n ks) sh ks) (eq-eqb k k refl) ∙ leaves_at ks sh n (omega arith)

pub record LeftBy (a b : List ℕ) (sh : Shape) : Type 0 where
  pub below : length a < length b
  pub first : a ≡ take (length a) b
  pub lacks : has_item sh (get_or b (length a) 0) ≡ false

pub left_by : (a b : List ℕ) (sh : Shape) → leaves_out a sh b ≡ true → LeftBy a b sh
left_by [] [] sh h = absurd (cc)
left_by [] (k ∷ ks) sh h = record { below = omega arith; first = refl; lacks = not_true (has_item sh k) h }
  where
    not_true : (b : Bool) → not b ≡ true → b ≡ false
    not_true true h = absurd (cc)
    not_true false h = refl
left_by (j ∷ js) [] sh h = absurd (cc)
left_by (j ∷ js) (k ∷ ks) sh h =
    let parts = and_parts (eqb j k) (leaves_out js sh ks) h in
    let rest = left_by js ks sh parts.1 in
    let below : length js < length ks = rest.below in
    record { below = omega arith; first = ap₂ (λ x xs. x ∷ xs) (eqb-true j k parts.0) rest.first; lacks = rest.lacks }

-- a fact that excludes a path is of an outer one
pub record ExcludedAt (f : Fact) (p : Path) : Type 0 where
  pub below : length f.path.at < length p.at
  pub path : f.path ≡ outer_path p (length f.path.at)
  pub lacks : has_item f.shape (get_or p.at (length f.path.at) 0) ≡ false

pub excluded_at : (f : Fact) (p : Path) → excludes f p ≡ true → ExcludedAt f p
excluded_at f p h =
    let parts = and_parts (same_variable f.path.var p.var) (leaves_out f.path.at f.shape p.at) h in
    let left = left_by f.path.at p.at f.shape parts.1 in
    let make : VarId → List ℕ → Path = λ x at. record { var = x; at = at } in
    record { below = left.below; path = ap₂ make ((same_variable-decides f.path.var p.var).0 parts.0) left.first; lacks = left.lacks }

pub excluded_here : (fs : List Fact) (p : Path) (n : ℕ) → n < length p.at
    → lacks_item (kept_shape fs (outer_path p n)) (get_or p.at n 0) ≡ true → is_excluded fs p ≡ true
excluded_here fs p n l h =
    let P : Option Shape → Type 0 = λ o. kept_shape fs (outer_path p n) ≡ o → lacks_item o (get_or p.at n 0) ≡ true → is_excluded fs p ≡ true in
    let some : (sh : Shape) → P (Some sh) = λ sh e t.
    (let same : same_variable p.var p.var ≡ true = (same_variable-decides p.var p.var).1 refl in
    excluded_from fs p (fact (outer_path p n) sh) (kept_in fs (outer_path p n) sh e)
    (ap (λ b. b && leaves_out (take n p.at) sh p.at) same ∙ leaves_at p.at sh n l ∙ t)) in
    let cases : P (kept_shape fs (outer_path p n)) = elim (kept_shape fs (outer_path p n)) as P [ None ↦ λ e t. absurd (cc t) | Some sh ↦ some sh ] in
    cases refl h

pub none_excludes : (fs : List Fact) (p : Path) → NoClash fs
    → ((n : ℕ) → n < length p.at → lacks_item (kept_shape fs (outer_path p n)) (get_or p.at n 0) ≡ false) → is_excluded fs p ≡ false
none_excludes fs p n none = false_from_ne_true (is_excluded fs p) (λ t.
    let r = excluded_by fs p t in
    let f : Fact = r.0 in
    let e = excluded_at f p r.2 in
    let m = length f.path.at in
    let kept : kept_shape fs (outer_path p m) ≡ Some f.shape = ap (kept_shape fs) (sym e.path) ∙ in_kept fs f n r.1 in
    both_ways (lacks_item (kept_shape fs (outer_path p m)) (get_or p.at m 0)) (none m e.below)
    (ap (λ o. lacks_item o (get_or p.at m 0)) kept ∙ ap not e.lacks))

-- nothing clashes with a fact
pub no_first : (fs : List Fact) (f : Fact) → ((g : Fact) → In g fs → clash g f ≡ false) → first_clash fs f ≡ None
no_first [] f h = refl
no_first (g ∷ gs) f h =
    ap (λ b. cond b (Some (earlier_of g (first_clash gs f))) (first_clash gs f)) (h g (inl refl)) ∙ no_first gs f (λ x i. h x (inr i))

-- a fact that is kept already
pub kept_already : (fs : List Fact) (f : Fact) (sh : Shape) → NoClash fs → kept_shape fs f.path ≡ Some sh → same_shape sh f.shape ≡ true
    → first_clash fs f ≡ None
kept_already fs f sh n e t =
    let same : fact f.path sh ≡ f = fact_from (fact f.path sh) f refl ((same_shape-decides sh f.shape).0 t) in
    let I : Fact → Type 0 = λ g. In g fs in
    no_first fs f (λ g i. apart_in fs g f n i (subst I same (kept_in fs f.path sh e)))

-- a fact whose path has no shape, that is not excluded, and excludes none
pub apart_from_all : (fs : List Fact) (f : Fact) → kept_shape fs f.path ≡ None → is_excluded fs f.path ≡ false
    → ((g : Fact) → In g fs → excludes f g.path ≡ false) → first_clash fs f ≡ None
apart_from_all fs f none out beyond =
    no_first fs f (λ g i.
    let other : same_path g.path f.path ≡ false = none_kept fs f.path none g i in
    let before : excludes g f.path ≡ false =
    false_from_ne_true (excludes g f.path) (λ t. both_ways (is_excluded fs f.path) out (excluded_from fs f.path g i t)) in
    or_from (same_path g.path f.path && not (same_shape g.shape f.shape)) (excludes g f.path || excludes f g.path)
    (ap (λ b. b && not (same_shape g.shape f.shape)) other)
    (or_from (excludes g f.path) (excludes f g.path) before (beyond g i)))

-- One turn of the search for the first clash, from the last fact to the first.
first-at : (fs : List Fact) (i : ℕ) (g f : Fact) → slice_get fs i ≡ Some g
    → first_clash (drop i fs) f ≡ cond (clash g f) (Some (earlier_of g (first_clash (drop (suc i) fs) f))) (first_clash (drop (suc i) fs) f)
first-at [] i g f h = absurd (cc)
first-at (x ∷ fs) zero g f h =
    let e : x ≡ g = cc h in
    ap (λ y. cond (clash y f) (Some (earlier_of y (first_clash fs f))) (first_clash fs f)) e
first-at (x ∷ fs) (suc i) g f h = first-at fs i g f h

module _ (fs : List Fact) (f : Fact) (i : ℕ) (o : Option Fact) (e : Fact) (low : 0 < i) (here : slice_get fs (i - 1) ≡ Some e) (so_far : o ≡ first_clash (drop i fs) f) where
  turn : first_clash (drop (i - 1) fs) f ≡ cond (clash e f) (Some (earlier_of e o)) o
  turn =
      let next : suc (i - 1) ≡ i = omega arith in
      first-at fs (i - 1) e f here
      ∙ ap (λ u. cond (clash e f) (Some (earlier_of e u)) u) (ap (λ j. first_clash (drop j fs) f) next ∙ sym so_far)

  pub turn_passes : clash e f ≡ false → o ≡ first_clash (drop (i - 1) fs) f
  turn_passes c = sym (turn ∙ ap (λ b. cond b (Some (earlier_of e o)) o) c)

  pub turn_takes : clash e f ≡ true → (g : Fact) → g ≡ earlier_of e o → Some g ≡ first_clash (drop (i - 1) fs) f
  turn_takes c g q = ap Some q ∙ sym (turn ∙ ap (λ b. cond b (Some (earlier_of e o)) o) c)

pub stays_first : (best g : Fact) → is_earlier best g ≡ true → best ≡ earlier_of g (Some best)
stays_first best g t = sym (ap (λ b. cond b best g) t)

pub comes_first : (best g : Fact) → is_earlier best g ≡ false → g ≡ earlier_of g (Some best)
comes_first best g t = sym (ap (λ b. cond b best g) t)

-- the greatest number of indices
pub deepest-append : (fs gs : List Fact) → deepest (fs ++ gs) ≡ max (deepest fs) (deepest gs)
deepest-append [] gs = omega arith
deepest-append (f ∷ fs) gs = let rest : deepest (fs ++ gs) ≡ max (deepest fs) (deepest gs) = deepest-append fs gs in omega arith

pub later_apart : (fs gs : List Fact) → NoClash (fs ++ gs) → NoClash gs
later_apart [] gs n = n
later_apart (f ∷ fs) gs n = later_apart fs gs n.2
