-- What is found in the facts of a whole value.
use Rattle.std.proofs.Common.{◌≡◌, ◌≢◌, inl, ℕ, suc, Bool, true, false, not, ◌&&◌, ◌||◌, if◌then◌else◌, List, [], ◌∷◌, Option, Some, None, refl, ap, sym, ◌∙◌, subst, arith}
use Rattle.std.specs.Option.{is_some}
use Rattle.std.proofs.lemmas.Bool.{both_ways, false_from_ne_true, or_left, or_right, and_from}
use Rattle.tp_value.specs.Tree.{Tree}
use Rattle.tp_value.specs.Shape.{shape_of, item_at, shape_at_path}
use Rattle.tp_value.specs.declared.value.Shape.{Shape}
use Rattle.tp_value.specs.declared.path.VarId.{VarId}
use Rattle.tp_value.specs.declared.path.Path.{Path}
use Rattle.tp_value.specs.declared.path.Fact.{Fact}
use Rattle.tp_store.specs.Facts.{same_path, same_shape, excludes, clash, kept_shape, is_excluded, fact}
use Rattle.tp_store.specs.Known.{NoClash, is_none, addition, adds, first_clash, absent, limited, full, whole, deepest}
use Rattle.tp_store.specs.FactMap.{AreOf}
use Rattle.tp_store.specs.Nodes.{path_along}
use Rattle.tp_store.specs.Wholes.{facts_of_value, full_inside, full_if_some}
use Rattle.tp_store.proofs.Paths.{same_shape-decides, same_path-refl}
use Rattle.tp_store.proofs.Members.{In, kept_in, in_kept, excluded_by, in_filter, apart_in}
use Rattle.tp_store.proofs.First.{FirstOf, first_is}
use Rattle.tp_store.proofs.Meaning.{shape_item, item_shape}
use Rattle.tp_store.proofs.Separate.{value_apart}
use Rattle.tp_store.proofs.Parts.{of_in}
use Rattle.tp_store.proofs.Same.{AgreeAt, same_kept, same_excluded}
use Rattle.tp_store.proofs.Adding.{adds_all}
use Rattle.tp_store.proofs.Inside.{path_in_value, path_outside, facts_inside}
use Rattle.tp_store.proofs.Values.{whole_kept}

-- an excluded path has no shape
excluded_none : (fs : List Fact) (p : Path) (sh : Shape) → NoClash fs → kept_shape fs p ≡ Some sh → is_excluded fs p ≡ true → ⊥
excluded_none fs p sh n k e =
    let r = excluded_by fs p e in
    let f = fact p sh in
    both_ways (clash r.0 f) (apart_in fs r.0 f n r.1 (kept_in fs p sh k))
    (or_right (same_path r.0.path p && not (same_shape r.0.shape sh)) (excludes r.0 p || excludes f r.0.path) (or_left (excludes r.0 p) (excludes f r.0.path) r.2))

none_item : (at : List ℕ) (t : Tree) → item_at at t ≡ None → shape_at_path at t ≡ None
none_item at t h = by (shape_at_path at t) refl
  where
    by : (o : Option Shape) → shape_at_path at t ≡ o → o ≡ None
    by None e = refl
    by (Some sh) e = let r = shape_item at t sh e in let z : Some r.0 ≡ None = sym r.1 ∙ h in absurd (cc z)

module _ (x : VarId) (t : Tree) (at : List ℕ) where
  abbrev facts : List Fact
  facts = facts_of_value x t

  abbrev place : Path
  place = path_along x at

  some_kept : (u : Tree) → item_at at t ≡ Some u → kept_shape facts place ≡ Some (shape_of u)
  some_kept u e = in_kept facts (fact place (shape_of u)) (value_apart (path_along x []) t) (path_in_value x t at u e)

  none_kept_there : item_at at t ≡ None → kept_shape facts place ≡ None
  none_kept_there e = by (kept_shape facts place) refl
    where
      by : (o : Option Shape) → kept_shape facts place ≡ o → o ≡ None
      by None k = refl
      by (Some sh) k = absurd (excluded_none facts place sh (value_apart (path_along x []) t) k (path_outside x t at e))

  pub value_kept : kept_shape facts place ≡ shape_at_path at t
  value_kept = by (item_at at t) refl
    where
      by : (o : Option Tree) → item_at at t ≡ o → kept_shape facts place ≡ shape_at_path at t
      by None e = none_kept_there e ∙ sym (none_item at t e)
      by (Some u) e = some_kept u e ∙ sym (item_shape at t u e)

  pub value_excluded : is_excluded facts place ≡ is_none (shape_at_path at t)
  value_excluded = by (item_at at t) refl
    where
      by : (o : Option Tree) → item_at at t ≡ o → is_excluded facts place ≡ is_none (shape_at_path at t)
      by None e = path_outside x t at e ∙ sym (ap is_none (none_item at t e))
      by (Some u) e =
          false_from_ne_true (is_excluded facts place) (λ q. excluded_none facts place (shape_of u) (value_apart (path_along x []) t) (some_kept u e) q)
          ∙ sym (ap is_none (item_shape at t u e))

  -- what is known there
  pub value_full : full facts place ≡ full_inside t at
  value_full = by (item_at at t) refl
    where
      by : (o : Option Tree) → item_at at t ≡ o → full facts place ≡ full_if_some o
      by None e = ap (λ b. if b then absent else limited (whole (suc (deepest facts)) facts place)) (path_outside x t at e)
      by (Some u) e =
          let out : is_excluded facts place ≡ false = value_excluded ∙ ap is_none (item_shape at t u e) in
          ap (λ b. if b then absent else limited (whole (suc (deepest facts)) facts place)) out
          ∙ ap limited (whole_kept u facts place (deepest facts) (omega arith) (λ g i. in_kept facts g (value_apart (path_along x []) t) (facts_inside x t at u e g i)))

-- a fact of the list that clashes with another
pub clash_first : (fs : List Fact) (f g : Fact) → In g fs → clash g f ≡ true → (h : Fact) × (first_clash fs f ≡ Some h)
clash_first fs f g i c = by (first_clash fs f) refl
  where
    by : (o : Option Fact) → first_clash fs f ≡ o → (h : Fact) × (o ≡ Some h)
    by (Some h) e = (h, refl)
    by None e =
        let P : Option Fact → Type 0 = λ o. FirstOf fs f o in
        let none = subst P e (first_is fs f) in
        absurd (both_ways (clash g f) (none g i) c)

-- A fact of a variable with a whole value: it is kept, or clashes.
module _ (fs : List Fact) (x : VarId) (t : Tree) (apart : NoClash fs) (agree : AgreeAt x fs (facts_of_value x t)) where
  pub kept_whole : (at : List ℕ) → kept_shape fs (path_along x at) ≡ shape_at_path at t
  kept_whole at = same_kept fs (facts_of_value x t) (path_along x at) (value_apart (path_along x []) t) agree ∙ value_kept x t at

  pub excluded_whole : (at : List ℕ) → is_excluded fs (path_along x at) ≡ is_none (shape_at_path at t)
  excluded_whole at = same_excluded fs (facts_of_value x t) (path_along x at) agree ∙ value_excluded x t at

  pub other_clashes : (at : List ℕ) (sh : Shape) → shape_at_path at t ≢ Some sh → (g : Fact) × (first_clash fs (fact (path_along x at) sh) ≡ Some g)
  other_clashes at sh d = by (shape_at_path at t) refl
    where
      f : Fact
      f = fact (path_along x at) sh

      by : (o : Option Shape) → shape_at_path at t ≡ o → (g : Fact) × (first_clash fs f ≡ Some g)
      by None e =
          let r = excluded_by fs (path_along x at) (excluded_whole at ∙ ap is_none e) in
          clash_first fs f r.0 r.1 (or_right (same_path r.0.path f.path && not (same_shape r.0.shape sh)) (excludes r.0 f.path || excludes f r.0.path) (or_left (excludes r.0 f.path) (excludes f r.0.path) r.2))
      by (Some s) e =
          let g = fact (path_along x at) s in
          let differ : same_shape s sh ≡ false = false_from_ne_true (same_shape s sh) (λ q. d (e ∙ ap Some ((same_shape-decides s sh).0 q))) in
          clash_first fs f g (kept_in fs (path_along x at) s (kept_whole at ∙ e))
          (or_left (same_path g.path f.path && not (same_shape s sh)) (excludes g f.path || excludes f g.path) (and_from (same_path g.path f.path) (not (same_shape s sh)) (same_path-refl f.path) (ap not differ)))

  -- so nothing is new to it
  pub no_news : (facts news : List Fact) → AreOf x facts → addition fs facts ≡ adds news → news ≡ []
  no_news facts news a h = by news (λ f i. i)
    where
      all : addition fs facts ≡ adds news
      all = h

      none : (f : Fact) → In f news → ⊥
      none f i =
          let r = adds_all fs facts news h in
          let I : List Fact → Type 0 = λ xs. In f xs in
          let j = in_filter (λ g. is_none (kept_shape fs g.path)) f facts (subst I (sym r.new) i) in
          let own : f.path.var ≡ x = of_in x facts a f j.0 in
          let there : path_along x f.path.at ≡ f.path = ap (λ y. path_along y f.path.at) (sym own) in
          let free : is_none (shape_at_path f.path.at t) ≡ true = ap is_none (sym (kept_whole f.path.at) ∙ ap (kept_shape fs) there) ∙ j.1 in
          let e = excluded_by fs f.path (sym (ap (is_excluded fs) there) ∙ excluded_whole f.path.at ∙ free) in
          both_ways (clash e.0 f) (r.apart e.0 f e.1 j.0)
          (or_right (same_path e.0.path f.path && not (same_shape e.0.shape f.shape)) (excludes e.0 f.path || excludes f e.0.path) (or_left (excludes e.0 f.path) (excludes f e.0.path) e.2))

      by : (xs : List Fact) → ((f : Fact) → In f xs → In f news) → xs ≡ []
      by [] k = refl
      by (f ∷ xs) k = absurd (none f (k f (inl refl)))

-- an option without a value
pub none_there : {A : Type 0} (o : Option A) → is_some o ≡ false → o ≡ None
none_there None h = refl
none_there (Some a) h = absurd (cc h)

pub none_seen : (o : Option Shape) (b : Bool) → is_some o ≡ not b → b ≡ is_none o
none_seen None true h = refl
none_seen None false h = absurd (cc h)
none_seen (Some sh) true h = absurd (cc h)
none_seen (Some sh) false h = refl

pub some_there : {A : Type 0} (o : Option A) → is_some o ≡ true → (a : A) × (o ≡ Some a)
some_there None h = absurd (cc h)
some_there (Some a) h = (a, refl)
