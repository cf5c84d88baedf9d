-- What facts say of the whole of a value whose facts they hold.
use Rattle.std.proofs.Common.{◌≡◌, true, false, if◌then◌else◌, inl, inr, ℕ, zero, suc, ◌+◌, ◌≤◌, List, [], ◌∷◌, ◌++◌, length, Some, refl, ap, ap₂, ◌∙◌, subst, arith}
use Rattle.std.proofs.lemmas.List.{length-append}
use Rattle.std.proofs.lemmas.Bool.{or_from}
use Rattle.tp_value.specs.Limits.{is_within_list_limit}
use Rattle.tp_value.specs.Tree.{Tree, Trees, num, truth, list, nil, cons, items_of, of_items}
use Rattle.tp_value.specs.Shape.{shape_of}
use Rattle.tp_value.specs.declared.value.Shape.{Shape}
use Rattle.tp_value.specs.declared.value.Shape.TheVariants.{Num, Truth}
use Rattle.tp_value.specs.declared.path.VarId.{VarId}
use Rattle.tp_value.specs.declared.path.Path.{Path}
use Rattle.tp_value.specs.declared.path.Fact.{Fact}
use Rattle.tp_store.specs.Facts.{kept_shape, is_excluded, excludes, facts_at, facts_of_items, item_path, fact}
use Rattle.tp_store.specs.Known.{NoClash, addition, adds, absent, deepest, full, known, limited, too_long, value, all_known, and_items, items_known, list_of_items, whole, with_shape}
use Rattle.tp_store.specs.Changes.{HaveSameShapes}
use Rattle.tp_store.specs.Nodes.{path_along}
use Rattle.tp_store.specs.KeptValue.{SayWhole}
use Rattle.tp_store.proofs.Members.{In, in_left, in_right, in_kept, excludes-own}
use Rattle.tp_store.proofs.Adding.{adds_all, given_in, NoClash-adds}
use Rattle.tp_store.proofs.Same.{kept_depth}

-- each of these facts is kept
abbrev pub AllKept : List Fact → List Fact → Type 0
AllKept fs gs = (g : Fact) → In g gs → kept_shape fs g.path ≡ Some g.shape

pub first_fact : (p : Path) (t : Tree) → (sh : Shape) × In (fact p sh) (facts_at p t)
first_fact p (num n) = (Num n, inl refl)
first_fact p (truth b) = (Truth b, inl refl)
first_fact p (list ts) = (shape_of (list ts), inl refl)

of_items_of : (ts : Trees) → of_items (items_of ts) ≡ ts
of_items_of nil = refl
of_items_of (cons t ts) = ap (cons t) (of_items_of ts)

mutual
  pub whole_kept : (t : Tree) (fs : List Fact) (p : Path) (d : ℕ) → deepest fs ≤ length p.at + d → AllKept fs (facts_at p t) → whole (suc d) fs p ≡ known t
  whole_kept (num n) fs p d l all = ap (with_shape (whole d fs) p) (all (fact p (Num n)) (inl refl))
  whole_kept (truth b) fs p d l all = ap (with_shape (whole d fs) p) (all (fact p (Truth b)) (inl refl))
  whole_kept (list ts) fs p d l all =
      ap (with_shape (whole d fs) p) (all (fact p (shape_of (list ts))) (inl refl))
      ∙ ap list_of_items (items_kept ts fs p 0 d l (λ g i. all g (inr i)))
      ∙ ap (λ us. known (list us)) (of_items_of ts)

  items_kept : (ts : Trees) (fs : List Fact) (p : Path) (k d : ℕ) → deepest fs ≤ length p.at + d → AllKept fs (facts_of_items p k ts)
      → items_known (whole d fs) p (length (items_of ts)) k ≡ all_known (items_of ts)
  items_kept nil fs p k d l all = refl
  items_kept (cons t ts) fs p k zero l all =
      let first = first_fact (item_path p k) t in
      let kept = all _ (in_left _ (facts_at (item_path p k) t) (facts_of_items p (suc k) ts) first.1) in
      let deep : length (p.at ++ k ∷ []) ≤ deepest fs = kept_depth fs (item_path p k) first.0 kept in
      let long : length (p.at ++ k ∷ []) ≡ length p.at + 1 = length-append p.at (k ∷ []) in
      absurd (omega (arith, l, deep, long))
  items_kept (cons t ts) fs p k (suc d) l all =
      let long : length (p.at ++ k ∷ []) ≡ length p.at + 1 = length-append p.at (k ∷ []) in
      let within : deepest fs ≤ length (p.at ++ k ∷ []) + d = omega (arith, l, long) in
      ap₂ and_items
      (whole_kept t fs (item_path p k) d within (λ g i. all g (in_left g (facts_at (item_path p k) t) (facts_of_items p (suc k) ts) i)))
      (items_kept ts fs p (suc k) (suc d) l (λ g i. all g (in_right g (facts_at (item_path p k) t) (facts_of_items p (suc k) ts) i)))

-- where facts were added, each of them is kept
given_kept : (old facts news new : List Fact) → addition old facts ≡ adds news → NoClash old → NoClash facts → HaveSameShapes new (old ++ news) → AllKept new facts
given_kept old facts news new h n m same g i =
    same g.path ∙ in_kept (old ++ news) g (NoClash-adds old facts news h n m)
    (elim (given_in old facts news (adds_all old facts news h) g i) [ inl j ↦ in_left g old news j | inr j ↦ in_right g old news j ])

-- and where they are those of a value of the whole variable, this is what is known of it
pub value_said : (t : Tree) (x : VarId) (old facts news new : List Fact) → facts ≡ facts_at (path_along x []) t → addition old facts ≡ adds news → NoClash old → NoClash facts
    → HaveSameShapes new (old ++ news) → SayWhole new (path_along x []) t
value_said t x old facts news new e h n m same =
    let P : List Fact → Type 0 = λ gs. AllKept new gs in
    whole_kept t new (path_along x []) (deepest new) (omega arith) (subst P e (given_kept old facts news new h n m same))

none_excludes_root : (fs : List Fact) (x : VarId) → is_excluded fs (path_along x []) ≡ false
none_excludes_root [] x = refl
none_excludes_root (f ∷ fs) x = or_from (excludes f (path_along x [])) (is_excluded fs (path_along x [])) (excludes-own f (path_along x []) (omega arith)) (none_excludes_root fs x)

-- what is said of a whole variable, and may be read, is its value
pub value_known : (fs : List Fact) (x : VarId) (t : Tree) → SayWhole fs (path_along x []) t → is_within_list_limit t ≡ true → full fs (path_along x []) ≡ value t
value_known fs x t h w =
    ap (λ b. if b then absent else limited (whole (suc (deepest fs)) fs (path_along x []))) (none_excludes_root fs x)
    ∙ ap limited h ∙ ap (λ b. if b then value t else too_long) w
