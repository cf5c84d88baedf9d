-- Facts behind others.
use Rattle.std.proofs.Common.{◌≡◌, inl, inr, ℕ, nat_lt, Bool, true, false, cond, List, [], ◌∷◌, ◌++◌, Option, Some, None, refl, ap, ap₂, sym, ◌∙◌, subst, append-nil, append_assoc}
use Rattle.std.proofs.lemmas.List.Elements.{filter-append}
use Rattle.tp_value.specs.declared.value.Shape.{Shape}
use Rattle.tp_value.specs.declared.path.Path.{Path}
use Rattle.tp_value.specs.declared.path.Fact.{Fact}
use Rattle.tp_store.specs.Facts.{same_path, clash, kept_shape}
use Rattle.tp_store.specs.Known.{NoClash, facts_below}
use Rattle.tp_store.specs.Changes.{HaveSameShapes, HasAppended}
use Rattle.tp_store.proofs.Members.{In, in_right, kept_in, in_kept, none_kept, none_meets, NoClash-append, NoClash-filter, Apart}

abbrev pub or_else : Option Shape → Option Shape → Option Shape
or_else None o = o
or_else (Some sh) o = Some sh

pub kept_shape-append : (xs ys : List Fact) (p : Path) → kept_shape (xs ++ ys) p ≡ or_else (kept_shape xs p) (kept_shape ys p)
kept_shape-append [] ys p = refl
kept_shape-append (x ∷ xs) ys p =
    let P : Bool → Type 0 = λ b. cond b (Some x.shape) (kept_shape (xs ++ ys) p) ≡ or_else (cond b (Some x.shape) (kept_shape xs p)) (kept_shape ys p) in
    elim (same_path x.path p) as P [ true ↦ refl | false ↦ kept_shape-append xs ys p ]

-- a fact is in each list without a clash that gives the same shapes
pub in_same : (fs gs : List Fact) → NoClash fs → HaveSameShapes fs gs → (f : Fact) → In f fs → In f gs
in_same fs gs n s f i = kept_in gs f.path f.shape (sym (s f.path) ∙ in_kept fs f n i)

-- the facts of one part stand apart from those of the other
parts_stand_apart : (xs ys : List Fact) (f g : Fact) → NoClash (xs ++ ys) → In f xs → In g ys → Apart f g
parts_stand_apart [] ys f g n i j = absurd i
parts_stand_apart (x ∷ xs) ys f g n (inl e) j =
    let there = in_right g xs ys j in
    (ap (λ (y : Fact). same_path g.path y.path) (sym e) ∙ none_kept (xs ++ ys) x.path n.0 g there, ap (λ y. clash g y) (sym e) ∙ none_meets (xs ++ ys) x n.1 g there)
parts_stand_apart (x ∷ xs) ys f g n (inr i) j = parts_stand_apart xs ys f g n.2 i j

-- what was appended, and then more
pub then_appended : (xs ys all old mid new : List Fact) → NoClash (xs ++ ys) → HaveSameShapes (xs ++ ys) all → HasAppended xs old mid → HasAppended ys mid new → HasAppended all old new
then_appended xs ys all old mid new n s h k = record {
  appended = h.appended ++ k.appended;
  list = k.list ∙ ap (λ zs. zs ++ k.appended) h.list ∙ append_assoc old h.appended k.appended;
  no_clash = NoClash-append h.appended k.appended h.no_clash k.no_clash (λ f g i j.
      parts_stand_apart xs ys f g n (in_same h.appended xs h.no_clash h.shapes f i) (in_same k.appended ys k.no_clash k.shapes g j));
  shapes = λ p. kept_shape-append h.appended k.appended p ∙ ap₂ or_else (h.shapes p) (k.shapes p) ∙ sym (kept_shape-append xs ys p) ∙ s p;
}

pub appended_same : (xs ys old new : List Fact) → HaveSameShapes xs ys → HasAppended xs old new → HasAppended ys old new
appended_same xs ys old new s h = record { appended = h.appended; list = h.list; no_clash = h.no_clash; shapes = λ p. h.shapes p ∙ s p }

pub none_appended : (xs old : List Fact) → ((p : Path) → kept_shape xs p ≡ None) → HasAppended xs old old
none_appended xs old h = record { appended = []; list = sym (append-nil old); no_clash = tt; shapes = λ p. sym (h p) }

pub all_appended : (xs old new : List Fact) → NoClash xs → new ≡ old ++ xs → HasAppended xs old new
all_appended xs old new n e = record { appended = xs; list = e; no_clash = n; shapes = λ p. refl }

-- behind others
pub moved_behind : (xs found old new : List Fact) → HasAppended xs [] found → new ≡ old ++ found → HasAppended xs old new
moved_behind xs found old new h e = record { appended = h.appended; list = e ∙ ap (λ zs. old ++ zs) h.list; no_clash = h.no_clash; shapes = h.shapes }

-- those of the variables with lesser numbers, part by part
pub below_appended : (below : ℕ) (xs ys all old mid new : List Fact) → NoClash all → xs ++ ys ≡ all → HasAppended (facts_below below xs) old mid → HasAppended (facts_below below ys) mid new
    → HasAppended (facts_below below all) old new
below_appended below xs ys all old mid new n e h k =
    let lesser : Fact → Bool = λ f. nat_lt f.path.var.number below in
    let both : facts_below below xs ++ facts_below below ys ≡ facts_below below all = sym (filter-append lesser xs ys) ∙ ap (facts_below below) e in
    then_appended (facts_below below xs) (facts_below below ys) (facts_below below all) old mid new
    (subst (λ fs. NoClash fs) (sym both) (NoClash-filter lesser all n)) (λ p. ap (λ fs. kept_shape fs p) both) h k
