-- Facts that are kept in turn, each at its node.
use Rattle.std.proofs.Common.{◌≡◌, inl, inr, ℕ, ◌+◌, false, List, [], ◌∷◌, ◌++◌, take, drop, None, refl, ap, sym, ◌∙◌, subst, append-nil, append_assoc}
use Rattle.tp_value.specs.declared.path.Fact.{Fact}
use Rattle.tp_store.specs.Facts.{same_path, clash, kept_shape}
use Rattle.tp_store.specs.Known.{NoClash, clashes_with_some}
use Rattle.tp_store.specs.Changes.{HaveSameShapes}
use Rattle.tp_store.proofs.Paths.{same_path-sym, clash-sym}
use Rattle.tp_store.proofs.Members.{In, in_left, in_right, in_append, kept_none, none_kept, meets_none, none_meets}
use Rattle.tp_store.proofs.Same.{same_kept}
use Rattle.tp_store.proofs.States.{agree_all}
use Rattle.tp_store.proofs.Trees.{AddsFact, NoClash-insert}

-- The facts are those of the old ones and of the news, in some order, and don't clash.
pub record AreKept (old news new : List Fact) : Type 0 where
  pub no_clash : NoClash new
  pub there : (g : Fact) → In g new → In g (old ++ news)
  pub back : (g : Fact) → In g (old ++ news) → In g new

pub kept_nothing : (old : List Fact) → NoClash old → AreKept old [] old
kept_nothing old n =
    let e : old ++ [] ≡ old = append-nil old in
    record {
      no_clash = n;
      there = λ g i. in_left g old [] i;
      back = λ g i. let P : List Fact → Type 0 = λ xs. In g xs in subst P e i;
    }

-- the first of some facts without a clash
pub front_apart : (xs ys : List Fact) → NoClash (xs ++ ys) → NoClash xs
front_apart [] ys n = tt
front_apart (x ∷ xs) ys n = (
  kept_none xs x.path (λ g i. none_kept (xs ++ ys) x.path n.0 g (in_left g xs ys i)),
  meets_none xs x (λ g i. none_meets (xs ++ ys) x n.1 g (in_left g xs ys i)),
  front_apart xs ys n.2,
)

-- the facts before one of a list without a clash stand apart from it
apart_before : (xs ys : List Fact) (f : Fact) → NoClash (xs ++ f ∷ ys) → (g : Fact) → In g xs → (same_path g.path f.path ≡ false) × (clash g f ≡ false)
apart_before [] ys f n g i = absurd i
apart_before (x ∷ xs) ys f n g (inl e) =
    let there : In f (xs ++ f ∷ ys) = in_right f xs (f ∷ ys) (inl refl) in (
      ap (λ (h : Fact). same_path h.path f.path) (sym e) ∙ same_path-sym x.path f.path ∙ none_kept (xs ++ f ∷ ys) x.path n.0 f there,
      ap (λ (h : Fact). clash h f) (sym e) ∙ clash-sym x f ∙ none_meets (xs ++ f ∷ ys) x n.1 f there,
    )
apart_before (x ∷ xs) ys f n g (inr i) = apart_before xs ys f n.2 g i

module _ (old news : List Fact) (i : ℕ) (f : Fact) (new : List Fact) (apart : NoClash (old ++ news)) (split : news ≡ take i news ++ f ∷ drop (i + 1) news) (kept : AreKept old (take i news) new) where
  whole : NoClash ((old ++ take i news) ++ f ∷ drop (i + 1) news)
  whole =
      let N : List Fact → Type 0 = λ fs. NoClash fs in
      subst N (ap (λ fs. old ++ fs) split ∙ sym (append_assoc old (take i news) (f ∷ drop (i + 1) news))) apart

  before : (g : Fact) → In g new → (same_path g.path f.path ≡ false) × (clash g f ≡ false)
  before g j = apart_before (old ++ take i news) (drop (i + 1) news) f whole g (kept.there g j)

  pub absent_next : kept_shape new f.path ≡ None
  absent_next = kept_none new f.path (λ g j. (before g j).0)

  apart_next : clashes_with_some new f ≡ false
  apart_next = meets_none new f (λ g j. (before g j).1)

  pub next_apart : NoClash (new ++ f ∷ [])
  next_apart =
      let N : List Fact → Type 0 = λ fs. NoClash fs in
      let K : List Fact → Type 0 = λ fs. kept_shape fs f.path ≡ None in
      let C : List Fact → Type 0 = λ fs. clashes_with_some fs f ≡ false in
      let e = sym (append-nil new) in
      NoClash-insert new [] f (subst N e kept.no_clash) (subst K e absent_next) (subst C e apart_next)

  -- the same, of facts that give each path the shape that these give it
  pub kept_so : (more : List Fact) → NoClash more → HaveSameShapes more (new ++ f ∷ []) → AreKept old (take i news ++ f ∷ []) more
  kept_so more n s =
      let all = λ (g : Fact). agree_all more (new ++ f ∷ []) n next_apart s g.path.var in
      let same : (old ++ take i news) ++ f ∷ [] ≡ old ++ (take i news ++ f ∷ []) = append_assoc old (take i news) (f ∷ []) in
      record {
        no_clash = n;
        there = λ g j.
            (let I : List Fact → Type 0 = λ fs. In g fs in
            elim (in_append g new (f ∷ []) ((all g).there g refl j)) [
              | inl m ↦ subst I same (in_left g (old ++ take i news) (f ∷ []) (kept.there g m))
              | inr m ↦ subst I same (in_right g (old ++ take i news) (f ∷ []) m)
            ]);
        back = λ g j.
            (let I : List Fact → Type 0 = λ fs. In g fs in
            elim (in_append g (old ++ take i news) (f ∷ []) (subst I (sym same) j)) [
              | inl m ↦ (all g).back g refl (in_left g new (f ∷ []) (kept.back g m))
              | inr m ↦ (all g).back g refl (in_right g new (f ∷ []) m)
            ]);
      }

  pub kept_next : (more : List Fact) → AddsFact new f more → AreKept old (take i news ++ f ∷ []) more
  kept_next more a =
      let N : List Fact → Type 0 = λ fs. NoClash fs in
      let K : List Fact → Type 0 = λ fs. kept_shape fs f.path ≡ None in
      let C : List Fact → Type 0 = λ fs. clashes_with_some fs f ≡ false in
      let same : (old ++ take i news) ++ f ∷ [] ≡ old ++ (take i news ++ f ∷ []) = append_assoc old (take i news) (f ∷ []) in
      record {
        no_clash = subst N (sym a.is) (NoClash-insert a.front a.back f (subst N a.was kept.no_clash) (subst K a.was absent_next) (subst C a.was apart_next));
        there = λ g j.
            (let I : List Fact → Type 0 = λ fs. In g fs in
            let was : In g (a.front ++ a.back) → In g (old ++ (take i news ++ f ∷ [])) = λ m.
            subst I same (in_left g (old ++ take i news) (f ∷ []) (kept.there g (subst I (sym a.was) m))) in
            elim (in_append g a.front (f ∷ a.back) (subst I a.is j)) [
              | inl m ↦ was (in_left g a.front a.back m)
              | inr (inl e) ↦ subst I same (in_right g (old ++ take i news) (f ∷ []) (inl e))
              | inr (inr m) ↦ was (in_right g a.front a.back m)
            ]);
        back = λ g j.
            (let I : List Fact → Type 0 = λ fs. In g fs in
            let put : In g (a.front ++ a.back) → In g (a.front ++ f ∷ a.back) = λ m.
            elim (in_append g a.front a.back m) [
              | inl k ↦ in_left g a.front (f ∷ a.back) k
              | inr k ↦ in_right g a.front (f ∷ a.back) (inr k)
            ] in
            elim (in_append g (old ++ take i news) (f ∷ []) (subst I (sym same) j)) [
              | inl m ↦ subst I (sym a.is) (put (subst I a.was (kept.back g m)))
              | inr (inl e) ↦ subst I (sym a.is) (in_right g a.front (f ∷ a.back) (inl e))
              | inr (inr m) ↦ absurd m
            ]);
      }

-- so they give each path the same shape
pub kept_shapes : (old news new : List Fact) → NoClash (old ++ news) → AreKept old news new → HaveSameShapes new (old ++ news)
kept_shapes old news new n k p = same_kept new (old ++ news) p n (record { there = λ f e i. k.there f i; back = λ f e i. k.back f i })
