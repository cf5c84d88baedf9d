-- A path that a step decides is decided by one of its facts.
use Rattle.std.proofs.Common.{◌≡◌, ◌⊎◌, inl, inr, Bool, true, false, cond, List, [], ◌∷◌, ◌++◌, Some, refl, sym, ◌∙◌}
use Rattle.std.specs.List.{Contains}
use Rattle.std.proofs.lemmas.Bool.{or_left, or_right}
use Rattle.tp_value.specs.declared.value.Shape.{Shape}
use Rattle.tp_value.specs.declared.path.Path.{Path}
use Rattle.tp_value.specs.declared.path.Fact.{Fact}
use Rattle.tp_store.specs.Facts.{same_path, kept_shape, fact}
use Rattle.tp_store.proofs.Members.{In, kept_in, in_kept, excluded_by, excluded_from}
use Rattle.tp_store.proofs.Paths.{same_path-decides}
use Rattle.tp_scene.specs.Decided.{FactsDecidePaths}
use Rattle.tp_scene.proofs.Listed.{first_in, later_in}

-- the two forms of being in a list
contained : (f : Fact) (xs : List Fact) → In f xs → Contains xs f
contained f [] i = absurd i
contained f (x ∷ xs) (inl e) = first_in x f xs e
contained f (x ∷ xs) (inr i) = later_in x f xs (contained f xs i)

-- what is kept of two lists is kept of the one or stands in the other
kept_or : (xs ys : List Fact) (p : Path) (sh : Shape) → kept_shape (xs ++ ys) p ≡ Some sh → (kept_shape xs p ≡ Some sh) ⊎ Contains ys (fact p sh)
kept_or [] ys p sh e = inr (contained (fact p sh) ys (kept_in ys p sh e))
kept_or (x ∷ xs) ys p sh e = go (kept_or xs ys p sh) (same_path x.path p) e
  where
    go : (kept_shape (xs ++ ys) p ≡ Some sh → (kept_shape xs p ≡ Some sh) ⊎ Contains ys (fact p sh)) → (b : Bool) → cond b (Some x.shape) (kept_shape (xs ++ ys) p) ≡ Some sh → (cond b (Some x.shape) (kept_shape xs p) ≡ Some sh) ⊎ Contains ys (fact p sh)
    go up true e = inl e
    go up false e = up e

pub facts_decide_paths : FactsDecidePaths
facts_decide_paths w m t r next step p (inl x) = elim (kept_or m.store.facts r.facts p x.0 (sym (step.store.kept p) ∙ x.1)) [
  | inl y ↦ inl (inl (x.0, y))
  | inr y ↦ inr (fact p x.0, y, or_left (same_path p p) _ ((same_path-decides p p).1 refl))
]
facts_decide_paths w m t r next step p (inr x) =
    let by = excluded_by next.store.facts p x in
    let f = by.0 in
    elim (kept_or m.store.facts r.facts f.path f.shape (sym (step.store.kept f.path) ∙ in_kept next.store.facts f step.store.no_clash by.1)) [
      | inl y ↦ inl (inr (excluded_from m.store.facts p f (kept_in m.store.facts f.path f.shape y) by.2))
      | inr y ↦ inr (f, y, or_right (same_path f.path p) _ by.2)
    ]
