-- A list that is made in a loop, one element for each of another's.
use Rattle.std.proofs.Common.{◌≡◌, ℕ, ◌+◌, ◌<◌, ◌≤◌, List, [], ◌∷◌, ◌++◌, map, length, take, get_or, ap, sym, ◌∙◌}
use Rattle.std.proofs.lemmas.List.{map-append, take_more, take_all}

module _ {X Y Z : Type 0} (f : Y → Z) (g : X → Z) (xs : List X) (ys : List Y) where
  pub one_more : (new : List Y) (k : ℕ) (x : X) (y : Y) → k < length xs → x ≡ get_or xs k x → f y ≡ g x → new ≡ ys ++ y ∷ [] → map f ys ≡ map g (take k xs) → map f new ≡ map g (take (k + 1) xs)
  one_more new k x y l e h made inv =
      ap (map f) made ∙ map-append f ys (y ∷ []) ∙ ap (λ (zs : List Z). zs ++ f y ∷ []) inv ∙ ap (λ (z : Z). map g (take k xs) ++ z ∷ []) (h ∙ ap g e)
      ∙ sym (ap (map g) (take_more xs k x l) ∙ map-append g (take k xs) (get_or xs k x ∷ []))

  pub all_made : (k : ℕ) → length xs ≤ k → map f ys ≡ map g (take k xs) → map f ys ≡ map g xs
  all_made k l inv = inv ∙ ap (map g) (take_all k xs l)
