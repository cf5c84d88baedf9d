-- Places in lists, and flags.
use Rattle.std.proofs.Common.{◌≡◌, ◌⊎◌, ℕ, zero, suc, ◌<◌, Bool, false, List, [], ◌∷◌, ◌++◌, length, Some, slice_get, refl, ap, inl, inr, arith}
use Rattle.tp_lanes.specs.Planes.{flag}

pub at_less : {A : Type 0} (xs : List A) (i : ℕ) (x : A) → slice_get xs i ≡ Some x → i < length xs
at_less [] i x h = absurd (cc)
at_less (y ∷ ys) zero x h = omega arith
at_less (y ∷ ys) (suc i) x h = let l = at_less ys i x h in omega (arith, l)

pub at_one : {A : Type 0} (xs : List A) (i : ℕ) (x y : A) → slice_get xs i ≡ Some x → slice_get xs i ≡ Some y → x ≡ y
at_one xs i x y h g = cc

pub at_left : {A : Type 0} (xs : List A) (y : A) (i : ℕ) (x : A) → slice_get xs i ≡ Some x → slice_get (xs ++ y ∷ []) i ≡ Some x
at_left [] y i x h = absurd (cc)
at_left (z ∷ zs) y zero x h = h
at_left (z ∷ zs) y (suc i) x h = at_left zs y i x h

pub at_last : {A : Type 0} (xs : List A) (y : A) → slice_get (xs ++ y ∷ []) (length xs) ≡ Some y
at_last [] y = refl
at_last (z ∷ zs) y = at_last zs y

pub at_cases : {A : Type 0} (xs : List A) (y : A) (i : ℕ) (x : A) → slice_get (xs ++ y ∷ []) i ≡ Some x → (slice_get xs i ≡ Some x) ⊎ ((i ≡ length xs) × (y ≡ x))
at_cases [] y zero x h = inr (refl, cc)
at_cases [] y (suc i) x h = absurd (cc)
at_cases (z ∷ zs) y zero x h = inl h
at_cases (z ∷ zs) y (suc i) x h = elim (at_cases zs y i x h) [ inl a ↦ inl a | inr b ↦ inr (ap suc (b.0), b.1) ]

pub flag_push : (xs : List Bool) (i : ℕ) → flag (xs ++ false ∷ []) i ≡ flag xs i
flag_push [] zero = refl
flag_push [] (suc i) = refl
flag_push (x ∷ xs) zero = refl
flag_push (x ∷ xs) (suc i) = flag_push xs i
