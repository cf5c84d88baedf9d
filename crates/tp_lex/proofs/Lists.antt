-- Searches in lists, and texts that begin with others.
use Rattle.std.proofs.Common.{refl, ap, sym, subst, ◌∙◌, ◌≡◌, ℕ, ◌+◌, ◌<◌, Bool, true, false, cond, ◌⊎◌, inl, inr, List, [], ◌∷◌, ◌++◌, length, get_or, drop, find, nat_eq, Some, None}
use Rattle.std.specs.List.{starts_with, filter}
use Rattle.std.proofs.lemmas.List.{drop_more}
use Rattle.std.proofs.lemmas.Bool.Decides.{Decides-eqb}
use Rattle.std.proofs.lemmas.Slice.Eq.{starts_is}
use Rattle.tp_lex.specs.Pieces.{BeginsWith}

-- an item that fails the test is passed by
pub find_skips : {A : Type 0} (test : A → Bool) (xs : List A) (i : ℕ) (d : A) → i < length xs → test (get_or xs i d) ≡ false → find test (drop i xs) ≡ find test (drop (i + 1) xs)
find_skips test xs i d h e = rw (drop_more xs i d h, e) refl

-- what a sieve drops fails the test, so that nothing is lost
pub find_sieved : {A : Type 0} (test sieve : A → Bool) → ((x : A) → sieve x ≡ false → test x ≡ false) → (xs : List A) → find test (filter sieve xs) ≡ find test xs
find_sieved test sieve fails [] = refl
find_sieved test sieve fails (x ∷ xs) = at (sieve x) refl (find_sieved test sieve fails xs)
  where
    at : (b : Bool) → sieve x ≡ b → find test (filter sieve xs) ≡ find test xs → find test (cond b (x ∷ filter sieve xs) (filter sieve xs)) ≡ find test (x ∷ xs)
    at true e below = ap (λ r. cond (test x) (Some x) r) below
    at false e below = below ∙ sym (ap (λ b. cond b (Some x) (find test xs)) (fails x e))

-- each item fails the test
abbrev pub AllFail : {A : Type 0} → (A → Bool) → List A → Type 0
AllFail test [] = Unit {0}
AllFail test (x ∷ xs) = (test x ≡ false) × AllFail test xs

-- each item has the property
abbrev pub AllHave : {A : Type 0} → (A → Type 0) → List A → Type 0
AllHave P [] = Unit {0}
AllHave P (x ∷ xs) = P x × AllHave P xs

find_passes_at : {A : Type 0} (test : A → Bool) (y : A) (ys : List A) (x : A) (b : Bool) → test y ≡ b → (find test ys ≡ Some x → test x ≡ true) → cond b (Some y) (find test ys) ≡ Some x → test x ≡ true
find_passes_at test y ys x true t below e = let same : y ≡ x = cc in subst (λ z. test z ≡ true) same t
find_passes_at test y ys x false t below e = below e

-- what is found passes the test
pub find_passes : {A : Type 0} (test : A → Bool) (xs : List A) (x : A) → find test xs ≡ Some x → test x ≡ true
find_passes test [] x e = absurd cc
find_passes test (y ∷ ys) x e = find_passes_at test y ys x (test y) refl (find_passes test ys x) e

find_none_at : {A : Type 0} (test : A → Bool) (y : A) (ys : List A) (b : Bool) → test y ≡ b → (find test ys ≡ None → AllFail test ys) → cond b (Some y) (find test ys) ≡ None → AllFail test (y ∷ ys)
find_none_at test y ys true t below e = absurd cc
find_none_at test y ys false t below e = (t, below e)

-- where nothing is found, each item fails
pub find_none : {A : Type 0} (test : A → Bool) (xs : List A) → find test xs ≡ None → AllFail test xs
find_none test [] e = tt
find_none test (y ∷ ys) e = find_none_at test y ys (test y) refl (find_none test ys) e

find_early_at : {A : Type 0} (test : A → Bool) (P : A → Type 0) (y : A) (ys rest : List A) (x : A) (b : Bool) → test y ≡ b → P y → (find test (ys ++ rest) ≡ Some x → P x ⊎ AllFail test ys)
    → cond b (Some y) (find test (ys ++ rest)) ≡ Some x → P x ⊎ AllFail test (y ∷ ys)
find_early_at test P y ys rest x true t here below e = let same : y ≡ x = cc in inl (subst P same here)
find_early_at test P y ys rest x false t here below e = elim (below e) [ inl p ↦ inl p | inr f ↦ inr (t, f) ]

-- what is found is one of the front, or each of these fails
pub find_early : {A : Type 0} (test : A → Bool) (P : A → Type 0) (front rest : List A) (x : A) → AllHave P front → find test (front ++ rest) ≡ Some x → P x ⊎ AllFail test front
find_early test P [] rest x all e = inr tt
find_early test P (y ∷ ys) rest x all e = find_early_at test P y ys rest x (test y) refl all.0 (find_early test P ys rest x all.1) e

-- `starts_with` is true exactly where the text begins so
pub begins_from : (z front : List ℕ) → starts_with nat_eq z front ≡ true → BeginsWith z front
begins_from z front e = (drop (length front) z, (starts_is Decides-eqb z front true (sym e)).0 refl)

pub starts_from : (z front : List ℕ) → BeginsWith z front → starts_with nat_eq z front ≡ true
starts_from z front (rest, e) = (starts_is Decides-eqb z front (starts_with nat_eq z front) refl).1 rest e

pub no_start : (z front : List ℕ) → starts_with nat_eq z front ≡ false → ¬ BeginsWith z front
no_start z front e b = let yes = starts_from z front b in cc

pub starts_not : (z front : List ℕ) → ¬ BeginsWith z front → starts_with nat_eq z front ≡ false
starts_not z front never = at (starts_with nat_eq z front) refl
  where
    at : (b : Bool) → starts_with nat_eq z front ≡ b → b ≡ false
    at true e = absurd (never (begins_from z front e))
    at false e = refl
