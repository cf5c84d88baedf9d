-- The numbers of the calls that are to fail.
use Rattle.std.proofs.Common.{◌≡◌, ℕ, true, List, nat_eq, subst, tests, rules}
use Rattle.std.specs.List.{Contains, list_any}
use Rattle.std.proofs.lemmas.Map.Views.{Contains-from_any}

-- a number that is found is one of the list
pub contains_found : (xs : List ℕ) (n m : ℕ) → list_any (λ y. nat_eq y n) xs ≡ true → n ≡ m → Contains xs m
contains_found xs n m found e = subst (Contains xs) e (Contains-from_any {eq = λ x y. nat_eq y x} (λ x y h. search (rules, tests)) n xs found)
