-- Sets of numbers without a bound.
use Rattle.std.proofs.Common.{◌≡◌, ℕ, ◌+◌, ◌<◌, ◌≤◌, Bool, true, false, cond, List, length, slice_set, count_by, ap, sym, ◌∙◌, inl, inr, arith}
use Rattle.std.proofs.lemmas.Bool.{cases_lt, false≢true}
use Rattle.std.proofs.lemmas.List.{get_or_past}
use Rattle.std.proofs.lemmas.List.Sums.{sum_by-set}
use Rattle.tp_lanes.specs.Planes.{flag}

-- A number at or above the bound isn't in the set.
pub flag_past : (xs : List Bool) (n : ℕ) → length xs ≤ n → flag xs n ≡ false
flag_past xs n l = get_or_past xs n false l

pub flag_within : (xs : List Bool) (n : ℕ) → flag xs n ≡ true → n < length xs
flag_within xs n e = elim (cases_lt n (length xs)) [
  | inl l ↦ l
  | inr l ↦ absurd (false≢true (sym (flag_past xs n l) ∙ e))
]

-- one member less
pub count_without : (xs : List Bool) (n : ℕ) → flag xs n ≡ true → count_by (λ b. b) (slice_set xs n false) + 1 ≡ count_by (λ b. b) xs
count_without xs n e =
    let h = sum_by-set (λ b. cond b 1 0) xs n false false (flag_within xs n e) in
    let one : ◌≡◌ {A = ℕ} (cond (flag xs n) 1 0) 1 = ap (λ b. cond b 1 0) e in
    omega (arith, h, one)
