-- The quotient rounded down, and what remains.
use Rattle.std.proofs.Common.{◌≡◌, ℤ, pos, negsuc, neg_ℤ, ◌+ℤ◌, ◌-ℤ◌, ◌*ℤ◌, ℕ, zero, suc, ◌+◌, ◌-◌, ◌*◌, ◌/◌, ◌%◌, ◌≤◌, true, int_lt, if◌then◌else◌, refl, ap, subst, arith, inl, inr}
use Rattle.std.specs.Prelude.{◌≤ℤ◌, ◌<ℤ◌}
use Rattle.std.specs.Int.{int_div_euclid}
use Rattle.std.proofs.lemmas.Int.{ints}
use Rattle.std.proofs.Math.IntN.{pos-*ℤ-pos, negsuc-*ℤ-pos, *ℤ-negsuc}
use Rattle.tp_value.specs.Number.{floor_div}
use Rattle.tp_meaning.specs.Laws.{DivisionRoundsDown}

-- what remains of a number by a divisor above 0
remains : (a : ℤ) (n : ℕ) → (r : ℕ) × (r ≤ n) × (a -ℤ (int_div_euclid a (pos (suc n)) *ℤ pos (suc n)) ≡ pos r)
remains (pos m) n = (
  m % suc n,
  omega arith,
  (let p = pos-*ℤ-pos (m / suc n) (suc n) in let e : m ≡ (m / suc n) * suc n + m % suc n = omega arith in omega (arith, ints, p, e)),
)
remains (negsuc m) n = (
  n - m % suc n,
  omega arith,
  (let p = negsuc-*ℤ-pos (m / suc n) (suc n) in let e : suc (m / suc n) * suc n ≡ suc m + (n - m % suc n) = omega arith in omega (arith, ints, p, e)),
)

above : (a p : ℤ) (n r : ℕ) → r ≤ n → a -ℤ p ≡ pos r → (pos 0 ≤ℤ (a -ℤ p)) × ((a -ℤ p) <ℤ pos (suc n))
above a p n r l e = (omega (arith, ints), omega (arith, ints))

below : (a p x : ℤ) (n r : ℕ) → r ≤ n → neg_ℤ a -ℤ p ≡ pos r → x ≡ neg_ℤ p → (negsuc n <ℤ (a -ℤ x)) × ((a -ℤ x) ≤ℤ pos 0)
below a p x n r l e q = (omega (arith, ints), omega (arith, ints))

back : (a x : ℤ) → a ≡ x +ℤ (a -ℤ x)
back a x = omega (arith, ints)

floor_above : (a : ℤ) (n : ℕ) → int_div_euclid a (pos (suc n)) ≡ floor_div a (pos (suc n))
floor_above a n = let t : true ≡ int_lt (pos 0) (pos (suc n)) = grind (arith, ints) in ap (λ c. if c then int_div_euclid a (pos (suc n)) else int_div_euclid (neg_ℤ a) (neg_ℤ (pos (suc n)))) t

pub division_rounds_down : DivisionRoundsDown
division_rounds_down a (pos zero) h = absurd (h refl)
division_rounds_down a (pos (suc n)) h =
    let r = remains a n in
    let q = floor_div a (pos (suc n)) in
    (q, a -ℤ (q *ℤ pos (suc n)), refl, refl, back a _, inl (subst (λ (x : ℤ). (pos 0 ≤ℤ (a -ℤ (x *ℤ pos (suc n)))) × ((a -ℤ (x *ℤ pos (suc n))) <ℤ pos (suc n))) (floor_above a n) (above a _ n r.0 r.1 r.2)))
division_rounds_down a (negsuc n) h =
    let r = remains (neg_ℤ a) n in
    let q = floor_div a (negsuc n) in
    (q, a -ℤ (q *ℤ negsuc n), refl, refl, back a _, inr (below a _ _ n r.0 r.1 r.2 (*ℤ-negsuc q n)))
