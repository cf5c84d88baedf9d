-- What a quotient leaves.
use Rattle.std.proofs.Common.{◌≡◌, ℕ, zero, suc, ◌+◌, ◌*◌, ◌/◌, ◌%◌, ◌<◌, ℤ, pos, negsuc, ◌+ℤ◌, ◌-ℤ◌, ◌*ℤ◌, neg_ℤ, arith, true, false, refl, sym, ap, ◌∙◌}
use Rattle.std.specs.Prelude.{int_lt}
use Rattle.std.specs.Int.{int_div_euclid, int_rem_euclid}
use Rattle.std.proofs.Math.Nat.{div-eq_of_lt-le}
use Rattle.std.proofs.lemmas.Bool.Decides.{nat_tests}
use Rattle.std.proofs.lemmas.Int.{ints}
use Rattle.tp_value.specs.Number.{floor_div, floor_mod}

divided : (m n : ℕ) → (m / suc n) * suc n + m % suc n ≡ m
divided m n = omega arith

below : (m n : ℕ) → m % suc n < suc n
below m n = omega arith

rest_of : (a : ℤ) (n : ℕ) → int_rem_euclid a (pos (suc n)) ≡ a -ℤ (int_div_euclid a (pos (suc n)) *ℤ pos (suc n))
rest_of (pos m) n = let d = divided m n in omega (arith, ints)
rest_of (negsuc m) n = let d = divided m n in let b = below m n in omega (arith, ints)

pub rest_above : (a b : ℤ) → int_lt (pos 0) b ≡ true → int_rem_euclid a b ≡ a -ℤ (int_div_euclid a b *ℤ b)
rest_above a (pos zero) h = absurd (cc)
rest_above a (pos (suc n)) h = rest_of a n
rest_above a (negsuc n) h = absurd (cc)

-- the quotient is the only one that leaves less than the divisor
quotient_is : (q r m n : ℕ) → q * suc n + r ≡ m → r < suc n → m / suc n ≡ q
quotient_is q r m n e small = div-eq_of_lt-le {k = q} (suc n) (omega (arith, e)) (omega (arith, e, small))

-- one more, divided: the quotient is one more where nothing is left, else the same
next_even : (q m n : ℕ) → q * suc n ≡ suc m → q ≡ suc (m / suc n)
next_even zero m n e = absurd (omega (arith, e))
next_even (suc q) m n e = ap suc (sym (quotient_is q n m n (omega (arith, e)) (omega arith)))

next_uneven : (q r m n : ℕ) → q * suc n + suc r ≡ suc m → r < suc n → q ≡ m / suc n
next_uneven q r m n e small = sym (quotient_is q r m n (omega (arith, e)) small)

-- a divisor below 0: the quotient rounded down is Euclid's where nothing is left, else one less
quotient_even : (a : ℤ) (n : ℕ) → int_rem_euclid a (negsuc n) ≡ pos 0 → int_div_euclid (neg_ℤ a) (pos (suc n)) ≡ int_div_euclid a (negsuc n)
quotient_even (pos zero) n e = let d : zero / suc n ≡ 0 = omega arith in omega (arith, ints, d)
quotient_even (pos (suc m)) n e =
    let left : suc m % suc n ≡ 0 = omega (arith, ints, e) in
    let q = next_even (suc m / suc n) m n (omega (arith, left, divided (suc m) n)) in
    ap (λ k. neg_ℤ (pos k)) (sym q)
quotient_even (negsuc m) n e =
    let left : m % suc n ≡ n = omega (arith, ints, e, below m n) in
    ap pos (quotient_is (suc (m / suc n)) 0 (suc m) n (omega (arith, left, divided m n)) (omega arith))

quotient_uneven : (a : ℤ) (n : ℕ) → (int_rem_euclid a (negsuc n) ≡ pos 0 → ⊥) → int_div_euclid (neg_ℤ a) (pos (suc n)) ≡ int_div_euclid a (negsuc n) -ℤ pos 1
quotient_uneven (pos zero) n e = absurd (e (ap pos (omega arith)))
quotient_uneven (pos (suc m)) n e = uneven (suc m % suc n) (divided (suc m) n) (below (suc m) n) (λ z. e (ap pos z))
  where
    uneven : (r : ℕ) → (suc m / suc n) * suc n + r ≡ suc m → r < suc n → (r ≡ 0 → ⊥) → negsuc (m / suc n) ≡ neg_ℤ (pos (suc m / suc n)) -ℤ pos 1
    uneven zero d b h = absurd (h refl)
    uneven (suc r) d b h = let q = next_uneven (suc m / suc n) r m n d (omega (arith, b)) in omega (arith, ints, q)
quotient_uneven (negsuc m) n e = uneven (m % suc n) (divided m n) (below m n) (λ z. e (ap pos (omega (arith, z))))
  where
    strict : (r : ℕ) → r < suc n → (r ≡ n → ⊥) → suc r < suc n
    strict r b h = grind (arith, b, h)

    uneven : (r : ℕ) → (m / suc n) * suc n + r ≡ m → r < suc n → (r ≡ n → ⊥) → pos (suc m / suc n) ≡ pos (suc (m / suc n)) -ℤ pos 1
    uneven r d b h = let q = quotient_is (m / suc n) (suc r) (suc m) n (omega (arith, d)) (strict r b h) in omega (arith, ints, q)

-- what Euclid's quotient leaves
rest_below : (a : ℤ) (n : ℕ) → int_rem_euclid a (negsuc n) ≡ a -ℤ (int_div_euclid a (negsuc n) *ℤ negsuc n)
rest_below (pos m) n = left (m / suc n) (m % suc n) (divided m n)
  where
    left : (q r : ℕ) → q * suc n + r ≡ m → pos r ≡ pos m -ℤ (neg_ℤ (pos q) *ℤ negsuc n)
    left zero r d = omega (arith, ints, d)
    left (suc q) r d = omega (arith, ints, d)
rest_below (negsuc m) n = let d = divided m n in let b = below m n in omega (arith, ints)

less_one : (a r q : ℤ) (n : ℕ) → r ≡ a -ℤ (q *ℤ negsuc n) → r +ℤ negsuc n ≡ a -ℤ ((q -ℤ pos 1) *ℤ negsuc n)
less_one a r (pos zero) n e = omega (arith, ints, e)
less_one a r (pos (suc k)) n e =
    let less : pos (suc k) -ℤ pos 1 ≡ pos k = omega (arith, ints) in
    let left : r +ℤ negsuc n ≡ a -ℤ (pos k *ℤ negsuc n) = omega (arith, ints, e) in
    left ∙ ap (λ q. a -ℤ (q *ℤ negsuc n)) (sym less)
less_one a r (negsuc k) n e = omega (arith, ints, e)

-- a divisor below 0, where Euclid's quotient leaves nothing or something
pub floor_even : (a b : ℤ) → int_lt (pos 0) b ≡ false → (b ≡ pos 0 → ⊥) → int_rem_euclid a b ≡ pos 0 → int_div_euclid a b ≡ floor_div a b
floor_even a (pos zero) h nonzero e = absurd (nonzero refl)
floor_even a (pos (suc n)) h nonzero e = absurd (grind (arith, nat_tests))
floor_even a (negsuc n) h nonzero e = sym (quotient_even a n e)

pub floor_uneven : (a b : ℤ) → int_lt (pos 0) b ≡ false → (b ≡ pos 0 → ⊥) → (int_rem_euclid a b ≡ pos 0 → ⊥) → int_div_euclid a b -ℤ pos 1 ≡ floor_div a b
floor_uneven a (pos zero) h nonzero e = absurd (nonzero refl)
floor_uneven a (pos (suc n)) h nonzero e = absurd (grind (arith, nat_tests))
floor_uneven a (negsuc n) h nonzero e = sym (quotient_uneven a n e)

pub left_even : (a b : ℤ) → int_lt (pos 0) b ≡ false → (b ≡ pos 0 → ⊥) → int_rem_euclid a b ≡ pos 0 → pos 0 ≡ floor_mod a b
left_even a (pos zero) h nonzero e = absurd (nonzero refl)
left_even a (pos (suc n)) h nonzero e = absurd (grind (arith, nat_tests))
left_even a (negsuc n) h nonzero e = sym e ∙ rest_below a n ∙ ap (λ q. a -ℤ (q *ℤ negsuc n)) (sym (quotient_even a n e))

pub left_uneven : (a b : ℤ) → int_lt (pos 0) b ≡ false → (b ≡ pos 0 → ⊥) → (int_rem_euclid a b ≡ pos 0 → ⊥) → int_rem_euclid a b +ℤ b ≡ floor_mod a b
left_uneven a (pos zero) h nonzero e = absurd (nonzero refl)
left_uneven a (pos (suc n)) h nonzero e = absurd (grind (arith, nat_tests))
left_uneven a (negsuc n) h nonzero e = less_one a _ _ n (rest_below a n) ∙ ap (λ q. a -ℤ (q *ℤ negsuc n)) (sym (quotient_uneven a n e))
