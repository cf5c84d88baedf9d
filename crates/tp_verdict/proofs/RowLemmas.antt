-- Bits of rows.
use Rattle.std.proofs.Common.{◌≡◌, ℕ, ◌*◌, ◌/◌, ◌%◌, ◌^◌, ◌<◌, suc, zero, List, get_or, eqb, ◌||◌, length, ◌∙◌, ap, inl, inr, arith, eq-eqb, w64, max}
use Rattle.std.proofs.lemmas.Bool.{cases_eq, cases_lt, ne_eqb}
use Rattle.std.proofs.lemmas.List.{get_or-set_same, get_or-set_other, get_or_past}
use Rattle.std.proofs.lemmas.Nat.Bits.{bit_at_or, bit_at-zero, bit_at-lt, bit_at_set_same, bit_at_set_other}
use Rattle.std.specs.Prelude.{bit_or, slice_set}
use Rattle.std.specs.Int.{bit_at}
use Rattle.tp_verdict.specs.Rows.{has_bit}

or_of : (x y m : ℕ) → x < 2 → y < 2 → m ≡ max x y → eqb m 1 ≡ (eqb x 1 || eqb y 1)
or_of zero zero m h k e = ap (λ z. eqb z 1) e
or_of zero (suc zero) m h k e = ap (λ z. eqb z 1) e
or_of (suc zero) zero m h k e = ap (λ z. eqb z 1) e
or_of (suc zero) (suc zero) m h k e = ap (λ z. eqb z 1) e
or_of (suc (suc x)) y m h k e = absurd (omega (arith, h))
or_of zero (suc (suc y)) m h k e = absurd (omega (arith, k))
or_of (suc zero) (suc (suc y)) m h k e = absurd (omega (arith, k))

or_of_words : (a b i : ℕ) → eqb (bit_at (bit_or a b) i) 1 ≡ (eqb (bit_at a i) 1 || eqb (bit_at b i) 1)
or_of_words a b i = or_of (bit_at a i) (bit_at b i) (bit_at (bit_or a b) i) (bit_at-lt a i) (bit_at-lt b i) (bit_at_or a b i)

-- a bit is made 1
pub added : (words : List ℕ) (k : ℕ) (old : ℕ) → k < 64 * length words → old ≡ get_or words (k / 64) 0
    → (j : ℕ) → has_bit (slice_set words (k / 64) (bit_or old (1 * 2 ^ (k % 64) % 18446744073709551616))) j ≡ (eqb j k || has_bit words j)
added words k old h e j = elim (cases_eq (j / 64) (k / 64)) [
  | inr other ↦ rw (get_or-set_other words (k / 64) (j / 64) new 0 other, ne_eqb j k (λ q. other (ap (λ x. x / 64) q)))
  | inl same ↦ rw (same, get_or-set_same words (k / 64) new 0 (omega (arith, h))) (elim (cases_eq (j % 64) (k % 64)) [
    | inl here ↦ rw (here, bit_at_set_same w64 old (k % 64) (omega arith), eq-eqb j k (omega (arith, same, here)))
    | inr there ↦ rw (bit_at_set_other w64 old (k % 64) (omega arith) (j % 64) there, ne_eqb j k (λ q. there (ap (λ x. x % 64) q)), e)
  ])
]
  where
    new : ℕ
    new = bit_or old (1 * 2 ^ (k % 64) % 18446744073709551616)

-- the bits of two rows are joined word by word
pub joined : (new old other : List ℕ) → length new ≡ length old → length other ≡ length old
    → ((i : ℕ) → i < length old → get_or new i 0 ≡ bit_or (get_or old i 0) (get_or other i 0))
    → (j : ℕ) → has_bit new j ≡ (has_bit old j || has_bit other j)
joined new old other m n each j = elim (cases_lt (j / 64) (length old)) [
  | inl h ↦ ap (λ x. eqb (bit_at x (j % 64)) 1) (each (j / 64) h) ∙ or_of_words (get_or old (j / 64) 0) (get_or other (j / 64) 0) (j % 64)
  | inr h ↦ rw (get_or_past new (j / 64) 0 (omega (arith, m, h)), get_or_past old (j / 64) 0 h, get_or_past other (j / 64) 0 (omega (arith, n, h)), bit_at-zero (j % 64))
]
