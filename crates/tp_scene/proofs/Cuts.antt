-- The number of a cut, found again from its position.
use Rattle.std.proofs.Common.{◌≡◌, ℕ, zero, suc, ◌≤◌, cond, eqb, ap, arith, inl, inr}
use Rattle.std.proofs.lemmas.Bool.{cond_both, eqb-true, both_ways, eq-eqb, cases_lt}
use Rattle.tp_meaning.specs.Course.{Rising}
use Rattle.tp_meaning.proofs.Rising.{rises_less}

pub same_cut : (c : ℕ → ℕ) → Rising c → (i j : ℕ) → c i ≡ c j → i ≡ j
same_cut c r i j e = elim (cases_lt i j) [
  | inl l ↦ absurd (let q = rises_less c r i j l in omega (arith, q, e))
  | inr l ↦ elim (cases_lt j i) [
    | inl l' ↦ absurd (let q = rises_less c r j i l' in omega (arith, q, e))
    | inr l' ↦ omega arith
  ]
]

pub cut_above : (c : ℕ → ℕ) → Rising c → (k : ℕ) → k ≤ c k
cut_above c r zero = omega arith
cut_above c r (suc k) = let q = cut_above c r k in let p = r k in omega (arith, q, p)

-- the number up to m of the cut at j, if any
abbrev seek : (ℕ → ℕ) → ℕ → ℕ → ℕ
seek c zero j = 0
seek c (suc m) j = cond (eqb (c (suc m)) j) (suc m) (seek c m j)

seek_finds : (c : ℕ → ℕ) → Rising c → (m k : ℕ) → k ≤ m → seek c m (c k) ≡ k
seek_finds c r zero k h = omega arith
seek_finds c r (suc m) k h = cond_both (eqb (c (suc m)) (c k)) (suc m) (seek c m (c k)) (λ x. x ≡ k)
    (λ e. same_cut c r (suc m) k (eqb-true (c (suc m)) (c k) e))
    (λ e. seek_finds c r m k (elim (cases_lt k (suc m)) [
      | inl l ↦ omega arith
      | inr l ↦ absurd (let q : suc m ≡ k = omega arith in both_ways (eqb (c (suc m)) (c k)) e (eq-eqb (c (suc m)) (c k) (ap c q)))
    ]))

-- the number of the cut at a position
abbrev pub number_at : (ℕ → ℕ) → ℕ → ℕ
number_at c j = seek c j j

pub number_undoes : (c : ℕ → ℕ) → Rising c → (k : ℕ) → number_at c (c k) ≡ k
number_undoes c r k = seek_finds c r (c k) k (cut_above c r k)
