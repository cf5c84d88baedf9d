-- Sequences that rise everywhere.
use Rattle.std.proofs.Common.{◌≡◌, ℕ, zero, suc, ◌<◌, sym, subst, arith, inl, inr}
use Rattle.std.proofs.lemmas.Bool.{cases_lt}
use Rattle.tp_meaning.specs.Course.{Rising}

pub rises_less : (c : ℕ → ℕ) → Rising c → (i j : ℕ) → i < j → c i < c j
rises_less c r i zero h = absurd (omega arith)
rises_less c r i (suc j) h = elim (cases_lt i j) [
  | inl l ↦ (let q = rises_less c r i j l in let p = r j in omega (arith, q, p))
  | inr l ↦ (let e : i ≡ j = omega arith in subst (λ k. c k < c (suc j)) (sym e) (r j))
]
