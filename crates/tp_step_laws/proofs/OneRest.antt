-- One rest, by induction on the number of steps.
use Rattle.std.proofs.Common.{◌≡◌, ◌≢◌, ℕ, zero, suc, ◌+◌, false, eqb, refl, subst, inl, inr, arith}
use Rattle.std.proofs.lemmas.Bool.{cases_Bool, eqb-true, both_ways, eq-eqb}
use Rattle.tp_step_laws.specs.OneRest.{Rules, Path, Rest, OneRest}

pub differ : (t u : ℕ) → eqb t u ≡ false → t ≢ u
differ t u e q = both_ways (eqb t u) e (eq-eqb t u q)

module _ (r : Rules) where
  path_alike : (n : ℕ) (s s' e : r.State) → r.Alike s s' → Path r n s e → Path r n s' e
  path_alike zero s s' e a p = r.alike_trans s' s e (r.alike_sym s s' a) p
  path_alike (suc n) s s' e a p =
      let x = r.step_alike p.0 s s' p.1 a p.2 in
      (x.0, x.1, x.2, path_alike n p.1 x.1 e x.3 p.3)

  safe : (n : ℕ) (s e : r.State) → Path r n s e → Rest r e → (u : ℕ) → r.Bad u s → ⊥
  safe zero s e p rest u c = let x = r.bad_alike u s e p c in rest.1 x.0 x.1
  safe (suc n) s e p rest u c =
      elim (cases_Bool (eqb p.0 u)) [
        | inl y ↦ r.not_both u s p.1 (subst (λ t. r.Step t s p.1) (eqb-true p.0 u y) p.2) c
        | inr y ↦ safe n p.1 e p.3 rest u (r.bad_stays p.0 u s p.1 (differ p.0 u y) p.2 c)
      ]

  one_less : (n : ℕ) (s e v : r.State) (u : ℕ) → Path r n s e → Rest r e → r.Step u s v → (m : ℕ) × (suc m ≡ n) × Path r m v e
  one_less zero s e v u p rest st = let x = r.step_alike u s e v p st in absurd (rest.0 x.0 x.1 x.2)
  one_less (suc n) s e v u p rest st =
      elim (cases_Bool (eqb p.0 u)) [
        | inl y ↦ (n, refl, path_alike n p.1 v e (r.one_result u s p.1 v (subst (λ t. r.Step t s p.1) (eqb-true p.0 u y) p.2) st) p.3)
        | inr y ↦ elim (r.diamond p.0 u s p.1 v (differ p.0 u y) p.2 st) [
          | inl d ↦ (let x = one_less n p.1 e d.0 u p.3 rest d.2 in
              (n, refl, subst (λ i. Path r i v e) x.1 (p.0, d.1, d.3, path_alike x.0 d.0 d.1 e d.4 x.2)))
          | inr c ↦ absurd (safe n p.1 e p.3 rest u c)
        ]
      ]

  goes_on : (n k : ℕ) (s e v : r.State) → Path r n s e → Rest r e → Path r k s v → (m : ℕ) × (k + m ≡ n) × Path r m v e
  goes_on n zero s e v p rest q = let z : 0 + n ≡ n = omega arith in (n, z, path_alike n s v e q p)
  goes_on n (suc k) s e v p rest q =
      let x = one_less n s e q.1 q.0 p rest q.2 in
      let y = goes_on x.0 k q.1 e v x.2 rest q.3 in
      let z : suc k + y.0 ≡ n = omega (arith, y.1, x.1) in
      (y.0, z, y.2)

  both_parts : (n k : ℕ) (s e v : r.State) → Path r n s e → Rest r e → Path r k s v → ((m : ℕ) × (k + m ≡ n) × Path r m v e) × ((t : ℕ) → r.Bad t v → ⊥)
  both_parts n k s e v p rest q = let x = goes_on n k s e v p rest q in (x, safe x.0 v e x.2 rest)

pub one_rest : OneRest
one_rest r n k s e v p rest q = both_parts r n k s e v p rest q
