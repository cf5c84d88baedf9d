-- Numbers that stand once, by how often each stands.
use Rattle.std.proofs.Common.{◌≡◌, ℕ, ◌+◌, ◌<◌, ◌≤◌, eqb, cond, List, [], ◌∷◌, ◌++◌, refl, ap, arith, inl, inr}
use Rattle.std.proofs.lemmas.Bool.{cond_both, cases_Bool, cond-true, cond-false, eqb-true, eq-eqb}
use Rattle.tp_scene.specs.Fits.{IsNew, AreNumbers}

-- how often the number stands in the list
abbrev pub one_if : (x n : ℕ) → ℕ
one_if x n = cond (eqb x n) 1 0

pub count : ℕ → List ℕ → ℕ
count x [] = 0
count x (n ∷ ns) = one_if x n + count x ns

pub count_none : (x : ℕ) → count x [] ≡ 0
unfolding count
count_none x = refl

pub count_first : (x n : ℕ) (ns : List ℕ) → count x (n ∷ ns) ≡ one_if x n + count x ns
unfolding count
count_first x n ns = refl

pub count_append : (x : ℕ) (ms ns : List ℕ) → count x (ms ++ ns) ≡ count x ms + count x ns
unfolding count
count_append x [] ns = let e : count x ns ≡ 0 + count x ns = omega arith in e
count_append x (m ∷ ms) ns = let q = count_append x ms ns in let e : one_if x m + count x (ms ++ ns) ≡ (one_if x m + count x ms) + count x ns = omega (arith, q) in e

pub one_there : (x n : ℕ) → x ≡ n → one_if x n ≡ 1
one_there x n e = cond-true (eqb x n) 1 0 (eq-eqb x n e)

pub one_else : (x n : ℕ) → (x ≡ n → ⊥) → one_if x n ≡ 0
one_else x n e = cond_both (eqb x n) 1 0 (λ y. y ≡ 0) (λ t. absurd (e (eqb-true x n t))) (λ _. refl)

pub one_most : (x n : ℕ) → one_if x n ≤ 1
one_most x n = cond_both (eqb x n) 1 0 (λ y. y ≤ 1) (λ _. omega arith) (λ _. omega arith)

-- each number stands once at most, and is below
pub record Once (below : ℕ) (ns : List ℕ) : Type 0 where
  pub once : (x : ℕ) → count x ns ≤ 1
  pub under : (x : ℕ) → 1 ≤ count x ns → x < below

is_new : (n : ℕ) (ns : List ℕ) → IsNew n ns → count n ns ≡ 0
unfolding count
is_new n [] h = refl
is_new n (m ∷ ms) h = let q = one_else n m h.0 in let r = is_new n ms h.1 in omega (arith, q, r)

new_is : (n : ℕ) (ns : List ℕ) → count n ns ≡ 0 → IsNew n ns
unfolding count
new_is n [] h = tt
new_is n (m ∷ ms) h = ((λ e. let q = one_there n m e in absurd (omega (arith, q, h))), new_is n ms (omega (arith, h)))

pub numbers_once : (below : ℕ) (ns : List ℕ) → AreNumbers below ns → Once below ns
unfolding count
numbers_once below [] h = record { once = λ x. omega arith; under = λ x l. absurd (omega arith) }
numbers_once below (n ∷ ns) h =
    let r = numbers_once below ns h.2 in
    let new = is_new n ns h.1 in
    record {
      once = λ x. elim (cases_Bool (eqb x n)) [
        | inl t ↦ (let e = eqb-true x n t in let q = ap (λ y. count y ns) e in let o = one_most x n in omega (arith, q, new, o))
        | inr t ↦ (let o = cond-false {A = ℕ} (eqb x n) 1 0 t in let q = r.once x in omega (arith, o, q))
      ];
      under = λ x l. elim (cases_Bool (eqb x n)) [
        | inl t ↦ (let e = eqb-true x n t in let q = h.0 in omega (arith, e, q))
        | inr t ↦ (let o = cond-false {A = ℕ} (eqb x n) 1 0 t in r.under x (omega (arith, o, l)))
      ];
    }

pub once_numbers : (below : ℕ) (ns : List ℕ) → Once below ns → AreNumbers below ns
unfolding count
once_numbers below [] h = tt
once_numbers below (n ∷ ns) h =
    let here = one_there n n refl in
    let most = h.once n in (
      h.under n (omega (arith, here)),
      new_is n ns (omega (arith, here, most)),
      once_numbers below ns (record { once = λ x. let q = h.once x in omega (arith, q); under = λ x l. h.under x (omega (arith, l)) }),
    )
