-- Shows put after one another.
use Rattle.std.proofs.Common.{◌≡◌, List, [], ℕ, zero, suc, ◌+◌, ◌≤◌, ◌<◌, cond, eqb, refl, ap, sym, ◌∙◌, arith, append-nil, append_assoc}
use Rattle.std.proofs.lemmas.Bool.{cond_both, eqb-true, both_ways, eq-eqb}
use Rattle.tp_value.specs.Tree.{Tree}
use Rattle.tp_meaning.specs.Course.{Shows, blank, ◌⊕◌, shown_at, total}

pub join-blank : (S : Shows) → S ⊕ blank ≡ S
join-blank S = λ i j. append-nil (S j) i

pub join-assoc : (S T U : Shows) → (S ⊕ T) ⊕ U ≡ S ⊕ (T ⊕ U)
join-assoc S T U = λ i j. append_assoc (S j) (T j) (U j) i

-- both are nothing
pub joined-blank : (S T U : Shows) → S ≡ T ⊕ U → T ≡ blank → U ≡ blank → S ≡ blank
joined-blank S T U e p q = e ∙ (λ i. p i ⊕ q i)

pub total_same : (m k : ℕ) (T U : ℕ → Shows) → ((i : ℕ) → k ≤ i → i < m + k → T i ≡ U i) → total m k T ≡ total m k U
total_same zero k T U h = refl
total_same (suc m) k T U h = λ i. h k (omega arith) (omega arith) i ⊕ total_same m (suc k) T U (λ j u v. h j (omega arith) (omega arith)) i

pub total-of-blank : (m k : ℕ) → total m k (λ _. blank) ≡ blank
total-of-blank zero k = refl
total-of-blank (suc m) k = total-of-blank m (suc k)

pub total-blank : (m k : ℕ) (T : ℕ → Shows) → ((i : ℕ) → k ≤ i → i < m + k → T i ≡ blank) → total m k T ≡ blank
total-blank m k T h = total_same m k T (λ _. blank) h ∙ total-of-blank m k

-- the last of them taken apart
pub total-last : (m k : ℕ) (T : ℕ → Shows) → total (suc m) k T ≡ total m k T ⊕ T (m + k)
total-last zero k T = let e : 0 + k ≡ k = omega arith in join-blank (T k) ∙ ap T (sym e)
total-last (suc m) k T =
    let e : m + suc k ≡ suc m + k = omega arith in
    (λ i. T k ⊕ total-last m (suc k) T i) ∙ (λ i. T k ⊕ (total m (suc k) T ⊕ T (e i))) ∙ sym (join-assoc (T k) (total m (suc k) T) (T (suc m + k)))

pub total-shift : (m k : ℕ) (T : ℕ → Shows) → total m (suc k) T ≡ total m k (λ j. T (suc j))
total-shift zero k T = refl
total-shift (suc m) k T = λ i. T (suc k) ⊕ total-shift m (suc k) T i

-- V at one number, and T at the others
abbrev pub put_at : ℕ → Shows → (ℕ → Shows) → ℕ → Shows
put_at a V T i = cond (eqb i a) V (T i)

pub put_there : (a : ℕ) (V : Shows) (T : ℕ → Shows) (i : ℕ) → i ≡ a → put_at a V T i ≡ V
put_there a V T i h = cond_both (eqb i a) V (T i) (λ x. x ≡ V) (λ _. refl) (λ e. absurd (both_ways (eqb i a) e (eq-eqb i a h)))

pub put_else : (a : ℕ) (V : Shows) (T : ℕ → Shows) (i : ℕ) → (i ≡ a → ⊥) → put_at a V T i ≡ T i
put_else a V T i h = cond_both (eqb i a) V (T i) (λ x. x ≡ T i) (λ e. absurd (h (eqb-true i a e))) (λ _. refl)

pub shown_there : (a : ℕ) (vs : List (List Tree)) (j : ℕ) → j ≡ a → shown_at a vs j ≡ vs
shown_there a vs j e = cond_both (eqb j a) vs [] (λ x. x ≡ vs) (λ _. refl) (λ n. absurd (both_ways (eqb j a) n (eq-eqb j a e)))

pub shown_else : (a : ℕ) (vs : List (List Tree)) (j : ℕ) → (j ≡ a → ⊥) → shown_at a vs j ≡ []
shown_else a vs j n = cond_both (eqb j a) vs [] (λ x. x ≡ []) (λ e. absurd (n (eqb-true j a e))) (λ _. refl)
