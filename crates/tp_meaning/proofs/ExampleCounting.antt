-- `len(3) and A=0 and A gets A+1`.
use Rattle.std.proofs.Common.{◌≡◌, pos, ℕ, zero, suc, ◌+◌, ◌-◌, ◌≤◌, [], Some, refl, ap, ◌∙◌, subst, arith}
use Rattle.std.proofs.Math.IntN.{pos-+ℤ-pos}
use Rattle.tp_value.specs.Tree.{Tree, num}
use Rattle.tp_meaning.specs.Syntax.{Plus, binary}
use Rattle.tp_meaning.specs.Course.{Course, Shows, blank}
use Rattle.tp_meaning.specs.Value.{sum_of}
use Rattle.tp_meaning.specs.Direct.{Means, Gets}
use Rattle.tp_meaning.specs.Examples.{nothing_given, A, number_expr, CountsToThree}
use Rattle.tp_meaning.proofs.Shows.{joined-blank}
use Rattle.tp_meaning.proofs.Means.{gets_means}

one_more : (k : ℕ) → sum_of (num (pos k)) (num (pos 1)) ≡ Some (num (pos (suc k)))
one_more k = let e : k + 1 ≡ suc k = omega arith in ap (λ x. Some (num x)) (pos-+ℤ-pos k 1 ∙ ap pos e)

-- the second value is one more than the first
next_is : (t u v : Tree) (k : ℕ) → t ≡ num (pos k) → Some u ≡ Some v → sum_of t (num (pos 1)) ≡ Some v → u ≡ num (pos (suc k))
next_is t u v k e h g = let i : sum_of (num (pos k)) (num (pos 1)) ≡ Some v = subst (λ x. sum_of x (num (pos 1)) ≡ Some v) e g in let j = one_more k in cc

same_length : (m n : ℕ) → Some (num (pos m)) ≡ Some (num (pos n)) → m ≡ n
same_length m n e = cc

same_tree_value : (t u v : Tree) → Some t ≡ Some v → Some u ≡ Some v → t ≡ u
same_tree_value t u v p q = cc

module _ (d : ℕ) (s : Course) (a b : ℕ) where
  values_are : (S : Shows) → Gets A (binary Plus A (number_expr 1)) nothing_given d [] s a b S → (s a).values 0 ≡ num (pos 0) → 3 + a ≡ b → (j : ℕ) → j ≤ 3 → (s (j + a)).values 0 ≡ num (pos j)
  values_are S gets first e zero l = let q : 0 + a ≡ a = omega arith in ap (λ i. (s i).values 0) q ∙ first
  values_are S gets first e (suc j) l =
      let before = values_are S gets first e j (omega arith) in
      let g = gets.0 (j + a) (omega arith) (omega arith) in
      let q : suc j + a ≡ suc (j + a) = omega arith in
      ap (λ i. (s i).values 0) q ∙ next_is ((s (j + a)).values 0) ((s (suc (j + a))).values 0) g.0 j before g.1 g.2

  gets_there : 3 + a ≡ b → ((j : ℕ) → j ≤ 3 → (s (j + a)).values 0 ≡ num (pos j)) → Gets A (binary Plus A (number_expr 1)) nothing_given d [] s a b blank
  gets_there e h = (
    (λ j u v.
        let here : (s j).values 0 ≡ num (pos (j - a)) = (let q : j ≡ (j - a) + a = omega arith in ap (λ i. (s i).values 0) q ∙ h (j - a) (omega arith)) in
        let there : (s (suc j)).values 0 ≡ num (pos (suc (j - a))) = (let q : suc j ≡ suc (j - a) + a = omega arith in ap (λ i. (s i).values 0) q ∙ h (suc (j - a)) (omega arith)) in
        (num (pos (suc (j - a))), ap Some there, ap (λ t. sum_of t (num (pos 1))) here ∙ one_more (j - a))),
    refl,
  )

pub counts_to_three_only : CountsToThree
unfolding Means
counts_to_three_only d s a b S le = (
  (λ h.
      let three = same_length 3 h.2.0 h.2.1 in
      let e : 3 + a ≡ b = (let q = h.2.2 in omega arith) in
      let gets = (gets_means A (binary Plus A (number_expr 1)) nothing_given d [] s a b h.3.3.0 le).0 h.3.3.2 in
      let first = same_tree_value ((s a).values 0) (num (pos 0)) h.3.2.0 h.3.2.1 h.3.2.2 in (
        e,
        values_are d s a b h.3.3.0 gets first e,
        joined-blank S h.0 h.1 h.4 h.2.3 (joined-blank h.1 h.3.0 h.3.1 h.3.4 h.3.2.3 (joined-blank h.3.1 h.3.3.0 h.3.3.1 h.3.3.4 gets.1 h.3.3.3)),
      )),
  (λ g. (
    blank,
    blank,
    (3, refl, g.0, refl),
    (
      blank,
      blank,
      (num (pos 0), (let q : a ≡ 0 + a = omega arith in ap (λ i. Some ((s i).values 0)) q ∙ ap Some (g.1 0 (omega arith))), refl, refl),
      (blank, blank, (gets_means A (binary Plus A (number_expr 1)) nothing_given d [] s a b blank le).1 (gets_there d s a b g.0 g.1), refl, refl),
      refl,
    ),
    g.2,
  )),
)
