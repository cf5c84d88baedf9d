-- Examples that are made of parts.
use Rattle.std.proofs.Common.{◌≡◌, ℤ, pos, ◌+ℤ◌, ◌-ℤ◌, ℕ, ◌≤◌, ◌*◌, Bool, List, [], ◌∷◌, refl, sym, subst, ◌∙◌, arith}
use Rattle.tp_value.specs.Tree.{Tree, num}
use Rattle.tp_meaning.specs.Syntax.{FormulaTree, bound, numeral, equation, conjunction, len, chop, for_from, project, exists, formulas_of}
use Rattle.tp_meaning.specs.Course.{Course, Shows, blank, ◌⊕◌, shown_at, woven}
use Rattle.tp_meaning.specs.Value.{Env, fixed}
use Rattle.tp_meaning.specs.Holds.{Context, Holds, Pieces, count_to, running, env_at_cuts}
use Rattle.tp_meaning.specs.Examples.{nothing_given, counting, number_expr, listed}
use Rattle.tp_meaning.proofs.Shows.{join-blank}
use Rattle.tp_meaning.proofs.ExampleShows.{spelled_is, shown_join}

module _ (w : Context) (d : ℕ) (s : Course) (a b : ℕ) where
  -- two formulas that show nothing
  pub both_hold : (env : Env) (f g : FormulaTree) → Holds w d f env s a b blank → Holds w d g env s a b blank
      → Holds w d (conjunction (formulas_of (f ∷ g ∷ []))) env s a b blank
  both_hold env f g h k = (blank, blank, h, (blank, blank, k, refl, refl), refl)

  -- a static name that is equal to n, and a formula with it
  pub static_name : (n : ℕ) (f : FormulaTree) → Holds w d f (running (λ j. num (pos n)) ∷ []) s a b blank
      → Holds w d (exists [] Bool.true (conjunction (formulas_of (equation (bound 0) (number_expr n) ∷ f ∷ [])))) [] s a b blank
  static_name n f h = ((λ j. num (pos n)), (λ i j. refl), both_hold (running (λ j. num (pos n)) ∷ []) (equation (bound 0) (number_expr n)) f (num (pos n), refl, refl, refl) h)

-- a projection to the states 0 and 2
pub cuts_at_0_and_2 : (w : Context) (g : FormulaTree) (env : Env) (s : Course) (S V : Shows) → Holds w 0 g (env_at_cuts (λ k. 2 * k) env) (λ k. s (2 * k)) 0 1 V
    → S ≡ woven 1 0 (λ k. 2 * k) V (λ j. blank) → Holds w 0 (project (len (number_expr 2)) g) env s 0 2 S
cuts_at_0_and_2 w g env s S V h is = ((λ k. 2 * k), 1, V, (λ j. blank), (λ k. omega arith), refl, refl, (λ j v. (2, refl, omega arith, refl)), h, is)

-- a chop at state i
pub chop_at : (f g : FormulaTree) (i b : ℕ) (S T U : Shows) → i ≤ b → Holds nothing_given 0 f [] counting 0 i T → Holds nothing_given 0 g [] counting i b U
    → S ≡ T ⊕ U → Holds nothing_given 0 (chop f g) [] counting 0 b S
chop_at f g i b S T U le h k is = (i, T, U, omega arith, le, h, k, is)

-- two turns that meet in state i
pub two_turns : (k n : ℤ) (f : FormulaTree) (i b : ℕ) (S T U : Shows) → count_to (n -ℤ k) ≡ 2 → i ≤ b
    → Holds nothing_given 0 f (fixed (num k) ∷ []) counting 0 i T → Holds nothing_given 0 f (fixed (num (k +ℤ pos 1)) ∷ []) counting i b U
    → S ≡ T ⊕ U → Holds nothing_given 0 (for_from [] k (numeral n) f) [] counting 0 b S
two_turns k n f i b S T U two le h next is = (
  n,
  refl,
  subst (λ m. Pieces (λ v. Holds nothing_given 0 f (fixed (num v) ∷ []) counting) m k 0 b S) (sym two)
      (i, T, U, omega arith, le, h, (b, U, blank, le, omega arith, next, (refl, refl), sym (join-blank U)), is),
)

-- two lists in one state
pub two_at_first : (vs ws : List Tree) → listed ((vs ∷ ws ∷ []) ∷ []) ≡ shown_at 0 (vs ∷ []) ⊕ shown_at 0 (ws ∷ [])
two_at_first vs ws = spelled_is ((vs ∷ ws ∷ []) ∷ []) ∙ join-blank (shown_at 0 (vs ∷ ws ∷ [])) ∙ shown_join 0 (vs ∷ []) (ws ∷ [])
