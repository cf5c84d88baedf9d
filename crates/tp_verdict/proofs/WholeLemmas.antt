-- The table of all formulas of a list.
use Rattle.std.proofs.Common.{◌≡◌, ℕ, zero, suc, ◌+◌, ◌<◌, ◌≤◌, List, [], ◌∷◌, length, map, take, get_or, ◌∙◌, ap, sym, refl, arith}
use Rattle.tp_meaning.specs.Syntax.{ExprTree}
use Rattle.tp_eval.specs.Outcome.{Outcome}
use Rattle.tp_verdict.specs.Wide.{trivial, wide_formulas_of}
use Rattle.tp_verdict.specs.Verdict.{Verdict, yes, no, undecided, both_of}
use Rattle.tp_verdict.specs.Trace.{verdict, all_verdicts}
use Rattle.tp_verdict.specs.Stored.{HaveVerdicts}
use Rattle.tp_verdict.specs.Read.{wide_tree, wide_trees}
use Rattle.tp_verdict.specs.declared.verdict_row.VerdictRow.{VerdictRow}
use Rattle.tp_verdict.specs.declared.wide_formula.WideFormula.{WideFormula}
use Rattle.tp_verdict.specs.declared.wide_formula.WideFormulas.{WideFormulas}
use Rattle.tp_verdict.proofs.KindLemmas.{parts_as}
use Rattle.tp_verdict.proofs.WideTrees.{wide_trees_is}

yes_last : (v : Verdict) → both_of v yes ≡ v
yes_last yes = refl
yes_last no = refl
yes_last undecided = refl

both_of_both : (u v w : Verdict) → both_of u (both_of v w) ≡ both_of (both_of u v) w
both_of_both yes v w = refl
both_of_both no v w = refl
both_of_both undecided yes w = refl
both_of_both undecided no w = refl
both_of_both undecided undecided yes = refl
both_of_both undecided undecided no = refl
both_of_both undecided undecided undecided = refl

whole_list : (ws : List WideFormula) (k : ℕ) → length ws ≤ k → take k ws ≡ ws
whole_list [] zero h = refl
whole_list [] (suc k) h = refl
whole_list (w ∷ ws) zero h = absurd (omega (arith, h))
whole_list (w ∷ ws) (suc k) h = ap (λ xs. w ∷ xs) (whole_list ws k (omega (arith, h)))

module _ (found : ℕ → ExprTree → Outcome) where
  -- what all of the first k formulas give
  abbrev pub first_verdicts : List WideFormula → ℕ → ℕ → ℕ → Verdict
  first_verdicts ws k = all_verdicts found (wide_formulas_of (map wide_tree (take k ws)))

  one_more : (ws : List WideFormula) (k : ℕ) (w : WideFormula) → k < length ws → w ≡ get_or ws k w → (i j : ℕ)
      → both_of (first_verdicts ws k i j) (verdict found (wide_tree w) i j) ≡ first_verdicts ws (suc k) i j
  one_more [] k w l e i j = absurd (omega (arith, l))
  one_more (x ∷ xs) zero w l e i j = ap (λ y. verdict found (wide_tree y) i j) e ∙ sym (yes_last (verdict found (wide_tree x) i j))
  one_more (x ∷ xs) (suc k) w l e i j =
      sym (both_of_both (verdict found (wide_tree x) i j) (first_verdicts xs k i j) (verdict found (wide_tree w) i j))
      ∙ ap (both_of (verdict found (wide_tree x) i j)) (one_more xs k w (omega (arith, l)) e i j)

  pub first_more : (ws : List WideFormula) (k : ℕ) (w : WideFormula) (rows : List VerdictRow) → k < length ws → w ≡ get_or ws k w
      → HaveVerdicts (λ i j. both_of (first_verdicts ws k i j) (verdict found (wide_tree w) i j)) rows → HaveVerdicts (first_verdicts ws (k + 1)) rows
  first_more ws k w rows l e h =
      parts_as (λ i j. both_of (first_verdicts ws k i j) (verdict found (wide_tree w) i j)) (first_verdicts ws (k + 1)) rows h
      (λ i j a b. one_more ws k w l e i j ∙ ap (λ n. first_verdicts ws n i j) (let s : suc k ≡ k + 1 = omega arith in s))

  none_first_is : (ws : List WideFormula) (i j : ℕ) → yes ≡ first_verdicts ws zero i j
  none_first_is [] i j = refl
  none_first_is (w ∷ ws) i j = refl

  pub none_first : (ws : List WideFormula) (rows : List VerdictRow) → HaveVerdicts (verdict found trivial) rows → HaveVerdicts (first_verdicts ws zero) rows
  none_first ws rows h = parts_as (verdict found trivial) (first_verdicts ws zero) rows h (λ i j a b. none_first_is ws i j)

  pub all_first : (all : WideFormulas) (ws : List WideFormula) (k : ℕ) (rows : List VerdictRow) → ws ≡ all.items.items → length ws ≤ k
      → HaveVerdicts (first_verdicts ws k) rows → HaveVerdicts (all_verdicts found (wide_trees all)) rows
  all_first all ws k rows same many h =
      parts_as (first_verdicts ws k) (all_verdicts found (wide_trees all)) rows h
      (λ i j a b. ap (λ xs. all_verdicts found (wide_formulas_of (map wide_tree xs)) i j) (whole_list ws k many ∙ same)
      ∙ ap (λ t. all_verdicts found t i j) (sym (wide_trees_is all)))
