use Rattle.std.proofs.Common.{pos, Bool, [], ◌∷◌, ◌*◌, ◌∙◌, refl, sym, arith}
use Rattle.tp_value.specs.Tree.{num}
use Rattle.tp_meaning.specs.Syntax.{bound, equation, next, always, conjunction, len, project, exists, formulas_of}
use Rattle.tp_meaning.specs.Course.{blank, ◌⊕◌, shown_at}
use Rattle.tp_meaning.specs.Holds.{running}
use Rattle.tp_meaning.specs.Examples.{nothing_given, counting, A, number_expr, display_of, one_shown}
use Rattle.tp_meaning.proofs.Shows.{join-blank}
use Rattle.tp_meaning.proofs.ExampleShows.{spelled_is, nothing_first, shown_nothing, nothing_woven}
use Rattle.tp_meaning.proofs.ExampleParts.{both_hold, cuts_at_0_and_2}
use Rattle.tp_meaning.proofs.ExampleProject.{piece_from, piece_shows, outer_shows, outer_holds, cuts_show}
use Rattle.tp_meaning.proofs.examples.project_formulas.Goals as goal

pub returns-clause-holds : goal.returns-clause-holds
returns-clause-holds c = ((λ k. k), 2, outer_shows, piece_from, (λ k. omega arith), refl, refl, (λ j v. piece_shows j), outer_holds counting, (λ i j. cuts_show j i))

pub returns-clause-holds_on_one_state : goal.returns-clause-holds_on_one_state
returns-clause-holds_on_one_state c = ((λ k. k), 0, blank, (λ j. blank), (λ k. omega arith), refl, refl, (λ j v. absurd (omega arith)), (num (pos 0), refl, refl, refl), sym (shown_nothing 0))

pub returns-clause-names_change_with_the_cuts : goal.returns-clause-names_change_with_the_cuts
returns-clause-names_change_with_the_cuts c =
    let names = running (λ j. num (pos j)) ∷ [] in
    let later = next (equation (bound 0) (number_expr 2)) in (
      (λ j. num (pos j)),
      tt,
      both_hold nothing_given 0 counting 0 2 names (always (equation (bound 0) A)) (project (len (number_expr 2)) later)
          (3, (λ i. blank), omega arith, (λ i u v. (num (pos i), refl, refl, refl)), refl)
          (cuts_at_0_and_2 nothing_given later names counting blank blank (omega arith, (num (pos 2), refl, refl, refl)) (nothing_woven 1 0 (λ k. 2 * k))),
    )

pub returns-clause-names_of_the_outer_formula : goal.returns-clause-names_of_the_outer_formula
returns-clause-names_of_the_outer_formula c =
    let outer = exists [] Bool.false (conjunction (formulas_of (always (equation (bound 0) A) ∷ next (display_of (bound 0)) ∷ []))) in
    cuts_at_0_and_2 nothing_given outer [] counting _ (shown_at 1 (one_shown 2 ∷ [])) (
      (λ k. num (pos (2 * k))),
      tt,
      (
        blank,
        shown_at 1 (one_shown 2 ∷ []),
        (2, (λ i. blank), omega arith, (λ i u v. (num (pos (2 * i)), refl, refl, refl)), refl),
        (shown_at 1 (one_shown 2 ∷ []), blank, (omega arith, (one_shown 2, refl, refl)), refl, sym (join-blank (shown_at 1 (one_shown 2 ∷ [])))),
        refl,
      ),
    )
    (spelled_is ([] ∷ [] ∷ (one_shown 2 ∷ []) ∷ []) ∙ (λ i. shown_at 0 [] ⊕ nothing_first 1 (shown_at 2 (one_shown 2 ∷ [])) _ (join-blank (shown_at 2 (one_shown 2 ∷ []))) i))
