use Rattle.std.proofs.Common.{pos, refl, sym, [], ◌∷◌, ◌∙◌, arith}
use Rattle.tp_value.specs.Tree.{num}
use Rattle.tp_meaning.specs.Syntax.{next, conjunction, len, formulas_of}
use Rattle.tp_meaning.specs.Course.{blank, shown_at}
use Rattle.tp_meaning.specs.Examples.{A, number_expr, display_of, one_shown}
use Rattle.tp_meaning.proofs.Shows.{join-blank}
use Rattle.tp_meaning.proofs.ExampleShows.{spelled_is, nothing_first, shown_join}
use Rattle.tp_meaning.proofs.ExampleParts.{chop_at, two_at_first}
use Rattle.tp_meaning.proofs.examples.length_formulas.Goals as goal

pub returns-clause-chop_holds : goal.returns-clause-chop_holds
returns-clause-chop_holds c =
    chop_at (display_of (number_expr 1)) (display_of (number_expr 2)) 0 0 _ (shown_at 0 (one_shown 1 ∷ [])) (shown_at 0 (one_shown 2 ∷ []))
    (omega arith) (one_shown 1, refl, refl) (one_shown 2, refl, refl) (two_at_first (one_shown 1) (one_shown 2))

pub returns-clause-chop_shares_a_state : goal.returns-clause-chop_shares_a_state
returns-clause-chop_shares_a_state c =
    let last = shown_at 1 (one_shown 1 ∷ []) in
    chop_at (next (display_of (number_expr 7))) (conjunction (formulas_of (len (number_expr 1) ∷ display_of A ∷ []))) 1 2 _ (shown_at 1 (one_shown 7 ∷ [])) last
    (omega arith) (omega arith, (one_shown 7, refl, refl)) (blank, last, (1, refl, omega arith, refl), (last, blank, (one_shown 1, refl, refl), refl, sym (join-blank last)), refl)
    (spelled_is ([] ∷ (one_shown 7 ∷ one_shown 1 ∷ []) ∷ []) ∙ nothing_first 0 _ _ (join-blank (shown_at 1 (one_shown 7 ∷ one_shown 1 ∷ []))) ∙ shown_join 1 (one_shown 7 ∷ []) (one_shown 1 ∷ []))

pub returns-clause-assign_holds : goal.returns-clause-assign_holds
returns-clause-assign_holds c = (num (pos 1), refl, refl, refl)

pub returns-clause-len_reads_the_first_state : goal.returns-clause-len_reads_the_first_state
returns-clause-len_reads_the_first_state c = (0, refl, omega arith, refl)
