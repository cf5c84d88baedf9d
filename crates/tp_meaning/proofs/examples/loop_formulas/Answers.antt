use Rattle.std.proofs.Common.{pos, negsuc, refl, sym, [], ◌∷◌, ◌∙◌, arith}
use Rattle.tp_value.specs.Tree.{num}
use Rattle.tp_meaning.specs.Course.{blank, ◌⊕◌, shown_at}
use Rattle.tp_meaning.specs.Syntax.{bound, equation, conjunction, for_from, formulas_of}
use Rattle.tp_meaning.specs.Value.{fixed}
use Rattle.tp_meaning.specs.Holds.{running}
use Rattle.tp_meaning.specs.Derived.{skip_of}
use Rattle.tp_meaning.specs.Examples.{nothing_given, counting, A, number_expr, display_of, one_shown}
use Rattle.tp_meaning.proofs.Shows.{join-blank}
use Rattle.tp_meaning.proofs.ExampleShows.{spelled_is}
use Rattle.tp_meaning.proofs.ExampleParts.{both_hold, static_name, two_turns, two_at_first}
use Rattle.tp_meaning.proofs.ExampleTurns.{turn_shows, shows_once, no_second_turn}
use Rattle.tp_meaning.proofs.examples.loop_formulas.Goals as goal

pub returns-clause-for_turns_may_be_empty : goal.returns-clause-for_turns_may_be_empty
returns-clause-for_turns_may_be_empty c =
    two_turns (pos 0) (pos 2) (display_of (bound 0)) 0 0 _ (shown_at 0 (one_shown 0 ∷ [])) (shown_at 0 (one_shown 1 ∷ []))
    refl (omega arith) (one_shown 0, refl, refl) (one_shown 1, refl, refl) (two_at_first (one_shown 0) (one_shown 1))

pub returns-clause-while_holds : goal.returns-clause-while_holds
returns-clause-while_holds c = (
  2,
  (
    1,
    shown_at 0 (one_shown 0 ∷ []),
    shown_at 1 (one_shown 1 ∷ []) ⊕ blank,
    omega arith,
    omega arith,
    (omega arith, refl, turn_shows A [] 0 1 0 refl refl),
    (2, shown_at 1 (one_shown 1 ∷ []), blank, omega arith, omega arith, (omega arith, refl, turn_shows A [] 1 2 1 refl refl), (refl, refl), refl),
    spelled_is ((one_shown 0 ∷ []) ∷ (one_shown 1 ∷ []) ∷ []),
  ),
  refl,
)

pub returns-clause-for_without_turn : goal.returns-clause-for_without_turn
returns-clause-for_without_turn c = (pos 0, refl, (refl, refl))

pub returns-clause-for_holds : goal.returns-clause-for_holds
returns-clause-for_holds c =
    let turn = conjunction (formulas_of (skip_of ∷ display_of (bound 0) ∷ [])) in
    two_turns (pos 0) (pos 2) turn 1 2 _ (shown_at 0 (one_shown 0 ∷ [])) (shown_at 1 (one_shown 1 ∷ []))
    refl (omega arith) (turn_shows (bound 0) (fixed (num (pos 0)) ∷ []) 0 1 0 refl refl) (turn_shows (bound 0) (fixed (num (pos 1)) ∷ []) 1 2 1 refl refl)
    (spelled_is ((one_shown 0 ∷ []) ∷ (one_shown 1 ∷ []) ∷ []) ∙ (λ k. shown_at 0 (one_shown 0 ∷ []) ⊕ join-blank (shown_at 1 (one_shown 1 ∷ [])) k))

pub returns-clause-forall_without_instance : goal.returns-clause-forall_without_instance
returns-clause-forall_without_instance c = (pos 0, refl, refl)

pub returns-clause-forall_holds : goal.returns-clause-forall_holds
returns-clause-forall_holds c = (
  pos 2,
  refl,
  (
    shown_at 0 (one_shown 0 ∷ []),
    shown_at 0 (one_shown 1 ∷ []),
    (one_shown 0, refl, refl),
    (shown_at 0 (one_shown 1 ∷ []), blank, (one_shown 1, refl, refl), refl, sym (join-blank (shown_at 0 (one_shown 1 ∷ [])))),
    two_at_first (one_shown 0) (one_shown 1),
  ),
)

pub returns-clause-turns_have_length : goal.returns-clause-turns_have_length
returns-clause-turns_have_length c = (
  1,
  (
    1,
    shown_at 0 (one_shown 0 ∷ []),
    blank,
    omega arith,
    omega arith,
    (omega arith, refl, (one_shown 0, refl, refl)),
    (refl, refl),
    spelled_is ((one_shown 0 ∷ []) ∷ []),
  ),
  refl,
)

pub returns-clause-no_turn_without_length : goal.returns-clause-no_turn_without_length
returns-clause-no_turn_without_length c = shows_once

pub returns-clause-each_turn_begins_where_it_is_true : goal.returns-clause-each_turn_begins_where_it_is_true
returns-clause-each_turn_begins_where_it_is_true c = no_second_turn

pub returns-clause-for_counts_from_its_number : goal.returns-clause-for_counts_from_its_number
returns-clause-for_counts_from_its_number c =
    two_turns (negsuc 0) (pos 1) (display_of (bound 0)) 0 0 _ (shown_at 0 ((num (negsuc 0) ∷ []) ∷ [])) (shown_at 0 (one_shown 0 ∷ []))
    refl (omega arith) (num (negsuc 0) ∷ [], refl, refl) (one_shown 0, refl, refl) (two_at_first (num (negsuc 0) ∷ []) (one_shown 0))

pub returns-clause-number_is_bound_last : goal.returns-clause-number_is_bound_last
returns-clause-number_is_bound_last c =
    let turn = conjunction (formulas_of (equation (bound 0) (number_expr 3) ∷ equation (bound 1) (number_expr 0) ∷ [])) in
    let names = running (λ j. num (pos 3)) ∷ fixed (num (pos 0)) ∷ [] in
    static_name nothing_given 0 counting 0 0 3 (for_from [] (pos 0) (number_expr 1) turn) (
      pos 1,
      refl,
      (
        0,
        blank,
        blank,
        omega arith,
        omega arith,
        both_hold nothing_given 0 counting 0 0 names (equation (bound 0) (number_expr 3)) (equation (bound 1) (number_expr 0)) (num (pos 3), refl, refl, refl) (num (pos 0), refl, refl, refl),
        (refl, refl),
        refl,
      ),
    )
