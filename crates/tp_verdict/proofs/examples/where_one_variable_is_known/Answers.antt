use Rattle.std.proofs.Common.{refl}
use Rattle.tp_eval.specs.Outcome.{outcome}
use Rattle.tp_verdict.proofs.examples.where_one_variable_is_known.Goals as goal

pub returns-clause-two_is_before_the_end : goal.returns-clause-two_is_before_the_end
unfolding outcome
returns-clause-two_is_before_the_end c = refl

pub returns-clause-parts_share_a_state : goal.returns-clause-parts_share_a_state
unfolding outcome
returns-clause-parts_share_a_state c = refl

pub returns-clause-first_suffix_counts : goal.returns-clause-first_suffix_counts
unfolding outcome
returns-clause-first_suffix_counts c = refl

pub returns-clause-nothing_is_no_0 : goal.returns-clause-nothing_is_no_0
unfolding outcome
returns-clause-nothing_is_no_0 c = refl

pub returns-clause-length_decides : goal.returns-clause-length_decides
unfolding outcome
returns-clause-length_decides c = refl

pub returns-clause-not_of_undecided : goal.returns-clause-not_of_undecided
unfolding outcome
returns-clause-not_of_undecided c = refl

pub returns-clause-one_is_enough : goal.returns-clause-one_is_enough
unfolding outcome
returns-clause-one_is_enough c = refl

pub returns-clause-loop_ends : goal.returns-clause-loop_ends
unfolding outcome
returns-clause-loop_ends c = refl

pub returns-clause-loop_ends_too_early : goal.returns-clause-loop_ends_too_early
unfolding outcome
returns-clause-loop_ends_too_early c = refl

pub returns-clause-turns_have_length : goal.returns-clause-turns_have_length
unfolding outcome
returns-clause-turns_have_length c = refl

pub returns-clause-last_state_is_reached : goal.returns-clause-last_state_is_reached
unfolding outcome
returns-clause-last_state_is_reached c = refl

pub returns-clause-no_state_beyond : goal.returns-clause-no_state_beyond
unfolding outcome
returns-clause-no_state_beyond c = refl

pub returns-clause-fault_is_no_value : goal.returns-clause-fault_is_no_value
unfolding outcome
returns-clause-fault_is_no_value c = refl

pub returns-clause-not_of_a_fault : goal.returns-clause-not_of_a_fault
unfolding outcome
returns-clause-not_of_a_fault c = refl
