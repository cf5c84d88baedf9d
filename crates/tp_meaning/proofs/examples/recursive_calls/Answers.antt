use Rattle.std.proofs.Common.{refl, [], inl, inr, arith}
use Rattle.tp_meaning.specs.Syntax.{weak_next}
use Rattle.tp_meaning.specs.Examples.{formula_definition, call_it}
use Rattle.tp_meaning.proofs.examples.recursive_calls.Goals as goal

pub returns-clause-one_state_at_depth_1 : goal.returns-clause-one_state_at_depth_1
returns-clause-one_state_at_depth_1 c = ([], refl, (formula_definition [] (weak_next (call_it [])), refl, inl (refl, refl)))

pub returns-clause-two_states_at_depth_2 : goal.returns-clause-two_states_at_depth_2
returns-clause-two_states_at_depth_2 c =
    ([], refl, (formula_definition [] (weak_next (call_it [])), refl, inr (omega arith, ([], refl, (formula_definition [] (weak_next (call_it [])), refl, inl (refl, refl))))))
