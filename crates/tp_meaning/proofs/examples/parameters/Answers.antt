use Rattle.std.proofs.Common.{pos, [], ◌∷◌, refl, arith}
use Rattle.tp_value.specs.Tree.{num}
use Rattle.tp_meaning.specs.Syntax.{trivial, next, equation, bound}
use Rattle.tp_meaning.specs.Examples.{counting, number_expr, formula_definition, with_definition, call_it, upper_parameter, lower_parameter}
use Rattle.tp_meaning.proofs.ExampleParts.{static_name}
use Rattle.tp_meaning.proofs.examples.parameters.Goals as goal

pub returns-clause-upper_holds : goal.returns-clause-upper_holds
returns-clause-upper_holds c = (_, refl, (formula_definition upper_parameter (next (equation (bound 0) (number_expr 5))), refl, (omega arith, (num (pos 5), refl, refl, refl))))

pub returns-clause-index_in_the_next_state : goal.returns-clause-index_in_the_next_state
returns-clause-index_in_the_next_state c = (omega arith, (num (pos 7), refl, refl, refl))

pub returns-clause-lower_holds : goal.returns-clause-lower_holds
returns-clause-lower_holds c = (_, refl, (formula_definition lower_parameter (next (equation (bound 0) (number_expr 4))), refl, (omega arith, (num (pos 4), refl, refl, refl))))

pub returns-clause-element_of_a_path_needs_no_value : goal.returns-clause-element_of_a_path_needs_no_value
returns-clause-element_of_a_path_needs_no_value c = (_, refl, (formula_definition upper_parameter trivial, refl, refl))

pub returns-clause-bindings_alone : goal.returns-clause-bindings_alone
returns-clause-bindings_alone c =
    let two = equation (bound 0) (number_expr 2) in
    static_name (with_definition lower_parameter two) 1 counting 0 0 3 (call_it (number_expr 2 ∷ []))
    (_, refl, (formula_definition lower_parameter two, refl, (num (pos 2), refl, refl, refl)))
