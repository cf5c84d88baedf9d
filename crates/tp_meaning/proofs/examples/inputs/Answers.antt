use Rattle.std.proofs.Common.{pos, [], ◌∷◌, None, refl, ◌*◌, arith}
use Rattle.tp_value.specs.Tree.{num}
use Rattle.tp_meaning.specs.Syntax.{next, input}
use Rattle.tp_meaning.specs.Course.{blank}
use Rattle.tp_meaning.specs.Examples.{counting, A, with_inputs, port, row_is}
use Rattle.tp_meaning.proofs.ExampleShows.{nothing_woven}
use Rattle.tp_meaning.proofs.ExampleParts.{cuts_at_0_and_2}
use Rattle.tp_meaning.proofs.examples.inputs.Goals as goal

pub returns-clause-holds : goal.returns-clause-holds
returns-clause-holds c = (num (pos 0), refl, refl, refl)

pub returns-clause-default : goal.returns-clause-default
returns-clause-default c = (num (pos 0), refl, refl, refl)

pub returns-clause-own_number : goal.returns-clause-own_number
returns-clause-own_number c =
    cuts_at_0_and_2 (with_inputs (row_is 1 1 9 ∷ row_is 2 4 2 ∷ []) None) (next (input A port)) [] counting blank blank
    (omega arith, (num (pos 2), refl, refl, refl)) (nothing_woven 1 0 (λ k. 2 * k))
