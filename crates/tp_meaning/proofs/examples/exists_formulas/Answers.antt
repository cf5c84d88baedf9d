use Rattle.std.proofs.Common.{pos, Bool, [], ◌∷◌, refl, arith}
use Rattle.tp_value.specs.Tree.{num}
use Rattle.tp_meaning.specs.Syntax.{bound, equation, conjunction, exists, formulas_of}
use Rattle.tp_meaning.specs.Course.{blank}
use Rattle.tp_meaning.specs.Holds.{running}
use Rattle.tp_meaning.specs.Examples.{nothing_given, counting, number_expr}
use Rattle.tp_meaning.proofs.ExampleParts.{both_hold, static_name}
use Rattle.tp_meaning.proofs.examples.exists_formulas.Goals as goal

pub returns-clause-holds : goal.returns-clause-holds
returns-clause-holds c = ((λ j. num (pos 7)), tt, (num (pos 7), refl, refl, refl))

pub returns-clause-changing_holds : goal.returns-clause-changing_holds
returns-clause-changing_holds c = ((λ j. num (pos j)), tt, (2, (λ i. blank), omega arith, (λ i u v. (num (pos i), refl, refl, refl)), refl))

pub returns-clause-later_names_come_after : goal.returns-clause-later_names_come_after
returns-clause-later_names_come_after c =
    let names = running (λ j. num (pos 3)) ∷ running (λ j. num (pos 2)) ∷ [] in
    let inner = conjunction (formulas_of (equation (bound 0) (number_expr 3) ∷ equation (bound 1) (number_expr 2) ∷ [])) in
    static_name nothing_given 0 counting 0 0 3 (exists [] Bool.true inner) (
      (λ j. num (pos 2)),
      (λ i j. refl),
      both_hold nothing_given 0 counting 0 0 names (equation (bound 0) (number_expr 3)) (equation (bound 1) (number_expr 2))
          (num (pos 3), refl, refl, refl) (num (pos 2), refl, refl, refl),
    )
