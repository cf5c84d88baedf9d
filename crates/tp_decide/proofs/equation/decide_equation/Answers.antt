use Rattle.std.proofs.Common.{◌∙◌, List, Option, subst}
use Rattle.std.specs.Prelude.{MatchOption}
use Rattle.tp_store.specs.Known.{Variable}
use Rattle.tp_decide.specs.declared.decision.Decision.{Decision}
use Rattle.tp_decide.specs.Fits.{IsTargetOf, SetsVariables}
use Rattle.tp_kernel.specs.Read.{expr_tree, definitions_of, bindings_of}
use Rattle.tp_scene.specs.Step.{SideOf, side_of, target_of}
use Rattle.tp_decide.specs.Found.{side_found}
use Rattle.tp_decide.specs.Equated.{AreEqual, AreValuePaths}
use Rattle.tp_decide.proofs.PlaceSides.{equal_sides, goes_by_values, side_is_read}
use Rattle.tp_decide.proofs.equation.decide_equation.Goals as goal

pub returns-then-are_equal-clause-outcome : goal.returns-then-are_equal-clause-outcome
returns-then-are_equal-clause-outcome c = λ n.
    let facts = c.args.store.now.facts in
    let defs = definitions_of c.args.setting.now.defs.now in
    let env = bindings_of c.args.env.now in
    let l = expr_tree c.args.left.now in
    let r = expr_tree c.args.right.now in
    let P : SideOf → Type 0 = λ x. AreEqual x (side_found c.in_ok-right.right) in
    let first = subst P c.in_ok-left-2.ensures.outcome (c.are_equal.ensures c.if-are_equal.true) in
    let Q : SideOf → Type 0 = λ y. AreEqual (side_of defs facts l env) y in
    let both = subst Q c.in_ok-right.ensures.outcome first in
    let none = subst (AreValuePaths (target_of defs facts l env) (target_of defs facts r env)) c.in_default.is c.in_ok-left.ensures.paths in
    c.nothing.ensures.outcome facts n
    ∙ equal_sides facts (side_of defs facts l env) (side_of defs facts r env) c.same_tree_is_equality.ensures c.count.ensures.sound.no_clash (side_is_read facts defs env l) both
    ∙ goes_by_values facts (side_of defs facts l env) (side_of defs facts r env) n none

pub returns-then-are_equal-clause-variables : goal.returns-then-are_equal-clause-variables
returns-then-are_equal-clause-variables c = c.nothing.ensures.plain c.args.store.now.variables

pub returns-clause-variables : goal.returns-clause-variables
returns-clause-variables c = c.equate_values.ensures.variables c.args.store.now.variables c.in_ok-left-2.ensures.variables c.in_ok-right.ensures.variables

pub returns-in-Some-2-clause-variables : goal.returns-in-Some-2-clause-variables
returns-in-Some-2-clause-variables c =
    let V : Option Decision → Type 0 = λ o. MatchOption o (Unit {0}) (λ (d : Decision). (xs : List Variable) → IsTargetOf xs c.in_ok-left-2.left.target → SetsVariables xs d) in
    subst V c.in-Some-2.is c.in_ok-decision.ensures.variables c.args.store.now.variables c.in_ok-left-2.ensures.variables
