use Rattle.std.proofs.Common.{◌∙◌, ◌+ℤ◌, pos, ap, sym, arith}
use Rattle.std.proofs.lemmas.Int.{ints, to_z-of_z}
use Rattle.tp_value.specs.Number.{number_width}
use Rattle.tp_kernel.specs.Read.{expr_tree, formula_tree}
use Rattle.tp_kernel.specs.Equations.{expr_number, formula_for, formula_forall}
use Rattle.tp_meaning.specs.Syntax.{FormulaTree, for_from, forall_from, numeral}
use Rattle.tp_decide.specs.declared.counting.CountKind.{CountKind}
use Rattle.tp_decide.specs.Found.{counted_from}
use Rattle.tp_decide.proofs.FormulaLemmas.{counts_on}
use Rattle.tp_decide.proofs.counting.count_on.Goals as goal
use Rattle.tp_decide.proofs.counting.count_on.Goals.{in-Turns, in-Instances}

pub returns : goal.returns
returns c =
    let bound = ap expr_tree c.in_ok-to.ensures.ok ∙ expr_number _ ∙ ap numeral (to_z-of_z number_width c.args.to c.ranges.to) in
    let body = ap formula_tree c.in_ok-body.ensures.cases in
    let counts : CountKind → FormulaTree = λ kind. counted_from kind c.args.name.now (c.args.k +ℤ pos 1) (numeral c.args.to) (formula_tree c.args.body.now.value) in
    elim c.match-kind.branch [
      | in-Turns w ↦
          ap formula_tree (c.in_ok-rest.ensures.ok ∙ w.rest-is) ∙ formula_for _ _ c.in_ok-to.to c.in_ok-body.body
          ∙ counts_on for_from _ _ _ _ _ _ _ _ c.in_ok-name.ensures (omega (arith, ints, c.requires, c.ranges.k, c.ranges.to)) bound body
          ∙ ap counts (sym w.in-Turns.is)
      | in-Instances w ↦
          ap formula_tree (c.in_ok-rest.ensures.ok ∙ w.rest-is) ∙ formula_forall _ _ c.in_ok-to.to c.in_ok-body.body
          ∙ counts_on forall_from _ _ _ _ _ _ _ _ c.in_ok-name.ensures (omega (arith, ints, c.requires, c.ranges.k, c.ranges.to)) bound body
          ∙ ap counts (sym w.in-Instances.is)
    ]
