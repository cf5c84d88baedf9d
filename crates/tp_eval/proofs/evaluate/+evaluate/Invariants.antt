use Rattle.std.proofs.Common.{◌≡◌, ◌+◌, ◌*◌, map, length, drop}
use Rattle.tp_value.specs.Read.{tree}
use Rattle.tp_kernel.specs.Read.{expr_trees, binding_of}
use Rattle.tp_eval.specs.Evaluate.{each, all_true, arguments}
use Rattle.tp_eval.specs.Answers.{operand_in, place_at}
use Rattle.tp_eval.proofs.Levels.{rest, values_with}
use Rattle.tp_eval.proofs.Arguments.{bindings_with}
use Rattle.tp_eval.proofs.evaluate.+evaluate.Given as goal

abbrev pub decreases-evaluate : goal.decreases-evaluate
decreases-evaluate l = 8 * l.levels + 2

abbrev pub decreases-read : goal.decreases-read
decreases-read l = 8 * l.levels + 1

abbrev pub decreases-find_place : goal.decreases-find_place
decreases-find_place l = 8 * l.levels

abbrev pub decreases-index_at : goal.decreases-index_at
decreases-index_at l = 8 * l.levels + 3

abbrev pub decreases-each : goal.decreases-each
decreases-each l = 8 * l.levels + 3

abbrev pub decreases-all_true : goal.decreases-all_true
decreases-all_true l = 8 * l.levels + 3

abbrev pub decreases-one_true : goal.decreases-one_true
decreases-one_true l = 8 * l.levels + 3

abbrev pub decreases-operand : goal.decreases-operand
decreases-operand l = 8 * l.levels + 3

abbrev pub decreases-operated : goal.decreases-operated
decreases-operated l = 8 * l.levels + 4

abbrev pub decreases-chosen : goal.decreases-chosen
decreases-chosen l = 8 * l.levels + 3

abbrev pub decreases-element_of : goal.decreases-element_of
decreases-element_of l = 8 * l.levels + 3

abbrev pub decreases-size_of : goal.decreases-size_of
decreases-size_of l = 8 * l.levels + 3

abbrev pub decreases-argument : goal.decreases-argument
decreases-argument l = 8 * l.levels + 4

abbrev pub decreases-arguments : goal.decreases-arguments
decreases-arguments l = 8 * l.levels + 5

abbrev pub decreases-called : goal.decreases-called
decreases-called l = 8 * l.levels + 6

abbrev pub decreases-call : goal.decreases-call
decreases-call l = 8 * l.levels + 7

abbrev pub invariant-all_true-loop-expr : goal.invariant-all_true-loop-expr
invariant-all_true-loop-expr l =
    let op = operand_in l.lookup l.levels in
    all_true op (expr_trees l.exprs) l.fn.calls ≡ all_true op (rest l.expr-items l.expr-index) l.calls

abbrev pub invariant-each-loop-expr : goal.invariant-each-loop-expr
invariant-each-loop-expr l =
    let op = operand_in l.lookup l.levels in
    each op (expr_trees l.exprs) l.fn.calls ≡ values_with op (map tree l.values.items) (rest l.expr-items l.expr-index) l.calls

abbrev pub invariant-arguments-loop-expr : goal.invariant-arguments-loop-expr
invariant-arguments-loop-expr l =
    let op = operand_in l.lookup l.levels in
    let place = place_at l.lookup l.levels in
    arguments op place (expr_trees l.exprs) l.parameters l.fn.calls
    ≡ bindings_with op place (map binding_of l.items.items) (rest l.exprs.items.items (length l.yielded)) (drop (length l.yielded) l.parameters) l.calls
