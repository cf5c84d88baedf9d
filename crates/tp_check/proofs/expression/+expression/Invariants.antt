use Rattle.std.proofs.Common.{◌≡◌, ◌++◌, map, drop}
use Rattle.tp_tree.specs.Tree.{phrases_of}
use Rattle.tp_tree.specs.Read.{phrase_tree, phrase_trees}
use Rattle.tp_kernel.specs.Read.{expr_tree}
use Rattle.tp_scope.specs.Seen.{names_seen}
use Rattle.tp_check.specs.Outcome.{mapped}
use Rattle.tp_check.specs.Positions.{exprs_in, arguments_in}
use Rattle.tp_check.proofs.expression.+expression.Given as goal

-- those before are made
abbrev pub invariant-expressions-loop-phrase : goal.invariant-expressions-loop-phrase
invariant-expressions-loop-phrase l =
    exprs_in (names_seen l.fn.names) (phrase_trees l.fn.phrases) ≡ mapped (λ es. map expr_tree l.items.items ++ es) (exprs_in (names_seen l.fn.names) (phrases_of (map phrase_tree (drop l.phrase-index l.phrase-items))))

abbrev pub invariant-arguments-loop-operand : goal.invariant-arguments-loop-operand
invariant-arguments-loop-operand l =
    arguments_in (names_seen l.fn.names) (phrase_trees l.fn.operands) l.fn.parameters
    ≡ mapped (λ es. map expr_tree l.items.items ++ es) (arguments_in (names_seen l.fn.names) (phrases_of (map phrase_tree l.operand-iterator.a.rest.now)) l.operand-iterator.b.rest.now)
