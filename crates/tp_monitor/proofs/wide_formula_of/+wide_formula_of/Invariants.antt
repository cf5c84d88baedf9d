use Rattle.std.proofs.Common.{◌≡◌, ◌++◌, map, drop}
use Rattle.tp_tree.specs.Tree.{phrases_of}
use Rattle.tp_tree.specs.Read.{phrase_tree, phrase_trees}
use Rattle.tp_scope.specs.Seen.{names_seen}
use Rattle.tp_check.specs.Outcome.{mapped}
use Rattle.tp_verdict.specs.Read.{wide_tree}
use Rattle.tp_monitor.specs.WideOf.{wide_in}
use Rattle.tp_monitor.proofs.wide_formula_of.+wide_formula_of.Given as goal

-- those before are made
abbrev pub invariant-wides-loop-phrase : goal.invariant-wides-loop-phrase
invariant-wides-loop-phrase l =
    wide_in (names_seen l.fn.names) (phrase_trees l.fn.phrases) ≡ mapped (λ ws. map wide_tree l.items.items ++ ws) (wide_in (names_seen l.fn.names) (phrases_of (map phrase_tree (drop l.phrase-index l.phrase-items))))
