use Rattle.std.proofs.Common.{◌≡◌, ◌+◌}
use Rattle.tp_tree.specs.Read.{phrase_tree}
use Rattle.tp_scope.specs.Phrases.{nexts_of, behind_nexts}
use Rattle.tp_check.proofs.equation.without_nexts.Given as goal

-- the `next` so far, and the phrase behind them
abbrev pub invariant-loop-behind : goal.invariant-loop-behind
invariant-loop-behind l = record {
  count : l.count + nexts_of (phrase_tree l.behind) ≡ nexts_of (phrase_tree l.fn.phrase);
  behind : behind_nexts (phrase_tree l.behind) ≡ behind_nexts (phrase_tree l.fn.phrase);
}
