use Rattle.std.proofs.Common.{◌≡◌, [], map, take}
use Rattle.tp_kernel.specs.Read.{expr_tree, bindings_of, definitions_of}
use Rattle.tp_eval.specs.Outcome as found
use Rattle.tp_eval.specs.Answers.{outcome_tree}
use Rattle.tp_verdict.proofs.kinds.outcomes.Given as goal

abbrev pub invariant-states : goal.invariant-states
invariant-states l = record {
  env : bindings_of l.env ≡ [];
  defs : definitions_of l.defs ≡ [];
  all : map outcome_tree l.all.items ≡ map (λ state. found.outcome state.facts [] (expr_tree l.expr) []) (take l.state-index l.states);
}
