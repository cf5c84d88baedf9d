use Rattle.std.proofs.Common.{◌≡◌, ◌+◌, [], map, length, drop}
use Rattle.std.specs.List.{count_by}
use Rattle.tp_tree.specs.Read.{definition_tree}
use Rattle.tp_scope.proofs.Spreading.{Progress}
use Rattle.tp_scope.proofs.states.find_states.Given as goal

abbrev pub invariant-loop-called : goal.invariant-loop-called
invariant-loop-called l = Progress (map definition_tree l.definitions.items.items) l.states.items l.work.items 0 []

-- each that is taken out was in before
abbrev pub decreases-loop-called : goal.decreases-loop-called
decreases-loop-called l = count_by (λ b. b) l.states.items + length l.work.items

-- the callers that are left
abbrev pub invariant-loop-caller : goal.invariant-loop-caller
invariant-loop-caller l = record {
  progress : Progress (map definition_tree l.definitions.items.items) l.states.items l.work.items l.called (drop l.caller-index l.caller-items);
  count : count_by (λ b. b) l.states.items + length l.work.items ≡ count_by (λ b. b) l.initial.states.items + length l.initial.work.items;
}
