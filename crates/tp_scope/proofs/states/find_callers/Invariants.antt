use Rattle.std.proofs.Common.{◌≡◌, [], map, length, All}
use Rattle.tp_tree.specs.Read.{definition_tree}
use Rattle.tp_scope.specs.Callers.{number_lists}
use Rattle.tp_scope.proofs.Listing.{AreFirstCallers}
use Rattle.tp_scope.proofs.states.find_callers.Given as goal

abbrev pub invariant-loop-definition : goal.invariant-loop-definition
invariant-loop-definition l = record {
  each : length l.callers.items ≡ l._definition-index;
  empty : All (λ is. is ≡ []) (number_lists l.callers.items);
}

abbrev pub invariant-loop-i : goal.invariant-loop-i
invariant-loop-i l = record {
  each : length l.callers.items ≡ length l.definitions.items.items;
  callers : AreFirstCallers (map definition_tree l.definitions.items.items) l.i (number_lists l.callers.items);
}
