use Rattle.std.proofs.Common.{◌≡◌, length, take}
use Rattle.tp_scope.specs.Callers.{number_lists, IsListedToo}
use Rattle.tp_scope.proofs.states.add_caller.Given as goal

abbrev pub invariant-loop-number : goal.invariant-loop-number
invariant-loop-number l = record {
  each : length l.callers.items ≡ length l.fn.callers.items;
  listed : IsListedToo (number_lists l.fn.callers.items) (take l.number-index l.called) l.caller (number_lists l.callers.items);
}
