use Rattle.std.proofs.Common.{◌≡◌, ◌++◌, bytes_eq, drop}
use Rattle.std.specs.List.{IsDistinct}
use Rattle.tp_scope.proofs.binders.Binders.of.Given as goal

-- the names so far are those before, and none of them stands twice
abbrev pub invariant-loop-name : goal.invariant-loop-name
invariant-loop-name l = record {
  before : l.names.keys ++ drop l.name-index l.name-items ≡ l.texts;
  apart : IsDistinct bytes_eq l.names.keys;
}
