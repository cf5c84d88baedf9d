use Rattle.std.proofs.Common.{◌≡◌, map, take}
use Rattle.tp_store.specs.Entries.{variables_in}
use Rattle.tp_store.specs.Known.{global_variable}
use Rattle.tp_store.proofs.entry.global_entries.Given as goal

abbrev pub invariant-loop-number : goal.invariant-loop-number
invariant-loop-number l = variables_in l.entries.items ≡ map global_variable (take l.number l.globals)
