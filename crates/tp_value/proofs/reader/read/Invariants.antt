use Rattle.std.proofs.Common.{◌≡◌, drop}
use Rattle.tp_value.specs.Reading.{reading, start_state}
use Rattle.tp_value.specs.ReaderState.{state_of}
use Rattle.tp_value.proofs.reader.read.Given as goal

abbrev pub invariant-loop-at : goal.invariant-loop-at
invariant-loop-at l = reading l.at (state_of l.reader) (drop l.at l.bytes) ≡ reading l.fn.from start_state (drop l.fn.from l.fn.bytes)
