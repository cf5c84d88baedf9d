use Rattle.std.proofs.Common.{◌≡◌, ◌≤◌, List, length, take}
use Rattle.std.specs.Io.KnownBytes.{Appends}
use Rattle.tp_io.specs.SystemCalls.{WriteCall, HaveWritten, and_these}
use Rattle.tp_io.proofs.real.write_whole.Given as goal

-- so much was written, by these calls, one for each turn
abbrev pub invariant-pieces : goal.invariant-pieces
invariant-pieces g l =
    (l.written ≤ length l.piece)
    × Appends (g.C.SystemWriter.contents l.initial.system) (g.C.SystemWriter.contents l.system)
    (take l.written l.piece)
    × ((calls : List WriteCall)
    × (g.C.SystemWriter.calls l.system ≡ and_these (g.C.SystemWriter.calls l.initial.system) calls)
    × HaveWritten l.piece calls l.written
    × (l.counter ≤ length calls))
