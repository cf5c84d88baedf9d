use Rattle.std.proofs.Common.{◌≡◌, ◌≤◌, List, length}
use Rattle.std.specs.Io.KnownBytes.{Consumes}
use Rattle.tp_io.specs.SystemCalls.{FileCall, HaveRead, and_these}
use Rattle.tp_io.proofs.real.read_open.Given as goal

-- so much was read, by these calls, one for each turn
abbrev pub invariant-reads : goal.invariant-reads
invariant-reads g l =
    (length l.items.items ≤ l.most)
    × Consumes (g.C.SystemFiles.remaining l.initial.system) (g.C.SystemFiles.remaining l.system)
    l.items.items
    × (g.C.SystemFiles.held l.system ≡ g.C.SystemFiles.held l.initial.system)
    × ((calls : List FileCall)
    × (g.C.SystemFiles.calls l.system ≡ and_these (g.C.SystemFiles.calls l.initial.system) calls)
    × HaveRead l.most calls (length l.items.items)
    × (l.counter ≤ length calls))
