use Rattle.std.proofs.Common.{◌≤◌, length, drop}
use Rattle.tp_lex.specs.Line.{EndsNoLine}
use Rattle.tp_lex.proofs.place.last_line_len.Given as goal

-- behind here no line ends
abbrev pub invariant-loop-from : goal.invariant-loop-from
invariant-loop-from l = record { within : l.from ≤ length l.bytes; line : EndsNoLine (drop l.from l.bytes) }

abbrev pub decreases-loop-from : goal.decreases-loop-from
decreases-loop-from l = l.from
