use Rattle.std.proofs.Common.{◌≡◌, take, min}
use Rattle.tp_value.specs.Spelling.{decimal_value}
use Rattle.tp_show.proofs.trace_path.bounded.Given as goal

abbrev pub invariant-loop-digit : goal.invariant-loop-digit
invariant-loop-digit l = l.n ≡ min (decimal_value (take l.digit-index l.digits)) l.bound
