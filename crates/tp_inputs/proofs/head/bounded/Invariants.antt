use Rattle.std.proofs.Common.{◌≡◌, take, min}
use Rattle.tp_value.specs.Spelling.{decimal_value}
use Rattle.tp_inputs.specs.Spans.{last_state}
use Rattle.tp_inputs.proofs.head.bounded.Given as goal

abbrev pub invariant-loop-digit : goal.invariant-loop-digit
invariant-loop-digit l = l.state ≡ min (decimal_value (take l.digit-index l.digits)) last_state
