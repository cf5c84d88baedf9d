use Rattle.std.proofs.Common.{◌≡◌, ◌+◌, take, min}
use Rattle.tp_value.specs.Number.{number_limit}
use Rattle.tp_lex.specs.Bytes.{spelled_value}
use Rattle.tp_lex.proofs.first.value_of.Given as goal

abbrev pub invariant-loop-digit : goal.invariant-loop-digit
invariant-loop-digit l = l.n ≡ min (spelled_value (take l.digit-index l.digits)) (number_limit + 1)
