use Rattle.std.proofs.Common.{◌≡◌, drop}
use Rattle.tp_show.specs.TraceReading.{all_digits}
use Rattle.tp_show.proofs.trace_path.all_digits.Given as goal

abbrev pub invariant-loop-byte : goal.invariant-loop-byte
invariant-loop-byte l = all_digits (drop l.byte-index l.text) ≡ all_digits l.text
