use Rattle.std.proofs.Common.{◌≡◌, ◌<◌, ◌+◌, ℕ, length}
use Rattle.tp_verdict.specs.Stored.{verdict_listed}
use Rattle.tp_verdict.specs.Ruled.{paired}
use Rattle.tp_verdict.proofs.leaves.equality_verdicts.Given as goal

abbrev pub invariant-states : goal.invariant-states
invariant-states l = record {
  many : length l.verdicts.items ≡ l.i;
  each : (k : ℕ) → k < l.i → verdict_listed l.verdicts.items k ≡ paired l.firsts l.seconds k (k + l.ahead);
}
