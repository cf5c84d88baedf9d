use Rattle.std.proofs.Common.{ℕ, ◌≤◌}
use Rattle.tp_store.specs.Nodes.{IsCutOff}
use Rattle.tp_store.proofs.judge.cuts_off.Given as goal

abbrev pub invariant-loop-place : goal.invariant-loop-place
invariant-loop-place l = (at : ℕ) → at ≤ l.place → IsCutOff l.nodes l.number l.shape at → ⊥
