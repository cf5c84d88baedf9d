use Rattle.std.proofs.Common.{◌+◌, ◌<◌, ◌≤◌}
use Rattle.tp_lanes.specs.Planes.{AreEmpty}
use Rattle.tp_lanes.proofs.members.last_word.Given as goal

abbrev pub invariant-loop-word : goal.invariant-loop-word
invariant-loop-word l = record { from : l.at ≤ l.word; within : l.word < l.at + 8; behind : AreEmpty l.words (l.word + 1) (l.at + 8) }

abbrev pub decreases-loop-word : goal.decreases-loop-word
decreases-loop-word l = l.word
