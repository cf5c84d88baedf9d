use Rattle.std.proofs.Common.{◌≡◌, [], take}
use Rattle.std.specs.List.{All}
use Rattle.tp_slots.specs.Read.{what_of}
use Rattle.tp_slots.specs.Settled.{what_shows}
use Rattle.tp_slots.proofs.values.shows_any.Given as goal

abbrev pub invariant-loop-slot : goal.invariant-loop-slot
invariant-loop-slot l = All (λ slot. what_shows (what_of slot.what) ≡ []) (take l.slot-index l.slots)
