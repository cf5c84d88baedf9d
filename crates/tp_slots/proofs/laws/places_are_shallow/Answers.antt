use Rattle.std.proofs.Common.{refl}
use Rattle.tp_slots.specs.Plain.{slot_at}
use Rattle.tp_slots.specs.Read.{holders_of, slots_of}
use Rattle.tp_slots.proofs.Shallow.{stands_shallow, holds_shallow}
use Rattle.tp_slots.proofs.laws.places_are_shallow.Goals as goal

pub returns : goal.returns
returns c defs kinds variables s t kept fits lives = record {
  stands = stands_shallow defs kinds variables (slots_of s) (holders_of s) kept.shape.ordered kept.shape.held t fits lives;
  inside = λ i. holds_shallow defs kinds variables (slots_of s) (holders_of s) kept.shape.ordered kept.shape.held t fits lives (slot_at (slots_of s) t).what refl i;
}
