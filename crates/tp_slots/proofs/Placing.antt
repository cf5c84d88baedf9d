-- Leaves in an item's place, as the code puts them there.
use Rattle.std.proofs.Common.{◌≡◌, ℕ, ◌+◌, ◌++◌, List, [], length, Option, ap, sym, ◌∙◌, arith}
use Rattle.std.specs.List.{range_with_len}
use Rattle.std.proofs.lemmas.List.{append-nil}
use Rattle.tp_scene.specs.Scene.{Side}
use Rattle.tp_slots.specs.Plain.{What, Slot, RegionSlot, Slots, slot_at}
use Rattle.tp_slots.specs.Reductions.{AreBare}
use Rattle.tp_slots.specs.Replace.{gone_at, home_in, marked_at}
use Rattle.tp_slots.specs.Row.{held_after, hold_all, slots_in, stepped}
use Rattle.tp_slots.proofs.Lists.{hold_bare}

-- they are a step that begins no region
pub leaves_stepped : (s : Slots) (t first count : ℕ) (m : Option Side) (outs : List What) (l : List Slot) (rs : List RegionSlot) → l ≡ gone_at s.slots t (range_with_len first count) ++ slots_in (home_in s.slots t) outs → rs ≡ marked_at s.regions (slot_at s t).home m → first ≡ length s.slots
    → count ≡ length outs → record { slots = l; regions = rs } ≡ stepped s t m [] outs
leaves_stepped s t first count m outs l rs items regions f c =
    let number : first ≡ length s.slots + 0 = omega (arith, f) in
    let all = items ∙ (λ i. gone_at s.slots t (range_with_len (number i) (c i)) ++ slots_in (home_in s.slots t) outs) in
    let marked = regions ∙ sym (append-nil (marked_at s.regions (slot_at s t).home m)) in
    λ i. record { slots = all i; regions = marked i }

-- what holds each region stays
pub leaves_held : (s : Slots) (outs : List What) (hs : List ℕ) → AreBare outs → hs ≡ held_after s [] outs hs
leaves_held s outs hs bare =
    let n = length s.slots + 0 in
    sym (ap (hold_all n outs) (append-nil hs) ∙ ap (λ ws. hold_all n ws hs) (sym (append-nil outs)) ∙ hold_bare n outs [] hs bare)
