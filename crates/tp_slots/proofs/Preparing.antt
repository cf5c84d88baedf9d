-- What was prepared is put in an item's place.
use Rattle.std.proofs.Common.{◌≡◌, ℕ, zero, suc, ◌+◌, false, List, ◌++◌, map, length, refl, ap, sym, ◌∙◌, subst}
use Rattle.std.proofs.lemmas.List.{length-map}
use Rattle.tp_slots.specs.Kept.{unset}
use Rattle.tp_slots.specs.Plain as plain
use Rattle.tp_slots.specs.Prepared.{IsPrepared}
use Rattle.tp_slots.specs.Read.{holders_of, region_holders, slot_of, slot_whats, slots_of, region_slot_of}
use Rattle.tp_slots.specs.Reductions.{AreBare}
use Rattle.tp_slots.specs.Row.{AllBelow, begun, held_after, hold_all}
use Rattle.tp_slots.specs.declared.put.NewParts.{NewParts}
use Rattle.tp_slots.specs.declared.scene.Scene.{Scene}
use Rattle.tp_slots.proofs.Lists.{all_below, begun_count, hold_bare}

-- flags that aren't set, whatever the numbers
pub unset_same : (n c : ℕ) → map (λ x. false) (begun n c) ≡ unset c
unset_same n zero = refl
unset_same n (suc c) = refl

module _ (t : ℕ) (inner outs : List plain.What) (s : Scene) (news : NewParts) (ready : IsPrepared t inner outs s news) where
  pub prepared_below : AreBare inner → AllBelow (length s.regions.items + length (begun 0 (length inner))) outs → AllBelow (length s.regions.items + length news.regions.items) (slot_whats news.slots.items)
  prepared_below bare below =
      let regions = length s.regions.items in
      let more = sym (length-map news.regions.items region_slot_of) ∙ ap (λ (l : List plain.RegionSlot). length l) ready.regions ∙ begun_count (length s.slots.items) 0 (length inner) in
      subst (λ n. AllBelow (regions + n) (slot_whats news.slots.items)) (sym more)
      (subst (AllBelow (regions + length (begun 0 (length inner)))) (sym ready.whats) (all_below (regions + length (begun 0 (length inner))) inner outs bare below))

  pub prepared_holders : (next : Scene) → AreBare inner → holders_of next ≡ hold_all (length s.slots.items) (slot_whats news.slots.items) (holders_of s ++ region_holders news.regions.items) → holders_of next ≡ held_after (slots_of s) inner outs (holders_of s)
  prepared_holders next bare is =
      let first = sym (length-map s.slots.items slot_of) in
      let more = ready.holders ∙ ap (λ n. map (λ (x : plain.RegionSlot). 0) (begun n (length inner))) first in
      let held = holders_of s ++ map (λ (x : plain.RegionSlot). 0) (begun (length (slots_of s).slots) (length inner)) in
      is
      ∙ ((λ i. hold_all (first i) (ready.whats i) (holders_of s ++ more i))
      ∙ hold_bare (length (slots_of s).slots) inner outs held bare)
