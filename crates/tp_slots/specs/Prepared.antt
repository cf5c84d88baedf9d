-- What was made to be put in an item's place.
use Rattle.std.specs.Prelude.{◌≡◌, ℕ, ◌+◌, ◌≤◌, List, ◌++◌, length, map, vec_len, vec_capacity}
use Rattle.std.specs.List.{range_with_len}
use Rattle.tp_slots.specs.Plain.{What}
use Rattle.tp_slots.specs.Kept.{unset}
use Rattle.tp_slots.specs.Row.{begun, slots_in}
use Rattle.tp_slots.specs.Threads.{after_at, links, nothing_after}
use Rattle.tp_slots.specs.Read.{afters_of, all_slots, item_home, region_ends, region_goes, region_holders, region_slots, slot_afters, slot_whats}
use Rattle.tp_slots.specs.declared.put.NewParts.{NewParts}
use Rattle.tp_slots.specs.declared.scene.Scene.{Scene}

-- The items `outs` are to stand in place of the item t, and the items `inner` in a new region, if
-- there are any. There is room for them.
pub record IsPrepared (t : ℕ) (inner outs : List What) (s : Scene) (news : NewParts) : Type 0 where
  pub numbers : range_with_len news.from news.count
      ≡ range_with_len (length s.slots.items + length inner) (length outs)
  pub slots : all_slots news.slots.items
      ≡ slots_in (length s.regions.items) inner ++ slots_in (item_home s t) outs
  pub whats : slot_whats news.slots.items ≡ inner ++ outs
  pub afters : slot_afters news.slots.items
      ≡ nothing_after (length inner)
      ++ links (length s.slots.items + length inner) (length outs) (after_at (afters_of s) t)
  pub regions : region_slots news.regions.items ≡ begun (length s.slots.items) (length inner)
  pub holders : region_holders news.regions.items
      ≡ map (λ x. 0) (begun (length s.slots.items) (length inner))
  pub ends : region_ends news.regions.items ≡ unset (length inner)
  pub goes : region_goes news.regions.items ≡ unset (length inner)
  pub slots_room : vec_len s.slots + vec_len news.slots ≤ vec_capacity s.slots
  pub regions_room : vec_len s.regions + vec_len news.regions ≤ vec_capacity s.regions
