-- What stands in the next state for the items of a scene.
use Rattle.std.specs.Prelude.{◌≡◌, ℕ, ◌+◌, Bool, true, false, cond, get_or, List, [], ◌∷◌, ◌++◌, map, length, Option, Some, None}
use Rattle.tp_scene.specs.Scene as S
use Rattle.tp_scene.specs.Scene.{Leaf, Holder, Entries, none, leaf, node, no_region}
use Rattle.tp_scene.specs.Advance.{due, numbered}
use Rattle.tp_decide.specs.Decided.{plain_leaf}
use Rattle.tp_decide.specs.ReadBound.{formula_of, env_of}
use Rattle.tp_slots.specs.Plain.{What, bare, holds, gone, Slot, RegionSlot, Slots, slot_at, head_at, other_head, second_of, entries_at, has_second, IsInner}
use Rattle.tp_slots.specs.Own.{own_ids}
use Rattle.tp_slots.specs.Threads.{after_at}
use Rattle.tp_slots.specs.Read.{afters_of, slots_of, region_slot_of, all_slots, item_what}
use Rattle.tp_slots.specs.declared.scene.Scene.{Scene}
use Rattle.tp_slots.specs.declared.scene.Region.{Region}
use Rattle.tp_step.specs.declared.next_scene.Extent.{Extent}
use Rattle.tp_step.specs.declared.next_scene.Extent.TheVariants.{Whole, Due}
use Rattle.tp_step.specs.declared.next_scene.OneHolder.{OneHolder}
use Rattle.tp_step.specs.declared.next_scene.OneHolder.TheVariants as one
use Rattle.tp_step.specs.declared.next_scene.TwoHolder.{TwoHolder}
use Rattle.tp_step.specs.declared.next_scene.TwoHolder.TheVariants as two
use Rattle.tp_step.specs.declared.next_scene.Successor as code
use Rattle.tp_step.specs.declared.next_scene.Successor.TheVariants as succ

-- what the next state has of a region
abbrev pub left_by : Extent → Entries → Entries
left_by Whole es = es
left_by Due es = due es

-- What stands there for one item: nothing, an item without a region, or one that holds what is left
-- of one region, or of two.
pub data Successor : Type 0 where
  nothing : Successor
  bare_item : Leaf → Successor
  one_held : Holder → (held : ℕ) → Successor
  two_held : Holder → (held second : ℕ) → Extent → Successor

-- what is left of an item with its region
abbrev pub successor_in : Extent → What → Successor
successor_in Whole (bare l) = bare_item l
successor_in Whole (holds k r None) = one_held k r
successor_in Whole (holds k r (Some q)) = two_held k r q Whole
successor_in Whole (gone by) = nothing
successor_in Due (bare (S.Do f env)) = nothing
successor_in Due (bare (S.Later f env)) = bare_item (S.Do f env)
successor_in Due (bare (S.Shown vs)) = nothing
successor_in Due (holds (S.Split f env) r None) = one_held (S.Split f env) r
successor_in Due (holds (S.Split f env) r (Some q)) = nothing
successor_in Due (holds (S.SplitProject f env) r None) = nothing
successor_in Due (holds (S.SplitProject f env) r (Some q)) =
    two_held (S.SplitProject f env) r q Whole
successor_in Due (holds S.Closed r q) = nothing
successor_in Due (holds (S.Opened f env) r q) = nothing
successor_in Due (holds (S.Running f env) r None) = nothing
successor_in Due (holds (S.Running f env) r (Some q)) = two_held (S.SplitProject f env) r q Due
successor_in Due (gone by) = nothing

-- the holders and the successor that the code has
abbrev pub one_holder_of : OneHolder → Holder
one_holder_of (one.Split after) = S.Split (formula_of after) (env_of after)
one_holder_of one.Closed = S.Closed
one_holder_of (one.Opened piece) = S.Opened (formula_of piece) (env_of piece)

abbrev pub two_holder_of : TwoHolder → Holder
two_holder_of (two.SplitProject piece) = S.SplitProject (formula_of piece) (env_of piece)
two_holder_of (two.Running piece) = S.Running (formula_of piece) (env_of piece)

abbrev pub successor_of : code.Successor → Successor
successor_of succ.Nothing = nothing
successor_of (succ.Bare l) = bare_item (plain_leaf l)
successor_of (succ.One k r) = one_held (one_holder_of k) r
successor_of (succ.Two k r q e) = two_held (two_holder_of k) r q e

-- its entries, before they are numbered
abbrev pub successor_entries : Slots → Extent → Successor → Entries
successor_entries s e nothing = none
successor_entries s e (bare_item l) = leaf 0 l none
successor_entries s e (one_held k r) =
    node 0 k (head_at s r) (left_by e (entries_at s r)) no_region none none
successor_entries s e (two_held k r q d) =
    node 0 k (head_at s r) (left_by e (entries_at s r)) (head_at s q) (left_by d (entries_at s q))
    none

-- the regions that it holds lie inside of this one
abbrev pub SuccessorFits : Slots → (home : ℕ) → Successor → Type 0
SuccessorFits s home nothing = Unit {0}
SuccessorFits s home (bare_item l) = Unit {0}
SuccessorFits s home (one_held k r) = (has_second k ≡ false) × IsInner s home r
SuccessorFits s home (two_held k r q e) =
    (has_second k ≡ true) × IsInner s home r × IsInner s home q

-- the item t, with what its slot has, in front of the rest
abbrev pub item_then : Slots → (t : ℕ) → What → (rest : Entries) → Entries
item_then s t (bare l) rest = leaf t l rest
item_then s t (holds k r q) rest =
    node t k (head_at s r) (entries_at s r) (other_head s q) (second_of (entries_at s) q) rest
item_then s t (gone by) rest = rest

-- these items, one after the other
abbrev pub all_items : Slots → List ℕ → Entries
all_items s [] = none
all_items s (t ∷ ts) = item_then s t (slot_at s t).what (all_items s ts)

-- The slots of entries that are numbered, in walk order, where a second region comes after its
-- holder.
abbrev pub slots_for : (home : ℕ) → Entries → List Slot
slots_for home none = []
slots_for home (leaf id l rest) = record { home = home; what = bare l } ∷ slots_for home rest
slots_for home (node id k h held g second rest) =
    slots_for h.number held
    ++ record {
      home = home;
      what = holds k h.number (cond (has_second k) (Some g.number) None);
    }
    ∷ (slots_for g.number second ++ slots_for home rest)

-- all of a region
pub record FullRegion : Type 0 where
  pub holder : ℕ
  pub slot : RegionSlot
  pub ends_now : Bool
  pub goes_now : Bool

-- the same of regions as the code has them
abbrev pub full_region_of : Region → FullRegion
full_region_of x =
    record {
      holder = x.holder;
      slot = region_slot_of x;
      ends_now = x.ends_now;
      goes_now = x.goes_now;
    }

abbrev pub full_regions : List Region → List FullRegion
full_regions xs = map full_region_of xs

-- a region of which nothing is known yet
abbrev pub unmarked_region : (holder : ℕ) → (roots : List ℕ) → FullRegion
unmarked_region holder roots =
    record {
      holder = holder;
      slot = record { ends = false; goes = false; roots = roots };
      ends_now = false;
      goes_now = false;
    }

-- the region at this place, held by this item and with these roots
abbrev pub refilled : List FullRegion → (at holder : ℕ) → (roots : List ℕ) → FullRegion
refilled xs at holder roots =
    let x = get_or xs at (unmarked_region 0 []) in
    record {
      holder = holder;
      slot = record { ends = x.slot.ends; goes = x.slot.goes; roots = roots };
      ends_now = x.ends_now;
      goes_now = x.goes_now;
    }

-- The regions that entries hold, in the order of their numbers, without marks.
abbrev pub regions_for : Entries → List FullRegion
regions_for none = []
regions_for (leaf id l rest) = regions_for rest
regions_for (node id k h held g second rest) =
    unmarked_region id (own_ids held)
    ∷ (regions_for held ++ (cond (has_second k) (unmarked_region id (own_ids second) ∷ []) []
    ++ (regions_for second ++ regions_for rest)))

-- Entries with the next numbers of a scene, and the same inside of its next region.
abbrev pub next_numbered : Scene → Entries → Entries
next_numbered s fs = numbered (length s.slots.items) (length s.regions.items) fs

abbrev pub inside_numbered : Scene → Entries → Entries
inside_numbered s fs = numbered (length s.slots.items) (length s.regions.items + 1) fs

-- The entries are added to a scene, as items of the region `home`.
pub record IsExtended (home : ℕ) (fs : Entries) (old new : Scene) : Type 0 where
  pub slots : all_slots new.slots.items
      ≡ all_slots old.slots.items ++ slots_for home (next_numbered old fs)
  pub regions : full_regions new.regions.items
      ≡ full_regions old.regions.items ++ regions_for (next_numbered old fs)

-- After no item anything is visited, of what stands in its place.
abbrev pub AreUnlinked : Scene → Type 0
AreUnlinked s = (t : ℕ) → after_at (afters_of s) t ≡ None

-- The entries are added in a new region, of which the holder and the roots are these.
pub record HasRegion (holder : ℕ) (roots : List ℕ) (fs : Entries) (old new : Scene) : Type 0 where
  pub slots : all_slots new.slots.items
      ≡ all_slots old.slots.items ++ slots_for (length old.regions.items) (inside_numbered old fs)
  pub regions : full_regions new.regions.items
      ≡ full_regions old.regions.items
      ++ unmarked_region holder roots ∷ regions_for (inside_numbered old fs)

-- the numbers that the items of these entries get then
abbrev pub next_ids : Scene → Entries → List ℕ
next_ids s fs = own_ids (next_numbered s fs)

abbrev pub inside_ids : Scene → Entries → List ℕ
inside_ids s fs = own_ids (inside_numbered s fs)

-- of the code's scene: what is left of a region, and of an item
abbrev pub region_left : Scene → Extent → (region : ℕ) → Entries
region_left s e r = left_by e (entries_at (slots_of s) r)

abbrev pub item_left : Scene → Extent → (item : ℕ) → Entries
item_left s e t = left_by e (item_then (slots_of s) t (item_what s t) none)

-- the number alone, if there is one
abbrev pub number_list : Option ℕ → List ℕ
number_list None = []
number_list (Some n) = n ∷ []
