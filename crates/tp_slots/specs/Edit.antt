-- Entries with other entries in place of some of them.
use Rattle.std.specs.Prelude.{◌≡◌, ℕ, suc, ◌+◌, ◌≤◌, ◌<◌, ◌&&◌, cond, eqb, length, Option, Some, None}
use Rattle.tp_scene.specs.Scene.{Side, Head, Leaf, Holder, Entries, none, leaf, node, second_lives, has, append}
use Rattle.tp_scene.specs.Pick.{mark_head}
use Rattle.tp_slots.specs.Plain.{Slots, slot_at, region_slot, head_at, item_entries, region_entries, IsLive, has_second}

abbrev pub leaf_by : Option Entries → (id : ℕ) → Leaf → (rest : Entries) → Entries
leaf_by None id l rest = leaf id l rest
leaf_by (Some news) id l rest = append news rest

abbrev pub node_by : Option Entries → (id : ℕ) → Holder → Head → (held : Entries) → Head
    → (second rest : Entries) → Entries
node_by None id k h held g second rest = node id k h held g second rest
node_by (Some news) id k h held g second rest = append news rest

-- `places` says for an item what stands in its place, and `marks` for a region how it is marked.
module _ (places : ℕ → Option Entries) (marks : ℕ → Option Side) where
  abbrev pub edited_entries : Entries → Entries
  edited_entries none = none
  edited_entries (leaf id l rest) = leaf_by (places id) id l (edited_entries rest)
  edited_entries (node id k h held g second rest) =
      node_by (places id) id k (mark_head (marks h.number) h) (edited_entries held)
      (cond (has_second k) (mark_head (marks g.number) g) g) (edited_entries second)
      (edited_entries rest)

abbrev pub one_place : ℕ → Entries → ℕ → Option Entries
one_place t news u = cond (eqb u t) (Some news) None

abbrev pub one_mark : (home : ℕ) → Option Side → ℕ → Option Side
one_mark home m r = cond (eqb r home) m None

-- The slots s' are s, with these entries in place of some items, and these marks, as far as the
-- regions from this one on are concerned.
pub record Follows (from : ℕ) (s s' : Slots) (places : ℕ → Option Entries)
    (marks : ℕ → Option Side) : Type 0 where
  pub items : length s.slots ≤ length s'.slots
  pub regions : length s.regions ≤ length s'.regions
  pub kept : (u : ℕ) → u < length s.slots → from ≤ (slot_at s u).home → places u ≡ None
      → slot_at s' u ≡ slot_at s u
  pub heads : (r : ℕ) → r < length s.regions → from ≤ r
      → head_at s' r ≡ mark_head (marks r) (head_at s r)
  pub roots : (r : ℕ) → r < length s.regions → from ≤ r
      → (region_slot s' r).roots ≡ (region_slot s r).roots
  pub lived : (u : ℕ) (e : Entries) → u < length s.slots → places u ≡ Some e
      → IsLive (slot_at s u).what
  pub news : (u : ℕ) (e : Entries) → u < length s.slots → from ≤ (slot_at s u).home
      → places u ≡ Some e → (n m : ℕ) → length s'.regions ≤ n + suc (slot_at s u).home
      → length s'.slots ≤ m + u →
      (rest : Entries) → item_entries s' (region_entries s' n) m u rest ≡ append e rest

-- the number of the region in which the live item t stands, where those entries are of region r
abbrev pub stands_in : (t r : ℕ) → Entries → ℕ
stands_in t r none = r
stands_in t r (leaf id l rest) = cond (eqb id t) r (stands_in t r rest)
stands_in t r (node id k h held g second rest) =
    cond (eqb id t) r (cond (second_lives k && has t second) (stands_in t g.number second)
    (cond (has t held) (stands_in t h.number held) (stands_in t r rest)))
