-- Regions are taken: what waits for their ends is woken.
use Rattle.std.specs.Prelude.{◌≡◌, ◌⊎◌, ℕ, ◌<◌, Bool, true, false, List, length}
use Rattle.tp_slots.specs.Read.{scene_of}
use Rattle.tp_slots.specs.declared.scene.Scene.{Scene}
use Rattle.tp_step.specs.declared.tally.Wait.{Wait}
use Rattle.tp_lanes.specs.Planes.{flag}
use Rattle.tp_agenda.specs.declared.board.Board.{Board}
use Rattle.tp_agenda.specs.Decides.{is_end_of, ends_decide}
use Rattle.tp_agenda.specs.Held.{IsAmong}
use Rattle.tp_agenda.specs.Marks.{has_known_end}
use Rattle.tp_agenda.specs.Outward.{region_around}
use Rattle.tp_agenda.specs.Wakes.{AreOver, WakesOnly}

-- the region was taken before, or its end is known
abbrev pub TakesKnown : (known : ℕ → Bool) → (old new : List Bool) → Type 0
TakesKnown known old new =
    (r : ℕ) → flag new r ≡ true → (flag old r ≡ true) ⊎ (known r ≡ true)

-- Regions were taken whose ends are known, and each wait for these is over, and no other. Those of
-- which the end is known that stand in one that was taken are taken too, or left to be looked at.
pub record TakesRegions (s : Scene) (waits : List Wait) (left : List ℕ) (old new : Board) :
    Type 0 where
  pub index : new.index ≡ old.index
  pub bound : new.bound ≡ old.bound
  pub size : length new.taken.items ≡ length old.taken.items
  pub only : WakesOnly waits (ends_decide (has_known_end (scene_of s))) old.ready old.over.items
      new.ready new.over.items
  pub known : TakesKnown (has_known_end (scene_of s)) old.taken.items new.taken.items
  pub kept : (r : ℕ) → flag old.taken.items r ≡ true → flag new.taken.items r ≡ true
  pub over : (r : ℕ) → flag new.taken.items r ≡ true
      → (flag old.taken.items r ≡ true) ⊎ AreOver waits (is_end_of r) new.over.items
  pub inside : (r : ℕ) → 0 < r → flag old.taken.items (region_around s r) ≡ false
      → flag new.taken.items (region_around s r) ≡ true → has_known_end (scene_of s) r ≡ true
      → (flag new.taken.items r ≡ true) ⊎ IsAmong left r
