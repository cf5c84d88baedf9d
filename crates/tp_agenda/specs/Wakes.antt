-- What waking does: waits are over, and their items are ready.
use Rattle.std.specs.Prelude.{◌≡◌, ◌⊎◌, ℕ, Bool, true, false, List, [], length, slice_get, Some}
use Rattle.tp_store.specs.Nodes.{path_along}
use Rattle.tp_scene.specs.declared.answer.Cell.{Cell}
use Rattle.tp_step.specs.declared.tally.Wait.{Wait}
use Rattle.tp_lanes.specs.Planes.{flag}
use Rattle.tp_agenda.specs.declared.wake.Cause.{Cause}
use Rattle.tp_agenda.specs.declared.wake.Cause.TheVariants as cause
use Rattle.tp_agenda.specs.declared.index.Index.{Index}
use Rattle.tp_agenda.specs.Decides.{fact_decides, is_place_of, is_end_of, has_passing}
use Rattle.tp_agenda.specs.Index.{IsPlaceIn, newest_at, newest_for}

-- the cells that it decides, and the newest link of the waits for them
abbrev pub is_decided_by : Cause → Cell → Bool
is_decided_by (cause.Known f) = fact_decides f
is_decided_by (cause.Given x) = is_place_of x
is_decided_by (cause.Marked r) = is_end_of r

abbrev pub newest_by : Index → Cause → ℕ
newest_by i (cause.Known f) = newest_at i f.path
newest_by i (cause.Given x) = newest_at i (path_along x [])
newest_by i (cause.Marked r) = newest_for i r

-- A wait of the item isn't over, and a cell of it passes.
pub record IsAwaiting (waits : List Wait) (test : Cell → Bool) (over : List Bool)
    (item : ℕ) : Type 0 where
  pub place : ℕ
  pub wait : Wait
  pub at : slice_get waits place ≡ Some wait
  pub passes : has_passing test wait ≡ true
  pub lasts : flag over place ≡ false
  pub of_item : wait.item ≡ item

-- A cell of the wait at this place passes, and its item is ready.
pub record IsEnded (waits : List Wait) (test : Cell → Bool) (ready : List Bool)
    (place : ℕ) : Type 0 where
  pub wait : Wait
  pub at : slice_get waits place ≡ Some wait
  pub passes : has_passing test wait ≡ true
  pub is_ready : flag ready wait.item ≡ true

-- Some waits are over, and their items are ready, of which a cell passes; nothing else changed.
pub record WakesOnly (waits : List Wait) (test : Cell → Bool)
    (ready over ready' over' : List Bool) : Type 0 where
  pub sizes : length over' ≡ length over
  pub room : length ready' ≡ length ready
  pub ready_kept : (t : ℕ) → flag ready t ≡ true → flag ready' t ≡ true
  pub only_ready : (t : ℕ) → flag ready' t ≡ true
      → (flag ready t ≡ true) ⊎ IsAwaiting waits test over t
  pub over_kept : (i : ℕ) → flag over i ≡ true → flag over' i ≡ true
  pub only_over : (i : ℕ) → flag over' i ≡ true
      → (flag over i ≡ true) ⊎ IsEnded waits test ready' i

-- each wait is over of which a cell passes, of those at these places, or of all
abbrev pub AreOverAt : (places : List ℕ) → List Wait → (Cell → Bool) → (over : List Bool) → Type 0
AreOverAt places waits test over = (i : ℕ) (w : Wait) → IsPlaceIn places i
    → slice_get waits i ≡ Some w → has_passing test w ≡ true → flag over i ≡ true

abbrev pub AreOver : List Wait → (Cell → Bool) → (over : List Bool) → Type 0
AreOver waits test over = (i : ℕ) (w : Wait) → slice_get waits i ≡ Some w
    → has_passing test w ≡ true → flag over i ≡ true
