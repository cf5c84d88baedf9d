-- Which items are ready.
use Rattle.std.specs.Prelude.{◌≡◌, ◌⊎◌, ℕ, ◌||◌, ◌&&◌, Bool, true, false, eqb, List, Some, slice_get}
use Rattle.std.specs.List.{Contains}
use Rattle.tp_scene.specs.declared.answer.Cell.{Cell}
use Rattle.tp_scene.specs.Scene.{Holder, Split, SplitProject, Closed, Opened, Running, Entries, none, leaf, node, second_lives}
use Rattle.tp_scene.specs.Rest.{is_unsettled}
use Rattle.tp_scene.specs.Pick.{Moment}
use Rattle.tp_scene.specs.Cells.{IsDecided}
use Rattle.tp_slots.specs.Plain.{What, bare, holds, gone}
use Rattle.tp_step.specs.declared.tally.Wait.{Wait}

-- the wait is for this cell
abbrev pub WaitsFor : Wait → Cell → Type 0
WaitsFor w c = (w.first ≡ c) ⊎ (w.other ≡ Some c)

-- no place has the same as another
abbrev pub NoneTwice : {A : Type 0} → List A → Type 0
NoneTwice {A} xs = (i j : ℕ) (x : A) → slice_get xs i ≡ Some x → slice_get xs j ≡ Some x → i ≡ j

-- a holder that the region it holds may let go on
abbrev pub holder_moves : Holder → Bool
holder_moves (Split after env) = true
holder_moves (SplitProject piece env) = true
holder_moves Closed = false
holder_moves (Opened piece env) = true
holder_moves (Running piece env) = false

-- the item t is live and may move: a formula that is to hold from this state on, or such a holder
abbrev pub may_move : ℕ → Entries → Bool
may_move t none = false
may_move t (leaf id l rest) = (eqb id t && is_unsettled l) || may_move t rest
may_move t (node id k h held g second rest) =
    (eqb id t && holder_moves k)
    || ((second_lives k && may_move t second) || (may_move t held || may_move t rest))

-- what stands under a number may move, where it is live
abbrev pub what_moves : What → Bool
what_moves (bare l) = is_unsettled l
what_moves (holds k r q) = holder_moves k
what_moves (gone by) = false

-- A cell of the wait is decided.
pub record IsOver (m : Moment) (w : Wait) : Type 0 where
  pub cell : Cell
  pub is_for : WaitsFor w cell
  pub decided : IsDecided m cell

-- At a moment, where these waits and these items at rest were recorded, the item is live and may
-- move, it wasn't found at rest, and each wait of it is over.
pub record IsReady (m : Moment) (waits : List Wait) (rests : List ℕ) (t : ℕ) : Type 0 where
  pub moves : may_move t m.scene.root.entries ≡ true
  pub goes_on : Contains rests t → ⊥
  pub over : (w : Wait) → Contains waits w → w.item ≡ t → IsOver m w
