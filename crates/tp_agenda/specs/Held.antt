-- What a closure by an agenda holds between its tries: an item is tried when it is new, or when a
-- cell that it waits for is decided.
use Rattle.std.specs.Prelude.{◌≡◌, ◌≢◌, ◌⊎◌, ℕ, ◌<◌, ◌≤◌, Bool, true, false, List, length, slice_get, slice_set, Some}
use Rattle.tp_scene.specs.declared.answer.Cell.{Cell}
use Rattle.tp_scene.specs.Step.{waits, rests}
use Rattle.tp_scene.specs.Pick.{Setting, Moment, outcome_of}
use Rattle.tp_scene.specs.Cells.{IsDecided}
use Rattle.tp_scene.specs.CellLaws.{AreUndecided}
use Rattle.tp_step_laws.specs.LiveOnce.{WasLive}
use Rattle.tp_step.specs.declared.tally.Wait.{Wait}
use Rattle.tp_lanes.specs.Planes.{flag}
use Rattle.tp_agenda.specs.Ready.{NoneTwice, WaitsFor, may_move, IsOver}

-- it has a place there
abbrev pub IsAmong : {A : Type 0} → List A → A → Type 0
IsAmong {A} xs x = (i : ℕ) × (slice_get xs i ≡ Some x)

-- The item waits: a wait of it isn't over.
pub record HasOpenWait (recorded : List Wait) (over : List Bool) (t : ℕ) : Type 0 where
  pub place : ℕ
  pub wait : Wait
  pub at : slice_get recorded place ≡ Some wait
  pub of_item : wait.item ≡ t
  pub lasts : flag over place ≡ false

-- the live item may move
abbrev pub MayMove : Moment → ℕ → Type 0
MayMove m t = may_move t m.scene.root.entries ≡ true

-- no open wait is for a cell that is decided
abbrev pub nothing_due : Cell → Bool
nothing_due c = false

-- What is ready may move, has no open wait, and doesn't rest; what may move is ready, rests, or has
-- one open wait. Of an open wait no cell is decided but those that are due; as long as none is, its
-- item waits for them. A wait that is over has a decided cell. Nothing was recorded twice.
pub record IsHeld (w : Setting) (m : Moment) (recorded : List Wait) (resting : List ℕ)
    (over ready : List Bool) (due : Cell → Bool) : Type 0 where
  pub sizes : length over ≡ length recorded
  pub ready_moves : (t : ℕ) → flag ready t ≡ true → MayMove m t
  pub ready_apart : (t : ℕ) → flag ready t ≡ true → IsAmong resting t → ⊥
  pub ready_over : (t : ℕ) → flag ready t ≡ true → (i : ℕ) (x : Wait)
      → slice_get recorded i ≡ Some x → x.item ≡ t → flag over i ≡ true
  pub over_is : (i : ℕ) (x : Wait) → slice_get recorded i ≡ Some x → flag over i ≡ true
      → IsOver m x
  pub complete : (t : ℕ) → MayMove m t
      → (flag ready t ≡ true) ⊎ (IsAmong resting t ⊎ HasOpenWait recorded over t)
  pub only_due : (i : ℕ) (x : Wait) → slice_get recorded i ≡ Some x → flag over i ≡ false
      → (c : Cell) → WaitsFor x c → IsDecided m c → due c ≡ true
  pub waits_move : (i : ℕ) (x : Wait) → slice_get recorded i ≡ Some x → flag over i ≡ false
      → MayMove m x.item
  pub waits_on : (i : ℕ) (x : Wait) → slice_get recorded i ≡ Some x → flag over i ≡ false
      → AreUndecided m x.first x.other
      → outcome_of w m.store m.scene x.item ≡ waits x.first x.other
  pub one_open : (i j : ℕ) (x y : Wait) → slice_get recorded i ≡ Some x
      → slice_get recorded j ≡ Some y → flag over i ≡ false → flag over j ≡ false
      → x.item ≡ y.item → i ≡ j
  pub rests_apart : (i : ℕ) (x : Wait) → slice_get recorded i ≡ Some x → flag over i ≡ false
      → IsAmong resting x.item → ⊥
  pub rests_on : (t : ℕ) → IsAmong resting t
      → MayMove m t × (outcome_of w m.store m.scene t ≡ rests)
  pub was : (i : ℕ) (x : Wait) → slice_get recorded i ≡ Some x
      → WasLive m x.item × (x.item < length ready)
  pub once : NoneTwice recorded
  pub rest_once : NoneTwice resting

-- The item was ready, and is so no more, but nothing else changed.
pub record IsTakenUp (w : Setting) (m : Moment) (recorded : List Wait) (resting : List ℕ)
    (over ready : List Bool) (t : ℕ) : Type 0 where
  pub before : List Bool
  pub held : IsHeld w m recorded resting over before nothing_due
  pub is_ready : flag before t ≡ true
  pub now : ready ≡ slice_set before t false

-- What a step of the item t leaves: t is gone, the others that may move do so still, with those
-- that are new and were never live. What was decided is so still; of what was waited for no other
-- cell is decided but what the step decides. What waits or rests goes on so.
pub record StepLeaves (w : Setting) (m : Moment) (t : ℕ) (next : Moment) (news : List ℕ)
    (decides : Cell → Bool) : Type 0 where
  pub live : (u : ℕ) → MayMove m u → WasLive m u
  pub was : (u : ℕ) → WasLive m u → WasLive next u
  pub gone : MayMove next t → ⊥
  pub kept : (u : ℕ) → u ≢ t → MayMove m u → MayMove next u
  pub new : (u : ℕ) → MayMove next u → MayMove m u ⊎ IsAmong news u
  pub fresh : (u : ℕ) → IsAmong news u → MayMove next u × (WasLive m u → ⊥)
  pub stays : (c : Cell) → IsDecided m c → IsDecided next c
  pub newly : (x : Wait) → MayMove m x.item
      → outcome_of w m.store m.scene x.item ≡ waits x.first x.other
      → (c : Cell) → WaitsFor x c → IsDecided next c → IsDecided m c ⊎ (decides c ≡ true)
  pub waits_on : (u : ℕ) (x : Wait) → u ≢ t → x.item ≡ u → MayMove m u
      → outcome_of w m.store m.scene u ≡ waits x.first x.other
      → AreUndecided next x.first x.other
      → outcome_of w next.store next.scene u ≡ waits x.first x.other
  pub rests_on : (u : ℕ) → u ≢ t → MayMove m u → outcome_of w m.store m.scene u ≡ rests
      → outcome_of w next.store next.scene u ≡ rests

-- What is new is ready besides what was.
pub record AddsReady (news : List ℕ) (ready after : List Bool) : Type 0 where
  pub room : length ready ≤ length after
  pub kept : (u : ℕ) → flag ready u ≡ true → flag after u ≡ true
  pub only : (u : ℕ) → flag after u ≡ true → (flag ready u ≡ true) ⊎ IsAmong news u
  pub all : (u : ℕ) → IsAmong news u → flag after u ≡ true
