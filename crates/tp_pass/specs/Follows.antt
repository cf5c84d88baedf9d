-- The picks of a closure in an order: pass after pass, each by the turns of its sweep.
use Rattle.std.specs.Prelude.{◌≡◌, ℕ, ◌+◌, ◌<◌, true, List, [], ◌∷◌, ◌++◌, length, Option, None, Some}
use Rattle.tp_scene.specs.Scene.{has}
use Rattle.tp_scene.specs.Step.{Reduction}
use Rattle.tp_scene.specs.Pick.{Setting, Moment, Reduces, outcome_of, IsIdle}
use Rattle.tp_step.specs.EndsWith.{EndsWithItem}
use Rattle.tp_step.specs.declared.order.Order.{Order}
use Rattle.tp_step.specs.declared.ending.Ending.{Ending}
use Rattle.tp_step.specs.declared.ending.Ending.TheVariants.{Rest, Clash, Missing, Over}
use Rattle.tp_pass.specs.declared.sweep.Sweep.{Sweep}
use Rattle.tp_pass.specs.Sweeps.{BeginsSweep, TakesTurn}

-- it is this item's turn
abbrev pub HasTurn : Moment → Sweep → (item : ℕ) → Type 0
HasTurn m sweep t = (after : Sweep) × TakesTurn m.scene.next_item sweep after (Some t)

-- no turn is left
abbrev pub HasNoTurn : Moment → Sweep → Type 0
HasNoTurn m sweep = (after : Sweep) × TakesTurn m.scene.next_item sweep after None

-- Turns of a sweep that were taken from one moment to another, with the picks that they made, and
-- what the sweep is then. An item whose turn comes is reduced; or nothing comes of it, where it is
-- live.
pub data Turns (w : Setting) (m : Moment) (sweep : Sweep) : (picks : List ℕ) → Moment → Sweep
    → Type 0 where
  no_turn_yet : Turns w m sweep [] m sweep
  one_pick : {ts : List ℕ} {t : ℕ} {r : Reduction} {here next : Moment} {left after : Sweep}
      → Turns w m sweep ts here left → TakesTurn here.scene.next_item left after (Some t)
      → Reduces w here t r next
      → Turns w m sweep (ts ++ t ∷ []) next after
  no_pick : {ts : List ℕ} {here : Moment} {left after : Sweep} (t : ℕ)
      → Turns w m sweep ts here left → TakesTurn here.scene.next_item left after (Some t)
      → (has t here.scene.root.entries ≡ true → IsIdle (outcome_of w here.store here.scene t))
      → Turns w m sweep ts here after

-- A pass as far as it was made: its sweep began as the order says, which then went on to the next
-- one, and these turns were taken.
pub record IsInPass (w : Setting) (m : Moment) (order after : Order) (picks : List ℕ)
    (here : Moment) (left : Sweep) : Type 0 where
  pub sweep : Sweep
  pub begins : BeginsSweep m.scene.root.entries order after sweep
  pub turns : Turns w m sweep picks here left

-- The same of a pass whose picks were appended to those before, and each took one of the reductions
-- that were left.
pub record PassSoFar (w : Setting) (m here : Moment) (order after : Order) (left left' : ℕ)
    (before now : List ℕ) (sweep : Sweep) : Type 0 where
  pub picks : List ℕ
  pub pass : IsInPass w m order after picks here sweep
  pub appended : now ≡ before ++ picks
  pub spent : left ≡ left' + length picks

-- Whole passes, one after the other, of which each reduces something.
pub data WholePasses (w : Setting) (m : Moment) (order : Order) : (picks : List ℕ) → Moment → Order
    → Type 0 where
  no_pass_yet : WholePasses w m order [] m order
  whole_pass : {ts us : List ℕ} {here next : Moment} {between after : Order} {left : Sweep}
      → WholePasses w m order ts here between → IsInPass w here between after us next left
      → HasNoTurn next left → 0 < length us
      → WholePasses w m order (ts ++ us) next after

-- with so many reductions left, a closure ends with the live item whose turn it is
abbrev pub EndsAtTurn : Setting → (left : ℕ) → Moment → Sweep → Ending → Type 0
EndsAtTurn w k m sweep ending =
    (t : ℕ) × HasTurn m sweep t × (has t m.scene.root.entries ≡ true) × EndsWithItem w k m t ending

-- A pass was made: no turn is left, or the closure ends at a turn of it.
abbrev pub PassTurns : Setting → (m next : Moment) → (order after : Order) → (left left' : ℕ)
    → (before now : List ℕ) → Option Ending → Type 0
PassTurns w m next order after l l' b b' None =
    (sweep : Sweep) × PassSoFar w m next order after l l' b b' sweep × HasNoTurn next sweep
PassTurns w m next order after l l' b b' (Some ending) =
    (sweep : Sweep) × PassSoFar w m next order after l l' b b' sweep
    × EndsAtTurn w l' next sweep ending

-- How the last pass ends: it is whole and reduces nothing, or the closure ends at a turn of it.
abbrev pub EndsLastPass : Setting → (left : ℕ) → Moment → Sweep → (picks : List ℕ) → Ending → Type 0
EndsLastPass w k m sweep picks Rest = HasNoTurn m sweep × (picks ≡ [])
EndsLastPass w k m sweep picks (Clash clash) = EndsAtTurn w k m sweep (Clash clash)
EndsLastPass w k m sweep picks (Missing port) = EndsAtTurn w k m sweep (Missing port)
EndsLastPass w k m sweep picks (Over kind) = EndsAtTurn w k m sweep (Over kind)

-- A closure in this order, of at most `room` picks, which were appended to those before: whole
-- passes, and then the last one.
pub record FollowsOrder (w : Setting) (order : Order) (room : ℕ) (m last : Moment)
    (before after : List ℕ) (ending : Ending) : Type 0 where
  pub earlier : List ℕ
  pub later : List ℕ
  pub middle : Moment
  pub between : Order
  pub passes : WholePasses w m order earlier middle between
  pub gone_on : Order
  pub sweep : Sweep
  pub last_pass : IsInPass w middle between gone_on later last sweep
  pub appended : after ≡ before ++ (earlier ++ later)
  pub left : ℕ
  pub spent : room ≡ left + length (earlier ++ later)
  pub ends : EndsLastPass w left last sweep later ending
