-- The tries of a closure by an agenda: each is of the ready item whose turn it is.
use Rattle.std.specs.Prelude.{◌≡◌, ◌↔◌, ℕ, ◌+◌, ◌%◌, ◌≤◌, List, [], ◌∷◌, ◌++◌, length, slice_get, Some}
use Rattle.std.specs.List.{Contains}
use Rattle.std.specs.List.Sorted.{IsStrictlyIncreasing}
use Rattle.tp_scene.specs.Step.{Reduction, waits, rests}
use Rattle.tp_scene.specs.Pick.{Setting, Moment, Reduces, outcome_of}
use Rattle.tp_step.specs.declared.tally.Wait.{Wait}
use Rattle.tp_step.specs.declared.order.Order.{Order}
use Rattle.tp_step.specs.declared.order.Order.TheVariants.{First, Last, Seed}
use Rattle.tp_step.specs.declared.ending.Ending.{Ending}
use Rattle.tp_step.specs.declared.ending.Ending.TheVariants.{Rest, Clash, Missing, Over}
use Rattle.tp_step.specs.EndsWith.{EndsWithItem}
use Rattle.tp_step.specs.Seeds.{word_after, choice_of}
use Rattle.tp_agenda.specs.Ready.{IsReady, NoneTwice}

-- These are the ready items, by increasing number.
pub record AreByNumber (ready : ℕ → Type 0) (members : List ℕ) : Type 0 where
  pub rising : IsStrictlyIncreasing members
  pub each : (u : ℕ) → Contains members u ↔ ready u

-- which of the ready items is tried next, and what the order goes on as: the first one by number,
-- the last one, or the one at the place that a seed chooses
abbrev pub TriesNext : (ready : ℕ → Type 0) → (order after : Order) → (t : ℕ) → Type 0
TriesNext ready First after t = (after ≡ First) × ready t × ((u : ℕ) → ready u → t ≤ u)
TriesNext ready Last after t = (after ≡ Last) × ready t × ((u : ℕ) → ready u → u ≤ t)
TriesNext ready (Seed x) after t =
    (after ≡ Seed (word_after x))
    × ((members : List ℕ) × AreByNumber ready members
    × (slice_get members (choice_of x % length members) ≡ Some t))

-- Tries that were made from one moment to another, with the picks, the waits and the rests that
-- they recorded, and what the order is then. Each was of the ready item whose turn it was: it was
-- reduced, or it waits, or it rests.
pub data TriesSoFar (w : Setting) (m : Moment) (order : Order) : (picks : List ℕ)
    → (recorded : List Wait) → (resting : List ℕ) → Moment → Order → Type 0 where
  no_try_yet : TriesSoFar w m order [] [] [] m order
  one_pick : {ts rs : List ℕ} {ws : List Wait} {t : ℕ} {r : Reduction} {here next : Moment}
      {between after : Order}
      → TriesSoFar w m order ts ws rs here between
      → TriesNext (IsReady here ws rs) between after t → Reduces w here t r next
      → TriesSoFar w m order (ts ++ t ∷ []) ws rs next after
  one_wait : {ts rs : List ℕ} {ws : List Wait} {here : Moment} {between after : Order} (x : Wait)
      → TriesSoFar w m order ts ws rs here between
      → TriesNext (IsReady here ws rs) between after x.item
      → outcome_of w here.store here.scene x.item ≡ waits x.first x.other
      → TriesSoFar w m order ts (ws ++ x ∷ []) rs here after
  one_rest : {ts rs : List ℕ} {ws : List Wait} {here : Moment} {between after : Order} (t : ℕ)
      → TriesSoFar w m order ts ws rs here between
      → TriesNext (IsReady here ws rs) between after t
      → outcome_of w here.store here.scene t ≡ rests
      → TriesSoFar w m order ts ws (rs ++ t ∷ []) here after

-- with so many reductions left, a closure ends with the ready item whose turn it is
abbrev pub EndsAtTry : Setting → (left : ℕ) → Moment → List Wait → (resting : List ℕ) → Order
    → Ending → Type 0
EndsAtTry w k m ws rs order ending =
    (t : ℕ) × (after : Order) × TriesNext (IsReady m ws rs) order after t
    × EndsWithItem w k m t ending

-- How the tries end: no item is ready, or the closure ends with the one whose turn it is.
abbrev pub EndsTries : Setting → (left : ℕ) → Moment → List Wait → (resting : List ℕ) → Order
    → Ending → Type 0
EndsTries w k m ws rs order Rest = (t : ℕ) → IsReady m ws rs t → ⊥
EndsTries w k m ws rs order (Clash clash) = EndsAtTry w k m ws rs order (Clash clash)
EndsTries w k m ws rs order (Missing port) = EndsAtTry w k m ws rs order (Missing port)
EndsTries w k m ws rs order (Over kind) = EndsAtTry w k m ws rs order (Over kind)

-- A closure in this order, of at most `room` picks, which were appended to those before, with the
-- waits and the rests that it recorded.
pub record FollowsAgenda (w : Setting) (order : Order) (room : ℕ) (m last : Moment)
    (before after : List ℕ) (recorded : List Wait) (resting : List ℕ)
    (ending : Ending) : Type 0 where
  pub picks : List ℕ
  pub between : Order
  pub tries : TriesSoFar w m order picks recorded resting last between
  pub appended : after ≡ before ++ picks
  pub left : ℕ
  pub spent : room ≡ left + length picks
  pub ends : EndsTries w left last recorded resting between ending

-- No wait was recorded twice, and no item was found at rest twice.
pub record IsThrifty (recorded : List Wait) (resting : List ℕ) : Type 0 where
  pub waits_once : NoneTwice recorded
  pub rests_once : NoneTwice resting
