-- Whose turn it is in a pass, by the order of a run.
use Rattle.std.specs.Prelude.{◌≡◌, ◌↔◌, ℕ, suc, ◌-◌, ◌%◌, ◌^◌, ◌<◌, ◌≤◌, true, List, [], ◌∷◌, ◌++◌, length, take, drop, Option, None, Some}
use Rattle.std.specs.List.{Contains}
use Rattle.std.specs.List.Sorted.{IsStrictlyIncreasing}
use Rattle.tp_scene.specs.Scene.{Entries, has}
use Rattle.tp_step.specs.declared.order.Order.{Order}
use Rattle.tp_step.specs.declared.order.Order.TheVariants.{First, Last, Seed}
use Rattle.tp_step.specs.Seeds.{word_after, choice_of}
use Rattle.tp_pass.specs.declared.sweep.Sweep.{Sweep}
use Rattle.tp_pass.specs.declared.sweep.Sweep.TheVariants.{From, Forward, Backward}

-- a pass spends a choice where it has an item
abbrev pub word_past : List ℕ → (word : ℕ) → ℕ
word_past [] x = x
word_past (t ∷ ts) x = word_after x

-- These are the live items, by increasing number.
pub record IsLiveByNumber (es : Entries) (items : List ℕ) : Type 0 where
  pub rising : IsStrictlyIncreasing items
  pub live : (t : ℕ) → Contains items t ↔ (has t es ≡ true)

-- a list from a place on, and round
abbrev pub from_place : ℕ → List ℕ → List ℕ
from_place r xs = drop r xs ++ take r xs

-- The sweep is of every number from this one on; of these in order; of these from the last to the
-- first.
abbrev pub SweepsFrom : ℕ → Sweep → Type 0
SweepsFrom n (From k) = k ≡ n
SweepsFrom n (Forward items) = ⊥
SweepsFrom n (Backward items) = ⊥

abbrev pub SweepsForward : List ℕ → Sweep → Type 0
SweepsForward xs (From k) = ⊥
SweepsForward xs (Forward items) = items.items ≡ xs
SweepsForward xs (Backward items) = ⊥

abbrev pub SweepsBackward : List ℕ → Sweep → Type 0
SweepsBackward xs (From k) = ⊥
SweepsBackward xs (Forward items) = ⊥
SweepsBackward xs (Backward items) = items.items ≡ xs

-- The sweep of a pass that begins with these entries, and what the order goes on as. `First` tries
-- every number as its turn comes, so new items too; `Last` the items that are live now, by
-- decreasing number; a seed those same items by increasing number, from the one at the place that
-- it chooses, and round.
abbrev pub BeginsSweep : Entries → (order after : Order) → Sweep → Type 0
BeginsSweep es First after sweep = (after ≡ First) × SweepsFrom 0 sweep
BeginsSweep es Last after sweep =
    (after ≡ Last) × ((live : List ℕ) × IsLiveByNumber es live × SweepsBackward live sweep)
BeginsSweep es (Seed x) after sweep =
    (live : List ℕ) × IsLiveByNumber es live × (after ≡ Seed (word_past live x))
    × SweepsForward (from_place (choice_of x % length live) live) sweep

-- A turn is taken where the next new item has this number.
abbrev pub TakesTurn : (next_item : ℕ) → (sweep after : Sweep) → Option ℕ → Type 0
TakesTurn n (From k) after None = (n ≤ k) × SweepsFrom k after
TakesTurn n (From k) after (Some t) = (k < n) × (t ≡ k) × SweepsFrom (suc k) after
TakesTurn n (Forward items) after None = (items.items ≡ []) × SweepsForward [] after
TakesTurn n (Forward items) after (Some t) =
    (rest : List ℕ) × (items.items ≡ t ∷ rest) × SweepsForward rest after
TakesTurn n (Backward items) after None = (items.items ≡ []) × SweepsBackward [] after
TakesTurn n (Backward items) after (Some t) =
    (rest : List ℕ) × (items.items ≡ rest ++ t ∷ []) × SweepsBackward rest after

-- how many turns it has at the most: there are fewer than 2^64 numbers
abbrev pub turns_left : Sweep → ℕ
turns_left (From k) = 2 ^ 64 - k
turns_left (Forward items) = length items.items
turns_left (Backward items) = length items.items
