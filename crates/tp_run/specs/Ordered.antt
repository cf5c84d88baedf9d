-- What a run does in a state in its order: which failure it names, the one that this order meets,
-- and what it tries.
use Rattle.std.specs.Prelude.{ℕ, List, [], ◌≡◌, ◌+◌, ◌≤◌, length}
use Rattle.tp_scene.specs.Pick.{Setting, Moment}
use Rattle.tp_step.specs.declared.order.Order.{Order}
use Rattle.tp_step.specs.declared.ending.Ending.{Ending}
use Rattle.tp_step.specs.declared.ending.Ending.TheVariants as ending
use Rattle.tp_step.specs.declared.tally.Wait.{Wait}
use Rattle.tp_agenda.specs.Agenda.{FollowsAgenda, IsThrifty}
use Rattle.tp_show.specs.declared.turn.Turn.{Turn}
use Rattle.tp_show.specs.declared.turn.Turn.TheVariants.{Went, Finished, Contradictory, Undetermined, StateLimit, InputMissing, Over}
use Rattle.tp_step.specs.declared.tally.Tally.{Tally}

-- a closure in this order, which begins with this moment, ends so
abbrev pub EndsInOrder : Setting → Order → (room : ℕ) → Moment → Ending → Type 0
EndsInOrder w order room m ending =
    (last : Moment) × (picks : List ℕ) × (recorded : List Wait) × (resting : List ℕ)
    × FollowsAgenda w order room m last [] picks recorded resting ending

-- Where a state that begins with this moment isn't closed, the answer names what a closure in this
-- order meets. Else nothing is said: in each order the state is settled with the same picture, or
-- open at the same cell.
abbrev pub IsNamedInOrder : Setting → Order → (room : ℕ) → Moment → Turn → Type 0
IsNamedInOrder w order room m Went = Unit {0}
IsNamedInOrder w order room m (Finished length) = Unit {0}
IsNamedInOrder w order room m (Contradictory state clash) =
    EndsInOrder w order room m (ending.Clash clash)
IsNamedInOrder w order room m (Undetermined state cell) = Unit {0}
IsNamedInOrder w order room m (StateLimit states) = Unit {0}
IsNamedInOrder w order room m (InputMissing state port) =
    EndsInOrder w order room m (ending.Missing port)
IsNamedInOrder w order room m (Over state limit) = EndsInOrder w order room m (ending.Over limit)

-- ---- the tries of a state: those of a closure that closes thriftily, and those beyond

-- the waits that were recorded
abbrev pub waits_in : Tally → List Wait
waits_in tally = tally.waits.items.items

-- how many tries were recorded: the picks, the waits and the rests
abbrev pub recorded_tries : Tally → ℕ
recorded_tries tally = length tally.picks + (length (waits_in tally) + length tally.rests)

-- A closure in this order, of at most `room` picks, leads from one moment to another by these and
-- ends so. The tally has them, with the waits and the rests that it recorded, none of them twice.
pub record ClosesThriftily (w : Setting) (order : Order) (room : ℕ) (m last : Moment)
    (picks : List ℕ) (end : Ending) (tally : Tally) : Type 0 where
  pub picks_are : picks ≡ tally.picks
  pub agenda : FollowsAgenda w order room m last [] tally.picks (waits_in tally) tally.rests end
  pub thrifty : IsThrifty (waits_in tally) tally.rests

-- the tries of a state with this answer that no tally records: none where it was settled; the try
-- of the item that ended the closure; and that by which the cell was found for which a state that
-- is at rest waits, where it waits for one
abbrev pub TriesBeyond : Turn → (more : ℕ) → Type 0
TriesBeyond Went more = more ≡ 0
TriesBeyond (Finished length) more = more ≡ 0
TriesBeyond (Contradictory state clash) more = more ≡ 1
TriesBeyond (Undetermined state cell) more = more ≤ 1
TriesBeyond (StateLimit states) more = more ≡ 0
TriesBeyond (InputMissing state port) more = more ≡ 1
TriesBeyond (Over state kind) more = more ≡ 1
