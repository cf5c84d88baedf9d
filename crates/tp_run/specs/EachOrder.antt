-- What each order of picks makes of a state: the answer that a run gives for it; and no choice of
-- picks is a dead end.
use Rattle.std.specs.Prelude.{◌≡◌, ℕ, ◌<◌, List, length}
use Rattle.tp_scene.specs.declared.answer.Cell.{Cell}
use Rattle.tp_scene.specs.Pick.{Moment, Leads}
use Rattle.tp_scene.specs.Replay.{Closes, IsOpen}
use Rattle.tp_show.specs.declared.turn.Picture.{Picture}
use Rattle.tp_show.specs.declared.turn.Turn.{Turn}
use Rattle.tp_show.specs.declared.turn.Turn.TheVariants.{Went, Finished, Contradictory, Undetermined, StateLimit, InputMissing, Over}
use Rattle.tp_step_laws.specs.Orders.{GoesOnToRest}
use Rattle.tp_run.specs.History.{Plan, globals_of, setting, StateGoesOn, StateEnds}
use Rattle.tp_run.specs.Standing.{Standing, open_at, answered, spent}
use Rattle.tp_run.specs.Same.{SamePicture, SameCell, FailsIn}

-- This answer for state n, which begins with m, and this picture are what any picks come to: where
-- some settle the state, it is settled, with the same picture; where some leave it open at a cell,
-- it is open at a cell of the same name; and where it fails, none close it.
pub record StateAgrees (plan : Plan) (n : ℕ) (m : Moment) (new : Picture)
    (turn : Turn) : Type 0 where
  pub goes : (p : Picture) (after : Moment) → StateGoesOn plan n m p after
      → (turn ≡ Went) × SamePicture p new
  pub ends : (p : Picture) → StateEnds plan n m p → (turn ≡ Finished n) × SamePicture p new
  pub is_open : (cell : Cell) → n < plan.states
      → (some : IsOpen (setting plan n) plan.reductions m cell)
      → (d : Cell) × (turn ≡ Undetermined n d)
      × ((own : IsOpen (setting plan n) plan.reductions m d)
      × SameCell (globals_of plan) some.last.store.variables own.last.store.variables cell d)
  pub fails : FailsIn n turn
      → (picks : List ℕ) (end : Moment) → ¬ Closes (setting plan n) plan.reductions m picks end

-- Some picks close state n, which begins with m; and each list of picks that can be made goes on to
-- a rest that is alike, with as many picks in all, and meets no failure.
pub record ClosesFromEach (plan : Plan) (n : ℕ) (m : Moment) : Type 0 where
  pub picks : List ℕ
  pub end : Moment
  pub closes : Closes (setting plan n) plan.reductions m picks end
  pub goes_on : (begun : List ℕ) (there : Moment) → Leads (setting plan n) m begun there
      → GoesOnToRest (setting plan n) (globals_of plan) (length picks) end begun there

-- Where the answer for a state is no failure, no choice of picks is a dead end there; a settled
-- state takes as many as its picture says.
abbrev pub HasNoDeadEnd : Plan → ℕ → Moment → Picture → Turn → Type 0
HasNoDeadEnd plan n m new Went =
    (c : ClosesFromEach plan n m) × (new.reductions ≡ length c.picks)
HasNoDeadEnd plan n m new (Finished k) =
    (c : ClosesFromEach plan n m) × (new.reductions ≡ length c.picks)
HasNoDeadEnd plan n m new (Contradictory state clash) = Unit {0}
HasNoDeadEnd plan n m new (Undetermined state cell) = ClosesFromEach plan n m
HasNoDeadEnd plan n m new (StateLimit states) = Unit {0}
HasNoDeadEnd plan n m new (InputMissing state port) = Unit {0}
HasNoDeadEnd plan n m new (Over state limit) = Unit {0}

-- the same where the run stood before state n; a last answer that is given again says no more
abbrev pub AnswerAgrees : Plan → ℕ → Standing → Picture → Turn → Type 0
AnswerAgrees plan n (open_at m) new turn = StateAgrees plan n m new turn
AnswerAgrees plan n (answered last m) new turn = Unit {0}
AnswerAgrees plan n spent new turn = Unit {0}

abbrev pub AnswerHasNoDeadEnd : Plan → ℕ → Standing → Picture → Turn → Type 0
AnswerHasNoDeadEnd plan n (open_at m) new turn = HasNoDeadEnd plan n m new turn
AnswerHasNoDeadEnd plan n (answered last m) new turn = Unit {0}
AnswerHasNoDeadEnd plan n spent new turn = Unit {0}
