-- Where a run stands, and what the making of a state comes to.
use Rattle.std.specs.Prelude.{◌≡◌, ℕ, suc, ◌<◌}
use Rattle.tp_store.specs.Known.{Contents}
use Rattle.tp_scene.specs.Pick.{Moment}
use Rattle.tp_scene.specs.Replay as replay
use Rattle.tp_show.specs.declared.turn.Picture.{Picture}
use Rattle.tp_show.specs.declared.turn.Turn.{Turn}
use Rattle.tp_show.specs.declared.turn.Turn.TheVariants.{Went, Finished, Contradictory, Undetermined, StateLimit, InputMissing, Over}
use Rattle.tp_run.specs.History.{Plan, setting, StateGoesOn, StateEnds, ReachesLimit, limit_moment}

-- where a run stands: before a state that begins with this moment; after this last answer, at the
-- moment that its state's picks led to; or given up for want of memory
pub data Standing : Type 0 where
  open_at : Moment → Standing
  answered : Turn → Moment → Standing
  spent : Standing

-- the number of the next state after an answer: only a settled state that goes on has one
abbrev pub state_after : ℕ → Turn → ℕ
state_after n Went = suc n
state_after n (Finished length) = n
state_after n (Contradictory state clash) = n
state_after n (Undetermined state cell) = n
state_after n (StateLimit states) = n
state_after n (InputMissing state port) = n
state_after n (Over state limit) = n

-- What becomes of state n, which begins with m, with the pictures before and after, where the run
-- then stands, what its store then holds, and the answer: all of one list of picks, of which there
-- are at most as many as a state may have. Where the run goes on, the store holds what the next
-- state begins with; else the run stays at the moment that the state's picks led to. Where the
-- state isn't settled the picture stays.
abbrev pub StateBecomes : Plan → ℕ → Moment → Picture → Picture → Standing → Contents → Turn
    → Type 0
StateBecomes plan n m old new standing store Went =
    (next : Moment) × StateGoesOn plan n m new next × (standing ≡ open_at next)
    × (store ≡ next.store)
StateBecomes plan n m old new standing store (Finished length) =
    (end : StateEnds plan n m new) × (length ≡ n) × (standing ≡ answered (Finished length) end.last)
    × (store ≡ end.last.store)
StateBecomes plan n m old new standing store (Contradictory state clash) =
    (end : replay.MeetsClash (setting plan n) plan.reductions m clash) × (state ≡ n)
    × (n < plan.states) × (new ≡ old)
    × (standing ≡ answered (Contradictory state clash) end.last)
    × (store ≡ end.last.store)
StateBecomes plan n m old new standing store (Undetermined state cell) =
    (end : replay.IsOpen (setting plan n) plan.reductions m cell) × (state ≡ n) × (n < plan.states)
    × (new ≡ old) × (standing ≡ answered (Undetermined state cell) end.last)
    × (store ≡ end.last.store)
StateBecomes plan n m old new standing store (StateLimit states) =
    (n ≡ plan.states) × (states ≡ n) × (new ≡ old) × (standing ≡ answered (StateLimit states) m)
    × (store ≡ m.store)
StateBecomes plan n m old new standing store (InputMissing state port) =
    (end : replay.MissesInput (setting plan n) plan.reductions m port) × (state ≡ n)
    × (n < plan.states) × (new ≡ old) × (standing ≡ answered (InputMissing state port) end.last)
    × (store ≡ end.last.store)
StateBecomes plan n m old new standing store (Over state limit) =
    (end : ReachesLimit (setting plan n) plan.reductions m limit) × (state ≡ n) × (n < plan.states)
    × (new ≡ old)
    × (standing ≡ answered (Over state limit)
    (limit_moment (setting plan n) plan.reductions m limit end))
    × (store ≡ (limit_moment (setting plan n) plan.reductions m limit end).store)

-- where a run stands, the number of the state that it makes next, and what its store holds
pub record RunPlace : Type 0 where
  pub standing : Standing
  pub state : ℕ
  pub store : Contents

-- What a call answers where the run stands there: it makes that state, or it gives the last answer
-- again and changes nothing. A run that gave up for want of memory answers nothing else any more.
abbrev AnswersAt : Plan → Standing → (from : RunPlace) → (old new : Picture) → (to : RunPlace)
    → Turn → Type 0
AnswersAt plan (open_at m) from old new to turn =
    StateBecomes plan from.state m old new to.standing to.store turn
    × (to.state ≡ state_after from.state turn)
AnswersAt plan (answered last m) from old new to turn =
    (turn ≡ last) × (new ≡ old) × (to.standing ≡ answered last m) × (to.state ≡ from.state)
    × (to.store ≡ from.store)
AnswersAt plan spent from old new to turn = ⊥

abbrev pub AnswersState : Plan → (from : RunPlace) → (old new : Picture) → (to : RunPlace) → Turn
    → Type 0
AnswersState plan from old new to turn = AnswersAt plan from.standing from old new to turn
