-- What a closure by an agenda holds is kept by each answer of a try, and by waking.
use Rattle.std.specs.Prelude.{◌≡◌, ◌⊎◌, ◌↔◌, ℕ, Bool, true, false, List, [], ◌∷◌, ◌++◌}
use Rattle.tp_scene.specs.declared.answer.Cell.{Cell}
use Rattle.tp_scene.specs.Step.{waits, rests}
use Rattle.tp_scene.specs.Pick.{Setting, Moment, outcome_of}
use Rattle.tp_scene.specs.Cells.{IsDecided}
use Rattle.tp_scene.specs.CellLaws.{AreUndecided}
use Rattle.tp_step_laws.specs.LiveOnce.{WasLive}
use Rattle.tp_step.specs.declared.tally.Wait.{Wait}
use Rattle.tp_lanes.specs.Planes.{flag}
use Rattle.tp_agenda.specs.Ready.{IsReady}
use Rattle.tp_agenda.specs.Wakes.{WakesOnly, AreOver}
use Rattle.tp_agenda.specs.Held.{MayMove, nothing_due, IsHeld, IsTakenUp, StepLeaves, AddsReady}

-- It is held where nothing was recorded, and exactly the items that may move are flagged.
abbrev pub BeginsHeld : Type 0
BeginsHeld = (w : Setting) (m : Moment) (ready : List Bool)
    → ((t : ℕ) → (flag ready t ≡ true) ↔ MayMove m t) → IsHeld w m [] [] [] ready nothing_due

-- Where nothing is due, exactly the ready items are flagged.
abbrev pub HeldTellsReady : Type 0
HeldTellsReady = (w : Setting) (m : Moment) (recorded : List Wait) (resting : List ℕ)
    (over ready : List Bool) → IsHeld w m recorded resting over ready nothing_due
    → (t : ℕ) → (flag ready t ≡ true) ↔ IsReady m recorded resting t

-- The item had a step, and what is new may be tried too: what the step decides is due.
abbrev pub StepsKeepHeld : Type 0
StepsKeepHeld = (w : Setting) (m next : Moment) (recorded : List Wait) (resting : List ℕ)
    (over ready after : List Bool) (t : ℕ) (news : List ℕ) (decides : Cell → Bool)
    → IsTakenUp w m recorded resting over ready t
    → StepLeaves w m t next news decides → AddsReady news ready after
    → IsHeld w next recorded resting over after decides

-- The item waits, for cells that aren't decided, and its wait was recorded as an open one.
abbrev pub WaitsKeepHeld : Type 0
WaitsKeepHeld = (w : Setting) (m : Moment) (recorded : List Wait) (resting : List ℕ)
    (over ready : List Bool) (new : Wait)
    → IsTakenUp w m recorded resting over ready new.item
    → outcome_of w m.store m.scene new.item ≡ waits new.first new.other
    → AreUndecided m new.first new.other → WasLive m new.item
    → IsHeld w m (recorded ++ new ∷ []) resting (over ++ false ∷ []) ready nothing_due

-- The item rests, and was recorded so.
abbrev pub RestsKeepHeld : Type 0
RestsKeepHeld = (w : Setting) (m : Moment) (recorded : List Wait) (resting : List ℕ)
    (over ready : List Bool) (t : ℕ) → IsTakenUp w m recorded resting over ready t
    → outcome_of w m.store m.scene t ≡ rests
    → IsHeld w m recorded (resting ++ t ∷ []) over ready nothing_due

-- The waits are over for cells that are decided: less is due.
abbrev pub WakingKeepsHeld : Type 0
WakingKeepsHeld = (w : Setting) (m : Moment) (recorded : List Wait) (resting : List ℕ)
    (over ready ready' over' : List Bool) (test due left : Cell → Bool)
    → IsHeld w m recorded resting over ready due
    → WakesOnly recorded test ready over ready' over' → AreOver recorded test over'
    → ((c : Cell) → test c ≡ true → IsDecided m c)
    → ((c : Cell) → due c ≡ true → (test c ≡ true) ⊎ (left c ≡ true))
    → IsHeld w m recorded resting over' ready' left
