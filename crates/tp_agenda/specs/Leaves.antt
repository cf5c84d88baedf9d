-- What steps leave of a closure by an agenda: what they decide, and which items they make live.
use Rattle.std.specs.Prelude.{◌≡◌, ◌↔◌, ℕ, ◌||◌, ◌&&◌, Bool, true, false, List}
use Rattle.std.specs.List.{Contains, list_any}
use Rattle.std.specs.Option.{is_some}
use Rattle.tp_scene.specs.declared.answer.Cell.{Cell}
use Rattle.tp_scene.specs.Step.{Reduction}
use Rattle.tp_scene.specs.Pick.{Setting, Moment, Reduces}
use Rattle.tp_scene.specs.Rest.{AtRest}
use Rattle.tp_scene.specs.Cells.{IsDecided}
use Rattle.tp_scene.specs.Laws.{IsSound}
use Rattle.tp_slots.specs.News.{new_items}
use Rattle.tp_step.specs.declared.tally.Wait.{Wait}
use Rattle.tp_lanes.specs.Planes.{flag}
use Rattle.tp_agenda.specs.Decides.{fact_decides, ends_decide}
use Rattle.tp_agenda.specs.Marks.{has_known_end}
use Rattle.tp_agenda.specs.Held.{IsAmong, MayMove, nothing_due, IsHeld, StepLeaves}

-- the cells that a step decides: by its facts; and, where it set a mark, each end that is known
abbrev pub step_decides : Reduction → (next : Moment) → Cell → Bool
step_decides r next c = list_any (λ f. fact_decides f c) r.facts
    || (is_some r.mark && ends_decide (has_known_end next.scene) c)

-- these are the items that became live by it and may move
abbrev pub AreNewAndMove : (m next : Moment) → (news : List ℕ) → Type 0
AreNewAndMove m next news = (u : ℕ)
    → IsAmong news u ↔ (Contains (new_items m.scene next.scene) u × MayMove next u)

-- A step leaves of the other items what a closure holds of them.
abbrev pub StepsLeaveOthers : Type 0
StepsLeaveOthers = (w : Setting) (kinds : List Bool) (m : Moment) (t : ℕ) (r : Reduction)
    (next : Moment) (news : List ℕ)
    → IsSound w kinds m → Reduces w m t r next → AreNewAndMove m next news
    → StepLeaves w m t next news (step_decides r next)

-- What a step decides is decided after it.
abbrev pub StepsDecide : Type 0
StepsDecide = (w : Setting) (kinds : List Bool) (m : Moment) (t : ℕ) (r : Reduction)
    (next : Moment) (c : Cell)
    → IsSound w kinds m → Reduces w m t r next → step_decides r next c ≡ true → IsDecided next c

-- Where no item is ready and nothing is due, the scene is at rest.
abbrev pub HeldComesToRest : Type 0
HeldComesToRest = (w : Setting) (kinds : List Bool) (m : Moment) (recorded : List Wait)
    (resting : List ℕ) (over ready : List Bool)
    → IsSound w kinds m → IsHeld w m recorded resting over ready nothing_due
    → ((t : ℕ) → flag ready t ≡ false) → AtRest w m
