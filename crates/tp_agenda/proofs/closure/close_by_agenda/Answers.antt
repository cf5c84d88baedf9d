-- The closure begins where the scene remembers more, at the same moment.
use Rattle.std.proofs.lemmas.Result.{IfOk-weaker}
use Rattle.tp_store.specs.Stock.{contents_in}
use Rattle.tp_decide.specs.Decided.{setting_of}
use Rattle.tp_step.specs.Answers.{moment_of}
use Rattle.tp_step.proofs.Picks.{on_refusal, made_none}
use Rattle.tp_agenda.proofs.closure.close_by_agenda.Goals as goal

pub returns-in_err-board-clause-err : goal.returns-in_err-board-clause-err
returns-in_err-board-clause-err g c =
    let room = c.args.strategy.room in
    on_refusal c.from_residual.result (rw c.begin.ensures.same (room, made_none (setting_of c.args.setting.now) (moment_of c.args.scene.now (contents_in c.args.store.now)) room c.args.tally.now.picks))

pub returns-clause-sound : goal.returns-clause-sound
returns-clause-sound g c = IfOk-weaker c.try_ready.result _ _ (λ ending all. all.sound) (rw c.begin.ensures.same at c.try_ready.ensures.closes)

pub returns-clause-closes : goal.returns-clause-closes
returns-clause-closes g c = IfOk-weaker c.try_ready.result _ _ (λ ending all. all.closes) (rw c.begin.ensures.same at c.try_ready.ensures.closes)

pub returns-clause-err : goal.returns-clause-err
returns-clause-err g c = rw c.begin.ensures.same at c.try_ready.ensures.err

pub returns-clause-order : goal.returns-clause-order
returns-clause-order g c = IfOk-weaker c.try_ready.result _ _ (λ ending all. all.order) (rw c.begin.ensures.same at c.try_ready.ensures.closes)

pub returns-clause-commutes : goal.returns-clause-commutes
returns-clause-commutes g c = IfOk-weaker c.try_ready.result _ _ (λ ending all. all.commutes) (rw c.begin.ensures.same at c.try_ready.ensures.closes)

pub returns-clause-room : goal.returns-clause-room
returns-clause-room g c = IfOk-weaker c.try_ready.result _ _ (λ ending all. all.room) c.try_ready.ensures.closes

pub returns-clause-thrifty : goal.returns-clause-thrifty
returns-clause-thrifty g c = IfOk-weaker c.try_ready.result _ _ (λ ending all. all.thrifty) c.try_ready.ensures.closes

pub returns-clause-undecided : goal.returns-clause-undecided
returns-clause-undecided g c = IfOk-weaker c.try_ready.result _ _ (λ ending all. all.undecided) (rw c.begin.ensures.same at c.try_ready.ensures.closes)

pub returns-clause-steps : goal.returns-clause-steps
returns-clause-steps g c = IfOk-weaker c.try_ready.result _ _ (λ ending all. all.steps) c.try_ready.ensures.closes
