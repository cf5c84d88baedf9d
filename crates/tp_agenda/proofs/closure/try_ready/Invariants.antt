use Rattle.std.proofs.Common.{◌+◌, ◌*◌, ◌^◌, count_by}
use Rattle.tp_store.specs.Stock.{contents_in}
use Rattle.tp_decide.specs.Decided.{setting_of}
use Rattle.tp_slots.specs.Kept.{IsWellKept}
use Rattle.tp_step.specs.Answers.{moment_of}
use Rattle.tp_step.specs.Closes.{LedByPicks}
use Rattle.tp_agenda.specs.Board.{FitsBoard, HasFlags, TakenAreKnown}
use Rattle.tp_agenda.specs.Held.{IsHeld, nothing_due}
use Rattle.tp_agenda.proofs.Trying.{AgendaSoFar}
use Rattle.tp_agenda.proofs.closure.try_ready.Given as goal

abbrev pub invariant-tries : goal.invariant-tries
invariant-tries g l =
    let w = setting_of l.setting in
    let first = moment_of l.initial.scene (contents_in l.initial.store) in
    let here = moment_of l.scene (contents_in l.store) in
    let recorded = l.tally.waits.items.items in
    record {
      so_far : AgendaSoFar w first here l.initial.agenda.strategy.order l.agenda.strategy.order l.initial.agenda.strategy.room l.agenda.strategy.room l.initial.tally.picks l.tally.picks recorded l.tally.rests l.initial.steps l.steps;
      made : LedByPicks w first here l.initial.agenda.strategy.room l.agenda.strategy.room l.initial.tally.picks l.tally.picks;
      held : IsHeld w here recorded l.tally.rests l.agenda.board.over.items l.agenda.board.ready nothing_due;
      fits : FitsBoard recorded l.agenda.board;
      flags : HasFlags here.scene l.agenda.board;
      taken : TakenAreKnown here.scene l.agenda.board;
      kept : IsWellKept l.scene;
    }

abbrev pub decreases-tries : goal.decreases-tries
decreases-tries g l = l.agenda.strategy.room * 2 ^ 64 + count_by (λ b. b) l.agenda.board.ready
