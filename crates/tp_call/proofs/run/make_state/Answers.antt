use Rattle.std.proofs.Common.{refl}
use Rattle.std.proofs.lemmas.Result.{err_from_is_err_and}
use Rattle.tp_run.specs.Runs.{order_of, standing_place}
use Rattle.tp_run.specs.StateTries.{tally_of}
use Rattle.tp_run.proofs.Becomes.{stands_sound}
use Rattle.tp_call.proofs.TurnLemmas.{answer_made, write_stopped_so, settled_parts, settled_carries}
use Rattle.tp_call.proofs.OrderLemmas.{names_last}
use Rattle.tp_call.proofs.WorkLemmas.{state_tried, state_worked}
use Rattle.tp_call.proofs.run.make_state.Goals as goal

pub write_settled-requires-clause-parts : goal.write_settled-requires-clause-parts
write_settled-requires-clause-parts g c = λ settled. settled_parts c.requires.run.0 _ _ _ _ _ c.requires.open (c.in_ok-turn.ensures.made c.requires.run.0 c.requires.run.1) settled

pub write_settled-requires-clause-carried : goal.write_settled-requires-clause-carried
write_settled-requires-clause-carried g c = λ settled.
    let plan = c.requires.run.0 in
    let before = c.requires.run.1 in
    let after = c.state.ensures.run plan before in
    record { kept = after.kept; carried = settled_carries plan _ _ _ _ _ c.requires.open (stands_sound plan _ _ before.orderly) (c.in_ok-turn.ensures.made plan before) settled }

pub returns-clause-made : goal.returns-clause-made
returns-clause-made g c = λ plan runs.
    answer_made _ _ _ _ _ _ _ (c.in_ok-turn.ensures.made plan runs) _ _ (c.state.ensures.run plan runs).program _ _ c.last_answer.ensures c.in_ok-write_settled.ensures.written c.in_ok-write_settled.ensures.range

pub returns-clause-in_order : goal.returns-clause-in_order
returns-clause-in_order g c = λ plan runs.
    names_last plan (order_of c.args.run.now) (standing_place c.args.run.now) c.in_ok-turn.turn c.last_answer.result c.last_answer.ensures (λ m stands. c.in_ok-turn.ensures.in_order plan m runs stands)

pub returns-in_err-write_settled-clause-made : goal.returns-in_err-write_settled-clause-made
returns-in_err-write_settled-clause-made g c = λ plan runs.
    let p = err_from_is_err_and c.from_residual-in_err-write_settled.result c.from_residual-in_err-write_settled.ensures.1 in
    rw (p.1, p.2) (write_stopped_so _ _ _ _ _ _ _ (c.in_ok-turn.ensures.made plan runs) _ _ (c.state.ensures.run plan runs).program _ _ (c.in_err-write_settled.ensures.only refl) c.in_err-write_settled.ensures.written)

pub returns-clause-worked : goal.returns-clause-worked
returns-clause-worked g c = λ plan m runs stands.
    let run = c.args.run.now in
    let from = standing_place run in
    let to = standing_place c.state.new.self in
    let answers = c.in_ok-turn.ensures.made plan runs in
    let tries = state_tried plan (order_of run) from to m stands _ _ c.in_ok-turn.turn answers _ _ (tally_of c.state.new.self) runs.within
    (c.in_ok-turn.ensures.tried plan m runs stands) (c.in_ok-turn.ensures.steps plan m runs stands) (c.in_ok-turn.ensures.tries_none plan runs) in
    state_worked plan (order_of run) from to m stands _ _ c.in_ok-turn.turn answers _ _ tries c.args.beside _ _ _ _ (c.state.ensures.run plan runs).program c.last_answer.ensures c.in_ok-write_settled.ensures.written c.in_ok-write_settled.ensures.range
