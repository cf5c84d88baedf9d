use Rattle.tp_run.specs.Runs.{order_of, standing_place}
use Rattle.tp_run.specs.StateTries.{tally_of}
use Rattle.tp_call.proofs.DrillLemmas.{state_drilled}
use Rattle.tp_call.proofs.WorkLemmas.{state_tried}
use Rattle.tp_call.proofs.drill.make_counted.Goals as goal

pub returns-clause-made : goal.returns-clause-made
returns-clause-made g c = λ plan m runs stands.
    let answers = c.in_ok-turn.ensures.made plan runs in
    let tally = tally_of c.state.new.self in
    let counts = c.in_ok-turn.ensures.steps plan m runs stands in
    let tries = state_tried plan (order_of c.args.run.now) _ _ m stands _ _ c.in_ok-turn.turn answers _ _ tally runs.within
    (c.in_ok-turn.ensures.tried plan m runs stands) counts (c.in_ok-turn.ensures.tries_none plan runs) in
    state_drilled plan _ _ _ m stands _ _ c.in_ok-turn.turn answers _ _ tally tries counts _ _ c.in_ok-totals.ensures.reductions (rw c.tally.ensures at c.in_ok-totals.ensures.tries) _ c.last_answer.ensures
