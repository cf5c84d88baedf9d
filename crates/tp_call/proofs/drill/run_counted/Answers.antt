use Rattle.std.proofs.Common.{◌<◌, refl, ◌∙◌, arith}
use Rattle.tp_run.specs.Runs.{standing_place, next_state_of, order_of}
use Rattle.tp_call.specs.Task.{plan_of}
use Rattle.tp_call.proofs.DrillLemmas.{HasDrilled-none, HasDrilled-more, drilled_in, drills_next, drill_ends}
use Rattle.tp_call.proofs.drill.run_counted.Goals as goal

pub states-init : goal.states-init
states-init g c = record {
  drilled = HasDrilled-none (plan_of c.args.task) c.args.task.order (standing_place c.in_ok-run.run') _ _ c.in_ok-run.ensures.stands c.in_ok-run.ensures.state refl refl;
  run = c.in_ok-run.ensures.run;
  order = c.in_ok-run.ensures.order;
}

pub returns-in-Some : goal.returns-in-Some
returns-in-Some g c =
    let drilled = c.states.invariant.drilled in
    let made = (rw c.in-Some.is at c.in_ok-turn.ensures.made) (plan_of c.args.task) drilled.next c.states.invariant.run drilled.stands in
    let state = drilled_in (plan_of c.args.task) (order_of c.states.run) c.args.task.order _ _ _ _ _ _ _ _ c.states.invariant.order made in
    let end = drill_ends _ _ _ _ _ _ _ _ _ drilled c.in-Some.turn state in
    record { pictures = end.pictures; run = end.run; program_is = (c.in_ok-turn.ensures.run _ c.states.invariant.run).program; store = end.holds; tried = end.tried; totals_are = end.totals_are }

pub states-preserved : goal.states-preserved
states-preserved g c =
    let drilled = c.states.invariant.drilled in
    let made = (rw c.in_default.is at c.in_ok-turn.ensures.made) (plan_of c.args.task) drilled.next c.states.invariant.run drilled.stands in
    let state = drilled_in (plan_of c.args.task) (order_of c.states.run) c.args.task.order _ _ _ _ _ _ _ _ c.states.invariant.order made in
    record {
      drilled = HasDrilled-more _ _ _ _ _ _ _ _ _ drilled state;
      run = c.in_ok-turn.ensures.run _ c.states.invariant.run;
      order = c.in_ok-turn.ensures.order ∙ c.states.invariant.order;
    }

pub states-smaller : goal.states-smaller
states-smaller g c =
    let drilled = c.states.invariant.drilled in
    let made = (rw c.in_default.is at c.in_ok-turn.ensures.made) (plan_of c.args.task) drilled.next c.states.invariant.run drilled.stands in
    let state = drilled_in (plan_of c.args.task) (order_of c.states.run) c.args.task.order _ _ _ _ _ _ _ _ c.states.invariant.order made in
    let next = drills_next _ _ _ _ _ _ _ _ _ drilled state in
    let within : next_state_of c.states.run < c.args.task.limits.states = next.within in
    omega (arith, within, next.next)
