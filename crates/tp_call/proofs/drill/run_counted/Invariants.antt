use Rattle.std.proofs.Common.{◌≡◌, ◌-◌}
use Rattle.tp_run.specs.Runs.{next_state_of, order_of, standing_place, IsRunOf}
use Rattle.tp_call.specs.Task.{plan_of}
use Rattle.tp_call.specs.Drilled.{HasDrilled}
use Rattle.tp_call.proofs.drill.run_counted.Given as goal

abbrev pub invariant-states : goal.invariant-states
invariant-states g l = record {
  drilled : HasDrilled (plan_of l.fn.task) l.fn.task.order (standing_place l.run) l.initial.steps l.steps l.totals;
  run : IsRunOf (plan_of l.fn.task) l.run;
  order : order_of l.run ≡ l.fn.task.order;
}

abbrev pub decreases-states : goal.decreases-states
decreases-states g l = l.fn.task.limits.states - next_state_of l.run
