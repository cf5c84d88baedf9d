use Rattle.std.proofs.Common.{◌≡◌, ◌≤◌, ◌-◌}
use Rattle.tp_run.specs.Runs.{next_state_of, order_of, standing_place, IsRunOf}
use Rattle.tp_call.specs.Task.{plan_of}
use Rattle.tp_call.specs.Worked.{HasWorked}
use Rattle.tp_call.proofs.run.run_task.Given as goal

abbrev pub invariant-loop-picture : goal.invariant-loop-picture
invariant-loop-picture g l = record {
  worked : HasWorked (plan_of l.fn.task) l.fn.task.beside l.fn.task.order (standing_place l.run) (g.K.Sink.written l.initial.out) (g.K.Sink.written l.out) l.initial.steps l.steps;
  run : IsRunOf (plan_of l.fn.task) l.run;
  order : order_of l.run ≡ l.fn.task.order;
  later : g.K.Sink.faults l.initial.out ≤ g.K.Sink.faults l.out;
}

abbrev pub decreases-loop-picture : goal.decreases-loop-picture
decreases-loop-picture g l = l.fn.task.limits.states - next_state_of l.run
