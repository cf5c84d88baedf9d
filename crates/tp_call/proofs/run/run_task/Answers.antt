use Rattle.std.proofs.Common.{ℕ, ◌≡◌, ◌≤◌, ◌<◌, Option, None, Some, Result, Err, ap, inr, refl, ◌∙◌, arith}
use Rattle.std.proofs.lemmas.Result.{err_from_is_err_and}
use Rattle.tp_io.specs.Held.{Rose}
use Rattle.tp_io.specs.declared.refusal.WriteRefusal.TheVariants.{Failed}
use Rattle.tp_run.specs.Runs.{standing_place, next_state_of, order_of}
use Rattle.tp_call.specs.Task.{plan_of}
use Rattle.tp_call.proofs.RunLemmas.{next_state}
use Rattle.tp_call.proofs.TurnLemmas.{went_on}
use Rattle.tp_call.proofs.OrderLemmas.{run_names}
use Rattle.tp_call.proofs.WorkLemmas.{worked_in, HasWorked-none, HasWorked-more, work_ended}
use Rattle.tp_call.proofs.run.run_task.Goals as goal

up_to : (a b c : ℕ) → a ≤ b → b ≤ c → a ≤ c
up_to a b c h k = omega arith

-- equal refusals are of equal causes
error_is : {A E : Type 0} (r : Result A E) (x y : E) → r ≡ Err x → r ≡ Err y → x ≡ y
error_is r x y p q = cc (p, q)

-- a count that rose since then has risen since an earlier time, too
rose_since : (greatest : Option ℕ) (before middle now : ℕ) → before ≤ middle → Rose greatest middle now → Rose greatest before now
rose_since None before middle now earlier rose = omega (arith, earlier, rose)
rose_since (Some most) before middle now earlier rose = omega (arith, earlier, rose)

pub loop-picture-init : goal.loop-picture-init
loop-picture-init g c = record {
  worked = HasWorked-none (plan_of c.args.task) c.args.task.beside c.args.task.order (standing_place c.in_ok-run.run') (g.K.Sink.written c.args.out.now) c.args.steps.now c.in_ok-run.ensures.stands c.in_ok-run.ensures.state;
  run = c.in_ok-run.ensures.run;
  order = c.in_ok-run.ensures.order;
  later = omega arith;
}

pub returns-in_err-turn-clause-made : goal.returns-in_err-turn-clause-made
returns-in_err-turn-clause-made g c =
    let p = err_from_is_err_and c.from_residual-in_err-turn.result c.from_residual-in_err-turn.ensures.1 in
    rw (p.1, p.2) (inr (record {
      from = standing_place c.loop-picture.run;
      to = standing_place c.make_state.new.run;
      middle = g.K.Sink.written c.loop-picture.out;
      settled = c.loop-picture.invariant.worked.written;
      stopped = c.in_err-turn.ensures.made _ c.loop-picture.invariant.run;
      ended = tt;
    }))

pub returns-in_err-turn-clause-cause : goal.returns-in_err-turn-clause-cause
returns-in_err-turn-clause-cause g c =
    let p = err_from_is_err_and c.from_residual-in_err-turn.result c.from_residual-in_err-turn.ensures.1 in
    rw (p.1, p.2) (λ failed. rose_since _ _ _ _ c.loop-picture.invariant.later (c.in_err-turn.ensures.cause (ap Err (error_is _ _ _ refl failed))))

pub returns-in-Some-clause-made : goal.returns-in-Some-clause-made
returns-in-Some-clause-made g c =
    inr (record {
      from = standing_place c.loop-picture.run;
      to = standing_place c.make_state.new.run;
      middle = g.K.Sink.written c.loop-picture.out;
      settled = c.loop-picture.invariant.worked.written;
      stopped = (rw c.in-Some.is at c.in_ok-turn.ensures.made) _ c.loop-picture.invariant.run;
      ended = record { program_is = (c.in_ok-turn.ensures.run _ c.loop-picture.invariant.run).program; store = refl };
    })

pub returns-in-Some-clause-in_order : goal.returns-in-Some-clause-in_order
returns-in-Some-clause-in_order g c =
    let plan = plan_of c.args.task in
    let made = (rw c.in-Some.is at c.in_ok-turn.ensures.made) plan c.loop-picture.invariant.run in
    let last = (rw c.in-Some.is at c.in_ok-turn.ensures.in_order) plan c.loop-picture.invariant.run in
    run_names plan (order_of c.loop-picture.run) c.args.task.order c.args.task.beside (standing_place c.loop-picture.run) (standing_place c.make_state.new.run) _ _ _ c.in-Some.turn
    c.loop-picture.invariant.order c.loop-picture.invariant.worked.written made last

pub loop-picture-preserved : goal.loop-picture-preserved
loop-picture-preserved g c =
    let plan = plan_of c.args.task in
    let worked = c.loop-picture.invariant.worked in
    let tried = (rw c.in_default.is at c.in_ok-turn.ensures.worked) plan worked.written.next c.loop-picture.invariant.run worked.written.stands in
    let state = worked_in plan c.args.task.beside (order_of c.loop-picture.run) c.args.task.order worked.written.next (standing_place c.loop-picture.run) (standing_place c.make_state.new.run) _ _ _ _ _ c.loop-picture.invariant.order tried in
    record {
      worked = HasWorked-more plan c.args.task.beside c.args.task.order (standing_place c.loop-picture.run) (standing_place c.make_state.new.run) _ _ _ _ _ _ worked state;
      run = c.in_ok-turn.ensures.run _ c.loop-picture.invariant.run;
      order = c.in_ok-turn.ensures.order ∙ c.loop-picture.invariant.order;
      later = up_to _ _ _ c.loop-picture.invariant.later c.in_ok-turn.ensures.later;
    }

pub loop-picture-smaller : goal.loop-picture-smaller
loop-picture-smaller g c =
    let made = (rw c.in_default.is at c.in_ok-turn.ensures.made) _ c.loop-picture.invariant.run in
    let went = went_on _ _ (standing_place c.loop-picture.run) (standing_place c.make_state.new.run) _ _ made in
    let next = next_state _ _ (standing_place c.loop-picture.run) (standing_place c.make_state.new.run) _ _ made.picture c.loop-picture.invariant.worked.written went.turned in
    let within : next_state_of c.loop-picture.run < c.args.task.limits.states = next.within in
    omega (arith, within, next.next)

pub returns-in-Some-clause-work : goal.returns-in-Some-clause-work
returns-in-Some-clause-work g c =
    let plan = plan_of c.args.task in
    let worked = c.loop-picture.invariant.worked in
    let last = (rw c.in-Some.is at c.in_ok-turn.ensures.worked) plan worked.written.next c.loop-picture.invariant.run worked.written.stands in
    work_ended plan c.args.task.beside c.args.task.order (standing_place c.loop-picture.run) (standing_place c.make_state.new.run) _ _ _ _ _ _ worked _
    (c.in_ok-turn.ensures.run _ c.loop-picture.invariant.run).program refl (worked_in plan c.args.task.beside (order_of c.loop-picture.run) c.args.task.order worked.written.next (standing_place c.loop-picture.run) (standing_place c.make_state.new.run) _ _ _ _ _ c.loop-picture.invariant.order last)
