-- What was only looked at is as it was.
use Rattle.std.proofs.Common.{ap, ◌∙◌}
use Rattle.std.specs.Prelude.{Result, Ok, Err, OnErr}
use Rattle.std.specs.Rc.{rc_with_value}
use Rattle.tp_slots.proofs.bound.bind_local.Goals.{in-Some+else-len-capacity, in_default}
use Rattle.tp_slots.proofs.bound.bind_local.Goals as goal

if_error : {A E P : Type 0} (r : Result A E) → P → OnErr r P
if_error (Ok x) p = tt
if_error (Err e) p = p

pub returns-in_err-fresh-clause-env_err : goal.returns-in_err-fresh-clause-env_err
returns-in_err-fresh-clause-env_err c = if_error c.from_residual.result (ap (rc_with_value c.args.env.now) c.in-Some.ensures.value)

pub returns-in_err-longer-clause-env_err : goal.returns-in_err-longer-clause-env_err
returns-in_err-longer-clause-env_err c =
    if_error c.from_residual-in_err-longer.result (elim c.match-get_mut.branch [
      | in-Some+else-len-capacity w ↦ w.env-is ∙ ap (rc_with_value c.args.env.now) w.in-Some.ensures.value
      | in_default w ↦ w.env-is
    ])

pub returns-in_err-fresh-2-clause-env_err : goal.returns-in_err-fresh-2-clause-env_err
returns-in_err-fresh-2-clause-env_err c =
    if_error c.from_residual-in_err-fresh-2.result (elim c.match-get_mut.branch [
      | in-Some+else-len-capacity w ↦ w.env-is ∙ ap (rc_with_value c.args.env.now) w.in-Some.ensures.value
      | in_default w ↦ w.env-is
    ])
