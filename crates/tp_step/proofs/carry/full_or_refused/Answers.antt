use Rattle.std.proofs.Common.{refl, subst}
use Rattle.tp_step.specs.Chosen.{AllowsAddition}
use Rattle.tp_step.proofs.CarryLemmas.{full_addition, refused_addition}
use Rattle.tp_step.proofs.carry.full_or_refused.Goals as goal

pub returns-in-Ok : goal.returns-in-Ok
returns-in-Ok c news items o m t a = full_addition news items o 0 m t refl (subst (AllowsAddition o) c.in-Ok.is a)

pub returns-in-Err : goal.returns-in-Err
returns-in-Err c news items o m t a = refused_addition news items o c.in-Err.refusal 0 m m t c.refused.result refl (subst (AllowsAddition o) c.in-Err.is a) c.refused.ensures
