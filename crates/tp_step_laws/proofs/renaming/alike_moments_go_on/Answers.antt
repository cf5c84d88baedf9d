use Rattle.tp_step_laws.proofs.SettleAlike.{alike_moments_settle as alike_moments_settle_law}
use Rattle.tp_step_laws.proofs.AdvanceAlike.{alike_moments_advance as alike_moments_advance_law}
use Rattle.tp_step_laws.proofs.renaming.alike_moments_go_on.Goals as goal

pub returns-clause-settle : goal.returns-clause-settle
returns-clause-settle c = alike_moments_settle_law

pub returns-clause-advance : goal.returns-clause-advance
returns-clause-advance c = alike_moments_advance_law
