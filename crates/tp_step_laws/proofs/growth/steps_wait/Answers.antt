use Rattle.tp_step_laws.proofs.OutcomesWait.{outcomes_wait}
use Rattle.tp_step_laws.proofs.RowsWait.{leaf_rows_wait, holder_rows_wait}
use Rattle.tp_step_laws.proofs.growth.steps_wait.Goals as goal

pub returns-clause-outcomes : goal.returns-clause-outcomes
returns-clause-outcomes c = outcomes_wait

pub returns-clause-leaves : goal.returns-clause-leaves
returns-clause-leaves c = leaf_rows_wait

pub returns-clause-holders : goal.returns-clause-holders
returns-clause-holders c = holder_rows_wait
