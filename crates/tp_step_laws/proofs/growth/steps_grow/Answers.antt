use Rattle.tp_step_laws.proofs.FactsGrow.{facts_grow}
use Rattle.tp_step_laws.proofs.OutcomesGrow.{outcomes_grow}
use Rattle.tp_step_laws.proofs.RowsGrow.{leaf_rows_grow, holder_rows_grow}
use Rattle.tp_step_laws.proofs.growth.steps_grow.Goals as goal

pub returns-clause-facts : goal.returns-clause-facts
returns-clause-facts c = facts_grow

pub returns-clause-outcomes : goal.returns-clause-outcomes
returns-clause-outcomes c = outcomes_grow

pub returns-clause-leaves : goal.returns-clause-leaves
returns-clause-leaves c = leaf_rows_grow

pub returns-clause-holders : goal.returns-clause-holders
returns-clause-holders c = holder_rows_grow
