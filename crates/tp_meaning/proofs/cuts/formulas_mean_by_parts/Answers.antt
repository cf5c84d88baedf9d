use Rattle.tp_meaning.proofs.Pieces.{while_by_cuts as while_by_cuts_law, for_by_cuts as for_by_cuts_law, forall_by_instances as forall_by_instances_law}
use Rattle.tp_meaning.proofs.ByCuts.{project_by_cuts as project_by_cuts_law, exists_by_values as exists_by_values_law}
use Rattle.tp_meaning.proofs.cuts.formulas_mean_by_parts.Goals as goal

pub returns-clause-while_by_cuts : goal.returns-clause-while_by_cuts
returns-clause-while_by_cuts c = while_by_cuts_law

pub returns-clause-for_by_cuts : goal.returns-clause-for_by_cuts
returns-clause-for_by_cuts c = for_by_cuts_law

pub returns-clause-forall_by_instances : goal.returns-clause-forall_by_instances
returns-clause-forall_by_instances c = forall_by_instances_law

pub returns-clause-project_by_cuts : goal.returns-clause-project_by_cuts
returns-clause-project_by_cuts c = project_by_cuts_law

pub returns-clause-exists_by_values : goal.returns-clause-exists_by_values
returns-clause-exists_by_values c = exists_by_values_law
