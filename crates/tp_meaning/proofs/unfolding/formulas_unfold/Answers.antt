use Rattle.tp_meaning.proofs.Unfold.{always_unfolds as always_unfolds_law, while_unfolds as while_unfolds_law, for_unfolds as for_unfolds_law, forall_unfolds as forall_unfolds_law, len_unfolds as len_unfolds_law, next_equation_unfolds as next_equation_unfolds_law, assign_unfolds as assign_unfolds_law, input_unfolds as input_unfolds_law}
use Rattle.tp_meaning.proofs.Project.{project_ends as project_ends_law, project_goes as project_goes_law}
use Rattle.tp_meaning.proofs.ProjectSplit.{project_splits as project_splits_law, project_goes_on as project_goes_on_law, project_next as project_next_law}
use Rattle.tp_meaning.proofs.unfolding.formulas_unfold.Goals as goal

pub returns-clause-always : goal.returns-clause-always
returns-clause-always c = always_unfolds_law

pub returns-clause-while_loop : goal.returns-clause-while_loop
returns-clause-while_loop c = while_unfolds_law

pub returns-clause-for_loop : goal.returns-clause-for_loop
returns-clause-for_loop c = for_unfolds_law

pub returns-clause-forall : goal.returns-clause-forall
returns-clause-forall c = forall_unfolds_law

pub returns-clause-len : goal.returns-clause-len
returns-clause-len c = len_unfolds_law

pub returns-clause-next_equation : goal.returns-clause-next_equation
returns-clause-next_equation c = next_equation_unfolds_law

pub returns-clause-assign : goal.returns-clause-assign
returns-clause-assign c = assign_unfolds_law

pub returns-clause-input : goal.returns-clause-input
returns-clause-input c = input_unfolds_law

pub returns-clause-projection_ends : goal.returns-clause-projection_ends
returns-clause-projection_ends c = project_ends_law

pub returns-clause-projection_goes : goal.returns-clause-projection_goes
returns-clause-projection_goes c = project_goes_law

pub returns-clause-projection_splits : goal.returns-clause-projection_splits
returns-clause-projection_splits c = project_splits_law

pub returns-clause-projection_goes_on : goal.returns-clause-projection_goes_on
returns-clause-projection_goes_on c = project_goes_on_law

pub returns-clause-projection_of_next : goal.returns-clause-projection_of_next
returns-clause-projection_of_next c = project_next_law
