use Rattle.tp_show.proofs.LineExampleLemmas.{line_examples as line_examples_law, end_line_examples as end_line_examples_law}
use Rattle.tp_show.proofs.laws.line_examples.Goals as goal

pub returns-clause-states : goal.returns-clause-states
returns-clause-states c = line_examples_law

pub returns-clause-ends : goal.returns-clause-ends
returns-clause-ends c = end_line_examples_law
