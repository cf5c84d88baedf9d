use Rattle.tp_residual.proofs.ResidualExampleLemmas.{residual_examples}
use Rattle.tp_residual.proofs.laws.residual_examples.Goals as goal

pub returns : goal.returns
returns c = residual_examples
