use Rattle.tp_meaning.proofs.ExampleCounting.{counts_to_three_only}
use Rattle.tp_meaning.proofs.examples.counting_to_three.Goals as goal

pub returns : goal.returns
returns c = counts_to_three_only
