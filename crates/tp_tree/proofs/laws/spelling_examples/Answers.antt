use Rattle.std.specs.Fmt.{digits}
use Rattle.tp_tree.proofs.laws.spelling_examples.Goals as goal

pub returns : goal.returns
unfolding digits
returns c = search
