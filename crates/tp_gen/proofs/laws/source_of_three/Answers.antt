use Rattle.std.proofs.Common.{refl}
use Rattle.std.specs.Fmt.{digits}
use Rattle.tp_gen.proofs.laws.source_of_three.Goals as goal

pub returns : goal.returns
unfolding digits
returns c = refl
