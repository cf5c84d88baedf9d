use Rattle.tp_meaning.proofs.Division.{division_rounds_down as law}
use Rattle.tp_meaning.proofs.laws.division_rounds_down.Goals as goal

pub returns : goal.returns
returns c = law
