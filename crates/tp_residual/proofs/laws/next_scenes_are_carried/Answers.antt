use Rattle.tp_residual.proofs.Carried.{next_scenes_are_carried}
use Rattle.tp_residual.proofs.laws.next_scenes_are_carried.Goals as goal

pub returns : goal.returns
returns c = next_scenes_are_carried
