use Rattle.tp_scene.proofs.KnownStays.{decided_stays}
use Rattle.tp_scene.proofs.Decided.{facts_decide_paths}
use Rattle.tp_scene.proofs.laws.decided_stays.Goals as goal

pub returns-clause-cells : goal.returns-clause-cells
returns-clause-cells c = decided_stays

pub returns-clause-paths : goal.returns-clause-paths
returns-clause-paths c = facts_decide_paths
