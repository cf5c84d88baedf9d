use Rattle.tp_scene.proofs.KnownEnds.{waits_are_for_undecided}
use Rattle.tp_scene.proofs.Seen.{waited_ends_are_live}
use Rattle.tp_scene.proofs.laws.waits_are_for_undecided.Goals as goal

pub returns-clause-undecided : goal.returns-clause-undecided
returns-clause-undecided c = waits_are_for_undecided

pub returns-clause-live : goal.returns-clause-live
returns-clause-live c = waited_ends_are_live
