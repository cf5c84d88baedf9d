use Rattle.tp_scene.proofs.StatusRules.{status_is_least}
use Rattle.tp_scene.proofs.Seen.{picks_see_places}
use Rattle.tp_scene.proofs.laws.status_is_least.Goals as goal

pub returns-clause-least : goal.returns-clause-least
returns-clause-least c = status_is_least

pub returns-clause-seen : goal.returns-clause-seen
returns-clause-seen c = picks_see_places
