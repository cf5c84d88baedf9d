use Rattle.tp_step_laws.proofs.LiveOnce.{items_live_once}
use Rattle.tp_step_laws.proofs.order.items_live_once.Goals as goal

pub returns : goal.returns
returns c = items_live_once
