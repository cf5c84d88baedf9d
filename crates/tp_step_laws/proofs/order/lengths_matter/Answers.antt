use Rattle.tp_step_laws.proofs.Examples.{order_decides}
use Rattle.tp_step_laws.proofs.order.lengths_matter.Goals as goal

pub returns : goal.returns
returns c = order_decides
