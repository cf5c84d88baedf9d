use Rattle.tp_show.proofs.PartOrder.{order_of_parts}
use Rattle.tp_show.proofs.trace_laws.order_of_parts_tells_nothing.Goals as goal

pub returns : goal.returns
returns c = order_of_parts
