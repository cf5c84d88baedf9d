use Rattle.tp_show.proofs.TraceParts.{around_of_length, around_of_value}
use Rattle.tp_show.proofs.trace_part.part_around.Goals as goal

pub returns-in-Some : goal.returns-in-Some
returns-in-Some c = around_of_length c.args.left.now c.in-Some.path.now c.args.text.now c.in-Some.ensures c.length_part.result c.length_part.ensures

pub returns-in-None : goal.returns-in-None
returns-in-None c = around_of_value c.args.left.now c.args.text.now c.in-None.ensures c.value_part.result c.value_part.ensures
