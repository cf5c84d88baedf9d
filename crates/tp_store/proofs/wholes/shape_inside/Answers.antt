use Rattle.tp_value.specs.Read.{tree}
use Rattle.tp_store.proofs.Inside.{short_lists}
use Rattle.tp_store.proofs.wholes.shape_inside.Goals as goal

pub shape_at-requires : goal.shape_at-requires
shape_at-requires c = short_lists (tree c.args.value.now) c.requires
