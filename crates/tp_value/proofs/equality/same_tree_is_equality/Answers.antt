use Rattle.tp_value.proofs.Trees.{same_tree_is_equality as is_equality}
use Rattle.tp_value.proofs.equality.same_tree_is_equality.Goals as goal

pub returns : goal.returns
returns c = is_equality
