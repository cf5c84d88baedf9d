use Rattle.std.proofs.Common.{ap, ◌∙◌, map}
use Rattle.tp_value.specs.Read.{tree}
use Rattle.tp_value.specs.Equations.{tree_list, items_of-of_items}
use Rattle.tp_eval.specs.Reached.{gives}
use Rattle.tp_eval.specs.Evaluate.{list_items}
use Rattle.tp_eval.proofs.kinds.items_of.Goals as goal

pub returns-in-List : goal.returns-in-List
returns-in-List c = ap list_items (ap tree c.in-List.is ∙ tree_list c.in-List.all) ∙ ap gives (items_of-of_items (map tree c.in-List.all.items.items))
