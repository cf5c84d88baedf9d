use Rattle.std.proofs.Common.{ap₂, sym, ◌∙◌}
use Rattle.tp_value.specs.Tree.{same_tree}
use Rattle.tp_eval.proofs.Steps.{same_is}
use Rattle.tp_eval.proofs.operate.are_same.Goals as goal

pub returns : goal.returns
returns c = sym (ap₂ same_tree (sym c.seen.ensures) (sym c.seen-2.ensures) ∙ same_is _ _ c.same.result c.same.ensures)
