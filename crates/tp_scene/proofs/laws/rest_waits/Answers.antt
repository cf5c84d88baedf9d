use Rattle.tp_scene.proofs.NamedItem.{named_item_waits, rest_ends_goes_or_is_open}
use Rattle.tp_scene.proofs.OpenCell.{open_cells_are_undecided}
use Rattle.tp_scene.proofs.laws.rest_waits.Goals as goal

pub returns-clause-named : goal.returns-clause-named
returns-clause-named c = named_item_waits

pub returns-clause-ends : goal.returns-clause-ends
returns-clause-ends c = rest_ends_goes_or_is_open

pub returns-clause-undecided : goal.returns-clause-undecided
returns-clause-undecided c = open_cells_are_undecided
