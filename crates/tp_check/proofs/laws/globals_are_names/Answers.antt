use Rattle.tp_check.proofs.NameLaws.{globals_stand_in_source, globals_are_apart}
use Rattle.tp_check.proofs.laws.globals_are_names.Goals as goal

pub returns : goal.returns
returns c = record { stand = globals_stand_in_source; apart = globals_are_apart }
