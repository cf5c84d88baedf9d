use Rattle.tp_verdict.proofs.ChopLaws.{chop_is_associative, empty_is_unit_of_chop, or_goes_through_chop, next_goes_out_of_chop}
use Rattle.tp_verdict.proofs.logic.chop_laws.Goals as goal

pub returns : goal.returns
returns c = record { associative = chop_is_associative; unit = empty_is_unit_of_chop; disjunction = or_goes_through_chop; next = next_goes_out_of_chop }
