use Rattle.tp_parse.proofs.FirstToken.{one_place, prefixes_are_unfinished}
use Rattle.tp_parse.proofs.laws.place_is_one.Goals as goal

pub returns-clause-one : goal.returns-clause-one
returns-clause-one c = one_place

pub returns-clause-prefixes : goal.returns-clause-prefixes
returns-clause-prefixes c = prefixes_are_unfinished
