use Rattle.tp_meaning.proofs.Deeper.{value_deeper as value_deeper_law}
use Rattle.tp_meaning.proofs.DeeperHolds.{holds_deeper as holds_deeper_law}
use Rattle.tp_meaning.proofs.laws.meanings_deepen.Goals as goal

pub returns-clause-values : goal.returns-clause-values
returns-clause-values c = value_deeper_law

pub returns-clause-meanings : goal.returns-clause-meanings
returns-clause-meanings c = holds_deeper_law
