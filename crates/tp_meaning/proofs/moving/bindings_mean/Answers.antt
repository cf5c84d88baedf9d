use Rattle.tp_meaning.proofs.BindingsAre.{bindings_at_cuts, bindings_append}
use Rattle.tp_meaning.proofs.moving.bindings_mean.Goals as goal

pub returns-clause-at_cuts : goal.returns-clause-at_cuts
returns-clause-at_cuts c = bindings_at_cuts

pub returns-clause-append : goal.returns-clause-append
returns-clause-append c = bindings_append
