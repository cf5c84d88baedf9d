use Rattle.tp_show.proofs.PrintedStates.{traces_tell_facts}
use Rattle.tp_show.proofs.trace_laws.traces_tell_facts.Goals as goal

pub returns : goal.returns
returns c = traces_tell_facts
