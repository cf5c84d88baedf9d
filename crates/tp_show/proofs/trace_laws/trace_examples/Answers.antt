use Rattle.tp_show.proofs.TraceExampleLemmas.{trace_examples}
use Rattle.tp_show.proofs.trace_laws.trace_examples.Goals as goal

pub returns : goal.returns
returns c = trace_examples
