use Rattle.std.proofs.Common.{sym, ◌∙◌}
use Rattle.tp_call.proofs.TurnLemmas.{has_status}
use Rattle.tp_call.proofs.answer.close_run.Goals as goal

pub returns-clause-written : goal.returns-clause-written
returns-clause-written g c = (c.in-Some.status, sym c.status_of.ensures ∙ c.in-Some.is, c.close.ensures.written)

pub unreachable-requires : goal.unreachable-requires
unreachable-requires g c = has_status c.args.turn c.requires (sym c.status_of.ensures ∙ c.in-None.is)
