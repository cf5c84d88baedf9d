use Rattle.std.proofs.Common.{sym, ◌∙◌}
use Rattle.tp_inputs.proofs.PartLemmas.{asked_first, each_found}
use Rattle.tp_inputs.proofs.part.pair_part.Goals as goal

pub returns-in_ok-port-in-Some : goal.returns-in_ok-port-in-Some
returns-in_ok-port-in-Some c = each_found c.valued_part.result (λ part is span table. is span table ∙ asked_first c.args.text.now c.in_ok-port-in-Some.port c.in-Some.len span table (sym c.in-Some.ensures.value) c.in_ok-port-in-Some.ensures) c.valued_part.ensures
