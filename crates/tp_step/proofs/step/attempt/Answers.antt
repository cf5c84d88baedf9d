-- A holder's outcome is known by the setting and what the store holds.
use Rattle.tp_store.specs.Stock.{contents_in}
use Rattle.tp_decide.specs.Decided.{setting_of}
use Rattle.tp_step.proofs.step.attempt.Goals as goal

pub carry_holder-requires-clause-outcome : goal.carry_holder-requires-clause-outcome
carry_holder-requires-clause-outcome c = (setting_of c.args.setting.now, contents_in c.args.store.now, (rw c.in-Holder.is at c.in_ok-decision.ensures).1)
