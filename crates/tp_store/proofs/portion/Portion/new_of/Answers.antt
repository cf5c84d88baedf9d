use Rattle.tp_store.proofs.PortionViews.{seen_apart}
use Rattle.tp_store.proofs.portion.Portion.new_of.Goals as goal

pub returns-in_err-push-clause-apart : goal.returns-in_err-push-clause-apart
returns-in_err-push-clause-apart c = seen_apart c.self.inside.lasting c.self.inside.parts c.self.inside.wholes.entries _ c.self.view_is c.self.invariant

pub returns-clause-apart : goal.returns-clause-apart
returns-clause-apart c = seen_apart c.self.inside.lasting c.self.inside.parts c.self.inside.wholes.entries _ c.self.view_is c.self.invariant
