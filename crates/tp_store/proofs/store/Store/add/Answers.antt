use Rattle.std.proofs.Common.{ap}
use Rattle.tp_store.specs.Stock.{contents_in}
use Rattle.tp_store.proofs.Parts.{sound_view}
use Rattle.tp_store.proofs.store.Store.add.Goals as goal

pub returns-in_err-path-clause-sound : goal.returns-in_err-path-clause-sound
returns-in_err-path-clause-sound c = sound_view c.self.inside.entries.items c.self.inside.state c.self.inside.fixed _ (ap contents_in c.self.view_is) c.self.invariant

pub returns-in_err-value-clause-sound : goal.returns-in_err-value-clause-sound
returns-in_err-value-clause-sound c = sound_view c.self.inside.entries.items c.self.inside.state c.self.inside.fixed _ (ap contents_in c.self.view_is) c.self.invariant
