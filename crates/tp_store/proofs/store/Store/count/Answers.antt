use Rattle.std.proofs.Common.{ap}
use Rattle.tp_store.specs.Stock.{contents_in}
use Rattle.tp_store.proofs.Parts.{sound_view}
use Rattle.tp_store.proofs.store.Store.count.Goals as goal

pub returns-clause-sound : goal.returns-clause-sound
returns-clause-sound c = sound_view c.self.inside.entries.items c.self.inside.state c.self.inside.fixed _ (ap contents_in c.self.view_is) c.self.invariant
