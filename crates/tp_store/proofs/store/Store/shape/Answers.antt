use Rattle.std.proofs.Common.{ap, ◌∙◌}
use Rattle.tp_store.specs.Stock.{contents_in}
use Rattle.tp_store.proofs.Parts.{sound_view, kept_view}
use Rattle.tp_store.proofs.store.Store.shape.Goals as goal

pub returns-clause-value : goal.returns-clause-value
returns-clause-value c = c.shape.ensures ∙ kept_view c.self.inside.entries.items c.self.inside.state c.self.inside.fixed _ (ap contents_in c.self.view_is) c.self.invariant c.args.path.now _ c.part.ensures

pub returns-clause-sound : goal.returns-clause-sound
returns-clause-sound c = sound_view c.self.inside.entries.items c.self.inside.state c.self.inside.fixed _ (ap contents_in c.self.view_is) c.self.invariant
