use Rattle.std.proofs.Common.{ap, sym, ◌∙◌}
use Rattle.tp_store.specs.Stock.{contents_in}
use Rattle.tp_store.proofs.Parts.{sound_view, full_view}
use Rattle.tp_store.proofs.store.Store.kept_value.Goals as goal

pub returns-clause-value : goal.returns-clause-value
returns-clause-value c = λ v e. sym (full_view c.self.inside.entries.items c.self.inside.state c.self.inside.fixed _ (ap contents_in c.self.view_is) c.self.invariant c.args.path.now _ c.part.ensures) ∙ c.value.ensures v e

pub returns-clause-sound : goal.returns-clause-sound
returns-clause-sound c = sound_view c.self.inside.entries.items c.self.inside.state c.self.inside.fixed _ (ap contents_in c.self.view_is) c.self.invariant
