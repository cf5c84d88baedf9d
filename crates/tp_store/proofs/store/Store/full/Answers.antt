use Rattle.std.proofs.Common.{ap, ◌∙◌}
use Rattle.std.proofs.lemmas.Result.{IfOk-weaker}
use Rattle.tp_store.specs.Stock.{contents_in}
use Rattle.tp_store.proofs.Parts.{sound_view, full_view}
use Rattle.tp_store.proofs.store.Store.full.Goals as goal

pub returns-clause-value : goal.returns-clause-value
returns-clause-value c =
    let same = full_view c.self.inside.entries.items c.self.inside.state c.self.inside.fixed _ (ap contents_in c.self.view_is) c.self.invariant c.args.path.now _ c.part-facts.ensures in
    IfOk-weaker c.full.result _ _ (λ known is. is ∙ same) c.full.ensures

pub returns-clause-sound : goal.returns-clause-sound
returns-clause-sound c = sound_view c.self.inside.entries.items c.self.inside.state c.self.inside.fixed _ (ap contents_in c.self.view_is) c.self.invariant
