use Rattle.std.proofs.Common.{ap}
use Rattle.tp_store.specs.Facts.{kept_shape}
use Rattle.tp_store.specs.Stock.{contents_in, Stock}
use Rattle.tp_store.proofs.Parts.{sound, next_parts, next_facts}
use Rattle.tp_store.proofs.store.Store.next_state.Goals as goal

pub invariant_of-self : goal.invariant_of-self
invariant_of-self c = next_parts c.self.inside.entries.items c.self.inside.state c.clear.new.self c.self.inside.fixed c.clear.ensures.kind c.clear.ensures.facts c.clear.ensures.placed c.self.invariant

pub returns-clause-facts : goal.returns-clause-facts
returns-clause-facts c = λ p.
    ap (λ fs. kept_shape fs p) (next_facts c.self.inside.entries.items c.self.inside.state c.clear.new.self c.self.inside.fixed _ (ap contents_in c.self.view_is) c.clear.ensures.facts c.self.invariant)

pub returns-clause-variables : goal.returns-clause-variables
returns-clause-variables c = ap (λ (s : Stock). s.variables) c.self.view_is

pub returns-clause-sound : goal.returns-clause-sound
returns-clause-sound c =
    sound c.self.inside.entries.items c.clear.new.self c.self.inside.fixed (next_parts c.self.inside.entries.items c.self.inside.state c.clear.new.self c.self.inside.fixed c.clear.ensures.kind c.clear.ensures.facts c.clear.ensures.placed c.self.invariant)
