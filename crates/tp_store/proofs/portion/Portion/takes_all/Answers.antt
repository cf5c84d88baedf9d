use Rattle.std.proofs.Common.{ap, sym, ◌∙◌}
use Rattle.std.specs.Option.{option_copied}
use Rattle.tp_store.proofs.WholeLooks.{none_there}
use Rattle.tp_store.proofs.PortionViews.{seen_apart, addition_beside}
use Rattle.tp_store.proofs.portion.Portion.takes_all.Goals as goal

pub returns-then-is_none-clause-all : goal.returns-then-is_none-clause-all
returns-then-is_none-clause-all c = λ t.
    let none = sym c.whole_of.ensures ∙ ap option_copied (none_there c.whole_of.result c.if-is_none.ensures) in
    sym (addition_beside c.self.inside.lasting c.self.inside.parts c.self.inside.wholes.entries _ c.self.view_is c.self.invariant c.args.var none c.args.facts.now c.requires) ∙ c.takes_all.ensures.all t

pub returns-then-is_none-clause-apart : goal.returns-then-is_none-clause-apart
returns-then-is_none-clause-apart c = seen_apart c.self.inside.lasting c.self.inside.parts c.self.inside.wholes.entries _ c.self.view_is c.self.invariant

pub returns-else-is_none-clause-apart : goal.returns-else-is_none-clause-apart
returns-else-is_none-clause-apart c = seen_apart c.self.inside.lasting c.self.inside.parts c.self.inside.wholes.entries _ c.self.view_is c.self.invariant
