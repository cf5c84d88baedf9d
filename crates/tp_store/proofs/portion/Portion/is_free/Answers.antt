use Rattle.std.proofs.Common.{ap, sym, ◌∙◌, subst}
use Rattle.std.specs.Option.{option_copied}
use Rattle.tp_store.specs.FactMap.{FactsOfKind}
use Rattle.tp_store.specs.Wholes.{AreOfOthers}
use Rattle.tp_store.proofs.Clashes.{not_true}
use Rattle.tp_store.proofs.WholeLooks.{none_there}
use Rattle.tp_store.proofs.WholeValues.{others_all}
use Rattle.tp_store.proofs.portion.Portion.is_free.Goals as goal

pub returns-then-is_none : goal.returns-then-is_none
returns-then-is_none c = λ t.
    let P : FactsOfKind → Type 0 = λ o. AreOfOthers c.args.var.number o.facts in
    let none = sym c.get.ensures.value ∙ ap option_copied (none_there c.get.result c.if-is_none.ensures) in
    subst P c.self.view_is (others_all c.self.inside.lasting c.self.inside.wholes.entries c.self.inside.parts.facts c.self.invariant.3 c.args.var.number none (c.leads_to.ensures (not_true _ t)))
