use Rattle.std.proofs.Common.{◌≡◌, subst}
use Rattle.tp_store.specs.Known.{addition, adds}
use Rattle.tp_store.specs.FactMap.{FactsOfKind}
use Rattle.tp_store.proofs.Clashes.{takes_all_of}
use Rattle.tp_store.proofs.fact_map.FactMap.takes_all.Goals as goal

pub returns-then-not-leads_to-clause-all : goal.returns-then-not-leads_to-clause-all
returns-then-not-leads_to-clause-all c = λ t.
    let P : FactsOfKind → Type 0 = λ m. addition m.facts c.args.facts.now ≡ adds c.args.facts.now in
    subst P c.self.view_is (takes_all_of c.self.inside.lasting c.self.inside.nodes c.args.var c.args.facts.now c.self.invariant.1 c.count-count.ensures.unique c.self.invariant.0 (c.leads_to.ensures c.if-not-leads_to.true) c.requires)
