use Rattle.std.proofs.Common.{ap, ◌∙◌, refl, subst}
use Rattle.tp_store.specs.FactMap.{FactsOfKind}
use Rattle.tp_store.specs.Nodes.{child, edges_in, facts_in_tree}
use Rattle.tp_store.specs.Wholes.{AreOfOthers}
use Rattle.tp_store.proofs.Clashes.{none_of_variable}
use Rattle.tp_store.proofs.WholeValues.{others_from}
use Rattle.tp_store.proofs.fact_map.FactMap.leads_to.Goals as goal

pub returns : goal.returns
returns c = λ e.
    let b = c.self.inside.lasting in
    let m = c.self.inside.nodes in
    let P : FactsOfKind → Type 0 = λ o. AreOfOthers c.args.number o.facts in
    subst P c.self.view_is (others_from c.args.number (facts_in_tree b m) (λ f i q.
    none_of_variable b m f.path.var c.self.invariant.1 c.count-count.ensures.unique (ap (child (edges_in m) 0) q ∙ c.leads_to.ensures e) f i refl))
