use Rattle.std.proofs.Common.{◌≡◌, nat_eq, List, ap, ap₂, sym, ◌∙◌, subst}
use Rattle.indexmap.specs.IndexMap.{get}
use Rattle.tp_value.specs.declared.path.Fact.{Fact}
use Rattle.tp_store.specs.Known.{NoClash, deepest}
use Rattle.tp_store.specs.Nodes.{routes, facts_along, facts_in_tree}
use Rattle.tp_store.specs.KeptValue.{AreRemembered}
use Rattle.tp_store.proofs.fact_map.FactMap.reserve.Goals as goal

pub invariant_of-self : goal.invariant_of-self
invariant_of-self c =
    let i = c.self.invariant in
    let b = c.self.inside.lasting in
    let same : facts_in_tree b c.self.inside.nodes ≡ facts_in_tree b c.reserve.new.self =
    ap₂ (λ es ns. facts_along b (routes es) ns) (sym c.reserve.ensures.edges) (sym c.reserve.ensures.nodes) in
    let N : List Fact → Type 0 = λ fs. NoClash fs in
    let R : List Fact → Type 0 = λ fs. AreRemembered (get nat_eq c.self.inside.lists) b fs in
    (subst N same i.0, c.reserve.ensures.tree, i.2 ∙ ap deepest same, i.3, subst R same i.4)
