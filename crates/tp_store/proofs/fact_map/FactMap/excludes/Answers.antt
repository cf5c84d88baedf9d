use Rattle.std.proofs.Common.{ap, sym, ◌∙◌}
use Rattle.std.specs.Map.{values_of}
use Rattle.tp_store.specs.Facts.{is_excluded}
use Rattle.tp_store.specs.FactMap.{FactsOfKind}
use Rattle.tp_store.specs.Nodes.{edges_in, nodes_in}
use Rattle.tp_store.proofs.EntryLemmas.{beq_same, beq_other}
use Rattle.tp_store.proofs.Growth.{length_nodes}
use Rattle.tp_store.proofs.Ways.{lacks_is}
use Rattle.tp_store.proofs.Clashes.{other_excluded}
use Rattle.tp_store.proofs.fact_map.FactMap.excludes.Goals as goal

pub returns-then-path-self : goal.returns-then-path-self
returns-then-path-self c =
    let m = c.self.inside.nodes in
    c.lacks.ensures
    ∙ lacks_is c.self.inside.lasting (edges_in m) (nodes_in m) c.self.invariant.1.rooted c.count-count.ensures.unique (length_nodes m) c.args.path.now (beq_same _ _ c.if-path-self.true) c.self.invariant.0
    ∙ ap (λ (k : FactsOfKind). is_excluded k.facts c.args.path.now) c.self.view_is

pub returns-else-path-self : goal.returns-else-path-self
returns-else-path-self c =
    let m = c.self.inside.nodes in
    c.if-path-self.false
    ∙ sym (ap (λ (k : FactsOfKind). is_excluded k.facts c.args.path.now) (sym c.self.view_is)
    ∙ other_excluded c.self.inside.lasting (edges_in m) (values_of m.below.entries) c.args.path.now (beq_other _ _ c.if-path-self.false))
