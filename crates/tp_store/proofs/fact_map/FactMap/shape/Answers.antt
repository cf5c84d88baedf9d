use Rattle.std.proofs.Common.{ap, sym, ◌∙◌}
use Rattle.std.specs.Map.{values_of}
use Rattle.tp_store.specs.Facts.{kept_shape}
use Rattle.tp_store.specs.FactMap.{FactsOfKind}
use Rattle.tp_store.specs.Nodes.{edges_in, nodes_in}
use Rattle.tp_store.proofs.EntryLemmas.{beq_same, beq_other}
use Rattle.tp_store.proofs.Trees.{kept_is, kept_other}
use Rattle.tp_store.proofs.Growth.{length_nodes}
use Rattle.tp_store.proofs.Clashes.{not_true, not_false}
use Rattle.tp_store.proofs.fact_map.FactMap.shape.Goals as goal

pub returns-then-path-self : goal.returns-then-path-self
returns-then-path-self c =
    let m = c.self.inside.nodes in
    sym (ap (λ (k : FactsOfKind). kept_shape k.facts c.args.path.now) (sym c.self.view_is)
    ∙ kept_other c.self.inside.lasting (edges_in m) (values_of m.below.entries) c.args.path.now (beq_other _ _ (not_true _ c.if-path-self.true)))

pub returns : goal.returns
returns c =
    let m = c.self.inside.nodes in
    let kind = beq_same _ _ (not_false _ c.if-path-self.false) in
    c.kept.ensures ∙ sym (kept_is c.self.inside.lasting (edges_in m) (nodes_in m) c.self.invariant.1.rooted c.count-count.ensures.unique (length_nodes m) c.args.path.now kind)
    ∙ ap (λ (k : FactsOfKind). kept_shape k.facts c.args.path.now) c.self.view_is
