use Rattle.std.proofs.Common.{◌≡◌, None, suc, ap, sym, ◌∙◌}
use Rattle.std.proofs.lemmas.Result.{IfOk-weaker}
use Rattle.std.specs.Map.{values_of}
use Rattle.tp_store.specs.Answers.{whole_of}
use Rattle.tp_store.specs.Facts.{kept_shape}
use Rattle.tp_store.specs.Known.{deepest}
use Rattle.tp_store.specs.FactMap.{FactsOfKind}
use Rattle.tp_store.specs.Nodes.{edges_in, nodes_in, facts_in_tree, shape_found}
use Rattle.tp_store.proofs.EntryLemmas.{beq_same, beq_other}
use Rattle.tp_store.proofs.Trees.{kept_is, kept_other}
use Rattle.tp_store.proofs.Growth.{length_nodes}
use Rattle.tp_store.proofs.Whole.{whole_open}
use Rattle.tp_store.proofs.fact_map.FactMap.whole_by_items.Goals as goal
use Rattle.tp_store.proofs.fact_map.FactMap.whole_by_items.Goals.{then-path-self+in_default, else-path-self}

pub returns : goal.returns
returns c =
    let m = c.self.inside.nodes in
    let b = c.self.inside.lasting in
    let p = c.args.path.now in
    let facts = c.args.self.now.facts in
    let none : kept_shape (facts_in_tree b m) p ≡ None =
    elim c.if-path-self.branch [
      | then-path-self+in_default w ↦ (
          kept_is b (edges_in m) (nodes_in m) c.self.invariant.1.rooted c.count-count.ensures.unique (length_nodes m) p (beq_same _ _ w.if-path-self.true)
          ∙ ap (shape_found (nodes_in m)) (sym w.find.ensures ∙ w.in_default.is))
      | else-path-self w ↦ kept_other b (edges_in m) (values_of m.below.entries) p (beq_other _ _ w.if-path-self.false)
    ] in
    let same = sym (whole_open (suc (deepest facts)) facts p (sym (ap (λ (k : FactsOfKind). kept_shape k.facts p) c.self.view_is) ∙ none)) in
    IfOk-weaker c.«open».result _ _ (λ found is. ap whole_of is ∙ same) c.«open».ensures
