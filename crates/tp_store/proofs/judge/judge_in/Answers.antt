use Rattle.std.proofs.Common.{refl, ap, sym, ◌∙◌}
use Rattle.tp_store.specs.Facts.{fact}
use Rattle.tp_store.specs.Nodes.{edges_in, nodes_in, shape_found}
use Rattle.tp_store.proofs.Growth.{length_nodes}
use Rattle.tp_store.proofs.Trees.{kept_is}
use Rattle.tp_store.proofs.Clashes.{gone_clash}
use Rattle.tp_store.proofs.Cuts.{left_out}
use Rattle.tp_store.proofs.judge.judge_in.Goals as goal

pub returns-then-lacks : goal.returns-then-lacks
returns-then-lacks c = left_out c.args.nodes.now (fact c.args.path.now c.args.shape) c.requires.tree c.count-count.ensures.unique c.requires.no_clash (sym c.lacks.ensures ∙ c.if-lacks.true)

pub returns-else-lacks : goal.returns-else-lacks
returns-else-lacks c =
    let t = c.args.nodes.now in
    let q = c.args.path.now in
    let tree = c.requires.tree in
    let unique = c.count-count.ensures.unique in
    let gone = sym c.find.ensures ∙ c.in-None.is in
    record {
      none = kept_is q.var.lasting (edges_in t) (nodes_in t) tree.rooted unique (length_nodes t) q refl ∙ ap (shape_found (nodes_in t)) gone;
      apart = gone_clash q.var.lasting (edges_in t) (nodes_in t) tree.rooted unique (length_nodes t) (fact q c.args.shape) refl c.requires.no_clash tree.beyond gone (sym c.lacks.ensures ∙ c.if-lacks.false);
    }
