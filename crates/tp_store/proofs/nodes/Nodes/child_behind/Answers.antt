use Rattle.std.proofs.Common.{◌≡◌, ◌+◌, suc, Some, ap, ap₂, sym, ◌∙◌, arith, option_map}
use Rattle.std.specs.Map.Iter.{deref_pair}
use Rattle.tp_store.specs.Nodes.{edges_in, child}
use Rattle.tp_store.proofs.Routes.{child_there}
use Rattle.tp_store.proofs.Ways.{keys_at}
use Rattle.tp_store.proofs.nodes.Nodes.child_behind.Goals as goal

pub returns-then-edge-index : goal.returns-then-edge-index
returns-then-edge-index c =
    let t = c.args.self.now in
    let e = c.in-Some.edge.now in
    let there = keys_at t.below.entries c.args.last (Some (e, c.in-Some.field-0-1.now)) (sym c.get_index.ensures.entry ∙ ap (option_map deref_pair) c.in-Some.is) in
    let next : c.args.last + 1 ≡ suc c.args.last = omega arith in
    ap Some next ∙ sym (child_there (edges_in t) c.args.last e c.len-count.ensures.unique there)
    ∙ ap₂ (child (edges_in t)) c.if-edge-node.true c.if-edge-index.true
