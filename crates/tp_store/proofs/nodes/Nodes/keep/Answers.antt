use Rattle.std.proofs.Common.{ℕ, ◌-◌, Some, ap, sym, ◌∙◌}
use Rattle.std.specs.Option.{option_copied_mut}
use Rattle.tp_store.specs.Nodes.{nodes_in, with_node}
use Rattle.tp_store.proofs.Ways.{keys_set, beyond_of_node}
use Rattle.tp_store.proofs.Growth.{node_below, written}
use Rattle.tp_store.proofs.nodes.Nodes.keep.Goals as goal

pub returns-in-Some-clause-edges : goal.returns-in-Some-clause-edges
returns-in-Some-clause-edges c = keys_set c.args.self.now.below.entries (c.args.number - 1) (record { shape = Some c.args.shape; beyond = c.in-Some.kept.now.beyond })

pub returns-in-Some-clause-nodes : goal.returns-in-Some-clause-nodes
returns-in-Some-clause-nodes c =
    let old = c.args.self.now in
    let with_shape = λ (b : ℕ). with_node (nodes_in old) c.args.number (record { shape = Some c.args.shape; beyond = b }) in
    let there = node_below old c.args.number (Some c.in-Some.kept.now) c.requires.below (sym c.get_index_mut.ensures.value ∙ ap option_copied_mut c.in-Some.is) in
    written old c.args.number (record { shape = Some c.args.shape; beyond = c.in-Some.kept.now.beyond }) c.requires.below
    ∙ ap with_shape (sym (beyond_of_node (nodes_in old) c.args.number c.in-Some.kept.now there))
