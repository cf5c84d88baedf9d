use Rattle.std.proofs.Common.{sym, ◌∙◌}
use Rattle.tp_store.specs.Nodes.{nodes_in}
use Rattle.tp_store.proofs.Ways.{beyond_of_node, beyond_past}
use Rattle.tp_store.proofs.nodes.Nodes.bound.Goals as goal

pub returns-in-Some : goal.returns-in-Some
returns-in-Some c = sym (beyond_of_node (nodes_in c.args.self.now) c.args.number c.in-Some.node (sym c.node.ensures ∙ c.in-Some.is))

pub returns-in-None : goal.returns-in-None
returns-in-None c = sym (beyond_past (nodes_in c.args.self.now) c.args.number (sym c.node.ensures ∙ c.in-None.is))
