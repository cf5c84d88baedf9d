use Rattle.std.proofs.Common.{◌-◌, None, Some, ap, sym, ◌∙◌, arith, option_map}
use Rattle.std.specs.Map.Iter.{deref_pair}
use Rattle.tp_store.proofs.Ways.{values_at}
use Rattle.tp_store.proofs.Growth.{node_below}
use Rattle.tp_store.proofs.nodes.Nodes.node.Goals as goal

pub returns-in-Some : goal.returns-in-Some
returns-in-Some c =
    let there = values_at c.args.self.now.below.entries (c.args.number - 1) (Some (c.in-Some.field-0-0.now, c.in-Some.node.now)) (sym c.get_index.ensures.entry ∙ ap (option_map deref_pair) c.in-Some.is) in
    sym (node_below c.args.self.now c.args.number _ (omega (arith, c.if-number-eq0.false)) there)

pub returns-in-None : goal.returns-in-None
returns-in-None c =
    let past = values_at c.args.self.now.below.entries (c.args.number - 1) None (sym c.get_index.ensures.entry ∙ ap (option_map deref_pair) c.in-None.is) in
    sym (node_below c.args.self.now c.args.number _ (omega (arith, c.if-number-eq0.false)) past)
