use Rattle.std.proofs.Common.{◌-◌, Some, refl, ap, sym, ◌∙◌, arith}
use Rattle.std.specs.Option.{option_copied_mut}
use Rattle.indexmap.specs.IndexMap.{with_value_at}
use Rattle.tp_store.specs.declared.nodes.Node.{Node}
use Rattle.tp_store.specs.declared.nodes.Nodes.{Nodes}
use Rattle.tp_store.proofs.Ways.{keys_set}
use Rattle.tp_store.proofs.Growth.{node_below, written, set_raised}
use Rattle.tp_store.proofs.nodes.Nodes.raise.Goals as goal

pub returns-in-Some : goal.returns-in-Some
returns-in-Some c =
    let old = c.args.self.now in
    let kept = c.in-Some.kept.now in
    let now : Node = record { shape = kept.shape; beyond = c.max-kept.result } in
    let new : Nodes = record { below = with_value_at old.below (c.args.node - 1) now; places = old.places } in
    let there = node_below old c.args.node (Some kept) c.requires.below (sym c.get_index_mut.ensures.value ∙ ap option_copied_mut c.in-Some.is) in
    set_raised old new c.args.node c.args.index kept now c.requires.tree there refl (keys_set old.below.entries (c.args.node - 1) now) (written old c.args.node now c.requires.below) refl refl
    (omega (arith, c.max-kept.ensures)) (omega (arith, c.max-kept.ensures))
