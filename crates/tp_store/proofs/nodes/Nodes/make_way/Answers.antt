use Rattle.std.proofs.Common.{◌≡◌, ◌≤◌, ◌+◌, ◌∷◌, take, drop, ap, sym, subst, ◌∙◌, Some, arith}
use Rattle.tp_value.specs.declared.path.Path.{Path}
use Rattle.indexmap.specs.IndexMap.{spare}
use Rattle.tp_store.specs.Nodes.{edges_in, child, node_from, node_or_none, way_of, missing_nodes}
use Rattle.tp_store.proofs.Ways.{way_on, way_below, next_way}
use Rattle.tp_store.proofs.Room.{led_room, way_room, rest_of_way, missing_first}
use Rattle.tp_store.proofs.Growth.{more_then, none_more}
use Rattle.tp_store.proofs.nodes.Nodes.make_way.Goals.{After-from_residual-in_err-node-2}
use Rattle.tp_store.proofs.nodes.Nodes.make_way.Goals as goal

pub loop-index-init : goal.loop-index-init
loop-index-init c =
    let led = c.in_ok-node.ensures in
    record {
      tree = led.tree;
      more = none_more c.lead_root.new.self;
      room = omega arith;
      unique = led.unique;
      within = led.within;
      way = ap (λ (p : Path). node_or_none (child (edges_in c.lead_root.new.self) 0 p.var.number) (λ n. Some n)) (sym c.path.view_is) ∙ ap (λ o. node_or_none o (λ n. Some n)) led.child;
    }

pub loop-index-preserved : goal.loop-index-preserved
loop-index-preserved c =
    let inv = c.loop-index.invariant in
    let v = c.args.path.now.var.number in
    let ks = c.as_slice-index-items.result.now in
    let at : ks ≡ c.args.path.now.at = c.as_slice-index-items.ensures.value ∙ ap (λ (p : Path). p.at) c.path.view_is in
    let i = c.loop-index.index-index in
    let led = c.in_ok-node-2.ensures in
    let old = edges_in c.loop-index.self in
    let new = c.lead.new.self in
    let left : missing_nodes old (drop i c.args.path.now.at) c.loop-index.node ≡ missing_nodes old (c.from.result ∷ drop (i + 1) c.args.path.now.at) c.loop-index.node =
    subst (λ xs. missing_nodes old (drop i xs) c.loop-index.node ≡ missing_nodes old (c.from.result ∷ drop (i + 1) xs) c.loop-index.node) at (ap (λ xs. missing_nodes old xs c.loop-index.node) (rest_of_way ks i c.from.result c.loop-index-test.true c.from.ensures)) in
    let on = led_room c.loop-index.self new c.from.result (drop (i + 1) c.args.path.now.at) c.loop-index.node c.in_ok-node-2.node led.room led.there led.child in
    let was = subst (λ xs. node_from old (v ∷ take i xs) 0 ≡ Some c.loop-index.node) (sym at) inv.way in
    record {
      tree = led.tree;
      more = more_then _ c.loop-index.self new inv.more led.more;
      room = omega (arith, inv.room, left, on);
      unique = led.unique;
      within = led.within;
      way = subst (λ xs. node_from (edges_in new) (v ∷ take (i + 1) xs) 0 ≡ Some c.in_ok-node-2.node) at
          (ap (λ xs. node_from (edges_in new) (v ∷ xs) 0) (next_way ks i c.from.result c.loop-index-test.true c.from.ensures)
          ∙ way_on old (edges_in new) led.more.more (v ∷ take i ks) c.from.result c.loop-index.node c.in_ok-node-2.node led.more.edges led.unique was led.child);
    }

pub lead-requires-clause-below : goal.lead-requires-clause-below
lead-requires-clause-below c = way_below (edges_in c.loop-index.self) c.args.path.now.var.number (take c.loop-index.index-index c.args.path.now.at) 0 c.loop-index.node c.loop-index.invariant.way

-- what was taken, and what the rest of the way takes, as one more index is looked at
so_far : (c : After-from_residual-in_err-node-2) → spare c.args.self.now.below + missing_nodes (edges_in c.loop-index.self) (c.from.result ∷ drop (c.loop-index.index-index + 1) c.args.path.now.at) c.loop-index.node
    ≤ spare c.loop-index.self.below + missing_nodes (edges_in c.args.self.now) (way_of c.args.path.now) 0
so_far c =
    let ks = c.as_slice-index-items.result.now in
    let at : ks ≡ c.args.path.now.at = c.as_slice-index-items.ensures.value ∙ ap (λ (p : Path). p.at) c.path.view_is in
    let i = c.loop-index.index-index in
    let n = c.loop-index.node in
    let old = edges_in c.loop-index.self in
    let led = c.in_ok-node.ensures in
    let left : missing_nodes old (drop i c.args.path.now.at) n ≡ missing_nodes old (c.from.result ∷ drop (i + 1) c.args.path.now.at) n =
    subst (λ xs. missing_nodes old (drop i xs) n ≡ missing_nodes old (c.from.result ∷ drop (i + 1) xs) n) at (ap (λ xs. missing_nodes old xs n) (rest_of_way ks i c.from.result c.loop-index-test.true c.from.ensures)) in
    let all = way_room c.args.self.now c.lead_root.new.self c.loop-index.self _ c.args.path.now (drop i c.args.path.now.at) c.in_ok-node.node n (ap (λ (p : Path). p.var.number) c.path.view_is) led.room led.there led.child c.loop-index.invariant.room in
    omega (arith, all, left)

pub returns-in_err-node-2-clause-room : goal.returns-in_err-node-2-clause-room
returns-in_err-node-2-clause-room c =
    let all = so_far c in
    let one = missing_first (edges_in c.loop-index.self) c.from.result (drop (c.loop-index.index-index + 1) c.args.path.now.at) c.loop-index.node in
    omega (arith, all, one, c.in_err-node-2.ensures.room)

pub returns-in_err-node-2-clause-succeeds : goal.returns-in_err-node-2-clause-succeeds
returns-in_err-node-2-clause-succeeds c = λ h.
    let all = so_far c in
    let one = missing_first (edges_in c.loop-index.self) c.from.result (drop (c.loop-index.index-index + 1) c.args.path.now.at) c.loop-index.node in
    absurd (cc (c.in_err-node-2.ensures.succeeds (omega (arith, all, one, h))))

pub returns-clause-room : goal.returns-clause-room
returns-clause-room c =
    let led = c.in_ok-node.ensures in
    let all = way_room c.args.self.now c.lead_root.new.self c.loop-index.self _ c.args.path.now (drop c.loop-index.index-index c.args.path.now.at) c.in_ok-node.node c.loop-index.node (ap (λ (p : Path). p.var.number) c.path.view_is) led.room led.there led.child c.loop-index.invariant.room in
    omega (arith, all)
