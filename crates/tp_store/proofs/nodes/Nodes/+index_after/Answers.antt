use Rattle.std.proofs.Common.{◌∷◌, [], ◌++◌, ap, sym, ◌∙◌, arith}
use Rattle.tp_store.specs.Nodes.{edges_in, route_to, index_behind}
use Rattle.tp_store.proofs.Routes.{root_route}
use Rattle.tp_store.proofs.Cuts.{behind_itself, behind_root, behind_outer, routes_apart, route_below}
use Rattle.tp_store.proofs.nodes.Nodes.+index_after.Goals as goal

pub returns-then-edge-first : goal.returns-then-edge-first
returns-then-edge-first t c =
    let m = c.args.self.now in
    let e = c.edge_to-edge.result in
    sym (ap (index_behind (route_to m c.args.first)) (c.edge_to-edge.ensures.route ∙ ap (λ n. route_to m n ++ e.index ∷ []) c.if-edge-first.true) ∙ behind_itself (route_to m c.args.first) e.index)

pub returns-then-edge-eq0 : goal.returns-then-edge-eq0
returns-then-edge-eq0 t c =
    let m = c.args.self.now in
    let e = c.edge_to-edge.result in
    sym (ap (index_behind (route_to m c.args.first)) (c.edge_to-edge.ensures.route ∙ ap (λ r. r ++ e.index ∷ []) (ap (route_to m) c.if-edge-eq0.true ∙ root_route (edges_in m)))
    ∙ behind_root (route_to m c.args.first) e.index (route_below m c.args.first c.requires.below.0 c.requires.within.0))

pub returns : goal.returns
returns t c =
    let m = c.args.self.now in
    let e = c.edge_to-edge.result in
    let apart = routes_apart m c.args.first e.node c.requires.tree c.count-count.ensures.unique c.requires.within.0 (omega (arith, c.edge_to-edge.ensures.before, c.requires.within.1)) c.if-edge-first.false in
    c.index_after.ensures ∙ sym (ap (index_behind (route_to m c.args.first)) c.edge_to-edge.ensures.route ∙ behind_outer (route_to m c.args.first) (route_to m e.node) e.index apart)
