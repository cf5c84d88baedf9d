use Rattle.std.proofs.Common.{◌++◌, ◌∷◌, [], get_or, ap, sym, ◌∙◌, arith}
use Rattle.tp_store.specs.Nodes.{edges_in, routes, path_of, path_along}
use Rattle.tp_store.proofs.Routes.{root_route}
use Rattle.tp_store.proofs.Trees.{path_on}
use Rattle.tp_store.proofs.Growth.{length_nodes}
use Rattle.tp_store.proofs.nodes.Nodes.+path.Goals as goal

pub returns-then-node-eq0 : goal.returns-then-node-eq0
returns-then-node-eq0 t c =
    let es = edges_in c.args.self.now in
    let e = c.edge_to-node.result in
    ap (path_along _) c.new-at.ensures
    ∙ sym (ap (path_of c.args.lasting) (c.edge_to-node.ensures.route ∙ ap (λ r. r ++ e.index ∷ []) (ap (λ n. get_or (routes es) n []) c.if-node-eq0.true ∙ root_route es)))

pub returns : goal.returns
returns t c =
    let t' = c.args.self.now in
    let es = edges_in t' in
    let e = c.edge_to-node.result in
    let outer = c.path-2.view_is ∙ c.in_ok-path.ensures in
    path_on c.args.lasting es e.node e.index (omega (arith, c.if-node-eq0.false)) (omega (arith, c.edge_to-node.ensures.before, c.requires.within, length_nodes t')) (path_along _ _) (path_along _ _) outer (ap (path_along _) c.in_ok-push.ensures.items)
    ∙ sym (ap (path_of c.args.lasting) c.edge_to-node.ensures.route)
