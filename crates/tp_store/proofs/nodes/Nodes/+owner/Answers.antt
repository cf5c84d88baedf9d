use Rattle.std.proofs.Common.{◌++◌, ◌∷◌, [], get_or, refl, ap, sym, ◌∙◌, arith}
use Rattle.tp_value.specs.declared.path.Path.{Path}
use Rattle.tp_store.specs.Nodes.{edges_in, routes, path_of, path_along}
use Rattle.tp_store.proofs.Routes.{root_route}
use Rattle.tp_store.proofs.Trees.{path_on}
use Rattle.tp_store.proofs.Growth.{length_nodes}
use Rattle.tp_store.proofs.nodes.Nodes.+owner.Goals as goal

pub returns-then-edge-eq0 : goal.returns-then-edge-eq0
returns-then-edge-eq0 t c = λ b.
    let es = edges_in c.args.self.now in
    let e = c.edge_to-edge.result in
    sym (ap (λ r. (path_of b r).var.number) (c.edge_to-edge.ensures.route ∙ ap (λ r. r ++ e.index ∷ []) (ap (λ n. get_or (routes es) n []) c.if-edge-eq0.true ∙ root_route es)))

pub returns : goal.returns
returns t c = λ b.
    let t' = c.args.self.now in
    let es = edges_in t' in
    let e = c.edge_to-edge.result in
    let outer = path_of b (get_or (routes es) e.node []) in
    let on = path_on b es e.node e.index (omega (arith, c.if-edge-eq0.false)) (omega (arith, c.edge_to-edge.ensures.before, c.requires.within, length_nodes t')) outer (path_along outer.var (outer.at ++ e.index ∷ [])) refl refl in
    c.owner.ensures b ∙ ap (λ (p : Path). p.var.number) on ∙ sym (ap (λ r. (path_of b r).var.number) c.edge_to-edge.ensures.route)
