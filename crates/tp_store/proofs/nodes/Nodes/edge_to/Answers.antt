use Rattle.std.proofs.Common.{◌≡◌, ◌-◌, [], Some, suc, get_or, ap, sym, ◌∙◌, arith, option_map}
use Rattle.std.specs.Map.Iter.{deref_pair}
use Rattle.tp_store.specs.Nodes.{edges_in, routes}
use Rattle.tp_store.proofs.Routes.{route_at, rooted_at}
use Rattle.tp_store.proofs.Ways.{keys_at}
use Rattle.tp_store.proofs.nodes.Nodes.edge_to.Goals as goal

pub returns : goal.returns
returns c =
    let t = c.args.self.now in
    let e = c.in-Some.edge.now in
    let place = c.args.number - 1 in
    let there = keys_at t.below.entries place (Some (e, c.in-Some.field-0-1.now)) (sym c.get_index.ensures.entry ∙ ap (option_map deref_pair) c.in-Some.is) in
    let from = rooted_at 1 (edges_in t) place e c.requires.tree.rooted there in
    let more : c.args.number ≡ suc place = omega (arith, c.requires.below) in
    record {
      before = omega (arith, from, c.requires.below);
      narrow = c.requires.tree.narrow place e there;
      route = ap (λ n. get_or (routes (edges_in t)) n []) more ∙ route_at (edges_in t) place e c.requires.tree.rooted there;
    }
