use Rattle.std.proofs.Common.{◌≡◌, ◌∷◌, [], List, refl, ap₂, sym, subst, arith}
use Rattle.tp_value.specs.declared.path.Fact.{Fact}
use Rattle.tp_store.specs.Facts.{fact}
use Rattle.tp_store.specs.Nodes.{edges_in, nodes_in, way_of, routes, facts_along, facts_in_tree, with_shape_at}
use Rattle.tp_store.proofs.Trees.{AddsFact, fact_added, node_within}
use Rattle.tp_store.proofs.Ways.{way_below}
use Rattle.tp_store.proofs.Growth.{length_nodes, set_tree}
use Rattle.tp_store.proofs.Kept.{kept_nothing, kept_next, absent_next, kept_shapes, front_apart}
use Rattle.tp_store.proofs.keeping.keep_at.Goals as goal

pub keep-requires-clause-below : goal.keep-requires-clause-below
keep-requires-clause-below c = way_below (edges_in c.args.nodes.now) c.args.path.now.var.number c.args.path.now.at 0 c.args.way c.requires.way

pub keep-requires-clause-within : goal.keep-requires-clause-within
keep-requires-clause-within c =
    let within = node_within (edges_in c.args.nodes.now) (way_of c.args.path.now) 0 c.args.way (omega arith) c.requires.way in
    let long = length_nodes c.args.nodes.now in
    omega (arith, within, long)

pub returns-clause-tree : goal.returns-clause-tree
returns-clause-tree c = set_tree c.args.nodes.now c.keep.new.self c.args.way _ c.requires.tree c.keep.ensures.edges c.keep.ensures.nodes c.keep.ensures.places (omega arith)

pub returns-clause-kept : goal.returns-clause-kept
returns-clause-kept c = λ b a n.
    let old = c.args.nodes.now in
    let new = c.keep.new.self in
    let f = fact c.args.path.now c.args.shape in
    let first = facts_in_tree b old in
    let none = kept_nothing first (front_apart first (f ∷ []) n) in
    let added = fact_added b (edges_in old) (nodes_in old) f c.args.way c.requires.tree.rooted c.count-count.ensures.unique (length_nodes old) a.0 c.requires.way (absent_next first (f ∷ []) 0 f first n refl none) in
    let now : facts_in_tree b new ≡ facts_along b (routes (edges_in old)) (with_shape_at (nodes_in old) c.args.way c.args.shape) =
    ap₂ (λ e m. facts_along b (routes e) m) c.keep.ensures.edges c.keep.ensures.nodes in
    let A : List Fact → Type 0 = λ gs. AddsFact first f gs in
    let kept = kept_next first (f ∷ []) 0 f first n refl none (facts_in_tree b new) (subst A (sym now) added) in
    (kept.no_clash, kept_shapes first (f ∷ []) (facts_in_tree b new) n kept)
