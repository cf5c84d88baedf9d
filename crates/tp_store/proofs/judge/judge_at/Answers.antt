use Rattle.std.proofs.Common.{◌≡◌, true, false, not, Some, None, refl, ap, sym, ◌∙◌, arith}
use Rattle.tp_store.specs.Facts.{fact, kept_shape}
use Rattle.tp_store.specs.Nodes.{edges_in, nodes_in, node_from, way_of, shape_found, facts_in_tree, beyond_among, lacks_path}
use Rattle.tp_store.proofs.Paths.{same_shape-decides}
use Rattle.tp_store.proofs.Trees.{kept_is, node_within}
use Rattle.tp_store.proofs.Ways.{way_below}
use Rattle.tp_store.proofs.Growth.{length_nodes}
use Rattle.tp_store.proofs.Clashes.{free_clash}
use Rattle.tp_store.proofs.Cuts.{other_shape, left_out, cut, free}
use Rattle.tp_store.proofs.judge.judge_at.Goals as goal
use Rattle.tp_store.proofs.judge.judge_at.Goals.{then-not-has_all, else-not-has_all, then-is_cut, else-is_cut}

pub returns-then-same_shape : goal.returns-then-same_shape
returns-then-same_shape c =
    let t = c.args.nodes.now in
    let q = c.args.path.now in
    kept_is q.var.lasting (edges_in t) (nodes_in t) c.requires.tree.rooted c.count-count.ensures.unique (length_nodes t) q refl ∙ ap (shape_found (nodes_in t)) c.requires.way
    ∙ sym c.shape.ensures ∙ c.in-Some.is ∙ ap Some ((same_shape-decides _ _).0 (sym c.same_shape.ensures ∙ c.if-same_shape.true))

pub returns-else-same_shape : goal.returns-else-same_shape
returns-else-same_shape c =
    let t = c.args.nodes.now in
    let q = c.args.path.now in
    other_shape t (fact q c.args.shape) c.requires.tree c.count-count.ensures.unique c.requires.no_clash c.in-Some.kept
    (kept_is q.var.lasting (edges_in t) (nodes_in t) c.requires.tree.rooted c.count-count.ensures.unique (length_nodes t) q refl ∙ ap (shape_found (nodes_in t)) c.requires.way
    ∙ sym c.shape.ensures ∙ c.in-Some.is)
    (sym c.same_shape.ensures ∙ c.if-same_shape.false)

pub cuts_off-is_cut-requires-clause-below : goal.cuts_off-is_cut-requires-clause-below
cuts_off-is_cut-requires-clause-below c = way_below (edges_in c.args.nodes.now) c.args.path.now.var.number c.args.path.now.at 0 c.args.number c.requires.way

pub cuts_off-is_cut-requires-clause-within : goal.cuts_off-is_cut-requires-clause-within
cuts_off-is_cut-requires-clause-within c =
    let within = node_within (edges_in c.args.nodes.now) (way_of c.args.path.now) 0 c.args.number (omega arith) c.requires.way in
    let long = length_nodes c.args.nodes.now in
    omega (arith, within, long)

pub returns-then-lacks : goal.returns-then-lacks
returns-then-lacks c =
    let t = c.args.nodes.now in
    let f = fact c.args.path.now c.args.shape in
    let unique = c.count-count.ensures.unique in
    elim c.if-is_cut.branch [
      | then-is_cut w ↦ (
          elim c.if-not-has_all.branch [
            | then-not-has_all v ↦ (
                let x = v.cuts_off-is_cut.ensures.found (sym v.is_cut-is ∙ w.if-is_cut.true) in
                cut t f c.requires.tree unique c.requires.no_clash c.args.number x.0 c.requires.way x.1 x.2)
            | else-not-has_all v ↦ absurd (let z : true ≡ false = sym w.if-is_cut.true ∙ v.is_cut-is ∙ ap not v.if-not-has_all.false in cc z)
          ])
      | else-is_cut w ↦ left_out t f c.requires.tree unique c.requires.no_clash (sym w.lacks.ensures ∙ sym w.value-is ∙ c.if-lacks.true)
    ]

pub returns-else-lacks : goal.returns-else-lacks
returns-else-lacks c =
    let t = c.args.nodes.now in
    let q = c.args.path.now in
    let f = fact q c.args.shape in
    let es = edges_in t in
    let ns = nodes_in t in
    let tree = c.requires.tree in
    let unique = c.count-count.ensures.unique in
    let bare : shape_found ns (node_from es (way_of q) 0) ≡ None = ap (shape_found ns) c.requires.way ∙ sym c.shape.ensures ∙ c.in_default.is in
    let none : kept_shape (facts_in_tree q.var.lasting t) q ≡ None = kept_is q.var.lasting es ns tree.rooted unique (length_nodes t) q refl ∙ bare in
    elim c.if-is_cut.branch [
      | then-is_cut w ↦ absurd (let z : true ≡ false = sym w.if-is_cut.true ∙ sym w.value-is ∙ c.if-lacks.false in cc z)
      | else-is_cut w ↦ (
          let lacks : lacks_path es ns q ≡ false = sym w.lacks.ensures ∙ sym w.value-is ∙ c.if-lacks.false in
          elim c.if-not-has_all.branch [
            | then-not-has_all v ↦ free t f tree unique c.requires.no_clash c.args.number c.requires.way none lacks (v.cuts_off-is_cut.ensures.none (sym v.is_cut-is ∙ w.if-is_cut.false))
            | else-not-has_all v ↦ record {
              none = none;
              apart = free_clash q.var.lasting es ns tree.rooted unique (length_nodes t) f refl c.requires.no_clash tree.beyond bare lacks (λ i way k low.
                  (let z : Some c.args.number ≡ Some i = sym c.requires.way ∙ way in
                  let same : c.args.number ≡ i = cc z in
                  let b : beyond_among ns i ≡ c.bound.result = ap (beyond_among ns) (sym same) ∙ sym c.bound.ensures in
                  c.has_all.ensures v.if-not-has_all.false k (omega (arith, low, b))));
            }
          ])
    ]
