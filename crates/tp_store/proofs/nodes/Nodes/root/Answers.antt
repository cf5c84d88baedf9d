use Rattle.std.proofs.Common.{◌≡◌, ◌+◌, suc, None, Some, slice_get, ap, ap₂, sym, ◌∙◌, arith, option_map}
use Rattle.std.specs.Map.Iter.{deref_pair}
use Rattle.std.proofs.lemmas.Option.{slice_get_within, slice_get-get_or}
use Rattle.tp_store.specs.declared.nodes.Edge.{Edge}
use Rattle.tp_store.specs.Nodes.{edges_in, edge, child}
use Rattle.tp_store.proofs.Routes.{child_there}
use Rattle.tp_store.proofs.Ways.{keys_at}
use Rattle.tp_store.proofs.Growth.{no_root}
use Rattle.tp_store.proofs.nodes.Nodes.root.Goals as goal
use Rattle.tp_store.proofs.nodes.Nodes.root.Goals.{else-edge-eq0-via-then-edge-eq0+else-edge-number, else-edge-eq0-via-else-edge-eq0}

pub returns-then-number-len : goal.returns-then-number-len
returns-then-number-len c =
    let t = c.args.self.now in
    sym (no_root (edges_in t) t.places.items c.args.number c.requires.placed (λ i r e.
    let within = slice_get_within t.places.items c.args.number i r in
    omega (arith, within, c.if-number-len.true, t.places.ok.0)))

pub returns-in_default : goal.returns-in_default
returns-in_default c =
    let t = c.args.self.now in
    let here : slice_get t.places.items c.args.number ≡ Some c.index-place.result.now = slice_get-get_or t.places.items c.args.number _ (omega (arith, c.if-number-len.false, t.places.ok.0)) ∙ ap Some (sym c.index-place.ensures) in
    let past = keys_at t.below.entries c.index-place.result.now None (sym c.get_index.ensures.entry ∙ ap (option_map deref_pair) c.in_default.is) in
    sym (no_root (edges_in t) t.places.items c.args.number c.requires.placed (λ i r e.
    let z : Some i ≡ Some c.index-place.result.now = sym r ∙ here in
    let same : i ≡ c.index-place.result.now = cc z in
    let y : Some (edge 0 c.args.number) ≡ None = sym e ∙ ap (slice_get (edges_in t)) same ∙ past in
    cc y))

pub returns-then-edge-number : goal.returns-then-edge-number
returns-then-edge-number c =
    let t = c.args.self.now in
    let e = c.in-Some.edge.now in
    let there = keys_at t.below.entries c.index-place.result.now (Some (e, c.in-Some.field-0-1.now)) (sym c.get_index.ensures.entry ∙ ap (option_map deref_pair) c.in-Some.is) in
    let next : c.index-place.result.now + 1 ≡ suc c.index-place.result.now = omega arith in
    ap Some next ∙ sym (child_there (edges_in t) c.index-place.result.now e c.len-count.ensures.unique there)
    ∙ ap₂ (child (edges_in t)) c.if-edge-eq0.true c.if-edge-number.true

pub returns-else-edge-eq0 : goal.returns-else-edge-eq0
returns-else-edge-eq0 c =
    let t = c.args.self.now in
    let e = c.in-Some.edge.now in
    let here : slice_get t.places.items c.args.number ≡ Some c.index-place.result.now = slice_get-get_or t.places.items c.args.number _ (omega (arith, c.if-number-len.false, t.places.ok.0)) ∙ ap Some (sym c.index-place.ensures) in
    let there = keys_at t.below.entries c.index-place.result.now (Some (e, c.in-Some.field-0-1.now)) (sym c.get_index.ensures.entry ∙ ap (option_map deref_pair) c.in-Some.is) in
    sym (no_root (edges_in t) t.places.items c.args.number c.requires.placed (λ i r q.
    let z : Some i ≡ Some c.index-place.result.now = sym r ∙ here in
    let same : i ≡ c.index-place.result.now = cc z in
    let y : Some (edge 0 c.args.number) ≡ Some e = sym q ∙ ap (slice_get (edges_in t)) same ∙ there in
    let is : edge 0 c.args.number ≡ e = cc y in
    elim c.else-edge-eq0.branch [
      | else-edge-eq0-via-then-edge-eq0+else-edge-number w ↦ w.if-edge-number.false (ap (λ (x : Edge). x.index) (sym is))
      | else-edge-eq0-via-else-edge-eq0 w ↦ w.if-edge-eq0.false (ap (λ (x : Edge). x.node) (sym is))
    ]))
