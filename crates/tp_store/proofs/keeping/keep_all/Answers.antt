use Rattle.std.proofs.Common.{◌≡◌, inl, ◌+◌, ◌++◌, ◌∷◌, [], length, take, take_all, drop, List, refl, ap, sym, ◌∙◌, subst, arith}
use Rattle.tp_value.specs.declared.path.Fact.{Fact}
use Rattle.tp_store.specs.Nodes.{edges_in, way_of, facts_in_tree, room_behind, HasNode}
use Rattle.tp_store.proofs.Members.{In, in_right}
use Rattle.tp_store.proofs.Parts.{kind_in, placed_at}
use Rattle.tp_store.proofs.FactMapLemmas.{split_at}
use Rattle.tp_store.proofs.Ways.{next_item}
use Rattle.tp_store.proofs.Room.{missing_after, last_way, last_next, room_next}
use Rattle.tp_store.proofs.Kept.{AreKept, kept_nothing, kept_so, next_apart, kept_shapes, front_apart}
use Rattle.tp_store.proofs.keeping.keep_all.Goals as goal

pub loop-fact-init : goal.loop-fact-init
loop-fact-init c = record {
  tree = c.requires.tree;
  way = (0, refl);
  places = refl;
  room = c.requires.room;
  kept = λ b a n. kept_nothing (facts_in_tree b c.args.nodes.now) (front_apart (facts_in_tree b c.args.nodes.now) c.args.facts.now n);
}

pub keep_shape-requires : goal.keep_shape-requires
keep_shape-requires c =
    let inv = c.loop-fact.invariant in
    let f = c.fact-item.result in
    let low = placed_at (length c.args.nodes.now.places.items) c.args.facts.now c.loop-fact.fact-index f c.requires.placed c.loop-fact-test.true c.fact-item.is in
    let es = edges_in c.loop-fact.nodes in
    let before = last_way [] (take c.loop-fact.fact-index c.args.facts.now) in
    let left = room_next before c.args.facts.now c.loop-fact.fact-index f c.loop-fact-test.true c.fact-item.is in
    let new = missing_after es before (way_of f.path) 0 inv.way.0 inv.way.1 in
    record {
      tree = inv.tree;
      placed = omega (arith, low, inv.places);
      room = omega (arith, left, new, inv.room);
    }

pub loop-fact-preserved : goal.loop-fact-preserved
loop-fact-preserved c =
    let inv = c.loop-fact.invariant in
    let kept = c.keep_shape.ensures in
    let fs = c.args.facts.now in
    let i = c.loop-fact.fact-index in
    let f = c.fact-item.result in
    let low = c.loop-fact-test.true in
    let before = last_way [] (take i fs) in
    let left = room_next before fs i f low c.fact-item.is in
    let new = missing_after (edges_in c.loop-fact.nodes) before (way_of f.path) 0 inv.way.0 inv.way.1 in
    let now : last_way [] (take (i + 1) fs) ≡ way_of f.path = last_next [] fs i f low c.fact-item.is in
    let rest : room_behind (last_way [] (take (i + 1) fs)) (drop (i + 1) fs) ≡ room_behind (way_of f.path) (drop (i + 1) fs) = ap (λ w. room_behind w (drop (i + 1) fs)) now in
    let split : fs ≡ take i fs ++ f ∷ drop (i + 1) fs = split_at fs i f low ∙ ap (λ g. take i fs ++ g ∷ drop (i + 1) fs) (sym c.fact-item.is) in
    let I : List Fact → Type 0 = λ gs. In f gs in
    let mine : In f fs = subst I (sym split) (in_right f (take i fs) (f ∷ drop (i + 1) fs) (inl refl)) in
    record {
      tree = kept.tree;
      way = subst (λ w. HasNode (edges_in c.keep_shape.new.nodes) w) (sym now) kept.way;
      places = kept.places ∙ inv.places;
      room = omega (arith, left, new, rest, inv.room, kept.room);
      kept = λ b a n.
          (let first = facts_in_tree b c.args.nodes.now in
          let cur = facts_in_tree b c.loop-fact.nodes in
          let k = inv.kept b a n in
          let new = kept.kept b (kind_in b fs a f mine, tt) (next_apart first fs i f cur n split k) in
          let P : List Fact → Type 0 = λ gs. AreKept first gs (facts_in_tree b c.keep_shape.new.nodes) in
          subst P (sym (next_item fs i f low c.fact-item.is)) (kept_so first fs i f cur n split k _ new.0 new.1));
    }

pub returns-clause-kept : goal.returns-clause-kept
returns-clause-kept c = λ b a n.
    let fs = c.args.facts.now in
    let i = c.loop-fact.fact-index in
    let first = facts_in_tree b c.args.nodes.now in
    let cur = facts_in_tree b c.loop-fact.nodes in
    let P : List Fact → Type 0 = λ gs. AreKept first gs cur in
    let k = subst P (take_all i fs (omega (arith, c.loop-fact-test.false))) (c.loop-fact.invariant.kept b a n) in
    (k.no_clash, kept_shapes first fs cur n k)
