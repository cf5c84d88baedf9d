use Rattle.std.proofs.Common.{◌≡◌, ◌∷◌, [], None, Some, refl, ap, sym, ◌∙◌, arith}
use Rattle.tp_store.specs.declared.nodes.Nodes.{Nodes}
use Rattle.tp_store.specs.Nodes.{edge, edges_in, child, missing_behind, missing_nodes}
use Rattle.tp_store.proofs.Growth.{raised_more, more_then, has_grown, placed_item}
use Rattle.tp_store.proofs.nodes.Nodes.lead.Goals as goal

pub returns : goal.returns
returns c =
    let mid = c.raise.new.self in
    let r = c.raise.ensures in
    let new : Nodes = record { below = c.insert.new.self; places = mid.places } in
    let absent : child (edges_in mid) c.args.node c.args.index ≡ None = ap (λ es. child es c.args.node c.args.index) r.edges ∙ sym c.child.ensures.value ∙ c.in_default.is in
    let one : missing_nodes (edges_in c.args.self.now) (c.args.index ∷ []) c.args.node ≡ 1 = ap (λ o. missing_behind o 0 (λ n. 0)) (sym c.child.ensures.value ∙ c.in_default.is) in
    let placed = placed_item (edges_in mid) (edge c.args.node c.args.index) mid.places.items c.requires.below r.tree.placed in
    let grown = has_grown mid new c.args.node c.args.index r.tree (omega (arith, r.long, c.requires.from)) absent (λ z. c.requires.narrow) (λ z. r.bound) placed refl c.in_ok-insert.ensures.entries in
    record {
      tree = grown.tree;
      more = more_then c.args.self.now mid new (raised_more c.args.self.now mid c.args.node c.args.index r) grown.more;
      room = omega (arith, one, r.room, c.insert.ensures.spare);
      succeeds = λ _. refl;
      there = λ n e. absurd (cc (sym e ∙ sym c.child.ensures.value ∙ c.in_default.is));
      unique = c.len.ensures.unique;
      within = omega (arith, grown.within, c.len.ensures.len);
      child = grown.found c.len.ensures.unique ∙ ap Some (sym c.len.ensures.len);
    }
