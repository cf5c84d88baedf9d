use Rattle.std.proofs.Common.{◌≡◌, ◌-◌, ◌++◌, ◌∷◌, [], ℕ, None, Some, length, set, refl, ap, sym, ◌∙◌, subst, arith}
use Rattle.std.specs.Vec.{with_item}
use Rattle.std.proofs.lemmas.List.{length-set}
use Rattle.tp_store.specs.declared.nodes.Nodes.{Nodes}
use Rattle.tp_store.specs.Nodes.{edge, edges_in, child, missing_behind, missing_nodes, StandAtNumbers}
use Rattle.tp_store.proofs.Growth.{grown_long, has_grown, placed_root}
use Rattle.tp_store.proofs.nodes.Nodes.lead_root.Goals as goal

pub returns : goal.returns
returns c =
    let old = c.args.self.now in
    let es = edges_in old in
    let n = c.args.number in
    let absent : child es 0 n ≡ None = sym c.root.ensures ∙ c.in_default.is in
    let one : missing_nodes es (n ∷ []) 0 ≡ 1 = ap (λ o. missing_behind o 0 (λ m. 0)) absent in
    let long = grown_long old c.insert.new.self.entries 0 n absent c.in_ok-insert.ensures.entries in
    let place : length es ≡ c.len-count-2.result - 1 = omega (arith, long, c.len-count-2.ensures.len) in
    let P : ℕ → Type 0 = λ k. StandAtNumbers (es ++ edge 0 n ∷ []) (set old.places.items n k) in
    let placed = subst P place (placed_root es n old.places.items c.requires.placed absent c.len-count.ensures.unique c.requires.tree.placed) in
    let new : Nodes = record { below = c.insert.new.self; places = with_item old.places n (c.len-count-2.result - 1) } in
    let grown = has_grown old new 0 n c.requires.tree (omega arith) absent (λ z. absurd (omega (arith, z))) (λ z. absurd (omega (arith, z))) placed (length-set old.places.items n _) c.in_ok-insert.ensures.entries in
    record {
      tree = grown.tree;
      more = grown.more;
      room = omega (arith, one, c.insert.ensures.spare);
      succeeds = λ _. refl;
      there = λ m e. absurd (cc (sym e ∙ absent));
      unique = c.len-count-2.ensures.unique;
      within = omega (arith, grown.within, c.len-count-2.ensures.len);
      child = grown.found c.len-count-2.ensures.unique ∙ ap Some (sym c.len-count-2.ensures.len);
    }
