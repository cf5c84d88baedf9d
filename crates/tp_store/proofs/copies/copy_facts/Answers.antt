use Rattle.std.proofs.Common.{◌≡◌, ◌≤◌, ◌<◌, ◌+◌, ◌++◌, ◌∷◌, [], suc, Some, None, List, length, get_or, drop, ap, sym, ◌∙◌, arith, append-nil, append_assoc}
use Rattle.tp_value.specs.declared.path.Fact.{Fact}
use Rattle.tp_value.specs.declared.path.Path.{Path}
use Rattle.tp_store.specs.Facts.{fact}
use Rattle.tp_store.specs.FactMap.{is_among, facts_asked}
use Rattle.tp_store.specs.Nodes.{edges_in, nodes_in, routes, path_of, facts_along, shape_among, fact_where}
use Rattle.tp_store.proofs.Routes.{length_of_routes}
use Rattle.tp_store.proofs.Trees.{facts_next, facts_end, asked_for, not_asked_for}
use Rattle.tp_store.proofs.Growth.{length_nodes}
use Rattle.tp_store.proofs.copies.copy_facts.Goals as goal
use Rattle.tp_store.proofs.copies.copy_facts.Goals.{in-Some+then-has+in_ok-path+in_ok-push, in-Some+else-has, in_default}

pub loop-number-preserved : goal.loop-number-preserved
loop-number-preserved c =
    let m = c.args.nodes.now in
    let b = c.args.lasting in
    let which = c.args.which in
    let rs = routes (edges_in m) in
    let ns = nodes_in m in
    let i = c.loop-number.number in
    let items : List Fact = c.loop-number.facts.items in
    let rest = facts_along b (drop (suc (i + 1)) rs) (drop (suc (i + 1)) ns) in
    let long_all = length_of_routes (edges_in m) in
    let nodes = length_nodes m in
    let low : suc i < length rs = omega (arith, c.loop-number-test.true, c.count-number-end.ensures.value, long_all) in
    let past : suc i + 1 ≡ suc (i + 1) = omega arith in
    let here : i + 1 ≡ suc i = omega arith in
    let step = facts_next b rs ns (suc i) low (omega (arith, nodes, long_all)) ∙ ap (λ k. fact_where b (get_or rs (suc i) []) (shape_among ns (suc i)) ++ facts_along b (drop k rs) (drop k ns)) past in
    let kept = c.shape.ensures ∙ ap (shape_among ns) here in
    elim c.match-shape.branch [
      | in-Some+then-has+in_ok-path+in_ok-push w ↦ (
          let shape : shape_among ns (suc i) ≡ Some w.in-Some.shape = sym kept ∙ w.in-Some.is in
          let path = w.in_ok-path.ensures ∙ ap (λ k. path_of b (get_or rs k [])) here in
          let owner = ap (λ k. (path_of b (get_or rs k [])).var.number) (sym here) ∙ sym (w.owner.ensures b) in
          let whole = ap (facts_asked which) (step ∙ ap (λ o. fact_where b (get_or rs (suc i) []) o ++ rest) shape)
          ∙ asked_for which b (get_or rs (suc i) []) w.in-Some.shape rest (ap (is_among which) owner ∙ sym w.has.ensures ∙ w.if-has.true)
          ∙ ap (λ (p : Path). fact p w.in-Some.shape ∷ facts_asked which rest) (sym path) in
          ap (λ v. v.items ++ facts_asked which rest) w.facts-is ∙ ap (λ (xs : List Fact). xs ++ facts_asked which rest) w.in_ok-push.ensures.items ∙ append_assoc items (_ ∷ []) (facts_asked which rest)
          ∙ ap (λ (xs : List Fact). items ++ xs) (sym whole) ∙ c.loop-number.invariant)
      | in-Some+else-has w ↦ (
          let shape : shape_among ns (suc i) ≡ Some w.in-Some.shape = sym kept ∙ w.in-Some.is in
          let owner = ap (λ k. (path_of b (get_or rs k [])).var.number) (sym here) ∙ sym (w.owner.ensures b) in
          let whole = ap (facts_asked which) (step ∙ ap (λ o. fact_where b (get_or rs (suc i) []) o ++ rest) shape)
          ∙ not_asked_for which b (get_or rs (suc i) []) w.in-Some.shape rest (ap (is_among which) owner ∙ sym w.has.ensures ∙ w.if-has.false) in
          ap (λ v. v.items ++ facts_asked which rest) w.facts-is ∙ ap (λ (xs : List Fact). items ++ xs) (sym whole) ∙ c.loop-number.invariant)
      | in_default w ↦ (
          let none : shape_among ns (suc i) ≡ None = sym kept ∙ w.in_default.is in
          let whole = ap (facts_asked which) (step ∙ ap (λ o. fact_where b (get_or rs (suc i) []) o ++ rest) none) in
          ap (λ v. v.items ++ facts_asked which rest) w.facts-is ∙ ap (λ (xs : List Fact). items ++ xs) (sym whole) ∙ c.loop-number.invariant)
    ]

pub returns : goal.returns
returns c =
    let m = c.args.nodes.now in
    let b = c.args.lasting in
    let rs = routes (edges_in m) in
    let i = c.loop-number.number in
    let items : List Fact = c.loop-number.facts.items in
    let long_all = length_of_routes (edges_in m) in
    let high : length rs ≤ suc i = omega (arith, c.loop-number-test.false, c.count-number-end.ensures.value, long_all) in
    sym (append-nil items) ∙ ap (λ (xs : List Fact). items ++ facts_asked c.args.which xs) (sym (facts_end b rs (nodes_in m) (suc i) high)) ∙ c.loop-number.invariant
