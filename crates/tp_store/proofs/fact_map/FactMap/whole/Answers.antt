use Rattle.std.proofs.Common.{◌≡◌, ◌-◌, suc, ap, sym, ◌∙◌, arith}
use Rattle.tp_store.specs.FactMap.{FactsOfKind}
use Rattle.tp_store.specs.Known.{open_at, whole, deepest}
use Rattle.tp_store.proofs.fact_map.FactMap.whole.Goals as goal

pub returns-in-Some : goal.returns-in-Some
returns-in-Some c =
    let facts = c.args.self.now.facts in
    let d = c.self.inside.depth - 1 in
    let all = c.self.invariant.2 ∙ ap (λ (m : FactsOfKind). deepest m.facts) c.self.view_is in
    let same : suc d ≡ deepest facts = omega (arith, c.if-self-gt0.true, all) in
    ap open_at c.in_ok-inner.ensures ∙ sym (c.open_item.ensures c.in-Some.index d c.in-Some.is) ∙ ap (λ n. whole (suc n) facts c.args.path.now) same

pub returns : goal.returns
returns c = c.whole_by_items.ensures
