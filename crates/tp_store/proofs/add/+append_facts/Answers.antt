use Rattle.std.proofs.Common.{◌+◌, ◌++◌, ap, sym, ◌∙◌, map, drop, arith, rules, ◌<◌}
use Rattle.tp_value.specs.Tree.{of_items}
use Rattle.tp_value.specs.Limits.{items_in}
use Rattle.tp_value.specs.Read.{tree}
use Rattle.tp_value.specs.Equations.{tree_list}
use Rattle.tp_store.specs.Facts.{facts_at, facts_of_items}
use Rattle.tp_store.proofs.ValueFacts.{item_less, next_item, after_items, list_facts}
use Rattle.tp_store.proofs.add.+append_facts.Goals as goal

pub append_facts-requires : goal.append_facts-requires
append_facts-requires t c =
    let seen = ap tree c.in-List.is ∙ tree_list c.in-List.all in
    let fewer : items_in (tree c.index.result.now) < items_in (tree c.args.value.now) = item_less tree c.in-List.all.items.items c.loop-k.k c.index.result.now (tree c.args.value.now) (omega (arith, c.in-List.all.items.ok.0)) c.index.ensures seen in
    search (rules, fewer)

pub loop-k-preserved : goal.loop-k-preserved
loop-k-preserved t c =
    let xs = c.in-List.all.items.items in
    let p = c.args.path.now in
    let k = c.loop-k.k in
    let inner = c.go_to.ensures p c.loop-k.invariant.0.0 c.loop-k.invariant.0.1 in (
      (k, inner),
      ap (λ fs. fs ++ facts_of_items p (k + 1) (of_items (map tree (drop (k + 1) xs)))) (c.in_ok-append_facts-in-List.ensures ∙ ap (λ q. c.loop-k.out.items ++ facts_at q (tree c.index.result.now)) inner)
          ∙ next_item tree p xs k c.index.result.now c.loop-k.out.items (omega (arith, c.in-List.all.items.ok.0)) c.index.ensures ∙ c.loop-k.invariant.1,
    )

pub returns-after-loop-k : goal.returns-after-loop-k
returns-after-loop-k t c =
    let xs = c.in-List.all.items.items in
    let seen = ap tree c.in-List.is ∙ tree_list c.in-List.all in
    after_items tree c.args.path.now xs c.loop-k.k c.loop-k.out.items (omega (arith, c.in-List.all.items.ok.0)) ∙ c.loop-k.invariant.1
    ∙ list_facts tree c.args.path.now xs c.args.out.now.items c.push-in-List.new.self.items c.in_ok-fact-in-List.fact _ (c.in_ok-length-in-List.ensures ∙ c.len.ensures ∙ c.in-List.all.items.ok.0) c.in_ok-fact-in-List.ensures c.in_ok-push-in-List.ensures.items
    ∙ ap (λ s. c.args.out.now.items ++ facts_at c.args.path.now s) (sym seen)
