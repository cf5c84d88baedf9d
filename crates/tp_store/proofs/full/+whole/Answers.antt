use Rattle.std.proofs.Common.{◌≡◌, ◌+◌, ◌-◌, ◌∷◌, [], Some, ap, sym, subst, ◌∙◌, arith, rules, map}
use Rattle.std.proofs.lemmas.Result.{IfOk-weaker}
use Rattle.std.proofs.lemmas.List.{map-append}
use Rattle.tp_value.specs.Read.{tree}
use Rattle.tp_value.specs.Tree.{num, truth}
use Rattle.tp_value.specs.Equations.{tree_num, tree_truth, tree_list}
use Rattle.tp_store.specs.Facts.{item_path}
use Rattle.tp_store.specs.Known.{whole, known, open_at, items_known, list_of_items}
use Rattle.tp_store.specs.Answers.{whole_of}
use Rattle.tp_value.specs.declared.path.Path.{Path}
use Rattle.tp_store.specs.Nodes.{edges_in, child, node_from, way_of, facts_in_tree}
use Rattle.tp_store.proofs.Whole.{before, known_more, open_here, known_all, whole_open, whole_step}
use Rattle.tp_store.proofs.Walks.{kept_there, no_item_kept, item_way}
use Rattle.tp_store.proofs.full.+whole.Goals as goal

pub items_at-returns-in-Open : goal.items_at-returns-in-Open
items_at-returns-in-Open t c =
    let item = whole c.args.deeper (facts_in_tree c.args.path.now.var.lasting c.args.nodes.now) in
    let inner = c.go_to.ensures c.args.path.now c.loop-k.invariant.0.0 c.loop-k.invariant.0.1 in
    let here : item (item_path c.args.path.now c.loop-k.k) ≡ open_at c.in-Open.q = ap (λ (q : Path). whole c.args.deeper (facts_in_tree q.var.lasting c.args.nodes.now) q) (sym inner) ∙ sym c.in_ok-v.ensures ∙ ap whole_of c.in-Open.is in
    ap list_of_items (sym (open_here item c.args.path.now c.in-Open.q c.args.count c.loop-k.k (map tree c.loop-k.items.items) c.loop-k-test.true here) ∙ c.loop-k.invariant.1)

pub items_at-loop-k-preserved : goal.items_at-loop-k-preserved
items_at-loop-k-preserved t c =
    let item = whole c.args.deeper (facts_in_tree c.args.path.now.var.lasting c.args.nodes.now) in
    let inner = c.go_to.ensures c.args.path.now c.loop-k.invariant.0.0 c.loop-k.invariant.0.1 in
    let here : item (item_path c.args.path.now c.loop-k.k) ≡ known (tree c.in-Whole.v) = ap (λ (q : Path). whole c.args.deeper (facts_in_tree q.var.lasting c.args.nodes.now) q) (sym inner) ∙ sym c.in_ok-v.ensures ∙ ap whole_of c.in-Whole.is in (
      (c.loop-k.k, inner),
      ap (λ ts. before ts (items_known item c.args.path.now (c.args.count - (c.loop-k.k + 1)) (c.loop-k.k + 1))) (ap (map tree) c.in_ok-push-in-Whole.ensures.items ∙ map-append tree c.loop-k.items.items (c.in-Whole.v ∷ []))
          ∙ known_more item c.args.path.now c.args.count c.loop-k.k (map tree c.loop-k.items.items) (tree c.in-Whole.v) c.loop-k-test.true here ∙ c.loop-k.invariant.1,
    )

pub items_at-returns : goal.items_at-returns
items_at-returns t c =
    let item = whole c.args.deeper (facts_in_tree c.args.path.now.var.lasting c.args.nodes.now) in
    ap known (tree_list _) ∙ ap list_of_items (sym (known_all item c.args.path.now c.args.count c.loop-k.k (map tree c.loop-k.items.items) (omega arith)) ∙ c.loop-k.invariant.1)

pub items_at-returns-in_default : goal.items_at-returns-in_default
items_at-returns-in_default t c =
    let m = c.args.nodes.now in
    let p = c.args.path.now in
    let k = c.loop-k.k in
    let facts = facts_in_tree p.var.lasting m in
    let item = whole c.args.deeper facts in
    let inner = c.go_to.ensures p c.loop-k.invariant.0.0 c.loop-k.invariant.0.1 in
    let here : item (item_path p k) ≡ open_at (item_path p k) = whole_open c.args.deeper facts (item_path p k)
    (no_item_kept m p c.args.node.now c.requires.tree c.count-count.ensures.unique c.requires.way k (ap (child (edges_in m) c.args.node.now) (sym c.from.ensures) ∙ sym c.child_behind.ensures ∙ c.in_default.is)) in
    ap open_at inner ∙ ap list_of_items (sym (open_here item p (item_path p k) c.args.count k (map tree c.loop-k.items.items) c.loop-k-test.true here) ∙ c.loop-k.invariant.1)

pub items_at-whole_at-requires : goal.items_at-whole_at-requires
items_at-whole_at-requires t c =
    let m = c.args.nodes.now in
    let p = c.args.path.now in
    let inner = c.go_to.ensures p c.loop-k.invariant.0.0 c.loop-k.invariant.0.1 in
    let W : Path → Type 0 = λ q. node_from (edges_in m) (way_of q) 0 ≡ Some c.in-Some.item in
    (omega arith, (c.requires.tree, subst W (sym inner) (item_way m p c.args.node.now c.requires.tree c.count-count.ensures.unique c.requires.way c.loop-k.k c.in-Some.item (ap (child (edges_in m) c.args.node.now) (sym c.from.ensures) ∙ sym c.child_behind.ensures ∙ c.in-Some.is))))

pub whole_at-returns-in-Some-Num : goal.whole_at-returns-in-Some-Num
whole_at-returns-in-Some-Num t c =
    let m = c.args.nodes.now in
    let p = c.args.path.now in
    let kept = kept_there m p c.args.node.now c.requires.tree c.count-count.ensures.unique c.requires.way ∙ sym c.shape.ensures ∙ c.in-Some-Num.is ∙ ap Some c.in-Some-Num.field-0-is in
    let step : whole c.args.deeper (facts_in_tree p.var.lasting m) p ≡ known (num c.in-Some-Num.n) = whole_step c.args.deeper (facts_in_tree p.var.lasting m) p _ (omega (arith, c.if-deeper-eq0.false)) kept in
    search (rules, step, tree_num)

pub whole_at-returns-in-Some-Truth : goal.whole_at-returns-in-Some-Truth
whole_at-returns-in-Some-Truth t c =
    let m = c.args.nodes.now in
    let p = c.args.path.now in
    let kept = kept_there m p c.args.node.now c.requires.tree c.count-count.ensures.unique c.requires.way ∙ sym c.shape.ensures ∙ c.in-Some-Truth.is ∙ ap Some c.in-Some-Truth.field-0-is in
    let step : whole c.args.deeper (facts_in_tree p.var.lasting m) p ≡ known (truth c.in-Some-Truth.b) = whole_step c.args.deeper (facts_in_tree p.var.lasting m) p _ (omega (arith, c.if-deeper-eq0.false)) kept in
    ap known (tree_truth c.in-Some-Truth.b) ∙ sym step

pub whole_at-returns-in-Some-Items : goal.whole_at-returns-in-Some-Items
whole_at-returns-in-Some-Items t c =
    let m = c.args.nodes.now in
    let p = c.args.path.now in
    let kept = kept_there m p c.args.node.now c.requires.tree c.count-count.ensures.unique c.requires.way ∙ sym c.shape.ensures ∙ c.in-Some-Items.is ∙ ap Some c.in-Some-Items.field-0-is in
    let same = sym (whole_step c.args.deeper (facts_in_tree p.var.lasting m) p _ (omega (arith, c.if-deeper-eq0.false)) kept) in
    IfOk-weaker c.items_at.result _ _ (λ found is. is ∙ same) c.items_at.ensures

pub whole_at-returns-in-None : goal.whole_at-returns-in-None
whole_at-returns-in-None t c =
    let m = c.args.nodes.now in
    let p = c.args.path.now in
    let kept = kept_there m p c.args.node.now c.requires.tree c.count-count.ensures.unique c.requires.way ∙ sym c.shape.ensures ∙ c.in-None.is in
    let same = sym (whole_open c.args.deeper (facts_in_tree p.var.lasting m) p kept) in
    IfOk-weaker c.open-in-None.result _ _ (λ found is. ap whole_of is ∙ same) c.open-in-None.ensures
