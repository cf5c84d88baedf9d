use Rattle.std.proofs.Common.{◌≡◌, ◌+◌, ◌^◌, ◌<◌, ◌++◌, ap, sym, subst, ◌∙◌, arith, refl, List, Some}
use Rattle.std.proofs.lemmas.Option.{slice_get_within}
use Rattle.tp_value.specs.declared.path.Path.{Path}
use Rattle.tp_value.specs.declared.path.Fact.{Fact}
use Rattle.tp_store.specs.Facts.{item_path}
use Rattle.tp_store.specs.Known.{NoClash}
use Rattle.tp_store.specs.Changes.{HasAppended}
use Rattle.tp_store.specs.FactMap.{facts_from}
use Rattle.tp_store.specs.Nodes.{edges_in, node_from, edge, fact_where, facts_in_tree, way_of}
use Rattle.tp_store.proofs.Routes.{child_found, rooted_at}
use Rattle.tp_store.proofs.Ways.{way_below}
use Rattle.tp_store.proofs.Growth.{length_nodes}
use Rattle.tp_store.proofs.Walks.{those, is_before, node_fact, item_way, no_item, next_item_facts, all_items}
use Rattle.tp_store.proofs.walk.+copy_from.Goals as goal
use Rattle.tp_store.proofs.walk.+copy_from.Goals.{in-Some+in_ok-go_in+in_ok-last, in_default}

pub loop-index-init : goal.loop-index-init
loop-index-init t c =
    let p = c.args.path.now in
    let old = c.args.facts.now.items in
    record {
      path = refl;
      facts = node_fact c.args.nodes.now p c.args.node c.requires.tree c.count-count.ensures.unique c.requires.way old c.append_fact.new.facts.items
          (c.in_ok-append_fact.ensures ∙ ap (λ o. old ++ fact_where p.var.lasting (way_of p) o) c.shape.ensures);
    }

pub overflow_cast-index : goal.overflow_cast-index
overflow_cast-index t c =
    let m = c.args.nodes.now in
    let k = c.loop-index.index in
    let f = child_found (edges_in m) c.args.node k c.in-Some.item (sym c.child_behind.ensures ∙ c.in-Some.is) in
    let low = way_below (edges_in m) c.args.path.now.var.number c.args.path.now.at 0 c.args.node c.requires.way in
    let narrow : k < 2 ^ 32 = c.requires.tree.narrow f.place (edge c.args.node k) f.there low in
    omega (arith, narrow)

pub copy_from-requires : goal.copy_from-requires
copy_from-requires t c =
    let m = c.args.nodes.now in
    let p = c.args.path.now in
    let k = c.loop-index.index in
    let there = sym c.child_behind.ensures ∙ c.in-Some.is in
    let f = child_found (edges_in m) c.args.node k c.in-Some.item there in
    let before = rooted_at 1 (edges_in m) f.place (edge c.args.node k) c.requires.tree.rooted f.there in
    let within = slice_get_within (edges_in m) f.place (edge c.args.node k) f.there in
    let long = length_nodes m in
    let gone : c.go_in.new.path ≡ item_path p k = c.in_ok-go_in.ensures ∙ ap (λ (q : Path). item_path q k) c.loop-index.invariant.path in
    let N : Path → Type 0 = λ q. NoClash (facts_in_tree q.var.lasting m) in
    let W : Path → Type 0 = λ q. node_from (edges_in m) (way_of q) 0 ≡ Some c.in-Some.item in
    (omega (arith, f.number, before, within, long), (c.requires.tree, (subst N (sym gone) c.requires.no_clash, subst W (sym gone) (item_way m p c.args.node c.requires.tree c.count-count.ensures.unique c.requires.way k c.in-Some.item there))))

pub loop-index-preserved : goal.loop-index-preserved
loop-index-preserved t c =
    let m = c.args.nodes.now in
    let p = c.args.path.now in
    let d = c.count-count.ensures.unique in
    let k = c.loop-index.index in
    let old = c.args.facts.now.items in
    let inv = c.loop-index.invariant in
    let all = facts_in_tree p.var.lasting m in
    let A : List Fact → Type 0 = λ fs. HasAppended (those (is_before p (k + 1)) all) old fs in
    elim c.match-child_behind.branch [
      | in-Some+in_ok-go_in+in_ok-last w ↦ (
          let gone : w.go_in.new.path ≡ item_path p k = w.in_ok-go_in.ensures ∙ ap (λ (q : Path). item_path q k) inv.path in
          let F : Path → Type 0 = λ q. HasAppended (facts_from q (facts_in_tree q.var.lasting m)) c.loop-index.facts.items w.copy_from.new.facts.items in
          record {
            path = w.path-is ∙ w.go_out.ensures p k (w.in_ok-last.ensures.path ∙ gone);
            facts = subst A (ap (λ v. v.items) (sym w.facts-is))
                (next_item_facts m p c.args.node c.requires.tree d c.requires.way k old c.loop-index.facts.items w.copy_from.new.facts.items c.requires.no_clash inv.facts (subst F gone w.in_ok-last.ensures.facts));
          })
      | in_default w ↦ record {
        path = w.path-is ∙ inv.path;
        facts = subst A (ap (λ v. v.items) (sym w.facts-is))
            (no_item m p c.args.node c.requires.tree d c.requires.way k old c.loop-index.facts.items (sym c.child_behind.ensures ∙ w.in_default.is) inv.facts);
      }
    ]

pub returns-clause-facts : goal.returns-clause-facts
returns-clause-facts t c =
    all_items c.args.nodes.now c.args.path.now c.args.node c.requires.tree c.count-count.ensures.unique c.requires.way c.loop-index.index c.args.facts.now.items c.loop-index.facts.items
    (omega (arith, c.bound-bound.ensures, c.loop-index-test.false)) c.loop-index.invariant.facts
