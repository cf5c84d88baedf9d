use Rattle.std.proofs.Common.{◌≡◌, ◌<◌, ◌^◌, ◌++◌, max, nat_eq, List, ap, ap₂, sym, ◌∙◌, subst, arith}
use Rattle.indexmap.specs.IndexMap.{get}
use Rattle.tp_value.specs.declared.path.VarId.{VarId}
use Rattle.tp_value.specs.declared.path.Fact.{Fact}
use Rattle.tp_store.specs.declared.fact_map.Remembered.{Remembered}
use Rattle.tp_store.specs.Facts.{kept_shape}
use Rattle.tp_store.specs.Known.{NoClash, deepest}
use Rattle.tp_store.specs.FactMap.{AreOf, FactsOfKind}
use Rattle.tp_store.specs.Nodes.{facts_in_tree}
use Rattle.tp_store.specs.KeptValue.{IsSaid, AreRemembered}
use Rattle.tp_store.proofs.FactMapLemmas.{deepest-append}
use Rattle.tp_store.proofs.Growth.{deepest_same}
use Rattle.tp_store.proofs.Clashes.{kinds_of_tree}
use Rattle.tp_store.proofs.Plain.{plain_facts, plain_items, plain_stays}
use Rattle.tp_store.proofs.Parts.{of_placed}
use Rattle.tp_store.proofs.Remembering.{grown, of_kind, counts_plain, all_remembered}
use Rattle.tp_store.proofs.fact_map.FactMap.add.Goals as goal

pub keep_facts-requires-clause-placed : goal.keep_facts-requires-clause-placed
keep_facts-requires-clause-placed c =
    let placed = ap (λ (m : FactsOfKind). m.placed) c.self.view_is in
    of_placed c.args.var _ c.args.news.now c.requires.of (omega (arith, placed, c.requires.placed))

pub invariant_of-self : goal.invariant_of-self
invariant_of-self c =
    let i = c.self.invariant in
    let b = c.self.inside.lasting in
    let more = c.in_err-keep_facts.ensures.err in
    let same = sym (more b) in
    let N : List Fact → Type 0 = λ fs. NoClash fs in
    let R : List Fact → Type 0 = λ fs. AreRemembered (get nat_eq c.self.inside.lists) b fs in
    (subst N same i.0, c.in_err-keep_facts.ensures.tree, i.2 ∙ ap deepest same, i.3, subst R same i.4)

pub returns-in_err-keep_facts-clause-of_kind : goal.returns-in_err-keep_facts-clause-of_kind
returns-in_err-keep_facts-clause-of_kind c = kinds_of_tree c.self.inside.lasting c.keep_facts.new.nodes

pub plain_beside-plain-requires-clause-plain : goal.plain_beside-plain-requires-clause-plain
plain_beside-plain-requires-clause-plain c =
    let b = c.self.inside.lasting in
    let n = c.args.var.number in
    let old = c.self.inside.nodes in
    let new = c.keep_facts.new.nodes in
    let x : VarId = record { number = n; lasting = b } in
    let count = c.plain_of-from.result in
    let all = grown c.args.self.now b old new _ _ c.args.var c.args.news.now c.self.view_is c.requires.kind c.requires.of c.requires.apart c.in_ok-keep_facts.ensures.ok in
    plain_items new x count c.in_ok-keep_facts.ensures.tree c.count-count.ensures.unique
    (plain_stays x (facts_in_tree b old) c.args.news.now (facts_in_tree b new) count all.same (counts_plain (get nat_eq c.self.inside.lists) n count b (facts_in_tree b old) c.plain_of-from.ensures c.self.invariant.4))

pub invariant_of-self-2 : goal.invariant_of-self-2
invariant_of-self-2 c =
    let i = c.self.invariant in
    let b = c.self.inside.lasting in
    let n = c.args.var.number in
    let old = c.self.inside.nodes in
    let new = c.keep_facts.new.nodes in
    let news = c.args.news.now in
    let x : VarId = record { number = n; lasting = b } in
    let all = grown c.args.self.now b old new _ _ c.args.var news c.self.view_is c.requires.kind c.requires.of c.requires.apart c.in_ok-keep_facts.ensures.ok in
    let d = c.max-self-inside.result in
    let depth : d ≡ deepest (facts_in_tree b new) = c.max-self-inside.ensures ∙ ap₂ max i.2 c.depth_of.ensures.value ∙ sym (deepest-append (facts_in_tree b old) news)
    ∙ sym (deepest_same (facts_in_tree b new) (facts_in_tree b old ++ news) all.is all.was all.same) in
    let low : d < 2 ^ 63 = grind (arith, c.max-self-inside.ensures, i.3, c.depth_of.ensures.bound) in
    let is_x = of_kind c.args.self.now b (facts_in_tree b old) _ _ c.args.var c.self.view_is c.requires.kind in
    let A : VarId → Type 0 = λ y. AreOf y news in
    let S : VarId → Type 0 = λ y. IsSaid c.args.value y (facts_in_tree b new) in
    let now : Remembered = record { plain = c.plain_beside-plain.result; value = c.args.value } in
    let said = c.requires.said (facts_in_tree b new) (λ p. all.same p ∙ ap (λ (m : FactsOfKind). kept_shape (m.facts ++ news) p) c.self.view_is) in (
      all.is,
      c.in_ok-keep_facts.ensures.tree,
      depth,
      low,
      all_remembered (get nat_eq c.self.inside.lists) (get nat_eq c.remember.new.lists) n now b (facts_in_tree b old) news (facts_in_tree b new) c.remember.ensures (subst A is_x c.requires.of) i.0 all.was all.is all.same
          (record { plain = plain_facts new x now.plain c.in_ok-keep_facts.ensures.tree c.count-count.ensures.unique c.plain_beside-plain.ensures; said = subst S is_x said }) i.4,
    )

pub returns-clause-of_kind : goal.returns-clause-of_kind
returns-clause-of_kind c = kinds_of_tree c.self.inside.lasting c.keep_facts.new.nodes

pub returns-clause-apart : goal.returns-clause-apart
returns-clause-apart c =
    (grown c.args.self.now c.self.inside.lasting c.self.inside.nodes c.keep_facts.new.nodes _ _ c.args.var c.args.news.now c.self.view_is c.requires.kind c.requires.of c.requires.apart c.in_ok-keep_facts.ensures.ok).is

pub returns-clause-ok : goal.returns-clause-ok
returns-clause-ok c =
    let all = grown c.args.self.now c.self.inside.lasting c.self.inside.nodes c.keep_facts.new.nodes _ _ c.args.var c.args.news.now c.self.view_is c.requires.kind c.requires.of c.requires.apart c.in_ok-keep_facts.ensures.ok in
    λ p. all.same p ∙ ap (λ (m : FactsOfKind). kept_shape (m.facts ++ c.args.news.now) p) c.self.view_is
