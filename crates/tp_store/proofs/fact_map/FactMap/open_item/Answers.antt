use Rattle.std.proofs.Common.{◌≡◌, ℕ, suc, nat_eq, List, [], ◌∷◌, length, refl, ap, ap₂, sym, ◌∙◌, subst}
use Rattle.std.proofs.lemmas.Bool.Decides.{Decides-eqb}
use Rattle.indexmap.specs.IndexMap.{get}
use Rattle.tp_value.specs.declared.path.VarId.{VarId}
use Rattle.tp_value.specs.declared.path.Path.{Path}
use Rattle.tp_value.specs.declared.path.Fact.{Fact}
use Rattle.tp_store.specs.Facts.{kept_shape, item_path}
use Rattle.tp_store.specs.Known.{open_at, whole}
use Rattle.tp_store.specs.FactMap.{FactsOfKind}
use Rattle.tp_store.specs.Nodes.{edges_in, nodes_in, facts_in_tree, path_along, way_of, shape_found, node_from}
use Rattle.tp_store.proofs.EntryLemmas.{beq_same}
use Rattle.tp_store.proofs.Trees.{kept_is}
use Rattle.tp_store.proofs.Growth.{length_nodes}
use Rattle.tp_store.proofs.Clashes.{not_false}
use Rattle.tp_store.proofs.Plain.{open_first}
use Rattle.tp_store.proofs.Remembering.{counts_plain}
use Rattle.tp_store.proofs.fact_map.FactMap.open_item.Goals as goal

no_items : (xs : List ℕ) → length xs ≡ 0 → xs ≡ []
no_items [] e = refl
no_items (x ∷ xs) e = absurd (cc e)

pub returns-then-lacks_shape : goal.returns-then-lacks_shape
returns-then-lacks_shape c = λ k d e.
    let m = c.self.inside.nodes in
    let b = c.self.inside.lasting in
    let n = c.path.inside.0.0.number in
    let x : VarId = record { number = n; lasting = b } in
    let i = c.plain_of-plain.result in
    let fs = facts_in_tree b m in
    let q = c.args.path.now in
    let root = path_along x [] in
    let lacks = c.lacks_shape.ensures c.if-lacks_shape.true in
    let kept : (p : Path) → p.var.lasting ≡ b → kept_shape fs p ≡ shape_found (nodes_in m) (node_from (edges_in m) (way_of p) 0)
    = kept_is b (edges_in m) (nodes_in m) c.self.invariant.1.rooted c.count-count.ensures.unique (length_nodes m) in
    let open_there : whole (suc (suc d)) fs root ≡ open_at (item_path root i)
    = open_first fs root i (counts_plain (get nat_eq c.self.inside.lists) n i b fs c.plain_of-plain.ensures c.self.invariant.4)
    (kept (path_along x (i ∷ [])) refl ∙ lacks.none) d lacks.count (kept root refl ∙ lacks.list) lacks.within in
    let var_is : q.var ≡ x = sym (ap (λ (p : Path). p.var) c.path.view_is) ∙ ap (λ t. record { number = n; lasting = t }) (beq_same _ _ (not_false _ c.if-path-self.false)) in
    let test = sym c.is_empty.ensures ∙ c.if-not-is_empty.false in
    let at = c.as_slice.ensures.value ∙ ap (λ (p : Path). p.at) c.path.view_is in
    let none : q.at ≡ [] = sym at ∙ no_items _ ((Decides-eqb _ 0).0 test) in
    let is_root : q ≡ root = ap₂ path_along var_is none in
    let W : List Fact → Path → ℕ → Type 0 = λ gs p j. whole (suc (suc d)) gs p ≡ open_at (item_path p j) in
    let same : i ≡ k = cc e in
    let S : FactsOfKind → Type 0 = λ o. W o.facts root i in
    subst (W c.args.self.now.facts q) same (subst (λ p. W c.args.self.now.facts p i) (sym is_root) (subst S c.self.view_is open_there))
