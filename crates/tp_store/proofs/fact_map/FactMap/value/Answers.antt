use Rattle.std.proofs.Common.{◌≡◌, [], Some, sym, ◌∙◌, ap, subst}
use Rattle.std.specs.Option.{option_copied}
use Rattle.tp_value.specs.declared.path.VarId.{VarId}
use Rattle.tp_value.specs.Read.{tree}
use Rattle.tp_store.specs.Known.{full, value}
use Rattle.tp_store.specs.FactMap.{FactsOfKind}
use Rattle.tp_store.specs.Nodes.{facts_in_tree, path_along}
use Rattle.tp_store.specs.KeptValue.{IsSaid}
use Rattle.tp_store.proofs.EntryLemmas.{beq_same}
use Rattle.tp_store.proofs.Clashes.{not_false}
use Rattle.tp_store.proofs.Values.{value_known}
use Rattle.tp_store.proofs.fact_map.FactMap.value.Goals as goal

pub returns-in-Some : goal.returns-in-Some
returns-in-Some c = λ v e.
    let b = c.self.inside.lasting in
    let n = c.args.var.number in
    let fs = facts_in_tree b c.self.inside.nodes in
    let x : VarId = record { number = n; lasting = b } in
    let is : c.in-Some.kept.now.value ≡ Some v = sym c.as_ref.ensures.value ∙ e in
    let found = sym c.kept_of.ensures ∙ ap option_copied c.in-Some.is in
    let said = subst (λ o. IsSaid o x fs) is (c.self.invariant.4 n c.in-Some.kept.now found).said in
    let known : full fs (path_along x []) ≡ value (tree v.value) = value_known fs x (tree v.value) said.0 said.1 in
    let var_is : c.args.var ≡ x = ap (λ k. record { number = n; lasting = k }) (beq_same _ _ (not_false _ c.if-var-self.false)) in
    ap (λ y. full c.args.self.now.facts (path_along y [])) var_is ∙ ap (λ (m : FactsOfKind). full m.facts (path_along x [])) (sym c.self.view_is) ∙ known
