use Rattle.std.proofs.Common.{◌++◌, List, ap, sym, ◌∙◌, subst, Some}
use Rattle.std.specs.Option.{option_copied}
use Rattle.tp_store.specs.Known.{NoClash, first_clash}
use Rattle.tp_value.specs.declared.path.Fact.{Fact}
use Rattle.tp_store.specs.declared.copies.AskedVariables.TheVariants.{Of}
use Rattle.tp_store.specs.FactMap.{FactsOfKind, facts_asked}
use Rattle.tp_store.specs.Nodes.{facts_in_tree}
use Rattle.tp_store.proofs.Clashes.{first_of_variable}
use Rattle.tp_store.proofs.fact_map.FactMap.first_clash.Goals as goal

pub returns-in_default : goal.returns-in_default
returns-in_default c =
    let N : FactsOfKind → Type 0 = λ m. NoClash m.facts in
    let of : List Fact → List Fact = facts_asked (Of c.args.fact.now.path.var.number) in
    let kept = facts_in_tree c.self.inside.lasting c.self.inside.nodes in
    let items = c.as_slice.ensures.value ∙ c.in_ok-copy_facts.ensures ∙ ap (λ (xs : List Fact). xs ++ of kept) c.new-facts.ensures.items ∙ ap (λ (m : FactsOfKind). of m.facts) c.self.view_is in
    sym (ap option_copied c.in_default.is) ∙ c.find_clash.ensures ∙ ap (λ fs. first_clash fs c.args.fact.now) items
    ∙ first_of_variable c.args.self.now.facts c.args.fact.now (subst N c.self.view_is c.self.invariant.0)

pub returns : goal.returns
returns c =
    let N : FactsOfKind → Type 0 = λ m. NoClash m.facts in
    let of : List Fact → List Fact = facts_asked (Of c.args.fact.now.path.var.number) in
    let kept = facts_in_tree c.self.inside.lasting c.self.inside.nodes in
    let items = c.as_slice.ensures.value ∙ c.in_ok-copy_facts.ensures ∙ ap (λ (xs : List Fact). xs ++ of kept) c.new-facts.ensures.items ∙ ap (λ (m : FactsOfKind). of m.facts) c.self.view_is in
    ap Some c.in_ok-first.ensures ∙ sym (ap option_copied c.in-Some.is) ∙ c.find_clash.ensures ∙ ap (λ fs. first_clash fs c.args.fact.now) items
    ∙ first_of_variable c.args.self.now.facts c.args.fact.now (subst N c.self.view_is c.self.invariant.0)
