use Rattle.std.proofs.Common.{refl, ap, ap₂, subst, sym, ◌∙◌, ◌≡◌, ◌+◌, ◌++◌, ◌∷◌, [], ℕ, List, false, map, drop, bytes_eq}
use Rattle.std.specs.List.{list_any}
use Rattle.std.proofs.lemmas.Result.{err_from_is_err_and}
use Rattle.tp_tree.specs.declared.phrase.Definition.{Definition}
use Rattle.tp_tree.specs.Read.{definition_tree}
use Rattle.tp_scope.specs.Scope.{Names}
use Rattle.tp_scope.specs.Names.{AreApart, twice_defined}
use Rattle.tp_check.proofs.Headings.{next_is, one_more_mapped, apart_more, apart_is, not_twice, is_twice}
use Rattle.tp_check.proofs.definitions.find_headings.Goals as goal

pub returns-in_err-push : goal.returns-in_err-push
returns-in_err-push c =
    let p = err_from_is_err_and c.from_residual-in_err-push.result c.from_residual-in_err-push.ensures.1 in
    rw (p.1, p.2) (λ q. absurd (q refl))

pub returns-in_err-own : goal.returns-in_err-own
returns-in_err-own c =
    let p = err_from_is_err_and c.from_residual.result c.from_residual.ensures.1 in
    let ds : List Definition = c.deref-definition-items.result.now in
    let d : Definition = c.definition-item.result in
    let i : ℕ = c.loop-definition.definition-index in
    let before : Names = c.loop-definition.names in
    rw (p.1, p.2) (λ q. (
      d.at,
      ap (λ (ds : List Definition). twice_defined [] (map definition_tree ds)) (sym c.deref-definition-items.ensures.value)
          ∙ (c.loop-definition.invariant.twice ∙ (ap (λ (ds : List Definition). twice_defined before (map definition_tree ds)) (next_is ds i d c.loop-definition-test.true c.definition-item.is)
          ∙ is_twice before (definition_tree d) (map definition_tree (drop (i + 1) ds)) (c.in_err-own.ensures q).0)),
      (c.in_err-own.ensures q).1,
    ))

pub loop-definition-preserved : goal.loop-definition-preserved
loop-definition-preserved c =
    let ds : List Definition = c.deref-definition-items.result.now in
    let d : Definition = c.definition-item.result in
    let i : ℕ = c.loop-definition.definition-index in
    let before : Names = c.loop-definition.names in
    let after : Names = c.add.new.self in
    let within = c.loop-definition-test.true in
    let other : list_any (bytes_eq d.name) before ≡ false = c.in_ok-own.ensures.0 in
    let parts = apart_is d.parameters c.in_ok-own.own c.in_ok-own.ensures.1 in
    let added : after ≡ before ++ d.name ∷ [] = c.in_ok-add.ensures.ok in
    record {
      names = added ∙ (ap (λ (xs : Names). xs ++ d.name ∷ []) c.loop-definition.invariant.names ∙ sym (one_more_mapped (λ (d : Definition). d.name) ds i d within c.definition-item.is));
      apart = subst AreApart (sym added) (apart_more before d.name c.loop-definition.invariant.apart other);
      parameters = c.in_ok-push.ensures.items ∙ (ap₂ (λ (xs : List Names) (x : Names). xs ++ x ∷ []) c.loop-definition.invariant.parameters (sym parts.1) ∙ sym (one_more_mapped (λ (d : Definition). d.parameters) ds i d within c.definition-item.is));
      twice = c.loop-definition.invariant.twice ∙ (ap (λ (ds : List Definition). twice_defined before (map definition_tree ds)) (next_is ds i d within c.definition-item.is)
          ∙ not_twice before after (definition_tree d) (map definition_tree (drop (i + 1) ds)) other parts.0 added);
    }
