use Rattle.std.proofs.Common.{refl, ap, sym, ◌∙◌, List, map}
use Rattle.std.proofs.lemmas.Slice.Zip.{Zip-more}
use Rattle.tp_tree.specs.declared.phrase.Definition.{Definition}
use Rattle.tp_tree.specs.Read.{definition_tree}
use Rattle.tp_scope.specs.Names.{names_with, names_in_bodies}
use Rattle.tp_check.proofs.Headings.{same_parts, scope_of_body, one_body_more}
use Rattle.tp_check.proofs.definitions.add_names_in_bodies.Goals as goal

pub loop-definition-preserved : goal.loop-definition-preserved
loop-definition-preserved c =
    let step = Zip-more c.loop-definition.definition-iterator c.next.new.self c.next.result (c.in-Some.definition, c.in-Some.binders) c.in-Some.is c.next.ensures.steps in
    let d : Definition = c.in-Some.definition.now in
    let ds : List Definition = c.next.new.self.a.rest.now in
    let parts = same_parts c.in-Some.binders.now d.parameters _ _ (sym step.1 ∙ (c.loop-definition.invariant.parameters ∙ ap (map (λ (d : Definition). d.parameters)) step.0)) in
    record {
      parameters = parts.1;
      names = one_body_more c.loop-definition.globals c.add_names.new.globals _ (definition_tree d) (map definition_tree ds) (scope_of_body c.in-Some.binders _ d.parameters refl parts.0) c.in_ok-add_names.ensures
          ∙ (ap (λ (ds : List Definition). names_with c.loop-definition.globals (names_in_bodies (map definition_tree ds))) (sym step.0) ∙ c.loop-definition.invariant.names);
    }
