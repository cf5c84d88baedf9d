use Rattle.std.proofs.Common.{◌∙◌, Option, ap, sym}
use Rattle.std.proofs.lemmas.Result.{IfOk-weaker}
use Rattle.std.specs.Option.{option_map}
use Rattle.tp_meaning.specs.Syntax.{Definition}
use Rattle.tp_kernel.specs.Read.{expr_trees, bindings_of, definition_of, definitions_of}
use Rattle.tp_scene.specs.Step as row
use Rattle.tp_decide.proofs.calls.decide_call.Goals as goal

pub unfold-requires : goal.unfold-requires
unfold-requires c = c.requires (definition_of c.in-Some.def.now) (sym (ap (option_map (λ def. definition_of def.now)) (sym c.in-Some.is) ∙ c.definition.ensures))

pub returns-in-Some-clause-outcome : goal.returns-in-Some-clause-outcome
returns-in-Some-clause-outcome c =
    IfOk-weaker c.unfold.result _ _
    (λ decision is. λ facts n. is facts n
    ∙ ap (λ (o : Option Definition). row.called (definitions_of c.args.setting.now.defs.now) c.args.store.now.facts o (expr_trees c.args.exprs.now) (bindings_of c.args.env.now) n)
    (ap (option_map (λ def. definition_of def.now)) (sym c.in-Some.is) ∙ c.definition.ensures))
    c.unfold.ensures.outcome

pub returns-in-None-clause-outcome : goal.returns-in-None-clause-outcome
returns-in-None-clause-outcome c = λ facts n.
    c.no_element.ensures.outcome facts n
    ∙ ap (λ (o : Option Definition). row.called (definitions_of c.args.setting.now.defs.now) c.args.store.now.facts o (expr_trees c.args.exprs.now) (bindings_of c.args.env.now) n)
    (ap (option_map (λ def. definition_of def.now)) (sym c.in-None.is) ∙ c.definition.ensures)
