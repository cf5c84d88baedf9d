use Rattle.std.proofs.Common.{◌∙◌, Result, ap, ap₂, sym, subst}
use Rattle.tp_kernel.specs.declared.formula.Env.{Env}
use Rattle.tp_kernel.specs.Read.{expr_trees, formula_tree, bindings_of, definitions_of}
use Rattle.tp_scene.specs.Scene as S
use Rattle.tp_scene.specs.Step as row
use Rattle.tp_decide.specs.declared.decision.Decision.{Decision}
use Rattle.tp_decide.specs.Found.{AllBoundIn}
use Rattle.tp_decide.proofs.calls.unfold.Goals as goal

pub returns-in_ok-env-in-Ok-clause-outcome : goal.returns-in_ok-env-in-Ok-clause-outcome
returns-in_ok-env-in-Ok-clause-outcome c = λ facts n.
    let defs = definitions_of c.args.setting.now.defs.now in
    let arguments = row.with_arguments defs c.args.store.now.facts (expr_trees c.args.exprs.now) c.args.def.now.parameters (bindings_of c.args.env.now) in
    let bound = subst (λ (r : Result Env Decision). AllBoundIn arguments r) c.in-Ok.is c.in_ok-bound.ensures.bound in
    c.becomes_one.ensures.outcome facts n
    ∙ ap₂ (λ f env. row.becomes (S.leaf (n.item 0) (S.Do f env) S.none) 1) (ap formula_tree c.in_ok-what-in-Ok.ensures.cases) (ap bindings_of c.in_ok-env-in-Ok.ensures.ok)
    ∙ sym (bound (λ args. row.becomes (S.leaf (n.item 0) (S.Do (formula_tree c.args.def.now.formula.value) args) S.none) 1))
