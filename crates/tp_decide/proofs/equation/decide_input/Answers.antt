use Rattle.std.proofs.Common.{◌∙◌, ap, ap₂, sym, subst, Option}
use Rattle.tp_value.specs.Tree.{Tree}
use Rattle.tp_kernel.specs.Read.{expr_tree, definitions_of, bindings_of}
use Rattle.tp_scene.specs.Step as row
use Rattle.tp_decide.specs.declared.sides.Target.{Target}
use Rattle.tp_decide.specs.Fits.{IsTargetOf}
use Rattle.tp_decide.proofs.equation.decide_input.Goals as goal

pub returns-in_ok-right-in-Some-clause-outcome : goal.returns-in_ok-right-in-Some-clause-outcome
returns-in_ok-right-in-Some-clause-outcome c = λ n.
    let defs = definitions_of c.args.setting.now.defs.now in
    let facts = c.args.store.now.facts in
    let side = row.side_of defs facts (expr_tree c.args.expr.now) (bindings_of c.args.env.now) in
    c.equate_values.ensures.outcome facts n ∙ ap₂ (row.equate_values facts) c.in_ok-left-in-Some.ensures.outcome c.in_ok-right-in-Some.ensures.outcome
    ∙ ap (λ (o : Option Tree). row.from_port facts o c.args.port.now side) c.in-Some.ensures.value

pub returns-in_ok-right-in-Some-clause-variables : goal.returns-in_ok-right-in-Some-clause-variables
returns-in_ok-right-in-Some-clause-variables c =
    let xs = c.args.store.now.variables in
    c.equate_values.ensures.variables xs c.in_ok-left-in-Some.ensures.variables (subst (λ (t : Option Target). IsTargetOf xs t) (sym c.in_ok-right-in-Some.ensures.variables) tt)
