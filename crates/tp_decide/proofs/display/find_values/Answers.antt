use Rattle.std.proofs.Common.{◌∙◌, ◌+◌, ◌≤◌, ◌++◌, ◌∷◌, List, Result, map, length, get_or, ap, sym, subst, arith}
use Rattle.tp_value.specs.Read.{tree}
use Rattle.tp_value.specs.declared.value.Value.{Value}
use Rattle.tp_kernel.specs.Read.{expr_tree, definitions_of, bindings_of}
use Rattle.tp_kernel.specs.Equations.{expr_trees_is}
use Rattle.tp_eval.specs.Outcome.{outcome}
use Rattle.tp_eval.proofs.Levels.{rest}
use Rattle.tp_decide.specs.declared.decision.Decision.{Decision}
use Rattle.tp_decide.specs.Found.{ValueIn}
use Rattle.tp_decide.proofs.DisplayLemmas.{values_then, values_after, value_first, value_pushed, value_last}
use Rattle.tp_decide.proofs.display.find_values.Goals as goal

pub loop-expr-init : goal.loop-expr-init
loop-expr-init c = λ f.
    let facts = c.args.store.now.facts in
    let defs = definitions_of c.args.setting.now.defs.now in
    let env = bindings_of c.args.env.now in
    ap (λ (vs : List Value). values_after facts defs env (map tree vs) (rest c.args.exprs.now.items.items 0) f) c.new-items.ensures.items
    ∙ ap (λ es. values_then facts defs env es f) (sym (expr_trees_is c.args.exprs.now))

pub loop-expr-preserved : goal.loop-expr-preserved
loop-expr-preserved c = λ f.
    let facts = c.args.store.now.facts in
    let defs = definitions_of c.args.setting.now.defs.now in
    let env = bindings_of c.args.env.now in
    let found = subst (λ (r : Result Value Decision). ValueIn (outcome facts defs (expr_tree c.expr-item.result) env) r) c.in-Ok.is c.in_ok-value.ensures.found in
    value_pushed facts defs env c.args.exprs.now.items.items c.loop-expr.expr-index c.expr-item.result c.in-Ok.value c.loop-expr.items.items _
    (omega (arith, ap length c.deref-expr-items.ensures.value, c.loop-expr-test.true))
    (c.expr-item.is ∙ ap (λ xs. get_or xs c.loop-expr.expr-index c.expr-item.result) c.deref-expr-items.ensures.value)
    found c.in_ok-push-in-Ok.ensures.items f
    ∙ c.loop-expr.invariant f

pub returns-in-Err-clause-found : goal.returns-in-Err-clause-found
returns-in-Err-clause-found c = λ f known n.
    let facts = c.args.store.now.facts in
    let defs = definitions_of c.args.setting.now.defs.now in
    let env = bindings_of c.args.env.now in
    let found = subst (λ (r : Result Value Decision). ValueIn (outcome facts defs (expr_tree c.expr-item.result) env) r) c.in-Err.is c.in_ok-value.ensures.found in
    let es = c.args.exprs.now.items.items in
    let i = c.loop-expr.expr-index in
    let done = map tree c.loop-expr.items.items in
    let first = value_first facts defs env es i c.expr-item.result done (omega (arith, ap length c.deref-expr-items.ensures.value, c.loop-expr-test.true))
    (c.expr-item.is ∙ ap (λ xs. get_or xs i c.expr-item.result) c.deref-expr-items.ensures.value) f in
    found (λ v. values_then facts defs env (rest es (i + 1)) (λ vs. f (done ++ v ∷ vs))) known n ∙ sym first ∙ c.loop-expr.invariant f

pub returns-clause-found : goal.returns-clause-found
returns-clause-found c = λ f.
    let facts = c.args.store.now.facts in
    let defs = definitions_of c.args.setting.now.defs.now in
    let env = bindings_of c.args.env.now in
    let es = c.args.exprs.now.items.items in
    let i = c.loop-expr.expr-index in
    let done = map tree c.loop-expr.items.items in
    let all : length es ≤ i = omega (arith, ap length c.deref-expr-items.ensures.value, c.loop-expr-test.false) in
    sym (c.loop-expr.invariant f) ∙ value_last facts defs env es i done all f
