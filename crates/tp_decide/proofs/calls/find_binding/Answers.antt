use Rattle.std.proofs.Common.{◌≡◌, Bool, false, Some, ◌∙◌, ap, sym, subst, if◌then◌else◌}
use Rattle.std.proofs.lemmas.Result.{IfOk-weaker}
use Rattle.std.specs.Option.{option_map, option_copied}
use Rattle.tp_value.specs.Read.{tree}
use Rattle.tp_meaning.specs.Syntax.{known_binding}
use Rattle.tp_meaning.specs.Value.{is_upper}
use Rattle.tp_kernel.specs.Read.{expr_tree, bindings_of, definitions_of}
use Rattle.tp_eval.specs.Outcome.{outcome, place_outcome}
use Rattle.tp_scene.specs.Step as row
use Rattle.tp_decide.specs.Found.{BoundIn}
use Rattle.tp_eval.specs.Operand.{bound_value}
use Rattle.tp_decide.proofs.CallLemmas.{argument_shared, argument_kept}
use Rattle.tp_decide.proofs.calls.find_binding.Goals as goal

pub returns-in-Some-clause-bound : goal.returns-in-Some-clause-bound
returns-in-Some-clause-bound c = λ f.
    let e = expr_tree c.args.expr.now in
    let env = bindings_of c.args.env.now in
    let t = tree c.in_ok-value.value.value in
    let there : bound_value e env ≡ Some t = sym c.bound_value.ensures ∙ ap (option_map (λ v. tree v.now.value)) c.in-Some.is ∙ ap (λ v. Some (tree v)) (sym c.in_ok-value.ensures.cases) in
    argument_shared c.args.store.now.facts (definitions_of c.args.setting.now.defs.now) env c.args.parameter.now e t there f

pub returns-in_ok-found-clause-bound : goal.returns-in_ok-found-clause-bound
returns-in_ok-found-clause-bound c =
    let facts = c.args.store.now.facts in
    let defs = definitions_of c.args.setting.now.defs.now in
    let e = expr_tree c.args.expr.now in
    let env = bindings_of c.args.env.now in
    let lower : is_upper c.args.parameter.now ≡ false = sym c.is_upper.ensures ∙ c.if-is_upper.false in
    IfOk-weaker c.known.result _ _
    (λ bound is. subst
    (λ (upper : Bool). BoundIn (λ f. if upper then row.with_place (place_outcome facts defs e env) f else row.with_value (outcome facts defs e env) (λ v. f (known_binding v))) bound)
    (sym lower) (is (outcome facts defs e env) c.in_ok-found.ensures.found))
    c.known.ensures.bound

pub returns-in_ok-value-2-clause-bound : goal.returns-in_ok-value-2-clause-bound
returns-in_ok-value-2-clause-bound c = λ f.
    let e = expr_tree c.args.expr.now in
    let env = bindings_of c.args.env.now in
    let kept = c.in-Some-kept_value.value.now in
    let lower : is_upper c.args.parameter.now ≡ false = sym c.is_upper.ensures ∙ c.if-is_upper.false in
    let named = c.kept_value.ensures kept (ap option_copied c.in-Some-kept_value.is) in
    argument_kept c.args.store.now.facts (definitions_of c.args.setting.now.defs.now) env c.args.parameter.now e (tree kept.value) lower named f
    ∙ ap (λ v. f (known_binding (tree v))) (sym c.in_ok-value-2.ensures.cases)
