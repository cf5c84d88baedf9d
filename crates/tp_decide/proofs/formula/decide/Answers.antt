use Rattle.std.specs.Prelude.{◌-◌, if◌then◌else◌}
use Rattle.std.proofs.Common.{◌≡◌, refl, ◌∙◌, Some, slice_get, length, to_z, of_z, arith, ap, sym, subst}
use Rattle.std.proofs.lemmas.Int.{ints}
use Rattle.tp_value.specs.Number.{number_width}
use Rattle.tp_kernel.specs.declared.formula.Env.{Env}
use Rattle.tp_kernel.specs.Read.{expr_tree, expr_trees, formula_tree, bindings_of, definitions_of}
use Rattle.tp_kernel.specs.Equations.{formula_next_eq, formula_if, formula_assign, formula_for, formula_forall, formula_call}
use Rattle.tp_meaning.specs.Syntax.{Definition, FormulaTree, known, equation, always, if_empty}
use Rattle.tp_meaning.specs.Fits.{AreArguments, FormulaFits}
use Rattle.tp_meaning.specs.Nexts.{nexts}
use Rattle.tp_inputs.specs.Read.{inputs_of}
use Rattle.tp_eval.specs.Outcome.{outcome}
use Rattle.tp_scene.specs.Scene as S
use Rattle.tp_scene.specs.Step as row
use Rattle.tp_decide.specs.ReadBound.{formula_of, env_of}
use Rattle.tp_decide.specs.Decided.{plain_place}
use Rattle.tp_decide.proofs.CallLemmas.{arguments_are_places}
use Rattle.tp_decide.proofs.FormulaLemmas.{evaluated_row, counted_same, decided_row}
use Rattle.tp_decide.proofs.formula.decide.Goals as goal

pub returns-in-True-clause-variables : goal.returns-in-True-clause-variables
returns-in-True-clause-variables c = c.nothing.ensures.plain c.args.store.now.variables

pub returns-in_ok-found-in-Test-clause-variables : goal.returns-in_ok-found-in-Test-clause-variables
returns-in_ok-found-in-Test-clause-variables c = c.decide_test.ensures.plain c.args.store.now.variables

pub returns-in-Empty-clause-variables : goal.returns-in-Empty-clause-variables
returns-in-Empty-clause-variables c = c.end.ensures.plain c.args.store.now.variables

pub returns-in-More-clause-variables : goal.returns-in-More-clause-variables
returns-in-More-clause-variables c = c.go.ensures.plain c.args.store.now.variables

pub returns-in_ok-found-in-NextEq-clause-outcome : goal.returns-in_ok-found-in-NextEq-clause-outcome
returns-in_ok-found-in-NextEq-clause-outcome c =
    evaluated_row c.args.store.now.facts (definitions_of c.args.setting.now.defs.now) (inputs_of c.args.setting.now.inputs.now) c.args.setting.now.state c.args.bound.now (plain_place c.args.place) c.decide_next_equation.result
    (λ o n. row.with_value o (λ v. row.going (plain_place c.args.place) (S.leaf (n.item 0) (S.Later (nexts (c.in-NextEq.k - 1) (equation (expr_tree c.in-NextEq.t.value) (known v))) (env_of c.args.bound.now)) S.none) 1)) _
    _ c.in-NextEq.e.value _ _ c.deref-in-NextEq.ensures c.deref-in-NextEq-2.ensures c.in_ok-found-in-NextEq.ensures (ap formula_tree (sym c.deref.ensures ∙ c.in-NextEq.is) ∙ formula_next_eq c.in-NextEq.k c.in-NextEq.t c.in-NextEq.e)
    (λ n. refl) c.decide_next_equation.ensures.outcome

pub returns-in_ok-found-in-If-clause-outcome : goal.returns-in_ok-found-in-If-clause-outcome
returns-in_ok-found-in-If-clause-outcome c =
    evaluated_row c.args.store.now.facts (definitions_of c.args.setting.now.defs.now) (inputs_of c.args.setting.now.inputs.now) c.args.setting.now.state c.args.bound.now (plain_place c.args.place) c.decide_branch.result
    (λ o n. row.with_truth o (λ b. row.becomes (S.leaf (n.item 0) (S.Do (if b then formula_tree c.in-If.yes.value else formula_tree c.in-If.no.value) (env_of c.args.bound.now)) S.none) 1)) _
    _ c.in-If.b.value _ _ c.deref-in-If.ensures c.deref-in-If-2.ensures c.in_ok-found-in-If.ensures (ap formula_tree (sym c.deref.ensures ∙ c.in-If.is) ∙ formula_if c.in-If.b c.in-If.yes c.in-If.no)
    (λ n. refl) c.decide_branch.ensures.outcome

pub returns-in_ok-found-in-Assign-clause-outcome : goal.returns-in_ok-found-in-Assign-clause-outcome
returns-in_ok-found-in-Assign-clause-outcome c =
    evaluated_row c.args.store.now.facts (definitions_of c.args.setting.now.defs.now) (inputs_of c.args.setting.now.inputs.now) c.args.setting.now.state c.args.bound.now (plain_place c.args.place) c.decide_assign.result
    (λ o n. row.with_value o (λ v. row.becomes (S.leaf (n.item 0) (S.Do (always (if_empty (equation (expr_tree c.in-Assign.t.value) (known v)))) (env_of c.args.bound.now)) S.none) 1)) _
    _ c.in-Assign.e.value _ _ c.deref-in-Assign.ensures c.deref-in-Assign-2.ensures c.in_ok-found-in-Assign.ensures (ap formula_tree (sym c.deref.ensures ∙ c.in-Assign.is) ∙ formula_assign c.in-Assign.t c.in-Assign.e)
    (λ n. refl) c.decide_assign.ensures.outcome

pub returns-in_ok-body-in-For-clause-outcome : goal.returns-in_ok-body-in-For-clause-outcome
returns-in_ok-body-in-For-clause-outcome c =
    let k = to_z number_width (of_z number_width c.in-For.from) in
    evaluated_row c.args.store.now.facts (definitions_of c.args.setting.now.defs.now) (inputs_of c.args.setting.now.inputs.now) c.args.setting.now.state c.args.bound.now (plain_place c.args.place) c.decide_turns.result
    (λ o n. row.with_number o (λ m. row.turns c.in-For.name k m (formula_of c.in_ok-body-in-For.body) (env_of c.in_ok-body-in-For.body) (plain_place c.args.place) n)) _
    _ c.in-For.to.value _ _ c.deref-in-For.ensures c.deref-in-For-2.ensures c.in_ok-found-in-For.ensures (ap formula_tree (sym c.deref.ensures ∙ c.in-For.is) ∙ formula_for c.in-For.name c.in-For.from c.in-For.to c.in-For.body)
    (λ n. counted_same (λ i f bs. row.with_number (outcome c.args.store.now.facts (definitions_of c.args.setting.now.defs.now) (expr_tree c.in-For.to.value) (env_of c.args.bound.now)) (λ m. row.turns c.in-For.name i m f bs (plain_place c.args.place) n))
    k c.in-For.from _ _ _ _ (omega (arith, ints)) c.in_ok-body-in-For.ensures.formula c.in_ok-body-in-For.ensures.bindings) c.decide_turns.ensures.outcome

pub returns-in_ok-body-in-Forall-clause-outcome : goal.returns-in_ok-body-in-Forall-clause-outcome
returns-in_ok-body-in-Forall-clause-outcome c =
    let k = to_z number_width (of_z number_width c.in-Forall.from) in
    evaluated_row c.args.store.now.facts (definitions_of c.args.setting.now.defs.now) (inputs_of c.args.setting.now.inputs.now) c.args.setting.now.state c.args.bound.now (plain_place c.args.place) c.decide_instances.result
    (λ o n. row.with_number o (λ m. row.instances c.in-Forall.name k m (formula_of c.in_ok-body-in-Forall.body) (env_of c.in_ok-body-in-Forall.body) n)) _
    _ c.in-Forall.to.value _ _ c.deref-in-Forall.ensures c.deref-in-Forall-2.ensures c.in_ok-found-in-Forall.ensures (ap formula_tree (sym c.deref.ensures ∙ c.in-Forall.is) ∙ formula_forall c.in-Forall.name c.in-Forall.from c.in-Forall.to c.in-Forall.body)
    (λ n. counted_same (λ i f bs. row.with_number (outcome c.args.store.now.facts (definitions_of c.args.setting.now.defs.now) (expr_tree c.in-Forall.to.value) (env_of c.args.bound.now)) (λ m. row.instances c.in-Forall.name i m f bs n))
    k c.in-Forall.from _ _ _ _ (omega (arith, ints)) c.in_ok-body-in-Forall.ensures.formula c.in_ok-body-in-Forall.ensures.bindings) c.decide_instances.ensures.outcome

pub decide_call-requires : goal.decide_call-requires
decide_call-requires c = λ called is.
    let defs = definitions_of c.args.setting.now.defs.now in
    let es = expr_trees c.in-Call.exprs in
    let fits = c.requires.fits in
    let whole = ap formula_tree (sym c.deref.ensures ∙ c.in-Call.is) ∙ formula_call c.in-Call.number c.in-Call.exprs in
    let h = subst (λ (f : FormulaTree). FormulaFits defs fits.kinds f (length (env_of c.args.bound.now))) whole fits.bound.0 in
    let same : h.0 ≡ called = (let p : slice_get defs c.in-Call.number ≡ Some h.0 = h.1 in cc) in
    arguments_are_places es called.parameters (subst (λ (d : Definition). AreArguments es d.parameters) same h.2)

pub returns-in-Call-clause-outcome : goal.returns-in-Call-clause-outcome
returns-in-Call-clause-outcome c =
    let facts = c.args.store.now.facts in
    let defs = definitions_of c.args.setting.now.defs.now in
    let env = env_of c.args.bound.now in
    let place = plain_place c.args.place in
    let step = row.formula_step defs (inputs_of c.args.setting.now.inputs.now) c.args.setting.now.state facts in
    let called : Env → row.Numbers → row.PickOutcome = λ v n. row.called defs facts (slice_get defs c.in-Call.number) (expr_trees c.in-Call.exprs) (bindings_of v) n in
    let whole = ap formula_tree (sym c.deref.ensures ∙ c.in-Call.is) ∙ formula_call c.in-Call.number c.in-Call.exprs in
    decided_row facts c.decide_call.result (called c.deref-in-Call.result.now) (λ n. step (formula_of c.args.bound.now) env place n)
    (λ n. ap (λ (v : Env). called v n) c.deref-in-Call.ensures ∙ ap (λ f. step f env place n) (sym whole)) c.decide_call.ensures.outcome
