use Rattle.std.proofs.Common.{◌≡◌, ◌∙◌, [], map, ap}
use Rattle.std.proofs.lemmas.Result.{IfOk-weaker}
use Rattle.tp_kernel.specs.Read.{formula_tree, binding_of, bindings_of}
use Rattle.tp_decide.specs.declared.bound_formula.BoundFormula.{BoundFormula}
use Rattle.tp_decide.specs.ReadBound.{formula_of, env_of}
use Rattle.tp_slots.specs.Reductions.{begins_with}
use Rattle.tp_step.proofs.MeaningLemmas.{begins, begins_sound}
use Rattle.tp_step.proofs.first.start.Goals as goal

pub returns-clause-scene : goal.returns-clause-scene
returns-clause-scene c =
    let a : BoundFormula = record { what = c.in_ok-what.what; env = c.in_ok-env.env } in
    let main = formula_tree c.args.main.now.value in
    let same : formula_of a ≡ main = ap formula_tree c.in_ok-what.ensures.cases in
    let plain : env_of a ≡ [] = ap bindings_of c.in_ok-env.ensures.ok ∙ ap (λ bs. map binding_of bs) c.new.ensures.items in
    IfOk-weaker c.start.result _ _ (λ scene is. is ∙ ap (λ f. begins_with f (env_of a)) same ∙ ap (begins_with main) plain) c.start.ensures.scene

pub returns-clause-means : goal.returns-clause-means
returns-clause-means c = IfOk-weaker c.start.result _ _ (begins (formula_tree c.args.main.now.value)) (returns-clause-scene c)

pub returns-clause-sound : goal.returns-clause-sound
returns-clause-sound c = IfOk-weaker c.start.result _ _ (begins_sound (formula_tree c.args.main.now.value)) (returns-clause-scene c)
