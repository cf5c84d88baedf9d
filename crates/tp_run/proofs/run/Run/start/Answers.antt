use Rattle.std.proofs.Common.{◌≡◌, ap₂, sym, subst, arith, refl}
use Rattle.tp_check.specs.Read.{program_tree}
use Rattle.tp_inputs.specs.Read.{inputs_of}
use Rattle.tp_store.specs.Known.{Contents}
use Rattle.tp_scene.specs.Scene.{Scene}
use Rattle.tp_scene.specs.Pick.{Moment}
use Rattle.tp_run.specs.History.{Plan, plan_with}
use Rattle.tp_run.specs.Standing.{open_at}
use Rattle.tp_run.specs.Meaning.{StandsForItsProgram}
use Rattle.tp_run.specs.Runs.{StandsOrderly}
use Rattle.tp_run.proofs.OneState.{first_orderly}
use Rattle.tp_run.proofs.Becomes.{begins}
use Rattle.tp_run.proofs.run.Run.start.Goals as goal

-- a scene with a store
abbrev moment : Scene → Contents → Moment
moment scene store = record { scene = scene; store = store }

same_moment : (s t : Scene) (k l : Contents) → s ≡ t → k ≡ l → moment s k ≡ moment t l
same_moment s t k l = ap₂ moment

pub returns-clause-plan : goal.returns-clause-plan
returns-clause-plan c =
    let plan : Plan = plan_with (program_tree c.args.program) (inputs_of c.args.inputs) c.args.limits.states c.args.limits.reductions in
    let first = same_moment _ _ _ _ c.in_ok-scene.ensures.scene c.in_ok-store.ensures in
    record {
      program = refl;
      inputs = refl;
      states = refl;
      reductions = refl;
      within = omega arith;
      orderly = subst (λ (m : Moment). StandsOrderly plan 0 (open_at m)) (sym first) (first_orderly plan c.requires.fits c.args.inputs.within);
      kept = c.in_ok-scene.ensures.kept;
      named = tt;
    }

pub returns-clause-stands : goal.returns-clause-stands
returns-clause-stands c =
    let plan : Plan = plan_with (program_tree c.args.program) (inputs_of c.args.inputs) c.args.limits.states c.args.limits.reductions in
    let first = same_moment _ _ _ _ c.in_ok-scene.ensures.scene c.in_ok-store.ensures in
    subst (λ (m : Moment). StandsForItsProgram plan (open_at m)) (sym first) (begins plan c.requires.fits)
