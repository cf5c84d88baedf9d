-- The laws of scenes and of stores, as whole runs need them.
use Rattle.tp_meaning.specs.Interval.{kinds_of}
use Rattle.tp_meaning.specs.Fits.{ProgramFits}
use Rattle.tp_store.proofs.States.{same_shapes_same_store, no_clash_arises}
use Rattle.tp_store.proofs.Chosen.{has_agreeing_state, lasting_extends}
use Rattle.tp_scene.proofs.StepLaws.{steps_keep, refusals_mean}
use Rattle.tp_scene.proofs.StepsFit.{steps_fit}
use Rattle.tp_scene.proofs.EndLaws.{all_ends_stand, all_advances_keep}
use Rattle.tp_scene.proofs.AdvancesFit.{advances_fit}
use Rattle.tp_scene.proofs.Begin.{runs_begin}
use Rattle.tp_scene.specs.Beginning.{first_moment}
use Rattle.tp_scene.specs.Laws.{IsSound}
use Rattle.tp_run.specs.History.{Plan, setting}
use Rattle.tp_run.proofs.StatesMean.{SceneLaws}
use Rattle.tp_run.proofs.Lives.{StateLaws}
use Rattle.tp_run.proofs.HistoryLemmas.{BeginLaws}

pub scene_laws : SceneLaws
scene_laws = record {
  steps_keep = steps_keep;
  steps_sound = steps_fit;
  advances_keep = all_advances_keep;
  advances_sound = advances_fit;
  ends_stand = all_ends_stand;
  same_agreement = λ fs gs values f g same. ((same_shapes_same_store fs gs f g same).states values).0;
  below_no_clash = λ n fs apart. no_clash_arises.below n fs apart;
}

pub first_sound : (plan : Plan) → ProgramFits plan.program → IsSound (setting plan 0) (kinds_of plan.program.globals) (first_moment plan.program.globals plan.program.main)
first_sound plan fits = (runs_begin (setting plan 0) plan.program.globals plan.program.main fits.defs fits.main).sound

pub begin_laws : BeginLaws
begin_laws = record { begin_sound = first_sound; runs_begin = runs_begin; refusals = refusals_mean }

pub state_laws : StateLaws
state_laws = record {
  has_state = has_agreeing_state;
  extends = lasting_extends;
  lasting_no_clash = λ fs apart. no_clash_arises.advancing fs apart;
}
