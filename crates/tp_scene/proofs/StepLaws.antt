-- Each step keeps what a moment stands for, and where an item is refused nothing is stood for.
use Rattle.std.proofs.Common.{ℕ, suc, Bool, List, refl, subst, arith}
use Rattle.tp_eval.specs.Evaluate.{depth_limit}
use Rattle.tp_store.proofs.States.{no_clash_arises}
use Rattle.tp_eval.proofs.OutcomesAre.{outcomes_mean}
use Rattle.tp_eval.proofs.Bound.{places_mean}
use Rattle.tp_scene.specs.Scene.{root_place}
use Rattle.tp_scene.specs.Step.{PickOutcome}
use Rattle.tp_scene.specs.Pick.{Setting, Moment, outcome_of, numbers_of}
use Rattle.tp_scene.specs.Laws.{IsSound, StepsKeep, RefusalsStandForNone}
use Rattle.tp_scene.proofs.Asked.{Given, LeavesKeep, HoldersKeep}
use Rattle.tp_scene.proofs.Agree.{shorter}
use Rattle.tp_scene.proofs.Below.{kinds_length}
use Rattle.tp_scene.proofs.Law.{FactsApart, step_keeps, clash_stands_for_none, miss_stands_for_none}
use Rattle.tp_scene.proofs.Apart.{ValuesApart, AdditionsApart, IsApart, picked_apart}
use Rattle.tp_scene.proofs.Rows.{leaves_keep, holders_keep}

values_apart : ValuesApart
values_apart = no_clash_arises.value_facts

additions_apart : AdditionsApart
additions_apart kept facts news k f q = no_clash_arises.adding kept facts news q k f

module _ (w : Setting) (kinds : List Bool) (m : Moment) (sound : IsSound w kinds m) where
  given : Given w kinds m.store (numbers_of m.scene m.store.variables) (suc depth_limit)
  given = record {
    no_clash = sound.store.no_clash;
    local = refl;
    globals_among = let q = shorter kinds _ sound.store.globals in let k = kinds_length m.store.variables in omega (arith, q, k);
    deep = omega arith;
    definitions = sound.definitions;
    outcomes = outcomes_mean;
    places = places_mean;
  }

  leaves : LeavesKeep w kinds m.store (numbers_of m.scene m.store.variables) (suc depth_limit)
  leaves = leaves_keep w kinds m.store (numbers_of m.scene m.store.variables) (suc depth_limit) given

  holders : HoldersKeep w kinds m.store (numbers_of m.scene m.store.variables) (suc depth_limit)
  holders = holders_keep w kinds m.store (numbers_of m.scene m.store.variables) (suc depth_limit) given

  apart : (t : ℕ) → FactsApart m.store.facts (outcome_of w m.store m.scene t)
  apart t r e = subst (λ (o : PickOutcome). IsApart m.store.facts sound.store.no_clash o) e
      (picked_apart values_apart additions_apart w m.store.facts sound.store.no_clash t m.scene.root.entries (root_place m.scene.root) (numbers_of m.scene m.store.variables))

pub steps_keep : StepsKeep
steps_keep w kinds m t r next sound red s a b S own = step_keeps w kinds m sound (suc depth_limit) (leaves w kinds m sound) (holders w kinds m sound) t r next red (apart w kinds m sound t) s a b S own

pub refusals_mean : RefusalsStandForNone
refusals_mean w kinds m t sound lives = record {
  clash = clash_stands_for_none w kinds m sound (suc depth_limit) (leaves w kinds m sound) (holders w kinds m sound) t;
  missing = miss_stands_for_none w kinds m sound (suc depth_limit) (leaves w kinds m sound) (holders w kinds m sound) t;
}
