-- What tries, beginnings, advances and ends say of every interval, by the laws of scenes.
use Rattle.std.proofs.Common.{◌≡◌, ◌↔◌, ◌≤◌, ℕ, Bool, true, List, [], length, sym, subst}
use Rattle.tp_meaning.specs.Syntax.{FormulaTree}
use Rattle.tp_meaning.specs.Holds.{Holds}
use Rattle.tp_meaning.specs.Interval.{kinds_of}
use Rattle.tp_store.specs.Known.{new_store}
use Rattle.tp_scene.proofs.StepLaws.{steps_keep, refusals_mean}
use Rattle.tp_scene.proofs.StepsFit.{steps_fit}
use Rattle.tp_scene.proofs.EndLaws.{all_ends_stand, all_advances_keep}
use Rattle.tp_scene.proofs.AdvancesFit.{advances_fit}
use Rattle.tp_scene.proofs.Begin.{runs_begin}
use Rattle.tp_scene.specs.Scene as S
use Rattle.tp_scene.specs.Scene.{has}
use Rattle.tp_scene.specs.Pick.{Setting, Moment}
use Rattle.tp_scene.specs.Rest as rest
use Rattle.tp_scene.specs.Advance.{advanced}
use Rattle.tp_scene.specs.StandsFor.{StandsFor, context_of}
use Rattle.tp_scene.specs.Beginning.{started}
use Rattle.tp_scene.specs.Laws.{IsSound}
use Rattle.tp_slots.specs.declared.scene.Scene.{Scene}
use Rattle.tp_slots.specs.Read.{scene_of}
use Rattle.tp_step.specs.Answers.{Tries, moment_of}
use Rattle.tp_step.specs.Meaning.{TryMeans, StandsForAllOf, StartIsSound, AdvanceMeans, AdvanceIsSound, EndMeans}
use Rattle.tp_step.specs.declared.answer.Tried.{Tried}
use Rattle.tp_step.specs.declared.answer.Tried.TheVariants as tried

pub end_means : (s : Scene) → EndMeans s
end_means s e w kinds k sound = all_ends_stand w kinds (moment_of s k) sound e

pub advance_means : (s next : Scene) → rest.settled (scene_of s) ≡ rest.goes → scene_of next ≡ advanced (scene_of s) → AdvanceMeans s next
advance_means s next goes is w kinds k j sound on = all_advances_keep w kinds (moment_of s k) (moment_of next j) sound goes is on

pub advance_sound : (s next : Scene) → rest.settled (scene_of s) ≡ rest.goes → scene_of next ≡ advanced (scene_of s) → AdvanceIsSound s next
advance_sound s next goes is w kinds k j sound on own = advances_fit w kinds (moment_of s k) (moment_of next j) sound goes is on own

pub tries_mean : (w : Setting) (room : ℕ) (m : Moment) (t : ℕ) (next : Moment) (a : Tried) → has t m.scene.root.entries ≡ true → Tries w room m t next a → TryMeans w m next a
tries_mean w room m t next (tried.Reduced news) lives h = λ kinds sound. steps_keep w kinds m t h.0 next sound h.2
tries_mean w room m t next (tried.Clash c) lives h = λ kinds sound. (refusals_mean w kinds m t sound lives).clash c h.1
tries_mean w room m t next (tried.Missing port) lives h = λ kinds sound. (refusals_mean w kinds m t sound lives).missing port h.1
tries_mean w room m t next _ lives h = tt

pub tries_sound : (w : Setting) (room : ℕ) (m : Moment) (t : ℕ) (next : Moment) (a : Tried) → Tries w room m t next a → (kinds : List Bool) → IsSound w kinds m → IsSound w kinds next
tries_sound w room m t next (tried.Reduced news) h = λ kinds sound. steps_fit w kinds m t h.0 next sound h.2
tries_sound w room m t next (tried.Clash c) h = λ kinds sound. subst (IsSound w kinds) (sym h.0) sound
tries_sound w room m t next (tried.Missing port) h = λ kinds sound. subst (IsSound w kinds) (sym h.0) sound
tries_sound w room m t next (tried.Waits first other) h = λ kinds sound. subst (IsSound w kinds) (sym h.0) sound
tries_sound w room m t next tried.Rests h = λ kinds sound. subst (IsSound w kinds) (sym h.0) sound
tries_sound w room m t next (tried.Over limit) h = λ kinds sound. subst (IsSound w kinds) (sym h.0) sound

pub begins : (main : FormulaTree) (s : Scene) → scene_of s ≡ started main → StandsForAllOf main s
begins main s is w names defs fits c a b shows =
    let make : S.Scene → Moment = λ x. record { scene = x; store = new_store names } in
    subst (λ x. StandsFor w (length (kinds_of names)) (make x) c a b shows ↔ ((a ≤ b) × ((d : ℕ) × Holds (context_of w) d main [] c a b shows))) (sym is) ((runs_begin w names main defs fits).stands c a b shows)

pub begins_sound : (main : FormulaTree) (s : Scene) → scene_of s ≡ started main → StartIsSound main s
begins_sound main s is w names defs fits =
    let make : S.Scene → Moment = λ x. record { scene = x; store = new_store names } in
    subst (λ x. IsSound w (kinds_of names) (make x)) (sym is) (runs_begin w names main defs fits).sound
