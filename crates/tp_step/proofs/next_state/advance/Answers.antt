use Rattle.std.proofs.lemmas.Result.{IfOk-weaker}
use Rattle.tp_step.proofs.MeaningLemmas.{advance_means, advance_sound}
use Rattle.tp_step.proofs.next_state.advance.Goals as goal

pub returns-clause-means : goal.returns-clause-means
returns-clause-means c = IfOk-weaker c.next_scene.result _ _ (λ next is. advance_means c.args.scene next c.requires.goes is) c.next_scene.ensures.scene

pub returns-clause-sound : goal.returns-clause-sound
returns-clause-sound c = IfOk-weaker c.next_scene.result _ _ (λ next is. advance_sound c.args.scene next c.requires.goes is) c.next_scene.ensures.scene
