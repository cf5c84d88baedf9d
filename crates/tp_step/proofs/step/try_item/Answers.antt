use Rattle.std.proofs.lemmas.Result.{IfOk-weaker}
use Rattle.tp_store.specs.Stock.{contents_in}
use Rattle.tp_decide.specs.Decided.{setting_of}
use Rattle.tp_step.specs.Answers.{moment_of}
use Rattle.tp_step.proofs.MeaningLemmas.{tries_mean, tries_sound}
use Rattle.tp_step.proofs.OtherItems.{tries_commute}
use Rattle.tp_step.proofs.Room.{tries_keep_room}
use Rattle.tp_step.proofs.step.try_item.Goals as goal

pub returns-clause-means : goal.returns-clause-means
returns-clause-means g c =
    IfOk-weaker c.attempt.result _ _
    (λ tried is. tries_mean (setting_of c.args.setting.now) c.args.room (moment_of c.args.scene.now (contents_in c.args.store.now)) c.args.item (moment_of c.attempt.new.scene (contents_in c.attempt.new.store)) tried c.requires.lives is)
    c.attempt.ensures.answer

pub returns-clause-sound : goal.returns-clause-sound
returns-clause-sound g c =
    IfOk-weaker c.attempt.result _ _
    (tries_sound (setting_of c.args.setting.now) c.args.room (moment_of c.args.scene.now (contents_in c.args.store.now)) c.args.item (moment_of c.attempt.new.scene (contents_in c.attempt.new.store)))
    c.attempt.ensures.answer

pub returns-clause-commutes : goal.returns-clause-commutes
returns-clause-commutes g c =
    IfOk-weaker c.attempt.result _ _
    (tries_commute (setting_of c.args.setting.now) c.args.room (moment_of c.args.scene.now (contents_in c.args.store.now)) c.args.item (moment_of c.attempt.new.scene (contents_in c.attempt.new.store)))
    c.attempt.ensures.answer

pub returns-clause-room : goal.returns-clause-room
returns-clause-room g c =
    let sound = c.requires.sound in
    IfOk-weaker c.attempt.result _ _
    (tries_keep_room (setting_of c.args.setting.now) sound.0 (moment_of c.args.scene.now (contents_in c.args.store.now)) sound.1 c.args.room c.args.item (moment_of c.attempt.new.scene (contents_in c.attempt.new.store)))
    c.attempt.ensures.answer
