use Rattle.tp_store.specs.Stock.{contents_in}
use Rattle.tp_scene.proofs.NamedItem.{named_item_waits}
use Rattle.tp_decide.specs.Decided.{setting_of}
use Rattle.tp_step.specs.Answers.{moment_of}
use Rattle.tp_run.proofs.Becomes.{waits_for_some, waiting_answer, waits_named}
use Rattle.tp_run.proofs.run.Settings.waits_for.Goals as goal

pub try_item-requires-clause-lives : goal.try_item-requires-clause-lives
try_item-requires-clause-lives g c =
    (named_item_waits (setting_of c.args.self.now.setting) c.requires.sound.0 (moment_of c.args.scene.now (contents_in c.args.store.now)) c.args.item c.requires.sound.1 c.requires.rests c.requires.item).lives

pub unreachable-requires : goal.unreachable-requires
unreachable-requires g c =
    waits_for_some c.in_ok-tried.tried
    (waiting_answer (setting_of c.args.self.now.setting) c.requires.sound.0 0 (moment_of c.args.scene.now (contents_in c.args.store.now)) (moment_of c.try_item.new.scene (contents_in c.try_item.new.store)) c.args.item c.in_ok-tried.tried
    c.requires.sound.1 c.requires.rests c.requires.item c.in_ok-tried.ensures.answer)
    c.in_default.not-Waits

pub returns-clause-named : goal.returns-clause-named
returns-clause-named g c =
    waits_named (setting_of c.args.self.now.setting) c.requires.sound.0 0 (moment_of c.args.scene.now (contents_in c.args.store.now)) (moment_of c.try_item.new.scene (contents_in c.try_item.new.store)) c.args.item c.in_ok-tried.tried c.in-Waits.cell c.in-Waits.field-1
    c.requires.sound.1 c.in_ok-tried.ensures.answer c.in-Waits.is
