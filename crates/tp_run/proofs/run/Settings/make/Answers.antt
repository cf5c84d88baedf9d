use Rattle.std.proofs.Common.{refl, ap, sym, subst, rules}
use Rattle.tp_meaning.specs.Interval.{kinds_of}
use Rattle.tp_store.specs.Stock.{contents_in}
use Rattle.tp_step.specs.Answers.{moment_of}
use Rattle.tp_step.specs.declared.ending.Ending.TheVariants as ending
use Rattle.tp_decide.specs.Decided.{setting_of}
use Rattle.tp_run.specs.declared.run.Stand.{Stand}
use Rattle.tp_show.specs.declared.turn.Turn.TheVariants.{Contradictory, InputMissing, Over}
use Rattle.tp_run.specs.Runs.{stands_at}
use Rattle.tp_run.specs.Ordered.{IsNamedInOrder}
use Rattle.tp_run.proofs.Named.{ends_in_order, rest_named}
use Rattle.tp_run.proofs.Becomes.{run_rests, run_reaches, run_clashes, run_misses, run_clashes_named, end_named}
use Rattle.tp_run.proofs.Tallies.{is_tally, counts_rest, counts_stop}
use Rattle.tp_run.proofs.run.Settings.make.Goals as goal
use Rattle.tp_run.proofs.run.Settings.make.Goals.{in-Rest+in_ok-made-in-Rest, in-Clash+in_ok-made-in-Clash, in-Missing+in_ok-made-in-Missing, in-Over+in_ok-made-in-Over}

pub returns-clause-made : goal.returns-clause-made
returns-clause-made g c = elim c.match-ending.branch [
  | in-Rest+in_ok-made-in-Rest w ↦ rw (w.result-is, w.store-is, w.picture-is) (λ plan h. (run_rests plan c.args.self.now h c.requires.within c.if-state-self.false (moment_of c.args.scene (contents_in c.args.store.now)) (moment_of c.close_by_agenda.new.scene (contents_in c.close_by_agenda.new.store))
      c.clear_tally.new.tally.picks c.close_by_agenda.new.tally.picks c.in_ok-ending.ending c.in_ok-ending.ensures.closes
      w.len-reductions.result c.args.picture.now w.make_at_rest.new.picture (stands_at w.in_ok-made-in-Rest.made.stand (contents_in w.make_at_rest.new.store)) (contents_in w.make_at_rest.new.store) w.in_ok-made-in-Rest.made.turn
      c.clear_tally.ensures.no_picks (search rules) w.in-Rest.is w.in_ok-made-in-Rest.ensures.made).becomes)
  | in-Clash+in_ok-made-in-Clash w ↦ rw (w.result-is, w.store-is, w.picture-is) (λ plan h. (run_clashes plan c.args.self.now h c.requires.within c.if-state-self.false (moment_of c.args.scene (contents_in c.args.store.now)) (moment_of c.close_by_agenda.new.scene (contents_in c.close_by_agenda.new.store))
      c.clear_tally.new.tally.picks c.close_by_agenda.new.tally.picks c.in_ok-ending.ending c.in_ok-ending.ensures.closes c.args.picture.now (stands_at w.in_ok-made-in-Clash.made.stand (contents_in c.close_by_agenda.new.store)) w.in_ok-made-in-Clash.made.turn c.clear_tally.ensures.no_picks
      w.in-Clash.clash w.in-Clash.is (ap (λ (s : Stand). stands_at s (contents_in c.close_by_agenda.new.store)) w.in_ok-made-in-Clash.ensures.stand) w.in_ok-made-in-Clash.ensures.turn).becomes)
  | in-Missing+in_ok-made-in-Missing w ↦ rw (w.result-is, w.store-is, w.picture-is) (λ plan h. (run_misses plan c.args.self.now h c.requires.within c.if-state-self.false (moment_of c.args.scene (contents_in c.args.store.now)) (moment_of c.close_by_agenda.new.scene (contents_in c.close_by_agenda.new.store))
      c.clear_tally.new.tally.picks c.close_by_agenda.new.tally.picks c.in_ok-ending.ending c.in_ok-ending.ensures.closes c.args.picture.now (stands_at w.in_ok-made-in-Missing.made.stand (contents_in c.close_by_agenda.new.store)) w.in_ok-made-in-Missing.made.turn c.clear_tally.ensures.no_picks
      w.in-Missing.port w.in-Missing.is (ap (λ (s : Stand). stands_at s (contents_in c.close_by_agenda.new.store)) w.in_ok-made-in-Missing.ensures.stand) w.in_ok-made-in-Missing.ensures.turn).becomes)
  | in-Over+in_ok-made-in-Over w ↦ rw (w.result-is, w.store-is, w.picture-is) (λ plan h. (run_reaches plan c.args.self.now h c.requires.within c.if-state-self.false (moment_of c.args.scene (contents_in c.args.store.now)) (moment_of c.close_by_agenda.new.scene (contents_in c.close_by_agenda.new.store))
      c.clear_tally.new.tally.picks c.close_by_agenda.new.tally.picks c.in_ok-ending.ending c.in_ok-ending.ensures.closes c.args.picture.now (stands_at w.in_ok-made-in-Over.made.stand (contents_in c.close_by_agenda.new.store)) w.in_ok-made-in-Over.made.turn c.clear_tally.ensures.no_picks
      (kinds_of c.requires.sound.0.program.globals) (c.in_ok-ending.ensures.sound _ c.requires.sound.2) w.in-Over.limit w.in-Over.is (ap (λ (s : Stand). stands_at s (contents_in c.close_by_agenda.new.store)) w.in_ok-made-in-Over.ensures.stand) w.in_ok-made-in-Over.ensures.turn).becomes)
]

pub returns-clause-in_order : goal.returns-clause-in_order
returns-clause-in_order g c = elim c.match-ending.branch [
  | in-Rest+in_ok-made-in-Rest w ↦ rw w.result-is (rest_named (setting_of c.args.self.now.setting) (setting_of c.args.self.now.setting) c.args.self.now.order c.args.self.now.limits.reductions c.args.self.now.globals w.len-reductions.result (moment_of c.args.scene (contents_in c.args.store.now))
      (moment_of c.close_by_agenda.new.scene (contents_in c.close_by_agenda.new.store)) c.args.picture.now w.make_at_rest.new.picture (stands_at w.in_ok-made-in-Rest.made.stand (contents_in w.make_at_rest.new.store))
      (contents_in w.make_at_rest.new.store) w.in_ok-made-in-Rest.made.turn w.in_ok-made-in-Rest.ensures.made)
  | in-Clash+in_ok-made-in-Clash w ↦ rw w.result-is (subst (IsNamedInOrder (setting_of c.args.self.now.setting) c.args.self.now.order c.args.self.now.limits.reductions (moment_of c.args.scene (contents_in c.args.store.now))) (sym w.in_ok-made-in-Clash.ensures.turn)
      (ends_in_order (setting_of c.args.self.now.setting) c.args.self.now.order c.args.self.now.order c.args.self.now.limits.reductions c.args.self.now.limits.reductions (moment_of c.args.scene (contents_in c.args.store.now)) (moment_of c.close_by_agenda.new.scene (contents_in c.close_by_agenda.new.store)) c.clear_tally.new.tally.picks c.close_by_agenda.new.tally.picks
      c.close_by_agenda.new.tally.waits.items.items c.close_by_agenda.new.tally.rests (ending.Clash w.in-Clash.clash) c.in_ok-ending.ending c.in_ok-ending.ensures.order
      refl refl c.clear_tally.ensures.no_picks w.in-Clash.is))
  | in-Missing+in_ok-made-in-Missing w ↦ rw w.result-is (subst (IsNamedInOrder (setting_of c.args.self.now.setting) c.args.self.now.order c.args.self.now.limits.reductions (moment_of c.args.scene (contents_in c.args.store.now))) (sym w.in_ok-made-in-Missing.ensures.turn)
      (ends_in_order (setting_of c.args.self.now.setting) c.args.self.now.order c.args.self.now.order c.args.self.now.limits.reductions c.args.self.now.limits.reductions (moment_of c.args.scene (contents_in c.args.store.now)) (moment_of c.close_by_agenda.new.scene (contents_in c.close_by_agenda.new.store)) c.clear_tally.new.tally.picks c.close_by_agenda.new.tally.picks
      c.close_by_agenda.new.tally.waits.items.items c.close_by_agenda.new.tally.rests (ending.Missing w.in-Missing.port) c.in_ok-ending.ending c.in_ok-ending.ensures.order
      refl refl c.clear_tally.ensures.no_picks w.in-Missing.is))
  | in-Over+in_ok-made-in-Over w ↦ rw w.result-is (subst (IsNamedInOrder (setting_of c.args.self.now.setting) c.args.self.now.order c.args.self.now.limits.reductions (moment_of c.args.scene (contents_in c.args.store.now))) (sym w.in_ok-made-in-Over.ensures.turn)
      (ends_in_order (setting_of c.args.self.now.setting) c.args.self.now.order c.args.self.now.order c.args.self.now.limits.reductions c.args.self.now.limits.reductions (moment_of c.args.scene (contents_in c.args.store.now)) (moment_of c.close_by_agenda.new.scene (contents_in c.close_by_agenda.new.store)) c.clear_tally.new.tally.picks c.close_by_agenda.new.tally.picks
      c.close_by_agenda.new.tally.waits.items.items c.close_by_agenda.new.tally.rests (ending.Over w.in-Over.limit) c.in_ok-ending.ending c.in_ok-ending.ensures.order
      refl refl c.clear_tally.ensures.no_picks w.in-Over.is))
]

pub returns-clause-tried : goal.returns-clause-tried
returns-clause-tried g c = elim c.match-ending.branch [
  | in-Rest+in_ok-made-in-Rest w ↦ rw (w.result-is, w.store-is, w.picture-is) (λ plan h less. is_tally plan c.args.self.now h (moment_of c.args.scene (contents_in c.args.store.now)) (moment_of c.close_by_agenda.new.scene (contents_in c.close_by_agenda.new.store)) c.args.picture.now w.make_at_rest.new.picture (stands_at w.in_ok-made-in-Rest.made.stand (contents_in w.make_at_rest.new.store)) (contents_in w.make_at_rest.new.store) w.in_ok-made-in-Rest.made.turn c.close_by_agenda.new.tally c.clear_tally.new.tally.picks c.in_ok-ending.ending
      (run_rests plan c.args.self.now h c.requires.within c.if-state-self.false (moment_of c.args.scene (contents_in c.args.store.now)) (moment_of c.close_by_agenda.new.scene (contents_in c.close_by_agenda.new.store))
      c.clear_tally.new.tally.picks c.close_by_agenda.new.tally.picks c.in_ok-ending.ending c.in_ok-ending.ensures.closes
      w.len-reductions.result c.args.picture.now w.make_at_rest.new.picture (stands_at w.in_ok-made-in-Rest.made.stand (contents_in w.make_at_rest.new.store)) (contents_in w.make_at_rest.new.store) w.in_ok-made-in-Rest.made.turn
      c.clear_tally.ensures.no_picks (search rules) w.in-Rest.is w.in_ok-made-in-Rest.ensures.made)
      c.clear_tally.ensures.no_picks c.in_ok-ending.ensures.order c.in_ok-ending.ensures.thrifty)
  | in-Clash+in_ok-made-in-Clash w ↦ rw (w.result-is, w.store-is, w.picture-is) (λ plan h less. is_tally plan c.args.self.now h (moment_of c.args.scene (contents_in c.args.store.now)) (moment_of c.close_by_agenda.new.scene (contents_in c.close_by_agenda.new.store)) c.args.picture.now c.args.picture.now (stands_at w.in_ok-made-in-Clash.made.stand (contents_in c.close_by_agenda.new.store)) (contents_in c.close_by_agenda.new.store) w.in_ok-made-in-Clash.made.turn c.close_by_agenda.new.tally c.clear_tally.new.tally.picks c.in_ok-ending.ending
      (run_clashes plan c.args.self.now h c.requires.within c.if-state-self.false (moment_of c.args.scene (contents_in c.args.store.now)) (moment_of c.close_by_agenda.new.scene (contents_in c.close_by_agenda.new.store))
      c.clear_tally.new.tally.picks c.close_by_agenda.new.tally.picks c.in_ok-ending.ending c.in_ok-ending.ensures.closes c.args.picture.now (stands_at w.in_ok-made-in-Clash.made.stand (contents_in c.close_by_agenda.new.store)) w.in_ok-made-in-Clash.made.turn c.clear_tally.ensures.no_picks
      w.in-Clash.clash w.in-Clash.is (ap (λ (s : Stand). stands_at s (contents_in c.close_by_agenda.new.store)) w.in_ok-made-in-Clash.ensures.stand) w.in_ok-made-in-Clash.ensures.turn)
      c.clear_tally.ensures.no_picks c.in_ok-ending.ensures.order c.in_ok-ending.ensures.thrifty)
  | in-Missing+in_ok-made-in-Missing w ↦ rw (w.result-is, w.store-is, w.picture-is) (λ plan h less. is_tally plan c.args.self.now h (moment_of c.args.scene (contents_in c.args.store.now)) (moment_of c.close_by_agenda.new.scene (contents_in c.close_by_agenda.new.store)) c.args.picture.now c.args.picture.now (stands_at w.in_ok-made-in-Missing.made.stand (contents_in c.close_by_agenda.new.store)) (contents_in c.close_by_agenda.new.store) w.in_ok-made-in-Missing.made.turn c.close_by_agenda.new.tally c.clear_tally.new.tally.picks c.in_ok-ending.ending
      (run_misses plan c.args.self.now h c.requires.within c.if-state-self.false (moment_of c.args.scene (contents_in c.args.store.now)) (moment_of c.close_by_agenda.new.scene (contents_in c.close_by_agenda.new.store))
      c.clear_tally.new.tally.picks c.close_by_agenda.new.tally.picks c.in_ok-ending.ending c.in_ok-ending.ensures.closes c.args.picture.now (stands_at w.in_ok-made-in-Missing.made.stand (contents_in c.close_by_agenda.new.store)) w.in_ok-made-in-Missing.made.turn c.clear_tally.ensures.no_picks
      w.in-Missing.port w.in-Missing.is (ap (λ (s : Stand). stands_at s (contents_in c.close_by_agenda.new.store)) w.in_ok-made-in-Missing.ensures.stand) w.in_ok-made-in-Missing.ensures.turn)
      c.clear_tally.ensures.no_picks c.in_ok-ending.ensures.order c.in_ok-ending.ensures.thrifty)
  | in-Over+in_ok-made-in-Over w ↦ rw (w.result-is, w.store-is, w.picture-is) (λ plan h less. is_tally plan c.args.self.now h (moment_of c.args.scene (contents_in c.args.store.now)) (moment_of c.close_by_agenda.new.scene (contents_in c.close_by_agenda.new.store)) c.args.picture.now c.args.picture.now (stands_at w.in_ok-made-in-Over.made.stand (contents_in c.close_by_agenda.new.store)) (contents_in c.close_by_agenda.new.store) w.in_ok-made-in-Over.made.turn c.close_by_agenda.new.tally c.clear_tally.new.tally.picks c.in_ok-ending.ending
      (run_reaches plan c.args.self.now h c.requires.within c.if-state-self.false (moment_of c.args.scene (contents_in c.args.store.now)) (moment_of c.close_by_agenda.new.scene (contents_in c.close_by_agenda.new.store))
      c.clear_tally.new.tally.picks c.close_by_agenda.new.tally.picks c.in_ok-ending.ending c.in_ok-ending.ensures.closes c.args.picture.now (stands_at w.in_ok-made-in-Over.made.stand (contents_in c.close_by_agenda.new.store)) w.in_ok-made-in-Over.made.turn c.clear_tally.ensures.no_picks
      (kinds_of c.requires.sound.0.program.globals) (c.in_ok-ending.ensures.sound _ c.requires.sound.2) w.in-Over.limit w.in-Over.is (ap (λ (s : Stand). stands_at s (contents_in c.close_by_agenda.new.store)) w.in_ok-made-in-Over.ensures.stand) w.in_ok-made-in-Over.ensures.turn)
      c.clear_tally.ensures.no_picks c.in_ok-ending.ensures.order c.in_ok-ending.ensures.thrifty)
]

pub returns-clause-steps : goal.returns-clause-steps
returns-clause-steps g c = elim c.match-ending.branch [
  | in-Rest+in_ok-made-in-Rest w ↦ rw (w.result-is, w.steps-is) (λ less. (let s = w.in_ok-made-in-Rest.ensures.steps in counts_rest c.args.steps.now c.close_by_agenda.new.steps w.make_at_rest.new.steps s.0 c.clear_tally.new.tally.picks c.close_by_agenda.new.tally w.in_ok-made-in-Rest.made.turn c.in_ok-ending.ending
      c.in_ok-ending.ensures.steps c.clear_tally.ensures.no_picks w.in-Rest.is s.1 s.2))
  | in-Clash+in_ok-made-in-Clash w ↦ rw (w.result-is, w.steps-is) (λ less. counts_stop c.args.steps.now c.close_by_agenda.new.steps c.clear_tally.new.tally.picks c.close_by_agenda.new.tally w.in_ok-made-in-Clash.made.turn (Contradictory c.args.self.now.setting.state w.in-Clash.clash) c.in_ok-ending.ending (ending.Clash w.in-Clash.clash)
      c.in_ok-ending.ensures.steps c.clear_tally.ensures.no_picks w.in_ok-made-in-Clash.ensures.turn w.in-Clash.is w.in-Clash.is refl)
  | in-Missing+in_ok-made-in-Missing w ↦ rw (w.result-is, w.steps-is) (λ less. counts_stop c.args.steps.now c.close_by_agenda.new.steps c.clear_tally.new.tally.picks c.close_by_agenda.new.tally w.in_ok-made-in-Missing.made.turn (InputMissing c.args.self.now.setting.state w.in-Missing.port) c.in_ok-ending.ending (ending.Missing w.in-Missing.port)
      c.in_ok-ending.ensures.steps c.clear_tally.ensures.no_picks w.in_ok-made-in-Missing.ensures.turn w.in-Missing.is w.in-Missing.is refl)
  | in-Over+in_ok-made-in-Over w ↦ rw (w.result-is, w.steps-is) (λ less. counts_stop c.args.steps.now c.close_by_agenda.new.steps c.clear_tally.new.tally.picks c.close_by_agenda.new.tally w.in_ok-made-in-Over.made.turn (Over c.args.self.now.setting.state w.in-Over.limit) c.in_ok-ending.ending (ending.Over w.in-Over.limit)
      c.in_ok-ending.ensures.steps c.clear_tally.ensures.no_picks w.in_ok-made-in-Over.ensures.turn w.in-Over.is w.in-Over.is refl)
]

pub returns-clause-named : goal.returns-clause-named
returns-clause-named g c = elim c.match-ending.branch [
  | in-Rest+in_ok-made-in-Rest w ↦ rw (w.result-is, w.store-is) (w.in_ok-made-in-Rest.ensures.named)
  | in-Clash+in_ok-made-in-Clash w ↦ rw (w.result-is, w.store-is) (end_named c.close_by_agenda.new.store.variables w.in_ok-made-in-Clash.made (Contradictory c.args.self.now.setting.state w.in-Clash.clash) c.close_by_agenda.new.scene w.in_ok-made-in-Clash.ensures.stand w.in_ok-made-in-Clash.ensures.turn
      (run_clashes_named c.requires.sound.0 c.args.self.now c.requires.sound.1 c.requires.within c.if-state-self.false (moment_of c.args.scene (contents_in c.args.store.now)) (moment_of c.close_by_agenda.new.scene (contents_in c.close_by_agenda.new.store))
      c.clear_tally.new.tally.picks c.close_by_agenda.new.tally.picks c.in_ok-ending.ending c.in_ok-ending.ensures.closes
      (kinds_of c.requires.sound.0.program.globals) (c.in_ok-ending.ensures.sound _ c.requires.sound.2) w.in-Clash.clash w.in-Clash.is))
  | in-Missing+in_ok-made-in-Missing w ↦ rw (w.result-is, w.store-is) (end_named c.close_by_agenda.new.store.variables w.in_ok-made-in-Missing.made (InputMissing c.args.self.now.setting.state w.in-Missing.port) c.close_by_agenda.new.scene w.in_ok-made-in-Missing.ensures.stand w.in_ok-made-in-Missing.ensures.turn tt)
  | in-Over+in_ok-made-in-Over w ↦ rw (w.result-is, w.store-is) (end_named c.close_by_agenda.new.store.variables w.in_ok-made-in-Over.made (Over c.args.self.now.setting.state w.in-Over.limit) c.close_by_agenda.new.scene w.in_ok-made-in-Over.ensures.stand w.in_ok-made-in-Over.ensures.turn tt)
]
