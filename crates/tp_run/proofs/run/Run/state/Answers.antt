use Rattle.std.proofs.Common.{ap, refl, ◌∙◌}
use Rattle.tp_store.specs.Stock.{contents_in}
use Rattle.tp_step.specs.Answers.{moment_of}
use Rattle.tp_run.specs.declared.run.Stand.{Stand}
use Rattle.tp_run.specs.Runs.{stands_at}
use Rattle.tp_run.proofs.Becomes.{answers_state, answer_means, answer_agrees, answer_goes_on, run_kept, settings_of_run}
use Rattle.tp_run.proofs.Named.{named_by_plan}
use Rattle.tp_run.proofs.Stores.{leaves_variables}
use Rattle.tp_run.proofs.Tallies.{tried_by_plan, within_limits, at_limit}
use Rattle.tp_run.proofs.run.Run.state.Goals as goal

pub returns-in_ok-made-in-Open : goal.returns-in_ok-made-in-Open
returns-in_ok-made-in-Open g c =
    let run = c.args.self.now in
    let m = moment_of c.in-Open.scene (contents_in run.store) in
    let there = ap (λ (s : Stand). stands_at s (contents_in run.store)) c.in-Open.ensures.value in
    let old = c.args.picture.now in
    let new = c.make.new.picture in
    let store = c.make.new.store in
    let held = contents_in store in
    let made = c.in_ok-made-in-Open.made in
    let e = c.in_ok-made-in-Open.ensures in
    let globals = c.len-globals.ensures in
    let plan = c.requires.run.0 in
    let is_run = c.requires.run.1 in
    record {
      made = λ p h. answers_state p run h m there old new store made.stand made.turn (e.made p (settings_of_run p run _ h refl refl refl globals)) c.next_number-self.result c.next_number-self.ensures;
      means = λ p h. answer_means p run h m there old new store made.stand made.turn (e.made p (settings_of_run p run _ h refl refl refl globals));
      agrees = λ p h. answer_agrees p run h m there old new store made.stand made.turn (e.made p (settings_of_run p run _ h refl refl refl globals));
      no_dead_end = λ p h. answer_goes_on p run h m there old new store made.stand made.turn (e.made p (settings_of_run p run _ h refl refl refl globals));
      run = λ p h. run_kept p run h m there old new store made.stand made.turn (e.made p (settings_of_run p run _ h refl refl refl globals)) c.next_number-self.result c.make.new.tally c.next_number-self.ensures e.kept e.named.1;
      order = refl;
      in_order = λ p n h at. named_by_plan p run n m made.turn h (there ∙ at) e.in_order;
      variables = leaves_variables plan run m refl old new (stands_at made.stand held) held made.turn (e.made plan (settings_of_run plan run _ is_run refl refl refl globals));
      named = e.named.0;
      tried = λ p n h at less. tried_by_plan p run n m old new (stands_at made.stand held) held made.turn c.make.new.tally h (there ∙ at) less (e.tried p (settings_of_run p run _ h refl refl refl globals));
      steps = λ p n h at less. e.steps (within_limits p run h less);
      stays = λ p h none. (c.make.ensures.stays (at_limit p run m h there none)).0;
      tries_none = λ p h none. (c.make.ensures.stays (at_limit p run m h there none)).1;
      err = tt;
    }
