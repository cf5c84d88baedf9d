-- What becomes of a state, by what its closure comes to.
use Rattle.std.proofs.Common.{◌≡◌, ℕ, suc, ◌<◌, ◌≤◌, Bool, List, [], ◌++◌, length, Option, refl, ap, ap₂, sym, ◌∙◌, subst, arith, inl, inr}
use Rattle.std.proofs.lemmas.List.{length-map}
use Rattle.tp_value.specs.Globals.{is_lower}
use Rattle.tp_kernel.specs.Read.{definitions_of}
use Rattle.tp_inputs.specs.Read.{inputs_of}
use Rattle.tp_kernel.specs.declared.fault.LimitKind.{LimitKind}
use Rattle.tp_kernel.specs.declared.fault.LimitKind.TheVariants as limit
use Rattle.tp_meaning.specs.Syntax.{Definition}
use Rattle.tp_meaning.specs.Inputs.{InputTable}
use Rattle.tp_meaning.specs.Course.{Course, Shows, ◌⊕◌, shown_at}
use Rattle.tp_meaning.specs.Interval.{ProgramTree, kinds_of}
use Rattle.tp_meaning.specs.Fits.{ProgramFits}
use Rattle.tp_decide.specs.Decided.{setting_of}
use Rattle.tp_decide.specs.Read.{shows_of}
use Rattle.tp_store.specs.Known.{Contents, Variable}
use Rattle.tp_store.specs.Stock.{Stock, contents_in}
use Rattle.tp_scene.specs.declared.answer.Cell.{Cell}
use Rattle.tp_scene.specs.declared.answer.Clash.{Clash}
use Rattle.tp_scene.specs.Step.{reduces, waits, rests, clashes, misses, passes}
use Rattle.tp_scene.specs.Pick.{Setting, Moment, outcome_of}
use Rattle.tp_scene.specs.Rest.{AtRest, settled, waiting, goes, ends, IsOpenCell}
use Rattle.tp_scene.specs.Replay as replay
use Rattle.tp_scene.specs.Beginning.{first_moment}
use Rattle.tp_scene.specs.Laws.{IsSound}
use Rattle.tp_slots.specs.declared.scene.Scene.{Scene}
use Rattle.tp_step.specs.Answers.{Tries}
use Rattle.tp_step.specs.declared.tally.Tally.{Tally}
use Rattle.tp_step.specs.declared.answer.Tried.{Tried}
use Rattle.tp_step.specs.declared.answer.Tried.TheVariants as tried
use Rattle.tp_step.specs.declared.ending.Ending.{Ending}
use Rattle.tp_step.specs.declared.ending.Ending.TheVariants as ending
use Rattle.tp_step.specs.Closes.{ClosureAnswers}
use Rattle.tp_step.specs.OfVariables.{CellIsOf}
use Rattle.tp_run.specs.declared.run.Made.{Made}
use Rattle.tp_run.specs.declared.run.Run.{Run}
use Rattle.tp_run.specs.declared.run.Settings.{Settings}
use Rattle.tp_run.specs.declared.run.Stand.{Stand}
use Rattle.tp_run.specs.declared.run.Stand.TheVariants.{Open, Answered, Spent}
use Rattle.tp_show.specs.declared.turn.Picture.{Picture}
use Rattle.tp_show.specs.declared.turn.Turn.{Turn}
use Rattle.tp_show.specs.declared.turn.Turn.TheVariants.{Went, Finished, Contradictory, Undetermined, StateLimit, InputMissing, Over}
use Rattle.tp_run.specs.History.{Plan, globals_of, setting, IsPictureOf, StateGoesOn, StateEnds, ReachesLimit, limit_moment, limit_picks, AgreesWithFacts}
use Rattle.tp_run.specs.Standing.{Standing, open_at, answered, spent, state_after, StateBecomes, AnswersState}
use Rattle.tp_run.specs.StateTries.{picks_of_state, end_of_state, IsEndingFor}
use Rattle.tp_run.specs.Meaning.{StandingFor, StandsForItsProgram, AnswerMeans}
use Rattle.tp_run.specs.Runs.{stands_at, standing_of, standing_place, store_of, StandIsKept, StandIsOf, TurnIsOf, MadeIsOf, StandsSound, StandsOrderly, IsSettingsOf, IsRunOf, HasPicture, NextOf, RestTurns}
use Rattle.tp_run.specs.EachOrder.{AnswerAgrees, AnswerHasNoDeadEnd}
use Rattle.tp_run.proofs.OneState.{Orderly, next_orderly, state_agrees, no_dead_end}
use Rattle.tp_run.proofs.StatesMean.{leads_sound, leads_keep, goes_on_says, ends_here_says}
use Rattle.tp_run.proofs.Given.{scene_laws, begin_laws}
use Rattle.tp_scene.proofs.NamedItem.{named_item_waits}
use Rattle.tp_step.proofs.KnownItems.{passes_other, clash_is_of, cell_is_of}

-- with the settings of a plan a state is read as the plan does
pub same_setting : (plan : Plan) (settings : Settings) → IsSettingsOf plan settings → setting_of settings.setting ≡ setting plan settings.setting.state
same_setting plan settings h =
    let make : List Definition → InputTable → Setting = λ ds ls. record { defs = ds; inputs = ls; state = settings.setting.state } in
    ap₂ make h.definitions h.inputs

-- what a run begins with
pub begins : (plan : Plan) → ProgramFits plan.program → StandsForItsProgram plan (open_at (first_moment plan.program.globals plan.program.main))
begins plan fits = (begin_laws.runs_begin (setting plan 0) plan.program.globals plan.program.main fits.defs fits.main).stands

-- an answer that an item waits
abbrev pub IsWait : Tried → Type 0
IsWait (tried.Waits first other) = Unit {0}
IsWait (tried.Reduced news) = ⊥
IsWait tried.Rests = ⊥
IsWait (tried.Clash c) = ⊥
IsWait (tried.Missing port) = ⊥
IsWait (tried.Over k) = ⊥

-- a try of an item that waits answers nothing else
waits_answered : (w : Setting) (room : ℕ) (m next : Moment) (t : ℕ) (a : Tried) (first : Cell) (other : Option Cell) → outcome_of w m.store m.scene t ≡ waits first other → Tries w room m t next a → IsWait a
waits_answered w room m next t (tried.Reduced news) first other e h = let never : waits first other ≡ reduces h.0 = sym e ∙ h.2.outcome in absurd (cc)
waits_answered w room m next t (tried.Waits a b) first other e h = tt
waits_answered w room m next t tried.Rests first other e h = let never : waits first other ≡ rests = sym e ∙ h.1 in absurd (cc)
waits_answered w room m next t (tried.Clash c) first other e h = let never : waits first other ≡ clashes c = sym e ∙ h.1 in absurd (cc)
waits_answered w room m next t (tried.Missing port) first other e h = let never : waits first other ≡ misses port = sym e ∙ h.1 in absurd (cc)
waits_answered w room m next t (tried.Over k) first other e h =
    elim h.1 [
      | inl p ↦ (let never : waits first other ≡ passes k = sym e ∙ p in absurd (cc))
      | inr f ↦ (let never : waits first other ≡ reduces f.0 = sym e ∙ f.3 in absurd (cc))
    ]

pub waiting_answer : (w : Setting) (kinds : List Bool) (room : ℕ) (m next : Moment) (t : ℕ) (a : Tried) → IsSound w kinds m → AtRest w m → settled m.scene ≡ waiting t → Tries w room m t next a → IsWait a
waiting_answer w kinds room m next t a sound rest e h =
    let there = named_item_waits w kinds m t sound rest e in
    waits_answered w room m next t a there.first there.other there.outcome h

pub waits_for_some : (a : Tried) → IsWait a → ((first : Cell) (other : Option Cell) → a ≡ tried.Waits first other → ⊥) → ⊥
waits_for_some (tried.Waits first other) h never = never first other refl
waits_for_some _ h never = h

-- the cell that an item is found to wait for is one of variables of the store
pub waits_named : (w : Setting) (kinds : List Bool) (room : ℕ) (m next : Moment) (t : ℕ) (a : Tried) (cell : Cell) (other : Option Cell) → IsSound w kinds m → Tries w room m t next a → a ≡ tried.Waits cell other → CellIsOf next.store.variables cell
waits_named w kinds room m next t a cell other sound h e =
    let answer : Tries w room m t next (tried.Waits cell other) = subst (Tries w room m t next) e h in
    subst (λ (z : Moment). CellIsOf z.store.variables cell) (sym answer.0) (cell_is_of w kinds m sound t cell other answer.1)

-- where a run goes on it has answered nothing
pub open_named : (stand : Stand) (store : Contents) (m : Moment) → stands_at stand store ≡ open_at m → StandIsOf store.variables stand
open_named (Open scene) store m e = tt
open_named (Answered turn scene) store m e = absurd (cc)
open_named Spent store m e = absurd (cc)

-- and where it ends it has answered this
pub end_named : (xs : List Variable) (made : Made) (turn : Turn) (scene : Scene) → made.stand ≡ Answered turn scene → made.turn ≡ turn → TurnIsOf xs turn
    → MadeIsOf xs made
end_named xs made turn scene stand is h = (subst (TurnIsOf xs) (sym is) h, subst (StandIsOf xs) (sym stand) h)

-- What becomes of a state by these picks, which lead to this moment, where its closure ends so.
pub record BecomesBy (plan : Plan) (n : ℕ) (m : Moment) (old new : Picture) (standing : Standing) (store : Contents) (turn : Turn)
    (picks : List ℕ) (last : Moment) (end : Ending) : Type 0 where
  pub becomes : StateBecomes plan n m old new standing store turn
  pub picks_are : picks_of_state plan n m old new standing store turn becomes ≡ picks
  pub leads_to : end_of_state plan n m old new standing store turn becomes ≡ last
  pub ends : IsEndingFor turn end

module _ (plan : Plan) (n : ℕ) (m last : Moment) (before after : List ℕ) where
  -- the closure of state n, which begins with m, comes to this end
  abbrev pub Comes : Ending → Type 0
  Comes ending = ClosureAnswers (setting plan n) plan.reductions m last before after ending

  -- where none was picked before it, its picks are all that there are
  own_picks : (end : Ending) → before ≡ [] → (comes : Comes end) → comes.made.picks ≡ after
  own_picks end first comes = sym (comes.made.appended ∙ ap (λ (xs : List ℕ). xs ++ comes.made.picks) first)

  pub clash_met : (clash : Clash) → Comes (ending.Clash clash) → replay.MeetsClash (setting plan n) plan.reductions m clash
  clash_met clash h =
      record { picks = h.made.picks; last = last; leads = h.made.leads; within = omega (arith, h.made.spent); item = h.ends.0; lives = h.ends.1; outcome = h.ends.2 }

  pub input_missed : (port : List ℕ) → Comes (ending.Missing port) → replay.MissesInput (setting plan n) plan.reductions m port
  input_missed port h =
      record { picks = h.made.picks; last = last; leads = h.made.leads; within = omega (arith, h.made.spent); item = h.ends.0; lives = h.ends.1; outcome = h.ends.2 }

  limit_passed : (k : LimitKind) → (k ≡ limit.Reductions → ⊥) → (comes : Comes (ending.Over k))
      → (end : replay.PassesLimit (setting plan n) plan.reductions m k) × (end.last ≡ last) × (end.picks ≡ comes.made.picks)
  limit_passed k another h =
      elim h.ends [
        | inl x ↦ (record { picks = h.made.picks; last = last; leads = h.made.leads; within = omega (arith, h.made.spent); item = x.0; lives = x.1; outcome = x.2 }, refl, refl)
        | inr y ↦ absurd (another y.0)
      ]

  reductions_used : (kinds : List Bool) → IsSound (setting plan n) kinds last → (comes : Comes (ending.Over limit.Reductions))
      → (end : replay.UsesUp (setting plan n) plan.reductions m) × (end.last ≡ last) × (end.picks ≡ comes.made.picks)
  reductions_used kinds sound h =
      elim h.ends [
        | inl x ↦ absurd (passes_other (setting plan n) kinds last sound x.0 limit.Reductions x.2)
        | inr y ↦ (record { picks = h.made.picks; last = last; leads = h.made.leads; all = omega (arith, h.made.spent, y.1); item = y.2.1.0; reduction = y.2.0; lives = y.2.1.1; outcome = y.2.1.2 }, refl, refl)
      ]

  -- the limit is reached by the closure's own picks
  pub limit_reached : (kinds : List Bool) → IsSound (setting plan n) kinds last → (k : LimitKind) → (comes : Comes (ending.Over k))
      → (end : ReachesLimit (setting plan n) plan.reductions m k) × (limit_moment (setting plan n) plan.reductions m k end ≡ last)
      × (limit_picks (setting plan n) plan.reductions m k end ≡ comes.made.picks)
  limit_reached kinds sound limit.Reductions h = reductions_used kinds sound h
  limit_reached kinds sound limit.Number h = limit_passed limit.Number (λ e. cc) h
  limit_reached kinds sound limit.List h = limit_passed limit.List (λ e. cc) h
  limit_reached kinds sound limit.Calls h = limit_passed limit.Calls (λ e. cc) h
  limit_reached kinds sound limit.Nest h = limit_passed limit.Nest (λ e. cc) h

  module _ (within : n < plan.states) (reductions : ℕ) (first : before ≡ []) (count : reductions ≡ length after) (comes : Comes ending.Rest) where
    closed : replay.Closes (setting plan n) plan.reductions m comes.made.picks last
    closed = record { leads = comes.made.leads; within = omega (arith, comes.made.spent); rest = comes.ends }

    counted : reductions ≡ length comes.made.picks
    counted = count ∙ ap (λ (xs : List ℕ). length xs) (sym (own_picks ending.Rest first comes))

    pictured : (picture : Picture) → HasPicture (globals_of plan) n reductions last picture → IsPictureOf plan n comes.made.picks last picture
    pictured picture h = record { state = h.state; facts = h.facts; parts = h.parts; shows = h.shows; reductions = h.reductions_are ∙ counted }

    went_on : (new : Picture) (next : Moment) → settled last.scene ≡ goes → HasPicture (globals_of plan) n reductions last new → NextOf last next → StateGoesOn plan n m new next
    went_on new next settles picture on = record {
      within = within;
      picks = comes.made.picks;
      last = last;
      goes = record { closes = closed; settles = settles; scene = on.scene; store = on.store };
      picture_is = pictured new picture;
    }

    ended_here : (new : Picture) → settled last.scene ≡ ends → HasPicture (globals_of plan) n reductions last new → StateEnds plan n m new
    ended_here new settles picture =
        record { within = within; picks = comes.made.picks; last = last; ends = record { closes = closed; settles = settles }; picture_is = pictured new picture }

    is_open : (cell : Cell) → IsOpenCell (setting plan n) last cell → replay.IsOpen (setting plan n) plan.reductions m cell
    is_open cell h = record { picks = comes.made.picks; last = last; closes = closed; cell_is = h }

    -- a state whose closure is at rest
    module _ (old new : Picture) (standing : Standing) (store : Contents) where
      abbrev pub Rests : Turn → Type 0
      Rests turn = RestTurns (setting plan n) (globals_of plan) reductions last old new standing store turn

      abbrev By : Turn → Type 0
      By turn = BecomesBy plan n m old new standing store turn after last ending.Rest

      own : comes.made.picks ≡ after
      own = own_picks ending.Rest first comes

      pub rest_becomes : (turn : Turn) → Rests turn → By turn
      unfolding went_on ended_here is_open
      rest_becomes Went r = record { becomes = (r.2.0, went_on new r.2.0 r.0 r.1 r.2.1, r.2.2, r.2.3); picks_are = own; leads_to = refl; ends = refl }
      rest_becomes (Finished length) r = record { becomes = (ended_here new r.0 r.1, r.2, r.3, r.4); picks_are = own; leads_to = refl; ends = refl }
      rest_becomes (Undetermined state cell) r = record { becomes = (is_open cell r.0, r.1, within, r.2, r.3, r.4); picks_are = own; leads_to = refl; ends = refl }
      rest_becomes (Contradictory state clash) r = absurd r
      rest_becomes (StateLimit states) r = absurd r
      rest_becomes (InputMissing state port) r = absurd r
      rest_becomes (Over state limit) r = absurd r

-- the same with settings of the plan, with which the closure was read
module _ (plan : Plan) (settings : Settings) (is : IsSettingsOf plan settings) (most : settings.setting.state ≤ settings.limits.states) (more : settings.setting.state ≡ settings.limits.states → ⊥) (m last : Moment) (before after : List ℕ) (found : Ending)
    (closes : ClosureAnswers (setting_of settings.setting) settings.limits.reductions m last before after found) where
  abbrev n : ℕ
  n = settings.setting.state

  state_within : n < plan.states
  state_within = omega (arith, most, is.states, more)

  -- the moment that the closure leads to is read as the plan does
  read_so : (kinds : List Bool) → IsSound (setting_of settings.setting) kinds last → IsSound (setting plan n) kinds last
  read_so kinds sound = subst (λ (w : Setting). IsSound w kinds last) (same_setting plan settings is) sound

  comes_to : (end : Ending) → found ≡ end → Comes plan n m last before after end
  comes_to end e =
      subst (λ (x : Ending). ClosureAnswers (setting plan n) plan.reductions m last before after x) e
      (subst (λ k. ClosureAnswers (setting plan n) k m last before after found) is.reductions
      (subst (λ (w : Setting). ClosureAnswers w settings.limits.reductions m last before after found) (same_setting plan settings is) closes))

  module _ (reductions : ℕ) (old new : Picture) (standing : Standing) (store : Contents) (turn : Turn) (first : before ≡ []) (count : reductions ≡ length after) (e : found ≡ ending.Rest)
      (h : RestTurns (setting_of settings.setting) settings.globals reductions last old new standing store turn) where
    turns : RestTurns (setting plan n) (globals_of plan) reductions last old new standing store turn
    turns =
        subst (λ k. RestTurns (setting plan n) k reductions last old new standing store turn) is.globals
        (subst (λ (w : Setting). RestTurns w settings.globals reductions last old new standing store turn) (same_setting plan settings is) h)

    pub run_rests : BecomesBy plan n m old new standing store turn after last found
    run_rests = subst (λ (x : Ending). BecomesBy plan n m old new standing store turn after last x) (sym e)
        (rest_becomes plan n m last before after state_within reductions first count (comes_to ending.Rest e) old new standing store turn turns)

  -- where the closure ends before the state is at rest
  module _ (old : Picture) (standing : Standing) (turn : Turn) (first : before ≡ []) where
    abbrev Stops : Turn → Type 0
    Stops t = BecomesBy plan n m old old standing last.store t after last found

    -- the state fails, by the closure's own picks
    run_fails : (t : Turn) (end : Ending) (comes : Comes plan n m last before after end) (becomes : StateBecomes plan n m old old standing last.store t) → picks_of_state plan n m old old standing last.store t becomes ≡ comes.made.picks
        → end_of_state plan n m old old standing last.store t becomes ≡ last → IsEndingFor t found → turn ≡ t → Stops turn
    run_fails t end comes becomes picks leads met turn_is =
        subst Stops (sym turn_is) (record { becomes = becomes; picks_are = picks ∙ own_picks plan n m last before after end first comes; leads_to = leads; ends = met })

    pub run_reaches : (kinds : List Bool) → IsSound (setting_of settings.setting) kinds last → (k : LimitKind) → found ≡ ending.Over k → standing ≡ answered (Over n k) last → turn ≡ Over n k → Stops turn
    run_reaches kinds sound k e stand =
        let comes = comes_to (ending.Over k) e in
        let reached = limit_reached plan n m last before after kinds (read_so kinds sound) k comes in
        run_fails (Over n k) (ending.Over k) comes
        (reached.0, refl, state_within, refl, stand ∙ ap (answered (Over n k)) (sym reached.1), ap (λ (z : Moment). z.store) (sym reached.1)) reached.2 reached.1 e

    pub run_clashes : (clash : Clash) → found ≡ ending.Clash clash → standing ≡ answered (Contradictory n clash) last → turn ≡ Contradictory n clash → Stops turn
    unfolding clash_met
    run_clashes clash e stand =
        let comes = comes_to (ending.Clash clash) e in
        run_fails (Contradictory n clash) (ending.Clash clash) comes (clash_met plan n m last before after clash comes, refl, state_within, refl, stand, refl) refl refl e

    pub run_misses : (port : List ℕ) → found ≡ ending.Missing port → standing ≡ answered (InputMissing n port) last → turn ≡ InputMissing n port → Stops turn
    unfolding input_missed
    run_misses port e stand =
        let comes = comes_to (ending.Missing port) e in
        run_fails (InputMissing n port) (ending.Missing port) comes (input_missed plan n m last before after port comes, refl, state_within, refl, stand, refl) refl refl e

  -- a clash is one of variables of the store
  pub run_clashes_named : (kinds : List Bool) → IsSound (setting_of settings.setting) kinds last → (clash : Clash) → found ≡ ending.Clash clash → TurnIsOf last.store.variables (Contradictory n clash)
  run_clashes_named kinds sound clash e =
      let comes = comes_to (ending.Clash clash) e in clash_is_of (setting plan n) kinds last (read_so kinds sound) comes.ends.0 clash comes.ends.2

module _ (plan : Plan) (n : ℕ) (m : Moment) (old new : Picture) (standing : Standing) (store : Contents) (orderly : Orderly plan n m) where
  sound : IsSound (setting plan n) (kinds_of plan.program.globals) m
  sound = orderly.sound

  abbrev Becomes : Turn → Type 0
  Becomes turn = StateBecomes plan n m old new standing store turn

  went_means : Becomes Went → AnswerMeans plan n (open_at m) standing new Went
  went_means w s a b S lasting own =
      let one = goes_on_says scene_laws plan n m w.0 new sound w.1 s a b S lasting own in
      let Rest : Standing → Type 0 = λ z. (a < b) × AgreesWithFacts s a new.facts × ((U : Shows) × (S ≡ shown_at a (shows_of new.shows) ⊕ U) × StandingFor plan (suc n) z s (suc a) b U) in
      (λ h. subst Rest (sym w.2) (one.0 h), λ h. one.1 (subst Rest w.2 h))

  clash_means : (clash : Clash) → replay.MeetsClash (setting plan n) plan.reductions m clash → (s : Course) (a b : ℕ) (S : Shows) → (s a).own ≡ n → StandingFor plan n (open_at m) s a b S → ⊥
  clash_means clash w s a b S own h =
      let here = leads_sound scene_laws (setting plan n) (kinds_of plan.program.globals) w.picks m w.last sound w.leads in
      let none = (begin_laws.refusals (setting plan n) (kinds_of plan.program.globals) w.last w.item here w.lives).clash clash w.outcome in
      none s a b S own ((leads_keep scene_laws (setting plan n) (kinds_of plan.program.globals) w.picks m w.last sound w.leads s a b S own).0 h)

  missing_means : (port : List ℕ) → replay.MissesInput (setting plan n) plan.reductions m port → (s : Course) (a b : ℕ) (S : Shows) → (s a).own ≡ n → StandingFor plan n (open_at m) s a b S → ⊥
  missing_means port w s a b S own h =
      let here = leads_sound scene_laws (setting plan n) (kinds_of plan.program.globals) w.picks m w.last sound w.leads in
      let none = (begin_laws.refusals (setting plan n) (kinds_of plan.program.globals) w.last w.item here w.lives).missing port w.outcome in
      none s a b S own ((leads_keep scene_laws (setting plan n) (kinds_of plan.program.globals) w.picks m w.last sound w.leads s a b S own).0 h)

  -- what the answer for a state says
  pub becomes_means : (turn : Turn) → Becomes turn → AnswerMeans plan n (open_at m) standing new turn
  becomes_means Went w = went_means w
  becomes_means (Finished length) w = λ s a b S lasting own. ends_here_says scene_laws plan n m new sound w.0 s a b S own
  becomes_means (Contradictory state clash) w = clash_means clash w.0
  becomes_means (Undetermined state cell) w = tt
  becomes_means (StateLimit states) w = tt
  becomes_means (InputMissing state port) w = missing_means port w.0
  becomes_means (Over state limit) w = tt

  -- where the run then stands
  pub record StandsOn (next : ℕ) : Type 0 where
    pub within : next ≤ plan.states
    pub stands : StandsOrderly plan next standing

  last_orderly : (turn : Turn) (end : Moment) → standing ≡ answered turn end → StandsOrderly plan n standing
  last_orderly turn end e = subst (StandsOrderly plan n) (sym e) tt

  pub becomes_orderly : (turn : Turn) → Becomes turn → StandsOn (state_after n turn)
  becomes_orderly Went w = record { within = omega (arith, w.1.within); stands = subst (StandsOrderly plan (suc n)) (sym w.2) (next_orderly plan n m w.0 new orderly w.1) }
  becomes_orderly (Finished length) w = record { within = omega (arith, w.0.within); stands = last_orderly (Finished length) w.0.last w.2 }
  becomes_orderly (Contradictory state clash) w = record { within = omega (arith, w.2); stands = last_orderly (Contradictory state clash) w.0.last w.4 }
  becomes_orderly (Undetermined state cell) w = record { within = omega (arith, w.2); stands = last_orderly (Undetermined state cell) w.0.last w.4 }
  becomes_orderly (StateLimit states) w = record { within = omega (arith, w.0); stands = last_orderly (StateLimit states) m w.3 }
  becomes_orderly (InputMissing state port) w = record { within = omega (arith, w.2); stands = last_orderly (InputMissing state port) w.0.last w.4 }
  becomes_orderly (Over state limit) w = record { within = omega (arith, w.2); stands = last_orderly (Over state limit) (limit_moment (setting plan n) plan.reductions m limit w.0) w.4 }

-- the moment at which a run stands is orderly
pub orderly_at : (plan : Plan) (run : Run) (m : Moment) → IsRunOf plan run → open_at m ≡ standing_of run → Orderly plan run.state m
orderly_at plan run m h opened = let here : StandsOrderly plan run.state (open_at m) = subst (StandsOrderly plan run.state) (sym opened) h.orderly in here

-- and sound
pub stands_sound : (plan : Plan) (n : ℕ) (standing : Standing) → StandsOrderly plan n standing → StandsSound plan n standing
stands_sound plan n (open_at m) h = h.sound
stands_sound plan n (answered turn m) h = tt
stands_sound plan n spent h = tt

-- the run with another store, stand and tally, before a state with this number
abbrev pub moved : Run → (next : ℕ) → Stock → Stand → Tally → Run
moved run next store stand tally = record run { state = next; store = store; stand = stand; tally = tally }

with_stand : (plan : Plan) (run : Run) (next : ℕ) (store : Stock) (stand : Stand) (tally : Tally) → IsRunOf plan run → next ≤ plan.states → StandsOrderly plan next (stands_at stand (contents_in store)) → StandIsKept stand → StandIsOf store.variables stand
    → IsRunOf plan (moved run next store stand tally)
with_stand plan run next store stand tally h within orderly kept named = record {
  program = h.program;
  inputs = h.inputs;
  states = h.states;
  reductions = h.reductions;
  within = within;
  orderly = orderly;
  kept = kept;
  named = named;
}

-- a run reads its next state as its plan does
abbrev pub read_with : Run → Setting
read_with run = record { defs = definitions_of run.program.defs; inputs = inputs_of run.inputs; state = run.state }

pub run_setting : (plan : Plan) (run : Run) → IsRunOf plan run → read_with run ≡ setting plan run.state
run_setting plan run h =
    let make : List Definition → InputTable → Setting = λ ds ls. record { defs = ds; inputs = ls; state = run.state } in
    ap₂ make (ap (λ (p : ProgramTree). p.defs) h.program) h.inputs

-- how many variables a run's program has
pub globals_are : (plan : Plan) (run : Run) → IsRunOf plan run → length run.program.globals ≡ globals_of plan
globals_are plan run h = sym (length-map run.program.globals is_lower) ∙ ap (λ (p : ProgramTree). length (kinds_of p.globals)) h.program

-- settings that read a state as a run does are those of its plan
pub settings_of_run : (plan : Plan) (run : Run) (settings : Settings) → IsRunOf plan run → settings.limits ≡ run.limits → inputs_of settings.setting.inputs.now ≡ inputs_of run.inputs
    → definitions_of settings.setting.defs.now ≡ definitions_of run.program.defs → settings.globals ≡ length run.program.globals → IsSettingsOf plan settings
settings_of_run plan run settings h limits inputs definitions globals = record {
  inputs = inputs ∙ h.inputs;
  states = ap (λ z. z.states) limits ∙ h.states;
  reductions = ap (λ z. z.reductions) limits ∙ h.reductions;
  globals = globals ∙ globals_are plan run h;
  definitions = definitions ∙ ap (λ (p : ProgramTree). p.defs) h.program;
}

-- what the answer for a state leaves
module _ (plan : Plan) (run : Run) (is_run : IsRunOf plan run) (m : Moment) (opened : open_at m ≡ standing_of run) (old new : Picture) (store : Stock) (stand : Stand) (turn : Turn)
    (becomes : StateBecomes plan run.state m old new (stands_at stand (contents_in store)) (contents_in store) turn) where
  orderly_here : Orderly plan run.state m
  orderly_here = orderly_at plan run m is_run opened

  pub answers_state : (next : ℕ) → next ≡ state_after run.state turn → AnswersState plan (standing_place run) old new (record { standing = stands_at stand (contents_in store); state = next; store = contents_in store }) turn
  answers_state next e = subst (λ (z : Standing). AnswersState plan (record { standing = z; state = run.state; store = store_of run }) old new (record { standing = stands_at stand (contents_in store); state = next; store = contents_in store }) turn) opened (becomes, e)

  pub answer_means : AnswerMeans plan run.state (standing_of run) (stands_at stand (contents_in store)) new turn
  answer_means = subst (λ (z : Standing). AnswerMeans plan run.state z (stands_at stand (contents_in store)) new turn) opened (becomes_means plan run.state m old new (stands_at stand (contents_in store)) (contents_in store) orderly_here turn becomes)

  pub run_kept : (next : ℕ) (tally : Tally) → next ≡ state_after run.state turn → StandIsKept stand → StandIsOf store.variables stand → IsRunOf plan (moved run next store stand tally)
  run_kept next tally e kept named =
      let on = becomes_orderly plan run.state m old new (stands_at stand (contents_in store)) (contents_in store) orderly_here turn becomes in
      with_stand plan run next store stand tally is_run (subst (λ k. k ≤ plan.states) (sym e) on.within) (subst (λ k. StandsOrderly plan k (stands_at stand (contents_in store))) (sym e) on.stands) kept named

  pub answer_agrees : AnswerAgrees plan run.state (standing_of run) new turn
  answer_agrees = subst (λ (z : Standing). AnswerAgrees plan run.state z new turn) opened
      (state_agrees plan run.state m orderly_here old new (stands_at stand (contents_in store)) (contents_in store) turn becomes)

  pub answer_goes_on : AnswerHasNoDeadEnd plan run.state (standing_of run) new turn
  answer_goes_on = subst (λ (z : Standing). AnswerHasNoDeadEnd plan run.state z new turn) opened
      (no_dead_end plan run.state m orderly_here old new (stands_at stand (contents_in store)) (contents_in store) turn becomes)
