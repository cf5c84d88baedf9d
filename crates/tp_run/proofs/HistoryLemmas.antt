-- What whole runs say of every interval.
use Rattle.std.proofs.Common.{◌≡◌, ◌↔◌, ℕ, suc, ◌+◌, ◌<◌, ◌≤◌, List, [], ◌∷◌, ◌++◌, length, refl, ap, sym, ◌∙◌, subst, arith, length-append}
use Rattle.std.proofs.lemmas.List.{append-nil}
use Rattle.tp_value.specs.Tree.{Tree}
use Rattle.tp_meaning.specs.Course.{Course, Shows, ◌⊕◌, shown_at}
use Rattle.tp_meaning.specs.Interval.{IsInterval, kinds_of}
use Rattle.tp_meaning.specs.Fits.{ProgramFits}
use Rattle.tp_meaning.specs.Holds.{Holds}
use Rattle.tp_meaning.proofs.Shows.{join-assoc as join_assoc, join-blank}
use Rattle.tp_store.specs.Facts.{AgreesWithAll}
use Rattle.tp_store.specs.Known.{Contents, facts_below}
use Rattle.tp_decide.specs.Read.{shows_of}
use Rattle.tp_scene.specs.declared.answer.Clash.{Clash}
use Rattle.tp_scene.specs.Pick.{Moment, Leads}
use Rattle.tp_scene.specs.StandsFor.{StandsFor, context_of}
use Rattle.tp_scene.specs.Beginning.{first_moment}
use Rattle.tp_scene.specs.Laws.{IsSound, RefusalsStandForNone, RunsBegin}
use Rattle.tp_scene.specs.Replay as replay
use Rattle.tp_show.specs.declared.turn.Picture.{Picture}
use Rattle.tp_show.specs.declared.turn.Turn.{Turn}
use Rattle.tp_show.specs.declared.turn.Turn.TheVariants.{Went, Finished, Contradictory, Undetermined, StateLimit, InputMissing, Over}
use Rattle.tp_run.specs.History.{Plan, globals_of, setting, StateGoesOn, StatesLead, LeadsTo, ReachesLimit, limit_moment, FinishesAt, RunEndsWith, AgreesWithPictures, shown_from, SatisfiedExactly, Satisfiable, Unsatisfiable, ContinuesEach}
use Rattle.tp_run.specs.Standing.{answered, RunPlace, state_after, StateBecomes}
use Rattle.tp_run.specs.Advances.{EndOfRunMeans, Advances, RunsAdvance}
use Rattle.tp_run.proofs.StatesMean.{SceneLaws, leads_sound, leads_keep, lead_sound, states_say, ends_here_says, picture_agrees}
use Rattle.tp_scene.proofs.Quiet.{says_quiet}
use Rattle.tp_run.proofs.Lives.{StateLaws, lives, Agree, agree_at, agrees_with_less, below_keeps, picks_keep}

-- what else is asked of scenes: how a run begins, and what a clash and a missing input say
pub record BeginLaws : Type 0 where
  pub begin_sound : (plan : Plan) → ProgramFits plan.program → IsSound (setting plan 0) (kinds_of plan.program.globals) (first_moment plan.program.globals plan.program.main)
  pub runs_begin : RunsBegin
  pub refusals : RefusalsStandForNone

-- pictures one list after the other
agree_join : (s : Course) (a : ℕ) (ps qs : List Picture) → AgreesWithPictures s a ps → AgreesWithPictures s (length ps + a) qs → AgreesWithPictures s a (ps ++ qs)
agree_join s a [] qs h g = let place : 0 + a ≡ a = omega arith in subst (λ p. AgreesWithPictures s p qs) place g
agree_join s a (p ∷ ps) qs h g = let place : length (p ∷ ps) + a ≡ length ps + suc a = omega arith in (h.0, agree_join s (suc a) ps qs h.1 (subst (λ q. AgreesWithPictures s q qs) place g))

agree_front : (s : Course) (a : ℕ) (ps qs : List Picture) → AgreesWithPictures s a (ps ++ qs) → AgreesWithPictures s a ps
agree_front s a [] qs h = tt
agree_front s a (p ∷ ps) qs h = (h.0, agree_front s (suc a) ps qs h.1)

agree_back : (s : Course) (a : ℕ) (ps qs : List Picture) → AgreesWithPictures s a (ps ++ qs) → AgreesWithPictures s (length ps + a) qs
agree_back s a [] qs h = let place : a ≡ 0 + a = omega arith in subst (λ p. AgreesWithPictures s p qs) place h
agree_back s a (p ∷ ps) qs h = let place : length ps + suc a ≡ length (p ∷ ps) + a = omega arith in subst (λ q. AgreesWithPictures s q qs) place (agree_back s (suc a) ps qs h.1)

-- what they show
shown_join : (a : ℕ) (ps qs : List Picture) → shown_from a (ps ++ qs) ≡ shown_from a ps ⊕ shown_from (length ps + a) qs
shown_join a [] qs = let place : a ≡ 0 + a = omega arith in ap (λ i. shown_from i qs) place
shown_join a (p ∷ ps) qs =
    let place : length ps + suc a ≡ length (p ∷ ps) + a = omega arith in
    ap (λ (T : Shows). shown_at a (shows_of p.shows) ⊕ T) (shown_join (suc a) ps qs ∙ ap (λ i. shown_from (suc a) ps ⊕ shown_from i qs) place)
    ∙ sym (join_assoc (shown_at a (shows_of p.shows)) (shown_from (suc a) ps) (shown_from (length (p ∷ ps) + a) qs))

module _ (laws : SceneLaws) (begins : BeginLaws) (stores : StateLaws) where
  -- a program's interval satisfies it where the states agree with the pictures, and what comes after them is stood for
  pub leads_say : (plan : Plan) (ps : List Picture) (m : Moment) → ProgramFits plan.program → LeadsTo plan ps m → (s : Course) (a b : ℕ) (S : Shows) → IsInterval plan.program s a b
      → ((d : ℕ) × Holds (record { defs = plan.program.defs; inputs = plan.inputs }) d plan.program.main [] s a b S)
      ↔ ((length ps + a ≤ b) × AgreesWithPictures s a ps × ((U : Shows) × (S ≡ shown_from a ps ⊕ U) × StandsFor (setting plan (length ps)) (globals_of plan) m s (length ps + a) b U))
  leads_say plan ps m fits leads s a b S interval =
      let begin = begins.runs_begin (setting plan 0) plan.program.globals plan.program.main fits.defs fits.main in
      let first = begin.stands s a b S in
      let states = states_say laws plan 0 (length ps) ps (first_moment plan.program.globals plan.program.main) m (omega arith) (begins.begin_sound plan fits) leads s a b (length ps + a) S refl interval.lasting interval.numbered in
      (λ h. states.0 (first.1 (interval.nonempty, h)), λ h. (first.0 (states.1 h)).1)

  sound_after : (plan : Plan) (ps : List Picture) (m : Moment) → ProgramFits plan.program → LeadsTo plan ps m → IsSound (setting plan (length ps)) (kinds_of plan.program.globals) m
  sound_after plan ps m fits leads = lead_sound laws plan 0 (length ps) ps (first_moment plan.program.globals plan.program.main) m (omega arith) (begins.begin_sound plan fits) leads

  -- the state after some pictures has their number
  number_after : (plan : Plan) (ps : List Picture) (s : Course) (a b : ℕ) → IsInterval plan.program s a b → length ps + a ≤ b → (s (length ps + a)).own ≡ length ps
  number_after plan ps s a b interval le = interval.numbered (length ps) le ∙ omega arith

  -- a run that finishes
  pub finish_says : (plan : Plan) (ps : List Picture) (n : ℕ) → ProgramFits plan.program → FinishesAt plan ps n → SatisfiedExactly plan ps n
  finish_says plan ps n fits w s a b S =
      let k = length w.before in
      let here = sound_after plan w.before w.moment fits w.leads in
      let G = globals_of plan in
      let last_shows : shown_from a ps ≡ shown_from a w.before ⊕ shown_at (k + a) (shows_of w.final.shows) =
      ap (shown_from a) w.pictures ∙ shown_join a w.before (w.final ∷ []) ∙ ap (λ (T : Shows). shown_from a w.before ⊕ T) (join-blank (shown_at (k + a) (shows_of w.final.shows))) in
      let end = λ (interval : IsInterval plan.program s a b) (le : k + a ≤ b) (U : Shows). ends_here_says laws plan k w.moment w.final here w.ends s (k + a) b U (number_after plan w.before s a b interval le) in (
        λ h.
            let interval = h.0 in
            let x = (leads_say plan w.before w.moment fits w.leads s a b S interval).0 h.1 in
            let y = (end interval x.0 x.2.0).0 x.2.2 in
            let length_is : b ≡ n + a = omega (arith, y.0, w.count) in (
              interval,
              length_is,
              subst (AgreesWithPictures s a) (sym w.pictures) (agree_join s a w.before (w.final ∷ []) x.1 (y.1, tt)),
              x.2.1 ∙ ap (λ (T : Shows). shown_from a w.before ⊕ T) y.2 ∙ sym last_shows,
            ),
        λ h.
            let interval = h.0 in
            let agrees = subst (AgreesWithPictures s a) w.pictures h.2 in
            let last = agree_back s a w.before (w.final ∷ []) agrees in
            let place : k + a ≡ b = omega (arith, h.1, w.count) in
            let first : k + a ≤ b = omega (arith, place) in
            let U : Shows = shown_at (k + a) (shows_of w.final.shows) in (
              interval,
              (leads_say plan w.before w.moment fits w.leads s a b S interval).1 (first, agree_front s a w.before (w.final ∷ []) agrees, (U, h.3 ∙ last_shows, (end interval first U).1 (place, last.0, refl))),
            ),
      )

  -- there is such an interval
  pub finish_satisfiable : (plan : Plan) (ps : List Picture) (n : ℕ) → ProgramFits plan.program → FinishesAt plan ps n → Satisfiable plan
  finish_satisfiable plan ps n fits w =
      let k = length w.before in
      let kinds = kinds_of plan.program.globals in
      let G = globals_of plan in
      let here = sound_after plan w.before w.moment fits w.leads in
      let at_end = leads_sound laws (setting plan k) kinds w.ends.picks w.moment w.ends.last here w.ends.ends.closes.leads in
      let facts = w.ends.last.store.facts in
      let v = stores.has_state w.ends.last.store.variables facts at_end.store.no_clash at_end.store.facts in
      let before = agrees_with_less w.moment.store.facts facts v.0 here.store.no_clash (λ q sh. picks_keep (setting plan k) w.ends.picks w.moment w.ends.last q sh w.ends.ends.closes.leads) v.1 in
      let l = lives laws stores plan 0 w.before (first_moment plan.program.globals plan.program.main) w.moment (begins.begin_sound plan fits) w.leads v.0 before in
      let s = l.0 in
      let below = agrees_with_less (facts_below G facts) facts v.0 (laws.below_no_clash G facts at_end.store.no_clash) (below_keeps G facts at_end.store.no_clash) v.1 in
      let final = (picture_agrees laws G facts w.final.facts at_end.store.no_clash w.ends.picture_is.facts v.0).0 below in
      let last : AgreesWithPictures s (k + 0) (w.final ∷ []) = (subst (λ (u : ℕ → Tree). AgreesWithAll u w.final.facts) (sym (l.1.after (k + 0) (omega arith))) final, tt) in
      let zeros : (j : ℕ) → j ≡ j + 0 = λ j. omega arith in
      let fronts = agree_at s 0 w.before (subst (λ (t : Course). Agree t w.before) (λ i j. s (zeros j i)) l.1.agree) in
      let agrees = subst (AgreesWithPictures s 0) (sym w.pictures) (agree_join s 0 w.before (w.final ∷ []) fronts last) in
      let interval : IsInterval plan.program s 0 n = record {
        nonempty = omega arith;
        numbered = λ j h. ap (λ i. (s i).own) (sym (zeros j)) ∙ l.1.own j;
        lasting = λ x e i j ai ib aj jb. l.1.lasting i x e ∙ sym (l.1.lasting j x e);
      } in
      (s, 0, n, shown_from 0 ps, (finish_says plan ps n fits w s 0 n (shown_from 0 ps)).1 (interval, omega arith, agrees, refl))

  -- where picks lead to what nothing stands for, no interval satisfies
  none_satisfies : (plan : Plan) (ps : List Picture) (m last : Moment) (picks : List ℕ) → ProgramFits plan.program → LeadsTo plan ps m → Leads (setting plan (length ps)) m picks last
      → ((s : Course) (a b : ℕ) (S : Shows) → (s a).own ≡ length ps → StandsFor (setting plan (length ps)) (globals_of plan) last s a b S → ⊥) → Unsatisfiable plan
  none_satisfies plan ps m last picks fits leads to none s a b S h =
      let x = (leads_say plan ps m fits leads s a b S h.0).0 h.1 in
      let own = number_after plan ps s a b h.0 x.0 in
      none s (length ps + a) b x.2.0 own ((leads_keep laws (setting plan (length ps)) (kinds_of plan.program.globals) picks m last (sound_after plan ps m fits leads) to s (length ps + a) b x.2.0 own).0 x.2.2)

  pub clash_says : (plan : Plan) (ps : List Picture) (m : Moment) (n : ℕ) (clash : Clash) → n ≡ length ps → ProgramFits plan.program → LeadsTo plan ps m → replay.MeetsClash (setting plan n) plan.reductions m clash → Unsatisfiable plan
  clash_says plan ps m n clash e fits leads h =
      let w : replay.MeetsClash (setting plan (length ps)) plan.reductions m clash = subst (λ i. replay.MeetsClash (setting plan i) plan.reductions m clash) e h in
      let here = leads_sound laws (setting plan (length ps)) (kinds_of plan.program.globals) w.picks m w.last (sound_after plan ps m fits leads) w.leads in
      none_satisfies plan ps m w.last w.picks fits leads w.leads ((begins.refusals (setting plan (length ps)) (kinds_of plan.program.globals) w.last w.item here w.lives).clash clash w.outcome)

  pub missing_says : (plan : Plan) (ps : List Picture) (m : Moment) (n : ℕ) (port : List ℕ) → n ≡ length ps → ProgramFits plan.program → LeadsTo plan ps m → replay.MissesInput (setting plan n) plan.reductions m port → Unsatisfiable plan
  missing_says plan ps m n port e fits leads h =
      let w : replay.MissesInput (setting plan (length ps)) plan.reductions m port = subst (λ i. replay.MissesInput (setting plan i) plan.reductions m port) e h in
      let here = leads_sound laws (setting plan (length ps)) (kinds_of plan.program.globals) w.picks m w.last (sound_after plan ps m fits leads) w.leads in
      none_satisfies plan ps m w.last w.picks fits leads w.leads ((begins.refusals (setting plan (length ps)) (kinds_of plan.program.globals) w.last w.item here w.lives).missing port w.outcome)

  pub continues_each : (plan : Plan) (ps : List Picture) (m : Moment) → ProgramFits plan.program → LeadsTo plan ps m → ContinuesEach plan ps
  continues_each plan ps m fits leads s a b S h =
      let x = (leads_say plan ps m fits leads s a b S h.0).0 h.1 in
      let here = sound_after plan ps m fits leads in
      let rest = x.2.2 in
      let silent = says_quiet (context_of (setting plan (length ps))) (globals_of plan) m.scene.root.entries rest.depth rest.locals s (length ps + a) b x.2.0 rest.in_order rest.says.1 in
      (x.0, x.1, λ j less. ap (λ (T : Shows). T j) x.2.1 ∙ ap (λ vs. shown_from a ps j ++ vs) (silent j less) ∙ append-nil (shown_from a ps j))

  -- What the end of a run says of every interval.
  pub end_means : (plan : Plan) → ProgramFits plan.program → (ps : List Picture) (turn : Turn) → RunEndsWith plan ps turn → EndOfRunMeans plan ps turn
  end_means plan fits ps Went w = tt
  end_means plan fits ps (Finished n) w = (finish_says plan ps n fits w, finish_satisfiable plan ps n fits w)
  end_means plan fits ps (Contradictory state clash) w = clash_says plan ps w.0 state clash w.3 fits w.1 w.2
  end_means plan fits ps (Undetermined state cell) w = continues_each plan ps w.0 fits w.1
  end_means plan fits ps (StateLimit states) w = continues_each plan ps w.0 fits w.1
  end_means plan fits ps (InputMissing state port) w = missing_says plan ps w.0 state port w.3 fits w.1 w.2
  end_means plan fits ps (Over state limit) w = continues_each plan ps w.0 fits w.1

-- a state that goes on, told of another name of its number and of what it begins with
abbrev pub goes_there : (plan : Plan) (n k : ℕ) (r m : Moment) (p : Picture) (next : Moment) → k ≡ n → m ≡ r → StateGoesOn plan k m p next → StateGoesOn plan n r p next
goes_there plan n k r m p next e h g = subst (λ i. StateGoesOn plan i r p next) e (subst (λ (z : Moment). StateGoesOn plan k z p next) h g)

pub index_there : (k n : ℕ) → k ≡ 0 + n → k ≡ n
index_there k n e = omega (arith, e)

pub index_next : (k m n : ℕ) → k ≡ suc m + n → k ≡ m + suc n
index_next k m n e = omega (arith, e)

-- one more state
abbrev pub lead_more : (plan : Plan) (n : ℕ) (r : Moment) (ps : List Picture) (m : Moment) (k : ℕ) (p : Picture) (next : Moment) → k ≡ length ps + n → StatesLead plan n r ps m → StateGoesOn plan k m p next → StatesLead plan n r (ps ++ p ∷ []) next
lead_more plan n r [] m k p next e h g = (next, goes_there plan n k r m p next (index_there k n e) h g, refl)
lead_more plan n r (q ∷ ps) m k p next e h g = (h.0, h.1, lead_more plan (suc n) h.0 ps m k p next (index_next k (length ps) n e) h.2 g)

-- an end of a state with what it leads to, told of another name of the state's number
abbrev end_there : (At : ℕ → Type 0) (last : (i : ℕ) → At i → Moment) (k n : ℕ) → k ≡ n → (h : At k) → (g : At n) × (last k h ≡ last n g)
end_there At last k n e h = subst (λ i. (g : At i) × (last k h ≡ last i g)) e (h, refl)

-- the store of one moment is that of an equal one
pub kept_there : (store : Contents) (a b : Moment) → a ≡ b → store ≡ a.store → store ≡ b.store
kept_there store a b e h = h ∙ ap (λ (z : Moment). z.store) e

-- where a run ended stays the same by the moment of an equal end
pub stands_there : (to : RunPlace) (turn : Turn) (a b : Moment) → a ≡ b → to.standing ≡ answered turn a → to.store ≡ a.store
    → (to.standing ≡ answered turn b) × (to.store ≡ b.store)
stands_there to turn a b e stand store = (stand ∙ ap (answered turn) e, kept_there to.store a b e store)

-- a run ends in a state that was begun
abbrev ends_begun : (plan : Plan) (ps : List Picture) (m : Moment) → LeadsTo plan ps m → (old new : Picture) (to : RunPlace) (turn : Turn)
    → (At : Moment → ℕ → Type 0) (last : (z : Moment) (i : ℕ) → At z i → Moment) (state : ℕ)
    → ((h : At m (length ps)) × (state ≡ length ps) × (length ps < plan.states) × (new ≡ old) × (to.standing ≡ answered turn (last m (length ps) h)) × (to.store ≡ (last m (length ps) h).store))
    → (end : (z : Moment) × LeadsTo plan ps z × At z state × (state ≡ length ps) × (state < plan.states)) × (new ≡ old)
    × ((to.standing ≡ answered turn (last end.0 state end.2)) × (to.store ≡ (last end.0 state end.2).store))
ends_begun plan ps m leads old new to turn At last state w =
    let e = w.1 in
    let g = end_there (At m) (last m) (length ps) state (sym e) w.0 in
    ((m, leads, g.0, e, subst (λ i. i < plan.states) (sym e) w.2), w.3, stands_there to turn (last m (length ps) w.0) (last m state g.0) g.1 w.4 w.5)

pub count_more : (ps : List Picture) (new : Picture) (n : ℕ) → n ≡ suc (length ps) → n ≡ length (ps ++ new ∷ [])
count_more ps new n e = e ∙ omega (arith, length-append ps (new ∷ []))

pub index_first : (ps : List Picture) → length ps ≡ length ps + 0
index_first ps = omega arith

abbrev pub advance_by : (plan : Plan) (ps : List Picture) (m : Moment) → LeadsTo plan ps m → (old new : Picture) (to : RunPlace) (turn : Turn)
    → StateBecomes plan (length ps) m old new to.standing to.store turn → to.state ≡ state_after (length ps) turn → Advances plan ps old new to turn
advance_by plan ps m leads old new to Went w next =
    let g = w.1 in
    (w.0, w.2, lead_more plan 0 (first_moment plan.program.globals plan.program.main) ps m (length ps) new w.0 (index_first ps) leads g, count_more ps new to.state next, g.picture_is.state)
advance_by plan ps m leads old new to (Finished n) w next =
    (record { before = ps; final = new; moment = m; pictures = refl; leads = leads; ends = w.0; count = w.1 }, w.0.picture_is.state, (w.2, w.3))
advance_by plan ps m leads old new to (Contradictory state clash) w next =
    ends_begun plan ps m leads old new to (Contradictory state clash) (λ z i. replay.MeetsClash (setting plan i) plan.reductions z clash) (λ z i h. h.last) state w
advance_by plan ps m leads old new to (Undetermined state cell) w next =
    ends_begun plan ps m leads old new to (Undetermined state cell) (λ z i. replay.IsOpen (setting plan i) plan.reductions z cell) (λ z i h. h.last) state w
advance_by plan ps m leads old new to (StateLimit states) w next = ((m, leads, w.1, w.1 ∙ w.0), w.2, (w.3, w.4))
advance_by plan ps m leads old new to (InputMissing state port) w next =
    ends_begun plan ps m leads old new to (InputMissing state port) (λ z i. replay.MissesInput (setting plan i) plan.reductions z port) (λ z i h. h.last) state w
advance_by plan ps m leads old new to (Over state limit) w next =
    ends_begun plan ps m leads old new to (Over state limit) (λ z i. ReachesLimit (setting plan i) plan.reductions z limit) (λ z i. limit_moment (setting plan i) plan.reductions z limit) state w

pub runs_advance : (plan : Plan) → RunsAdvance plan
runs_advance plan = record { begins = refl; goes_on = advance_by plan }
