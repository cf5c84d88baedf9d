-- The states of two runs are alike, and they end the same.
use Rattle.std.proofs.Common.{◌≡◌, ℕ, List, [], ◌∷◌, ◌++◌, map, length, refl, ap, sym, subst, append-nil}
use Rattle.tp_scene.specs.declared.answer.Cell.{Cell}
use Rattle.tp_scene.specs.Pick.{Moment}
use Rattle.tp_scene.specs.Replay.{IsOpen}
use Rattle.tp_show.specs.declared.turn.Picture.{Picture}
use Rattle.tp_show.specs.declared.turn.Turn.{Turn}
use Rattle.tp_show.specs.declared.turn.Turn.TheVariants.{Went, Finished, Contradictory, Undetermined, StateLimit, InputMissing, Over}
use Rattle.tp_run.specs.History.{RunEndsWith, beginning_of, Plan, setting}
use Rattle.tp_run.specs.SettledStates.{SettledState, settled_last, led_states, settled_states}
use Rattle.tp_step_laws.specs.Alike.{Alike}
use Rattle.tp_run.specs.Same.{SamePictures, SameCell, EndTheSame}
use Rattle.tp_run_laws.specs.Agree.{IsOrderlyPlan, RunsAgree}
use Rattle.tp_run_laws.specs.AlikeRuns.{SameStates, AllRunsAreAlike}
use Rattle.tp_run.proofs.OneState.{SameKind, kinds, Orderly, same_cell}
use Rattle.tp_run_laws.proofs.Walk.{Walked}
use Rattle.tp_run_laws.proofs.Agree.{Parts, parts, agree, both_end, walk_both}

module _ (plan : Plan) where
  -- the last states of both, where their pictures are the same and so many states stand before them
  last_states : (ps qs : List Picture) → SamePictures ps qs → SameStates plan (map settled_last ps) (map settled_last qs)
  last_states [] [] h = tt
  last_states [] (q ∷ qs) h = h
  last_states (p ∷ ps) [] h = h
  last_states (p ∷ ps) (q ∷ qs) h = ((h.0, tt), last_states ps qs h.1)

  both_lists : (ss ts us vs : List SettledState) → SameStates plan ss ts → SameStates plan us vs → SameStates plan (ss ++ us) (ts ++ vs)
  both_lists [] [] us vs h k = k
  both_lists [] (t ∷ ts) us vs h k = absurd h
  both_lists (s ∷ ss) [] us vs h k = absurd h
  both_lists (s ∷ ss) (t ∷ ts) us vs h k = (h.0, both_lists ss ts us vs h.1 k)

  -- the settled states of a run, by its parts
  states_by_parts : (ps : List Picture) (turn : Turn) (run : RunEndsWith plan ps turn) → settled_states plan ps turn run
      ≡ led_states plan 0 (beginning_of plan) (parts plan ps turn run).before (parts plan ps turn run).moment (parts plan ps turn run).leads
      ++ map settled_last (parts plan ps turn run).tail
  states_by_parts ps Went run = absurd run
  states_by_parts ps (Finished n) run = refl
  states_by_parts ps (Contradictory state clash) run = sym (append-nil _)
  states_by_parts ps (Undetermined state cell) run = sym (append-nil _)
  states_by_parts ps (StateLimit states) run = sym (append-nil _)
  states_by_parts ps (InputMissing state port) run = sym (append-nil _)
  states_by_parts ps (Over state l) run = sym (append-nil _)

  -- the cells at which a state is open that begins alike
  named_cell : (n k : ℕ) (e : n ≡ k) (m m' : Moment) → Orderly plan n m → Orderly plan n m' → Alike (length (kinds plan)) m m'
      → (cell cell' : Cell) (x : IsOpen (setting plan n) plan.reductions m cell) (y : IsOpen (setting plan k) plan.reductions m' cell')
      → SameCell (length (kinds plan)) x.last.store.variables y.last.store.variables cell cell'
  named_cell n k e m m' om om' a cell cell' x =
      subst (λ (i : ℕ). (y : IsOpen (setting plan i) plan.reductions m' cell')
      → SameCell (length (kinds plan)) x.last.store.variables y.last.store.variables cell cell') e (λ y.
      same_cell plan n m m' om om' a x.picks x.last y.picks y.last x.closes y.closes cell cell' x.cell_is y.cell_is)

  module _ (plan_orderly : IsOrderlyPlan plan) (ps : List Picture) (turn : Turn) (run : RunEndsWith plan ps turn) (qs : List Picture) (other : Turn)
      (another : RunEndsWith plan qs other) where
    abbrev run_parts : Parts plan ps turn
    run_parts = parts plan ps turn run

    abbrev other_parts : Parts plan qs other
    other_parts = parts plan qs other another

    both : SamePictures ps qs × SameKind turn other
    both = agree plan plan_orderly ps turn run qs other another

    walk : Walked plan 0 (beginning_of plan) (beginning_of plan) run_parts.before other_parts.before run_parts.moment other_parts.moment run_parts.leads
        other_parts.leads (length run_parts.before)
    walk = walk_both plan plan_orderly ps turn run qs other another

    all_states : SameStates plan (settled_states plan ps turn run) (settled_states plan qs other another)
    all_states =
        subst (λ (ss : List SettledState). SameStates plan ss (settled_states plan qs other another)) (sym (states_by_parts ps turn run))
        (subst (λ (ts : List SettledState). SameStates plan
        (led_states plan 0 (beginning_of plan) run_parts.before run_parts.moment run_parts.leads ++ map settled_last run_parts.tail) ts)
        (sym (states_by_parts qs other another))
        (both_lists _ _ _ _ walk.states (last_states run_parts.tail other_parts.tail (both_end plan plan_orderly ps turn run qs other another).0)))

  -- where one run is open at a cell, so is the other
  open_ends : IsOrderlyPlan plan
      → (ps : List Picture) (state : ℕ) (cell : Cell) (run : RunEndsWith plan ps (Undetermined state cell)) (qs : List Picture) (other : Turn)
      (another : RunEndsWith plan qs other)
      → EndTheSame plan ps (Undetermined state cell) run qs other another
  open_ends o ps state cell run qs Went another = absurd another
  open_ends o ps state cell run qs (Finished n) another = let same = (both o ps (Undetermined state cell) run qs (Finished n) another).1.1 in absurd
      (cc)
  open_ends o ps state cell run qs (Contradictory state' clash) another = let same =
      (both o ps (Undetermined state cell) run qs (Contradictory state' clash) another).1.1 in absurd (cc)
  open_ends o ps state cell run qs (Undetermined state' cell') another =
      let same : state' ≡ state = (let e = (both o ps (Undetermined state cell) run qs (Undetermined state' cell') another).1.1 in cc) in
      let w = walk o ps (Undetermined state cell) run qs (Undetermined state' cell') another in
      let om = subst (λ (i : ℕ). Orderly plan i run.0) (sym run.3) w.orderly in
      let om' = subst (λ (i : ℕ). Orderly plan i another.0) (sym run.3) w.orderly' in
      (cell', ap (λ i. Undetermined i cell') same, named_cell state state' (sym same) run.0 another.0 om om' w.alike cell cell' run.2 another.2)
  open_ends o ps state cell run qs (StateLimit states) another = let same =
      (both o ps (Undetermined state cell) run qs (StateLimit states) another).1.1 in absurd (cc)
  open_ends o ps state cell run qs (InputMissing state' port) another = let same =
      (both o ps (Undetermined state cell) run qs (InputMissing state' port) another).1.1 in absurd (cc)
  open_ends o ps state cell run qs (Over state' l) another = let same =
      (both o ps (Undetermined state cell) run qs (Over state' l) another).1.1 in absurd (cc)

  pub same_end : IsOrderlyPlan plan
      → (ps : List Picture) (turn : Turn) (run : RunEndsWith plan ps turn) (qs : List Picture) (other : Turn) (another : RunEndsWith plan qs other)
      → EndTheSame plan ps turn run qs other another
  same_end o ps Went run qs other another = absurd run
  same_end o ps (Finished n) run qs other another = (both o ps (Finished n) run qs other another).1
  same_end o ps (Contradictory state clash) run qs other another = (both o ps (Contradictory state clash) run qs other another).1
  same_end o ps (Undetermined state cell) run qs other another = open_ends o ps state cell run qs other another
  same_end o ps (StateLimit states) run qs other another = (both o ps (StateLimit states) run qs other another).1
  same_end o ps (InputMissing state port) run qs other another = (both o ps (InputMissing state port) run qs other another).1
  same_end o ps (Over state l) run qs other another = (both o ps (Over state l) run qs other another).1

pub all_runs_are_alike : (plan : Plan) → AllRunsAreAlike plan
all_runs_are_alike plan o ps turn run qs other another = all_states plan o ps turn run qs other another

pub runs_agree : (plan : Plan) → RunsAgree plan
runs_agree plan o ps turn run qs other another = ((agree plan o ps turn run qs other another).0, same_end plan o ps turn run qs other another)
