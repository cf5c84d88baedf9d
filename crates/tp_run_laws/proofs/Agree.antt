-- Two runs have the same pictures, and ends of one kind.
use Rattle.std.proofs.Common.{◌≡◌, ℕ, ◌<◌, List, [], ◌∷◌, ◌++◌, length, refl, sym, ◌∙◌, subst, arith, append-nil}
use Rattle.tp_scene.specs.Pick.{Moment}
use Rattle.tp_scene.specs.Replay as replay
use Rattle.tp_show.specs.declared.turn.Picture.{Picture}
use Rattle.tp_show.specs.declared.turn.Turn.{Turn}
use Rattle.tp_show.specs.declared.turn.Turn.TheVariants.{Went, Finished, Contradictory, Undetermined, StateLimit, InputMissing, Over}
use Rattle.tp_run.specs.History.{RunEndsWith, beginning_of, Plan, setting, LeadsTo, ReachesLimit}
use Rattle.tp_run.specs.Same.{SamePictures}
use Rattle.tp_run.proofs.OneState.{SameKind, EndsAt, first_orderly, itself}
use Rattle.tp_run_laws.specs.Agree.{IsOrderlyPlan}
use Rattle.tp_run_laws.proofs.Walk.{Walked, walked, same_ends, pictures_join}

module _ (plan : Plan) where
  -- a run that has an end, as the states that go on and the end
  pub record Parts (ps : List Picture) (turn : Turn) : Type 0 where
    pub before : List Picture
    pub tail : List Picture
    pub moment : Moment
    pub pictures : ps ≡ before ++ tail
    pub leads : LeadsTo plan before moment
    pub end : EndsAt plan (length before) moment tail turn

  abbrev pub parts : (ps : List Picture) (turn : Turn) → RunEndsWith plan ps turn → Parts ps turn
  parts ps Went h = absurd h
  parts ps (Finished n) h = record { before = h.before; tail = h.final ∷ []; moment = h.moment; pictures = h.pictures; leads = h.leads; end = (h.final, refl, h.ends, h.count) }
  parts ps (Contradictory state clash) h = record { before = ps; tail = []; moment = h.0; pictures = sym (append-nil ps); leads = h.1; end = (refl, subst (λ (k : ℕ). replay.MeetsClash (setting plan k) plan.reductions h.0 clash) h.3 h.2, h.3, subst (λ (k : ℕ). k < plan.states) h.3 h.4) }
  parts ps (Undetermined state cell) h = record { before = ps; tail = []; moment = h.0; pictures = sym (append-nil ps); leads = h.1; end = (refl, subst (λ (k : ℕ). replay.IsOpen (setting plan k) plan.reductions h.0 cell) h.3 h.2, h.3, subst (λ (k : ℕ). k < plan.states) h.3 h.4) }
  parts ps (StateLimit states) h = record { before = ps; tail = []; moment = h.0; pictures = sym (append-nil ps); leads = h.1; end = (refl, h.2, sym h.2 ∙ h.3) }
  parts ps (InputMissing state port) h = record { before = ps; tail = []; moment = h.0; pictures = sym (append-nil ps); leads = h.1; end = (refl, subst (λ (k : ℕ). replay.MissesInput (setting plan k) plan.reductions h.0 port) h.3 h.2, h.3, subst (λ (k : ℕ). k < plan.states) h.3 h.4) }
  parts ps (Over state l) h = record { before = ps; tail = []; moment = h.0; pictures = sym (append-nil ps); leads = h.1; end = (refl, subst (λ (k : ℕ). ReachesLimit (setting plan k) plan.reductions h.0 l) h.3 h.2, h.3, subst (λ (k : ℕ). k < plan.states) h.3 h.4) }

  module _ (plan_orderly : IsOrderlyPlan plan) (ps : List Picture) (turn : Turn) (run : RunEndsWith plan ps turn) (qs : List Picture) (other : Turn)
      (another : RunEndsWith plan qs other) where
    abbrev pub mine : Parts ps turn
    mine = parts ps turn run

    abbrev pub theirs : Parts qs other
    theirs = parts qs other another

    pub walk_both : Walked plan 0 (beginning_of plan) (beginning_of plan) mine.before theirs.before mine.moment theirs.moment mine.leads theirs.leads
        (length mine.before)
    walk_both =
        let begins = first_orderly plan plan_orderly.program plan_orderly.inputs in
        walked plan mine.before theirs.before 0 (beginning_of plan) (beginning_of plan) mine.moment theirs.moment begins begins
        (itself plan 0 (beginning_of plan) begins) mine.leads theirs.leads
        (length mine.before) (length theirs.before) (omega arith) (omega arith) mine.tail turn mine.end theirs.tail other theirs.end

    pub both_end : SamePictures mine.tail theirs.tail × SameKind turn other
    both_end =
        same_ends plan 0 (beginning_of plan) (beginning_of plan) mine.before theirs.before mine.moment theirs.moment mine.leads theirs.leads (length mine.before) (length theirs.before)
        (sym walk_both.count) walk_both mine.tail turn mine.end theirs.tail other theirs.end

    pub agree : SamePictures ps qs × SameKind turn other
    agree = (
      subst (λ (zs : List Picture). SamePictures zs qs) (sym mine.pictures)
          (subst (λ (zs : List Picture). SamePictures (mine.before ++ mine.tail) zs) (sym theirs.pictures)
          (pictures_join mine.before theirs.before mine.tail theirs.tail walk_both.pictures both_end.0)),
      both_end.1,
    )
