-- A call prints the text of each run that there is, and each beginning goes on to its end.
use Rattle.std.proofs.Common.{◌≡◌, inl, inr, ℕ, List, ◌++◌, length, Option, Some, ap₂, sym, ◌∙◌, subst}
use Rattle.tp_io.specs.Held.{Held}
use Rattle.tp_kernel.specs.declared.fault.LimitKind.TheVariants as limit
use Rattle.tp_show.specs.declared.turn.Picture.{Picture}
use Rattle.tp_show.specs.declared.turn.Turn.{Turn}
use Rattle.tp_show.specs.declared.turn.Turn.TheVariants as turn
use Rattle.tp_show.specs.Texts.{end_line}
use Rattle.tp_run.specs.History.{RunEndsWith, Plan}
use Rattle.tp_run_laws.specs.Agree.{IsOrderlyPlan}
use Rattle.tp_run.specs.Same.{FailsNowhere}
use Rattle.tp_run_laws.specs.Beginnings.{NoDeadEnd}
use Rattle.tp_run_laws.proofs.AlikeRuns.{all_runs_are_alike, runs_agree}
use Rattle.tp_run_laws.proofs.Beginnings.{beginnings_go_on}
use Rattle.tp_words.specs.Words.{Wanted}
use Rattle.tp_call.specs.declared.status.Status.{Status}
use Rattle.tp_call.specs.declared.status.Status.TheVariants.{Finished, Undetermined, StateLimit}
use Rattle.tp_call.specs.Run.{status_of, RunEnds, known_at_end}
use Rattle.tp_call.specs.Files.{Wrote}
use Rattle.tp_call.specs.Answer.{IsAskedFor, Answers, run_text, HasFailed}
use Rattle.tp_call.specs.EachRun.{ComesTo, WroteTextOf, PrintsEachRun, BeginningsComeToEnd}
use Rattle.tp_call.proofs.AnsweredLemmas.{program_runs}
use Rattle.tp_call.proofs.EveryOrderLemmas.{PrintsRun, ended, inputs_within, one_plan}
use Rattle.tp_call.proofs.SameText.{one_text, one_end_line}

-- the statuses of ends that aren't failures
abbrev IsSafe : Status → Type 0
IsSafe (Finished length) = Unit {0}
IsSafe (Undetermined state cell) = Unit {0}
IsSafe (StateLimit states) = Unit {0}
IsSafe other = ⊥

safe_status : (end : Turn) (result : Status) → status_of end ≡ Some result → FailsNowhere end → IsSafe result
safe_status turn.Went result e safe = absurd safe
safe_status (turn.Finished n) result e safe = let same : Finished n ≡ result = cc in subst IsSafe same tt
safe_status (turn.Contradictory state clash) result e safe = absurd safe
safe_status (turn.Undetermined state cell) result e safe = let same : Undetermined state cell ≡ result = cc in subst IsSafe same tt
safe_status (turn.StateLimit states) result e safe = let same : StateLimit states ≡ result = cc in subst IsSafe same tt
safe_status (turn.InputMissing state port) result e safe = absurd safe
safe_status (turn.Over state kind) result e safe = absurd safe

unsafe : (s result : Status) → Some s ≡ Some result → (IsSafe s → ⊥) → IsSafe result → ⊥
unsafe s result e never safe = let same : result ≡ s = cc in never (subst IsSafe same safe)

safe_end : (end : Turn) (result : Status) → status_of end ≡ Some result → IsSafe result → FailsNowhere end
safe_end turn.Went result e safe = absurd (cc)
safe_end (turn.Finished n) result e safe = tt
safe_end (turn.Contradictory state clash) result e safe = absurd (unsafe _ result e (λ x. x) safe)
safe_end (turn.Undetermined state cell) result e safe = tt
safe_end (turn.StateLimit states) result e safe = tt
safe_end (turn.InputMissing state port) result e safe = absurd (unsafe _ result e (λ x. x) safe)
safe_end (turn.Over state limit.Reductions) result e safe = absurd (unsafe _ result e (λ x. x) safe)
safe_end (turn.Over state limit.Number) result e safe = absurd (unsafe _ result e (λ x. x) safe)
safe_end (turn.Over state limit.List) result e safe = absurd (unsafe _ result e (λ x. x) safe)
safe_end (turn.Over state limit.Calls) result e safe = absurd (unsafe _ result e (λ x. x) safe)
safe_end (turn.Over state limit.Nest) result e safe = absurd (unsafe _ result e (λ x. x) safe)

module _ (words : List (List ℕ)) (held : Option Held) (old new : Option (List ℕ)) (files : Held) (told : held ≡ Some files) where
  orderly : (result : Status) (r : PrintsRun words held old new result) → IsOrderlyPlan r.plan
  orderly result r = record {
    program = r.fits;
    inputs = inputs_within words held old new files told r.asked.wanted.inputs r.plan.inputs r.asked.inputs;
  }

  -- The text of a run of the call's plan.
  text_of : (result : Status) (r : PrintsRun words held old new result) (asked : IsAskedFor words held r.plan) (pictures : List Picture)
      (status : Status) (run : RunEnds r.plan pictures status)
      → WroteTextOf old new asked.wanted.beside result run
  text_of result r asked pictures status run =
      let both : Some r.asked.wanted ≡ Some asked.wanted = sym r.asked.accepted ∙ asked.accepted in
      let wanted : r.asked.wanted ≡ asked.wanted = cc in
      let wrote : Wrote old new (run_text asked.wanted.beside r.run) = subst
      (λ (w : Wanted). Wrote old new (run_text w.beside r.run)) wanted r.appended in
      let alike = all_runs_are_alike r.plan (orderly result r) pictures run.answer run.run r.pictures r.run.answer r.run.run in
      let states = one_text asked.wanted.beside r.plan pictures run.answer run.run r.pictures r.run.answer r.run.run alike in
      let ends = (runs_agree r.plan (orderly result r) pictures run.answer run.run r.pictures r.run.answer r.run.run).1 in
      let line = end_line r.plan.program.globals (known_at_end r.run) r.plan.reductions r.run.answer in
      record {
        last = r.run.answer;
        status_is = r.run.status_is;
        known = known_at_end r.run;
        states = subst (λ (text : List ℕ). Wrote old new (text ++ line)) states wrote;
        whole = λ safe. subst (λ (text : List ℕ). Wrote old new text)
            (ap₂ (λ x y. x ++ y) states (one_end_line r.plan (known_at_end run)
            (known_at_end r.run) r.plan.reductions run.answer r.run.answer safe ends)) wrote;
      }

  text_of_each : (result : Status) → PrintsRun words held old new result
      → (plan : Plan) (asked : IsAskedFor words held plan) (pictures : List Picture) (status : Status) (run : RunEnds plan pictures status)
      → WroteTextOf old new asked.wanted.beside result run
  text_of_each result r plan asked =
      subst (λ (p : Plan). (a : IsAskedFor words held p) (pictures : List Picture) (status : Status) (run : RunEnds p pictures status)
      → WroteTextOf old new a.wanted.beside result run)
      (sym (one_plan words held old new files told plan r.plan asked r.asked)) (text_of result r) asked

  -- each run comes to the end of the call
  comes_there : (result : Status) (r : PrintsRun words held old new result) (pictures : List Picture) (end : Turn) (run : RunEndsWith r.plan pictures end)
      → ComesTo r.plan pictures end run result
  comes_there result r pictures end run = (
    r.pictures,
    r.run.answer,
    r.run.run,
    (runs_agree r.plan (orderly result r) pictures end run r.pictures r.run.answer r.run.run).1,
    r.run.status_is,
  )

  no_dead_end : (result : Status) (r : PrintsRun words held old new result) → FailsNowhere r.run.answer
      → NoDeadEnd r.plan (λ pictures other run. ComesTo r.plan pictures other run result)
  no_dead_end result r safe =
      let none = beginnings_go_on r.plan (orderly result r) r.pictures r.run.answer r.run.run safe in
      record {
        run_goes_on = λ ps m leads l begun there led. (let g = none.run_goes_on ps m leads l begun there led in
            record {
              pictures = g.pictures;
              end = g.end;
              run = g.run;
              later = g.later;
              states = g.states;
              more = g.more;
              picks_later = g.picks_later;
              picks = g.picks;
              comes_to = comes_there result r g.pictures g.end g.run;
            });
        no_failure = none.no_failure;
      }

  none_for : (result : Status) → PrintsRun words held old new result → (plan : Plan) → IsAskedFor words held plan → (end : Turn)
      → status_of end ≡ Some result → FailsNowhere end
      → NoDeadEnd plan (λ pictures other run. ComesTo plan pictures other run result)
  none_for result r plan asked end is safe =
      subst (λ (p : Plan). NoDeadEnd p (λ pictures other run. ComesTo p pictures other run result))
      (sym (one_plan words held old new files told plan r.plan asked r.asked))
      (no_dead_end result r (safe_end r.run.answer result r.run.status_is (safe_status end result is safe)))

-- no end has a status of a failed read or write or of want of memory
not_failed : (result : Status) → IsSafe result → HasFailed result → ⊥
not_failed result safe (inl failed) = subst IsSafe failed.1 safe
not_failed result safe (inr (inl failed)) = subst IsSafe failed safe
not_failed result safe (inr (inr failed)) = subst IsSafe failed safe

module _ (words : List (List ℕ)) (held : Option Held) (old new : Option (List ℕ)) where
  pub prints_each_run : (result : Status) → Answers words held old new result → PrintsEachRun words held old new result
  prints_each_run result a = λ files told plan asked pictures status run. elim (program_runs words held old new result a files told plan asked) [
    | inl is_end ↦ inl (text_of_each words held old new files told result (ended words held old new result is_end a) plan asked pictures status run)
    | inr failed ↦ inr failed
  ]

  pub beginnings_come_to_end : (result : Status) → Answers words held old new result → BeginningsComeToEnd words held result
  beginnings_come_to_end result a = λ files told plan asked end is safe. elim (program_runs words held old new result a files told plan asked) [
    | inl is_end ↦ none_for words held old new files told result (ended words held old new result is_end a) plan asked end is safe
    | inr failed ↦ absurd (not_failed result (safe_status end result is safe) failed)
  ]
