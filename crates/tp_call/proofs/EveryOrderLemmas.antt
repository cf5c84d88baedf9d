-- A call comes to the end of each run that there is.
use Rattle.std.proofs.Common.{◌≡◌, inl, inr, ℕ, List, Option, None, Some, refl, ap, sym, ◌∙◌, subst}
use Rattle.tp_io.specs.Held.{Held, bytes_of}
use Rattle.tp_inputs.specs.Within.{InputsWithin}
use Rattle.tp_inputs.proofs.LawLemmas.{one_table}
use Rattle.tp_inputs.proofs.WithinLemmas.{tables_within}
use Rattle.tp_meaning.specs.Inputs.{InputTable}
use Rattle.tp_meaning.specs.Interval.{ProgramTree}
use Rattle.tp_show.specs.declared.turn.Picture.{Picture}
use Rattle.tp_show.specs.declared.turn.Turn.{Turn}
use Rattle.tp_run.specs.History.{RunEndsWith, Plan, plan_with}
use Rattle.tp_run.specs.Same.{SamePictures}
use Rattle.tp_run_laws.specs.Agree.{IsOrderlyPlan}
use Rattle.tp_run_laws.proofs.AlikeRuns.{runs_agree}
use Rattle.tp_words.specs.Words.{Wanted}
use Rattle.tp_call.specs.declared.status.Status.{Status}
use Rattle.tp_call.specs.declared.status.Status.TheVariants.{Finished, Contradictory, Undetermined, StateLimit, ReductionLimit, NumberLimit, ListLimit, CallLimit, NestLimit, InputMissing}
use Rattle.tp_call.specs.Answer.{IsAskedFor, HasInputs, HoldsProgram, Answers, Prints}
use Rattle.tp_call.specs.EachRun.{ComesTo, ComesToEachEnd}
use Rattle.tp_call.proofs.EndKinds.{EndsRun}
use Rattle.tp_call.proofs.ProgramLemmas.{one_program}
use Rattle.tp_call.proofs.ClauseLemmas.{finished, contradictory, undetermined, state_limit, reduction_limit, number_limit, list_limit, call_limit, nest_limit, input_missing}
use Rattle.tp_call.proofs.AnsweredLemmas.{program_runs}

module _ (words : List (List ℕ)) (held : Option Held) (old new : Option (List ℕ)) where
  -- what a run printed, whatever is said of it
  abbrev pub PrintsRun : Status → Type 0
  PrintsRun result = Prints words held old new result (λ p printed. Unit {0})

  -- and what else is said of it
  printed_so : (result : Status) (P Q : Plan → List Picture → Type 0) (r : Prints words held old new result P) → Q r.plan r.pictures → Prints words held old new result Q
  printed_so result P Q r says = record {
    plan = r.plan;
    pictures = r.pictures;
    asked = r.asked;
    run = r.run;
    appended = r.appended;
    fits = r.fits;
    names = r.names;
    states = r.states;
    range = r.range;
    says = says;
  }

  plain : (result : Status) (P : Plan → List Picture → Type 0) → Prints words held old new result P → PrintsRun result
  plain result P r = printed_so result P (λ p printed. Unit {0}) r tt

  pub ended : (result : Status) → EndsRun result → Answers words held old new result → PrintsRun result
  ended (Finished n) end a = plain (Finished n) _ (finished words held old new (Finished n) a n refl)
  ended (Contradictory state clash) end a = plain (Contradictory state clash) _ (contradictory words held old new (Contradictory state clash) a state clash refl)
  ended (Undetermined state cell) end a = plain (Undetermined state cell) _ (undetermined words held old new (Undetermined state cell) a state cell refl)
  ended (StateLimit states) end a = plain (StateLimit states) _ (state_limit words held old new (StateLimit states) a states refl)
  ended (ReductionLimit state) end a = plain (ReductionLimit state) _ (reduction_limit words held old new (ReductionLimit state) a state refl)
  ended (NumberLimit state) end a = plain (NumberLimit state) _ (number_limit words held old new (NumberLimit state) a state refl)
  ended (ListLimit state) end a = plain (ListLimit state) _ (list_limit words held old new (ListLimit state) a state refl)
  ended (CallLimit state) end a = plain (CallLimit state) _ (call_limit words held old new (CallLimit state) a state refl)
  ended (NestLimit state) end a = plain (NestLimit state) _ (nest_limit words held old new (NestLimit state) a state refl)
  ended (InputMissing state port) end a = plain (InputMissing state port) _ (input_missing words held old new (InputMissing state port) a state port refl)
  ended result end a = absurd end

  module _ (files : Held) (told : held ≡ Some files) where
    one_inputs : (name : Option (List ℕ)) (t u : InputTable) → HasInputs name held t → HasInputs name held u → t ≡ u
    one_inputs None t u h k = h ∙ sym k
    one_inputs (Some name) t u h k = one_table (bytes_of files name) t u (h files told).1 (k files told).1

    pub inputs_within : (name : Option (List ℕ)) (t : InputTable) → HasInputs name held t → InputsWithin t
    inputs_within None t h = subst InputsWithin (sym h) tt
    inputs_within (Some name) t h = tables_within (bytes_of files name) t (h files told).1

    -- what is asked for is one plan
    pub one_plan : (p q : Plan) → IsAskedFor words held p → IsAskedFor words held q → p ≡ q
    one_plan p q a b =
        let both : Some a.wanted ≡ Some b.wanted = sym a.accepted ∙ b.accepted in
        let w : a.wanted ≡ b.wanted = cc in
        let source : HoldsProgram p.program (bytes_of files b.wanted.file) = subst (λ (v : Wanted). HoldsProgram p.program (bytes_of files v.file)) w (a.source files told) in
        let program : p.program ≡ q.program = one_program (bytes_of files b.wanted.file) p.program q.program source.1 (b.source files told).1 in
        let has : HasInputs b.wanted.inputs held p.inputs = subst (λ (v : Wanted). HasInputs v.inputs held p.inputs) w a.inputs in
        let inputs : p.inputs ≡ q.inputs = one_inputs b.wanted.inputs p.inputs q.inputs has b.inputs in
        let states : p.states ≡ q.states = a.states ∙ ap (λ (v : Wanted). v.states) w ∙ sym b.states in
        let reductions : p.reductions ≡ q.reductions = a.reductions ∙ ap (λ (v : Wanted). v.reductions) w ∙ sym b.reductions in
        ap (λ (x : ProgramTree). plan_with x p.inputs p.states p.reductions) program ∙ ap (λ (x : InputTable). plan_with q.program x p.states p.reductions) inputs
        ∙ ap (λ n. plan_with q.program q.inputs n p.reductions) states ∙ ap (plan_with q.program q.inputs q.states) reductions

    -- The call's run agrees with every other one.
    with_run : (result : Status) → PrintsRun result → (plan : Plan) → IsAskedFor words held plan → (pictures : List Picture) (end : Turn) (ends : RunEndsWith plan pictures end)
        → ComesTo plan pictures end ends result × Prints words held old new result (λ p printed. SamePictures pictures printed)
    with_run result run plan asked pictures end =
        let orderly : IsOrderlyPlan run.plan = record { program = run.fits; inputs = inputs_within run.asked.wanted.inputs run.plan.inputs run.asked.inputs } in
        subst (λ (p : Plan). (ends : RunEndsWith p pictures end) → ComesTo p pictures end ends result × Prints words held old new result (λ q printed. SamePictures pictures printed))
        (sym (one_plan plan run.plan asked run.asked))
        (λ ends.
        let agree = runs_agree run.plan orderly pictures end ends run.pictures run.run.answer run.run.run in (
          (run.pictures, run.run.answer, run.run.run, agree.1, run.run.status_is),
          printed_so result (λ p printed. Unit {0}) (λ p printed. SamePictures pictures printed) run agree.0,
        ))

  pub comes_to_each_end : (result : Status) → Answers words held old new result → ComesToEachEnd words held old new result
  comes_to_each_end result a = λ files told plan asked pictures end ends. elim (program_runs words held old new result a files told plan asked) [
    | inl is_end ↦ inl (with_run files told result (ended result is_end a) plan asked pictures end ends)
    | inr failed ↦ inr failed
  ]
