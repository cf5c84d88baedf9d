-- What runs print is within the limits.
use Rattle.std.proofs.Common.{ℕ, suc, nat_lt, List, [], ◌∷◌, length, All, sym, subst}
use Rattle.std.proofs.lemmas.List.Elements.{All-nil, All-cons, All-append}
use Rattle.tp_kernel.specs.declared.fault.LimitKind.{LimitKind}
use Rattle.tp_kernel.specs.declared.fault.LimitKind.TheVariants as limit
use Rattle.tp_store.specs.Known.{facts_below}
use Rattle.tp_scene.specs.Pick.{Moment, Leads}
use Rattle.tp_scene.specs.Beginning.{first_moment}
use Rattle.tp_show.specs.declared.turn.Picture.{Picture}
use Rattle.tp_show.specs.declared.turn.Turn.{Turn}
use Rattle.tp_show.specs.declared.turn.Turn.TheVariants.{Went, Finished, Contradictory, Undetermined, StateLimit, InputMissing, Over}
use Rattle.tp_run.specs.History.{Plan, globals_of, setting, AreGlobals, StateGoesOn, StatesLead, LeadsTo, ReachesLimit, limit_moment, RunEndsWith}
use Rattle.tp_run_laws.specs.Printable.{ProgramIsPrintable, InputsArePrintable}
use Rattle.tp_run_laws.specs.PrintableRuns.{IsWrittenWithinLimits, RunIsPrintable, RunsArePrintable}
use Rattle.tp_run_laws.proofs.Kept.{printable_same, printable_through}
use Rattle.tp_run_laws.proofs.Parts.{written_within}
use Rattle.tp_run_laws.proofs.Steps.{SettingIsPrintable}
use Rattle.tp_run_laws.proofs.Moments.{MomentIsPrintable, leads_printable, missed_printable, advance_printable, first_printable}

module _ (plan : Plan) (program : ProgramIsPrintable plan.program) (inputs : InputsArePrintable plan.inputs) where
  abbrev names : List (List ℕ)
  names = plan.program.globals

  abbrev IsWritten : Picture → Type 0
  IsWritten = IsWrittenWithinLimits names

  read_with : (n : ℕ) → SettingIsPrintable (setting plan n)
  read_with n = record { definitions = program.definitions; inputs = inputs }

  after : (n : ℕ) (m last : Moment) (picks : List ℕ) → MomentIsPrintable m → Leads (setting plan n) m picks last → MomentIsPrintable last
  after n m last picks h leads = leads_printable (setting plan n) (read_with n) picks m last h leads

  picture_written : (last : Moment) (picture : Picture) → MomentIsPrintable last → AreGlobals (globals_of plan) last.store.facts picture.facts → IsWritten picture
  picture_written last picture h are facts =
      let below = printable_through (λ x. nat_lt x.number (globals_of plan)) last.store.facts h.facts in
      written_within names picture.facts facts (printable_same (facts_below (globals_of plan) last.store.facts) picture.facts are.same below)

  -- a state that goes on
  goes_printable : (n : ℕ) (m next : Moment) (p : Picture) → MomentIsPrintable m → StateGoesOn plan n m p next → IsWritten p × MomentIsPrintable next
  goes_printable n m next p h goes =
      let there = after n m goes.last goes.picks h goes.goes.closes.leads in
      (picture_written goes.last p there goes.picture_is.facts, advance_printable goes.last next there goes.goes.scene goes.goes.store)

  pub next_printable : (n : ℕ) (m next : Moment) (p : Picture) → MomentIsPrintable m → StateGoesOn plan n m p next → MomentIsPrintable next
  next_printable n m next p h goes = (goes_printable n m next p h goes).1

  pub begins_printable : MomentIsPrintable (first_moment names plan.program.main)
  begins_printable = first_printable names plan.program.main program.globals program.main

  states_printable : (n : ℕ) (m last : Moment) (ps : List Picture) → MomentIsPrintable m → StatesLead plan n m ps last → All IsWritten ps × MomentIsPrintable last
  states_printable n m last [] h leads = (All-nil IsWritten, subst MomentIsPrintable (sym leads) h)
  states_printable n m last (p ∷ ps) h leads =
      let one = goes_printable n m leads.0 p h leads.1 in
      let rest = states_printable (suc n) leads.0 last ps one.1 leads.2 in
      (All-cons IsWritten p ps one.0 rest.0, rest.1)

  lead : (ps : List Picture) (m : Moment) → LeadsTo plan ps m → All IsWritten ps × MomentIsPrintable m
  lead ps m leads = states_printable 0 (first_moment names plan.program.main) m ps begins_printable leads

  limit_printable : (n : ℕ) (m : Moment) (kind : LimitKind) (end : ReachesLimit (setting plan n) plan.reductions m kind) → MomentIsPrintable m → MomentIsPrintable (limit_moment (setting plan n) plan.reductions m kind end)
  limit_printable n m limit.Reductions end h = after n m end.last end.picks h end.leads
  limit_printable n m x end h = after n m end.last end.picks h end.leads

  run_printable : (ps : List Picture) (turn : Turn) (end : RunEndsWith plan ps turn) → RunIsPrintable plan ps turn end
  run_printable ps Went end = absurd end
  run_printable ps (Finished n) end =
      let before = lead end.before end.moment end.leads in
      let there = after (length end.before) end.moment end.ends.last end.ends.picks before.1 end.ends.ends.closes.leads in
      let final = picture_written end.ends.last end.final there end.ends.picture_is.facts in
      let all = All-append IsWritten end.before (end.final ∷ []) before.0 (All-cons IsWritten end.final [] final (All-nil IsWritten)) in
      record { limits = subst (All IsWritten) (sym end.pictures) all; variables = there.variables; port = tt }
  run_printable ps (Contradictory state clash) end =
      let before = lead ps end.0 end.1 in
      record { limits = before.0; variables = (after state end.0 end.2.last end.2.picks before.1 end.2.leads).variables; port = tt }
  run_printable ps (Undetermined state cell) end =
      let before = lead ps end.0 end.1 in
      record { limits = before.0; variables = (after state end.0 end.2.last end.2.picks before.1 end.2.closes.leads).variables; port = tt }
  run_printable ps (StateLimit states) end =
      let before = lead ps end.0 end.1 in
      record { limits = before.0; variables = before.1.variables; port = tt }
  run_printable ps (InputMissing state port) end =
      let before = lead ps end.0 end.1 in
      let there = after state end.0 end.2.last end.2.picks before.1 end.2.leads in
      record { limits = before.0; variables = there.variables; port = missed_printable (setting plan state) (read_with state) end.2.last end.2.item port there end.2.outcome }
  run_printable ps (Over state kind) end =
      let before = lead ps end.0 end.1 in
      record { limits = before.0; variables = (limit_printable state end.0 kind end.2 before.1).variables; port = tt }

pub runs_are_printable : RunsArePrintable
runs_are_printable plan program inputs ps turn end = run_printable plan program inputs ps turn end
