-- What the verdict by a trace says of the intervals that are as the trace tells.
use Rattle.std.specs.Prelude.{◌≡◌, ℕ, ◌<◌, List, length}
use Rattle.tp_kernel.specs.declared.fault.LimitKind.{LimitKind}
use Rattle.tp_meaning.specs.Syntax.{ExprTree}
use Rattle.tp_meaning.specs.Interval.{kinds_of}
use Rattle.tp_eval.specs.Outcome.{over}
use Rattle.tp_show.specs.declared.named_fact.NamedFact.{NamedFact}
use Rattle.tp_verdict.specs.Wide.{IsExprOf}
use Rattle.tp_verdict.specs.Verdict.{undecided}
use Rattle.tp_verdict.specs.Trace.{known_in, known_outcome, WideFits, AreAllKnown}
use Rattle.tp_verdict.specs.VerdictLaws.{VerdictIsRight}
use Rattle.tp_monitor.specs.WideOf.{NamedWide}
use Rattle.tp_monitor.specs.Told.{told_by_trace, verdict_by}

-- The verdict is right on each interval that is as the trace tells, where each expression of the
-- formula fits its variables.
abbrev pub TraceVerdictsAreRight : Type 0
TraceVerdictsAreRight =
    (wide : NamedWide) (trace : List (List NamedFact))
    → WideFits (kinds_of wide.globals) wide.formula
    → VerdictIsRight (kinds_of wide.globals) wide.formula (told_by_trace wide.globals trace)

-- Where the trace tells the whole value of each variable in each state, the verdict is undecided
-- only where the evaluation of one of the formula's expressions passes a limit.
abbrev pub UndecidedByTraceLimits : Type 0
UndecidedByTraceLimits =
    (wide : NamedWide) (trace : List (List NamedFact))
    → WideFits (kinds_of wide.globals) wide.formula → 0 < length trace
    → ((i : ℕ) → i < length trace
    → AreAllKnown (kinds_of wide.globals) (known_in (told_by_trace wide.globals trace) i))
    → verdict_by wide trace ≡ undecided
    → (e : ExprTree) × IsExprOf wide.formula e × (i : ℕ) × (i < length trace)
    × (k : LimitKind) × (known_outcome (told_by_trace wide.globals trace) i e ≡ over k)
