-- What the line of a verdict says.
use Rattle.std.proofs.Common.{ℕ, List, Option, subst}
use Rattle.tp_io.specs.Held.{Held}
use Rattle.tp_meaning.specs.Interval.{kinds_of}
use Rattle.tp_verdict.specs.Verdict.{Verdict}
use Rattle.tp_verdict.specs.VerdictLaws.{VerdictIsRight}
use Rattle.tp_monitor.specs.Told.{told_by_trace}
use Rattle.tp_monitor.proofs.TraceRight.{trace_verdicts_are_right, undecided_by_trace_limits}
use Rattle.tp_call.specs.EndLine.{verdict_line}
use Rattle.tp_call.specs.Files.{Wrote}
use Rattle.tp_call.specs.Answer.{IsJudged, WritesVerdict}

module _ (words : List (List ℕ)) (held : Option Held) (old new : Option (List ℕ)) (verdict : Verdict) (judged : IsJudged words held verdict) where
  is_right : VerdictIsRight (kinds_of judged.wide.globals) judged.wide.formula (told_by_trace judged.wide.globals judged.trace)
  is_right = trace_verdicts_are_right judged.wide judged.trace judged.fits

  pub writes_verdict : Wrote old new (verdict_line verdict) → WritesVerdict words held old new
  writes_verdict wrote = record {
    wide = judged.wide;
    trace = judged.trace;
    asked = judged.asked;
    within = judged.within;
    appended = subst (λ v. Wrote old new (verdict_line v)) judged.verdict_is wrote;
    holds = is_right.holds;
    fails = is_right.fails;
    stays_open = λ e all. undecided_by_trace_limits judged.wide judged.trace judged.fits judged.some_state all e;
  }
