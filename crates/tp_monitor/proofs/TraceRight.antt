-- Verdicts by traces are right.
use Rattle.std.proofs.Common.{◌<◌, ℕ, subst, sym}
use Rattle.std.proofs.lemmas.List.{length-map}
use Rattle.tp_meaning.specs.Interval.{kinds_of}
use Rattle.tp_verdict.proofs.Right.{verdicts_are_right}
use Rattle.tp_verdict.proofs.Limits.{undecided_by_limits}
use Rattle.tp_monitor.specs.Told.{facts_among, told_by_trace}
use Rattle.tp_monitor.specs.Right.{TraceVerdictsAreRight, UndecidedByTraceLimits}
use Rattle.tp_monitor.proofs.KindLemmas.{told_of_kinds}

pub trace_verdicts_are_right : TraceVerdictsAreRight
trace_verdicts_are_right wide trace fits =
    verdicts_are_right (kinds_of wide.globals) wide.formula (told_by_trace wide.globals trace) fits (told_of_kinds wide.globals trace)

pub undecided_by_trace_limits : UndecidedByTraceLimits
undecided_by_trace_limits wide trace fits some all h =
    let same = length-map trace (facts_among wide.globals) in
    let r = undecided_by_limits (kinds_of wide.globals) wide.formula (told_by_trace wide.globals trace) fits (subst (λ (n : ℕ). 0 < n) (sym same) some)
    (λ i l. all i (subst (λ (n : ℕ). i < n) same l)) h in
    (r.0, r.1, r.2, subst (λ (n : ℕ). r.2 < n) same r.3, r.4, r.5)
