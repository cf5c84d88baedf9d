use Rattle.std.proofs.Common.{◌≡◌, inl, refl, sym, ap, ◌∙◌, arith, length, Err}
use Rattle.std.proofs.lemmas.Result.{err_from_is_err_and}
use Rattle.tp_call.specs.declared.status.Which.TheVariants.{Other}
use Rattle.tp_call.proofs.AskedLemmas.{asked_there, asked_on}
use Rattle.tp_call.proofs.CheckingLemmas.{many_states}
use Rattle.tp_call.proofs.checking.judge.Goals as goal

pub returns-in_err-trace-clause-refused : goal.returns-in_err-trace-clause-refused
returns-in_err-trace-clause-refused g c =
    let p = err_from_is_err_and c.from_residual.result c.from_residual.ensures.1 in
    rw (p.1, p.2) (inl c.in_err-trace.ensures.refused)

pub returns-in_err-trace-clause-asked : goal.returns-in_err-trace-clause-asked
returns-in_err-trace-clause-asked g c =
    let p = err_from_is_err_and c.from_residual.result c.from_residual.ensures.1 in
    rw (p.1, p.2) (asked_on _ _ Other _ _ c.in_err-trace.ensures.asked)

pub returns-in-Ok-clause-verdict : goal.returns-in-Ok-clause-verdict
returns-in-Ok-clause-verdict g c = record {
  trace = _;
  other = c.in_ok-trace.ensures.trace;
  some_state = c.in_ok-trace.ensures.some_state;
  within = c.in-Ok.ensures.within;
  verdict_is = c.in-Ok.ensures.verdict;
}

pub returns-in-Ok-clause-asked : goal.returns-in-Ok-clause-asked
returns-in-Ok-clause-asked g c = asked_there _ _ Other _ _ _ c.in_ok-trace.ensures.asked

pub returns-in-Err-TraceTooLong-clause-refused : goal.returns-in-Err-TraceTooLong-clause-refused
returns-in-Err-TraceTooLong-clause-refused g c =
    let states = c.trace.inside.states in
    let same : c.len.result ≡ length c.in_ok-trace.trace = omega (arith, c.len.ensures, states.ok.0) ∙ ap length c.trace.view_is in
    many_states _ _ _ _ _ c.in_ok-trace.ensures.trace (sym same) (c.in-Err-TraceTooLong.ensures.too_long (ap Err c.in-Err-TraceTooLong.field-0-is)) refl

pub returns-in-Err-TraceTooLong-clause-asked : goal.returns-in-Err-TraceTooLong-clause-asked
returns-in-Err-TraceTooLong-clause-asked g c = asked_there _ _ Other _ _ _ c.in_ok-trace.ensures.asked

pub returns-clause-refused : goal.returns-clause-refused
returns-clause-refused g c = inl (inl refl)

pub returns-clause-asked : goal.returns-clause-asked
returns-clause-asked g c = asked_there _ _ Other _ _ _ c.in_ok-trace.ensures.asked
