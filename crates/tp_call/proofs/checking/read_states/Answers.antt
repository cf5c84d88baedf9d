use Rattle.std.proofs.Common.{inl, subst, refl, ap, Err}
use Rattle.std.proofs.lemmas.Result.{MatchResult-weaker}
use Rattle.tp_call.specs.Answer.{HoldsTrace}
use Rattle.tp_call.specs.declared.status.Which.TheVariants.{Other}
use Rattle.tp_call.proofs.SourceLemmas.{asked_unread, fault_of_read}
use Rattle.tp_call.proofs.CheckingLemmas.{trace_refused, trace_unread, no_trace_fault}
use Rattle.tp_call.proofs.checking.read_states.Goals as goal

pub returns-in-Ok-clause-trace : goal.returns-in-Ok-clause-trace
returns-in-Ok-clause-trace g c =
    let bytes = c.in-Ok.ensures.bytes in
    MatchResult-weaker c.trace_of.result (rw c.as_slice.ensures at c.trace_of.ensures.trace) (λ t is. λ files told. subst (HoldsTrace t) (bytes.1 files told) (bytes.0, is)) (λ status any. any)

pub returns-in-Ok-clause-some_state : goal.returns-in-Ok-clause-some_state
returns-in-Ok-clause-some_state g c = MatchResult-weaker c.trace_of.result c.trace_of.ensures.trace (λ t is. is.some_state) (λ status any. any)

pub returns-in-Ok-clause-refused : goal.returns-in-Ok-clause-refused
returns-in-Ok-clause-refused g c =
    let bytes = c.in-Ok.ensures.bytes in
    MatchResult-weaker c.trace_of.result (rw c.as_slice.ensures at c.trace_of.ensures.refused) (λ t any. any) (λ status refused. trace_refused _ _ _ status bytes.0 bytes.1 refused)

pub returns-in-Ok-clause-asked : goal.returns-in-Ok-clause-asked
returns-in-Ok-clause-asked g c = inl c.in-Ok.ensures.asked

pub returns-in-Ok-clause-read_fault : goal.returns-in-Ok-clause-read_fault
returns-in-Ok-clause-read_fault g c = λ which e. no_trace_fault _ c.trace_of.result c.as_slice.result.now c.trace_of.ensures.refused which e

pub returns-in-Err-clause-refused : goal.returns-in-Err-clause-refused
returns-in-Err-clause-refused g c = trace_unread _ c.args.name.now c.in-Err.refusal c.read_status.result c.read_status.ensures (λ e. c.in-Err.ensures.too_long (ap Err e))

pub returns-in-Err-clause-asked : goal.returns-in-Err-clause-asked
returns-in-Err-clause-asked g c = asked_unread _ _ c.args.name.now c.in-Err.refusal Other c.read_status.result c.read_status.ensures c.in-Err.ensures.asked

pub returns-in-Err-clause-read_fault : goal.returns-in-Err-clause-read_fault
returns-in-Err-clause-read_fault g c = λ which e. fault_of_read _ c.in-Err.refusal Other c.read_status.result _ refl c.read_status.ensures (λ f. c.in-Err.ensures.failed (ap Err f)) which e
