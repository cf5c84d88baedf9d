use Rattle.std.proofs.Common.{◌≡◌, ◌≤◌, ◌<◌, ◌+◌, length, arith, [], rules, refl, Ok, Err, true, false, subst}
use Rattle.tp_io.specs.SystemCalls as S
use Rattle.tp_io.proofs.CallsMade.{no_calls, more_calls, read_goes_on, read_ends, read_fails, Consumes_more, Consumes_none}
use Rattle.tp_io.proofs.real.read_open.Goals as goal

pub reads-init : goal.reads-init
reads-init g c =
    let none : c.new-items.result.items ≡ [] = c.new-items.ensures.items in
    rw none (omega arith, Consumes_none _, refl, ([], no_calls _, S.none_yet, omega arith))

pub returns-in-Ok-false-clause-calls : goal.returns-in-Ok-false-clause-calls
returns-in-Ok-false-clause-calls g c =
    let one : S.OneRead c.min-asked.result c.in-Ok-false.ensures.call.0 c.reads.items.items c.read_more.new.items.items (Ok false) =
    subst (λ b. S.OneRead c.min-asked.result c.in-Ok-false.ensures.call.0 c.reads.items.items c.read_more.new.items.items (Ok b)) c.in-Ok-false.field-0-test c.in-Ok-false.ensures.call.2 in
    let some : 0 < c.min-asked.result = omega arith in
    let within : length c.reads.items.items + c.min-asked.result ≤ c.args.most = omega arith in (
      _,
      more_calls _ _ _ c.reads.invariant.3.0 c.in-Ok-false.ensures.call.0 c.reads.invariant.3.1 c.in-Ok-false.ensures.call.1,
      read_ends c.args.most c.min-asked.result c.reads.invariant.3.0 c.in-Ok-false.ensures.call.0 c.reads.items.items c.read_more.new.items.items c.reads.invariant.3.2 some within one,
    )

pub returns-in-Err-clause-calls : goal.returns-in-Err-clause-calls
returns-in-Err-clause-calls g c =
    let one : S.OneRead c.min-asked.result c.in-Err.ensures.call.0 c.reads.items.items c.read_more.new.items.items (Err c.in-Err.refusal) = c.in-Err.ensures.call.2 in
    let some : 0 < c.min-asked.result = omega arith in
    let within : length c.reads.items.items + c.min-asked.result ≤ c.args.most = omega arith in (
      _,
      more_calls _ _ _ c.reads.invariant.3.0 c.in-Err.ensures.call.0 c.reads.invariant.3.1 c.in-Err.ensures.call.1,
      read_fails c.args.most c.min-asked.result c.reads.invariant.3.0 c.in-Err.ensures.call.0 c.reads.items.items c.read_more.new.items.items c.in-Err.refusal c.reads.invariant.3.2 some within one,
    )

pub reads-preserved : goal.reads-preserved
reads-preserved g c =
    let one : S.OneRead c.min-asked.result c.in-Ok-true.ensures.call.0 c.reads.items.items c.read_more.new.items.items (Ok true) =
    subst (λ b. S.OneRead c.min-asked.result c.in-Ok-true.ensures.call.0 c.reads.items.items c.read_more.new.items.items (Ok b)) c.in-Ok-true.field-0-test c.in-Ok-true.ensures.call.2 in
    let within : length c.reads.items.items + c.min-asked.result ≤ c.args.most = omega arith in
    let next = read_goes_on c.args.most c.min-asked.result c.reads.counter c.reads.invariant.3.0 c.in-Ok-true.ensures.call.0 c.reads.items.items c.read_more.new.items.items
    c.reads.invariant.3.2 within one c.reads.invariant.3.3 in
    (next.0, rw c.in-Ok-true.ensures.bytes.1 (Consumes_more _ _ _ _ _ c.reads.invariant.1 c.in-Ok-true.ensures.bytes.2), search rules, (_, more_calls _ _ _ c.reads.invariant.3.0 c.in-Ok-true.ensures.call.0 c.reads.invariant.3.1 c.in-Ok-true.ensures.call.1, next.1, next.2))
