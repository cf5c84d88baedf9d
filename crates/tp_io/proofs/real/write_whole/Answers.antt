use Rattle.std.proofs.Common.{◌≡◌, ◌≤◌, ◌<◌, ◌+◌, length, drop, arith, length-drop, [], subst, Err}
use Rattle.tp_io.specs.SystemCalls as S
use Rattle.tp_io.proofs.Parts.{Appends_none, Appends_more, rest_is}
use Rattle.tp_io.proofs.CallsMade.{no_calls, more_calls, write_goes_on, write_fails}
use Rattle.tp_io.proofs.real.write_whole.Goals as goal

pub pieces-init : goal.pieces-init
pieces-init g c = (omega arith, Appends_none _, ([], no_calls _, S.none_yet, omega arith))

pub returns-in-Err-clause-calls : goal.returns-in-Err-clause-calls
returns-in-Err-clause-calls g c =
    let rest = rest_is c.pieces.written c.args.piece.now in
    let before : c.pieces.written ≤ length c.args.piece.now = c.pieces.invariant.0 in
    let some : c.pieces.written < length c.args.piece.now = omega arith in
    let one = subst (λ l. S.OneWrite l c.in-Err.ensures.call.0 (Err c.in-Err.refusal)) rest c.in-Err.ensures.call.2 in
    (_, more_calls _ _ _ _ _ c.pieces.invariant.2.1 c.in-Err.ensures.call.1, write_fails (Unit {0}) c.args.piece.now c.pieces.written _ _ c.in-Err.refusal c.pieces.invariant.2.2 some one)

pub pieces-preserved : goal.pieces-preserved
pieces-preserved g c =
    let rest = rest_is c.pieces.written c.args.piece.now in
    let within : c.in-Ok.count ≤ length (drop c.pieces.written c.args.piece.now) = rw rest at c.in-Ok.ensures.within in
    let before : c.pieces.written ≤ length c.args.piece.now = c.pieces.invariant.0 in
    let left = length-drop c.pieces.written c.args.piece.now in
    let some : c.pieces.written < length c.args.piece.now = omega arith in
    let sum : c.in-Ok.count + c.pieces.written ≤ length c.args.piece.now = omega arith in
    let one = rw rest at c.in-Ok.ensures.call.2 in
    let next = write_goes_on c.args.piece.now c.pieces.counter c.pieces.written c.in-Ok.count _ _ c.pieces.invariant.2.2 some sum one c.pieces.invariant.2.3 in
    (omega arith, Appends_more _ _ _ _ _ _ c.pieces.invariant.1 (rw rest at c.in-Ok.ensures.ok), (_, more_calls _ _ _ _ _ c.pieces.invariant.2.1 c.in-Ok.ensures.call.1, next.0, next.1))
