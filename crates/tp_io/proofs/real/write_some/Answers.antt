use Rattle.std.proofs.Common.{◌≡◌, ◌<◌, ◌∙◌, inl, inr, refl, Ok, Err, arith, ◌∷◌, [], ap}
use Rattle.tp_io.specs.declared.system.CallFault.TheVariants as fault
use Rattle.tp_io.specs.SystemCalls.{write_call}
use Rattle.tp_io.proofs.CallsMade.{one_write_call}
use Rattle.tp_io.proofs.real.write_some.Goals as goal

pub returns-in-Ok-eq0-clause-call : goal.returns-in-Ok-eq0-clause-call
returns-in-Ok-eq0-clause-call g c =
    let none : c.in-Ok-eq0.field-0 ≡ 0 = omega arith in
    let is = c.in-Ok-eq0.is ∙ ap Ok none in
    (write_call c.args.bytes.now (Ok 0) ∷ [], one_write_call _ _ _ _ _ c.write.ensures.calls is, inr refl)

pub returns-in-Ok-clause-call : goal.returns-in-Ok-clause-call
returns-in-Ok-clause-call g c =
    let pos : 0 < c.in-Ok.count = omega arith in
    (write_call c.args.bytes.now (Ok c.in-Ok.count) ∷ [], one_write_call _ _ _ _ _ c.write.ensures.calls c.in-Ok.is, inl (pos, refl))

pub returns-in-Err-Interrupted-clause-call : goal.returns-in-Err-Interrupted-clause-call
returns-in-Err-Interrupted-clause-call g c =
    let is = c.in-Err-Interrupted.is ∙ ap Err c.in-Err-Interrupted.field-0-is in
    (write_call c.args.bytes.now (Err fault.Interrupted) ∷ [], one_write_call _ _ _ _ _ c.write.ensures.calls is, inr (refl, refl))

pub returns-in-Err-Failed-clause-call : goal.returns-in-Err-Failed-clause-call
returns-in-Err-Failed-clause-call g c =
    let is = c.in-Err-Failed.is ∙ ap Err c.in-Err-Failed.field-0-is in
    (write_call c.args.bytes.now (Err fault.Failed) ∷ [], one_write_call _ _ _ _ _ c.write.ensures.calls is, inl refl)
