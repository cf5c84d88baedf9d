use Rattle.std.proofs.Common.{◌≡◌, ◌∷◌, [], Err, None, Some, inl, inr, refl, ap, IfSome, take}
use Rattle.tp_io.specs.SystemCalls.{open_call}
use Rattle.tp_io.proofs.CallsMade.{one_open_call, more_calls, of_some}
use Rattle.tp_io.proofs.real.open_and_read.Goals as goal

pub returns-in-Ok-clause-calls : goal.returns-in-Ok-clause-calls
returns-in-Ok-clause-calls g c =
    let opened = one_open_call _ _ _ _ _ c.open.ensures.calls c.in-Ok.is in
    let reads = c.read_open.ensures.calls in
    (open_call c.args.name.now None ∷ reads.0, more_calls _ _ _ (open_call c.args.name.now None ∷ []) reads.0 opened reads.1, inr (reads.0, refl, reads.2))

pub returns-in-Ok-clause-opened : goal.returns-in-Ok-clause-opened
returns-in-Ok-clause-opened g c =
    of_some c.read_open.result (λ bytes file. IfSome (g.C.SystemFiles.remaining file) (λ all. bytes ≡ take c.args.most all)) c.open.new.self c.read_open.ensures.first

pub returns-in-Err-clause-calls : goal.returns-in-Err-clause-calls
returns-in-Err-clause-calls g c =
    (open_call c.args.name.now (Some c.in-Err.fault) ∷ [], one_open_call _ _ _ _ _ c.open.ensures.calls c.in-Err.is, inl (c.in-Err.fault, refl, ap Err c.file_refusal.ensures))
