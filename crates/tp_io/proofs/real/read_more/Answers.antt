use Rattle.std.proofs.Common.{◌≡◌, ◌≤◌, ◌<◌, ◌+◌, ◌++◌, ℕ, length, inl, inr, refl, Ok, Err, rules, arith, ◌∷◌, [], ap, sym, ◌∙◌}
use Rattle.std.proofs.lemmas.List.{length-append, length-take-le}
use Rattle.tp_io.specs.declared.system.CallFault.TheVariants as fault
use Rattle.tp_io.specs.SystemCalls.{read_call}
use Rattle.tp_io.proofs.CallsMade.{one_read_call}
use Rattle.tp_io.proofs.real.read_more.Goals as goal

pub returns-in-Ok-append-clause-call : goal.returns-in-Ok-append-clause-call
returns-in-Ok-append-clause-call g c =
    let asked : length c.as_mut_slice.result.now ≡ c.args.asked = search rules in
    let pos : 0 < c.in-Ok.count = omega arith in
    let within : c.in-Ok.count ≤ c.args.asked = search rules in
    let grown : length c.append.new.self.items ≡ length c.args.items.now.items + c.in-Ok.count = search rules in
    (read_call c.args.asked (Ok c.in-Ok.count) ∷ [], one_read_call _ _ _ c.args.asked _ _ c.read.ensures.calls asked c.in-Ok.is, inl (c.in-Ok.count, pos, within, grown, refl))

pub returns-in-Ok-clause-call : goal.returns-in-Ok-clause-call
returns-in-Ok-clause-call g c =
    let asked : length c.as_mut_slice.result.now ≡ c.args.asked = search rules in
    let pos : 0 < c.in-Ok.count = omega arith in
    let within : c.in-Ok.count ≤ c.args.asked = search rules in
    (read_call c.args.asked (Ok c.in-Ok.count) ∷ [], one_read_call _ _ _ c.args.asked _ _ c.read.ensures.calls asked c.in-Ok.is, inr (inr (c.in-Ok.count, pos, within, refl)))

pub returns-in-Err-Interrupted-clause-call : goal.returns-in-Err-Interrupted-clause-call
returns-in-Err-Interrupted-clause-call g c =
    let asked : length c.as_mut_slice.result.now ≡ c.args.asked = search rules in
    let is = c.in-Err-Interrupted.is ∙ ap Err c.in-Err-Interrupted.field-0-is in
    (read_call c.args.asked (Err fault.Interrupted) ∷ [], one_read_call _ _ _ c.args.asked _ _ c.read.ensures.calls asked is, inr (refl, refl))

pub returns-in-Err-NoMemory-clause-call : goal.returns-in-Err-NoMemory-clause-call
returns-in-Err-NoMemory-clause-call g c =
    let asked : length c.as_mut_slice.result.now ≡ c.args.asked = search rules in
    let is = c.in-Err-NoMemory.is ∙ ap Err c.in-Err-NoMemory.field-0-is in
    (read_call c.args.asked (Err fault.NoMemory) ∷ [], one_read_call _ _ _ c.args.asked _ _ c.read.ensures.calls asked is, inr (inl refl))
