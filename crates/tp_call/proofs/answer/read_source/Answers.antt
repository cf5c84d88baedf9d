use Rattle.std.proofs.Common.{inl, subst, refl, ap, Err}
use Rattle.std.proofs.lemmas.Result.{MatchResult-weaker}
use Rattle.tp_check.specs.Read.{program_tree}
use Rattle.tp_words.specs.declared.mode.Mode.TheVariants.{Run}
use Rattle.tp_call.specs.Answer.{HoldsProgram}
use Rattle.tp_call.specs.declared.status.Which.TheVariants.{Source}
use Rattle.tp_call.proofs.SourceLemmas.{source_refused, source_unread, asked_unread, fault_of_read, no_source_fault}
use Rattle.tp_call.proofs.answer.read_source.Goals as goal

pub returns-in-Ok-clause-program : goal.returns-in-Ok-clause-program
returns-in-Ok-clause-program g c =
    let bytes = c.in-Ok.ensures.bytes in
    MatchResult-weaker c.read_program.result (rw c.as_slice.ensures at c.read_program.ensures.program) (λ p is. λ files told. subst (HoldsProgram (program_tree p)) (bytes.1 files told) (bytes.0, is)) (λ status any. any)

pub returns-in-Ok-clause-refused : goal.returns-in-Ok-clause-refused
returns-in-Ok-clause-refused g c =
    let bytes = c.in-Ok.ensures.bytes in
    MatchResult-weaker c.read_program.result (rw c.as_slice.ensures at c.read_program.ensures.refused) (λ program any. any) (λ status refused. source_refused Run _ _ _ status bytes.0 bytes.1 refused)

pub returns-in-Ok-clause-asked : goal.returns-in-Ok-clause-asked
returns-in-Ok-clause-asked g c = inl c.in-Ok.ensures.asked

pub returns-in-Ok-clause-read_fault : goal.returns-in-Ok-clause-read_fault
returns-in-Ok-clause-read_fault g c = λ which e. no_source_fault _ Run c.read_program.result c.as_slice.result.now c.read_program.ensures.refused which e

pub returns-in-Err-clause-refused : goal.returns-in-Err-clause-refused
returns-in-Err-clause-refused g c = source_unread Run _ c.args.name.now c.in-Err.refusal c.read_status.result c.read_status.ensures (λ e. c.in-Err.ensures.too_long (ap Err e))

pub returns-in-Err-clause-asked : goal.returns-in-Err-clause-asked
returns-in-Err-clause-asked g c = asked_unread _ _ c.args.name.now c.in-Err.refusal Source c.read_status.result c.read_status.ensures c.in-Err.ensures.asked

pub returns-in-Err-clause-read_fault : goal.returns-in-Err-clause-read_fault
returns-in-Err-clause-read_fault g c = λ which e. fault_of_read _ c.in-Err.refusal Source c.read_status.result _ refl c.read_status.ensures (λ f. c.in-Err.ensures.failed (ap Err f)) which e
