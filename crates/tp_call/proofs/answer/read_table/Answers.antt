use Rattle.std.proofs.Common.{inl, subst, refl, ap, Err}
use Rattle.std.proofs.lemmas.Result.{MatchResult-weaker}
use Rattle.tp_inputs.specs.Read.{inputs_of}
use Rattle.tp_call.specs.Answer.{HoldsTable}
use Rattle.tp_call.specs.declared.status.Which.TheVariants.{Inputs}
use Rattle.tp_call.proofs.SourceLemmas.{table_refused, table_unread, asked_unread, fault_of_read, no_table_fault}
use Rattle.tp_call.proofs.answer.read_table.Goals as goal

pub returns-in-Ok-clause-table : goal.returns-in-Ok-clause-table
returns-in-Ok-clause-table g c =
    let bytes = c.in-Ok.ensures.bytes in
    MatchResult-weaker c.table_of.result (rw c.as_slice.ensures at c.table_of.ensures.table) (λ t is. λ files told. subst (HoldsTable (inputs_of t)) (bytes.1 files told) (bytes.0, is)) (λ status any. any)

pub returns-in-Ok-clause-read_back : goal.returns-in-Ok-clause-read_back
returns-in-Ok-clause-read_back g c = c.table_of.ensures.read_back

pub returns-in-Ok-clause-refused : goal.returns-in-Ok-clause-refused
returns-in-Ok-clause-refused g c =
    let bytes = c.in-Ok.ensures.bytes in
    MatchResult-weaker c.table_of.result (rw c.as_slice.ensures at c.table_of.ensures.refused) (λ t any. any) (λ status refused. table_refused _ _ _ status bytes.0 bytes.1 refused)

pub returns-in-Ok-clause-asked : goal.returns-in-Ok-clause-asked
returns-in-Ok-clause-asked g c = inl c.in-Ok.ensures.asked

pub returns-in-Ok-clause-read_fault : goal.returns-in-Ok-clause-read_fault
returns-in-Ok-clause-read_fault g c = λ which e. no_table_fault _ c.table_of.result c.as_slice.result.now c.table_of.ensures.refused which e

pub returns-in-Err-clause-refused : goal.returns-in-Err-clause-refused
returns-in-Err-clause-refused g c = table_unread _ c.args.name.now c.in-Err.refusal c.read_status.result c.read_status.ensures (λ e. c.in-Err.ensures.too_long (ap Err e))

pub returns-in-Err-clause-asked : goal.returns-in-Err-clause-asked
returns-in-Err-clause-asked g c = asked_unread _ _ c.args.name.now c.in-Err.refusal Inputs c.read_status.result c.read_status.ensures c.in-Err.ensures.asked

pub returns-in-Err-clause-read_fault : goal.returns-in-Err-clause-read_fault
returns-in-Err-clause-read_fault g c = λ which e. fault_of_read _ c.in-Err.refusal Inputs c.read_status.result _ refl c.read_status.ensures (λ f. c.in-Err.ensures.failed (ap Err f)) which e
