use Rattle.std.proofs.Common.{inl, subst, refl, ap, Err}
use Rattle.std.proofs.lemmas.Result.{MatchResult-weaker}
use Rattle.tp_tree.specs.Read.{source_tree}
use Rattle.tp_words.specs.declared.mode.Mode.TheVariants.{Print}
use Rattle.tp_call.specs.Answer.{HoldsSource}
use Rattle.tp_call.specs.declared.status.Which.TheVariants.{Source}
use Rattle.tp_call.proofs.ProgramLemmas.{read_from_spelling}
use Rattle.tp_call.proofs.SourceLemmas.{source_refused, source_unread, asked_unread, fault_of_read, no_source_fault}
use Rattle.tp_call.proofs.printing.read_tree.Goals as goal

pub returns-in-Ok-clause-text : goal.returns-in-Ok-clause-text
returns-in-Ok-clause-text g c =
    let bytes = c.in-Ok.ensures.bytes in
    MatchResult-weaker c.parse_source.result (rw c.as_slice.ensures at c.parse_source.ensures.text) (λ s is. λ files told. subst (HoldsSource (source_tree s)) (bytes.1 files told) (bytes.0, is)) (λ status any. any)

pub returns-in-Ok-clause-read_back : goal.returns-in-Ok-clause-read_back
returns-in-Ok-clause-read_back g c =
    MatchResult-weaker c.parse_source.result c.parse_source.ensures.text (λ s is. read_from_spelling c.as_slice.result.now (source_tree s) is) (λ status any. any)

pub returns-in-Ok-clause-refused : goal.returns-in-Ok-clause-refused
returns-in-Ok-clause-refused g c =
    let bytes = c.in-Ok.ensures.bytes in
    MatchResult-weaker c.parse_source.result (rw c.as_slice.ensures at c.parse_source.ensures.refused) (λ s any. any) (λ status refused. source_refused Print _ _ _ status bytes.0 bytes.1 refused)

pub returns-in-Ok-clause-asked : goal.returns-in-Ok-clause-asked
returns-in-Ok-clause-asked g c = inl c.in-Ok.ensures.asked

pub returns-in-Ok-clause-read_fault : goal.returns-in-Ok-clause-read_fault
returns-in-Ok-clause-read_fault g c = λ which e. no_source_fault _ Print c.parse_source.result c.as_slice.result.now c.parse_source.ensures.refused which e

pub returns-in-Err-clause-refused : goal.returns-in-Err-clause-refused
returns-in-Err-clause-refused g c = source_unread Print _ c.args.name.now c.in-Err.refusal c.read_status.result c.read_status.ensures (λ e. c.in-Err.ensures.too_long (ap Err e))

pub returns-in-Err-clause-asked : goal.returns-in-Err-clause-asked
returns-in-Err-clause-asked g c = asked_unread _ _ c.args.name.now c.in-Err.refusal Source c.read_status.result c.read_status.ensures c.in-Err.ensures.asked

pub returns-in-Err-clause-read_fault : goal.returns-in-Err-clause-read_fault
returns-in-Err-clause-read_fault g c = λ which e. fault_of_read _ c.in-Err.refusal Source c.read_status.result _ refl c.read_status.ensures (λ f. c.in-Err.ensures.failed (ap Err f)) which e
