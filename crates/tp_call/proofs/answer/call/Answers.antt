use Rattle.std.proofs.Common.{[], None}
use Rattle.tp_tree.specs.Read.{source_tree}
use Rattle.tp_inputs.specs.Read.{inputs_of}
use Rattle.tp_verdict.specs.Code.{verdict_of}
use Rattle.tp_call.proofs.AnswerLemmas.{refused, spelled, table_written, verdict_written}
use Rattle.tp_call.proofs.InOrderLemmas.{task_in_order, refused_in_order, printed_in_order, refused_untried, printed_untried}
use Rattle.tp_words.specs.declared.mode.Mode.TheVariants.{Run, Print, Convert, Check}
use Rattle.tp_call.proofs.DrillClauses.{other_mode, run_apart, print_apart, convert_apart, check_apart, drill_stops, one_size, not_run}
use Rattle.tp_call.proofs.answer.call.Goals as goal

pub returns-in-Err-clause-answer : goal.returns-in-Err-clause-answer
returns-in-Err-clause-answer g c = λ none.
    refused _ _ _ _ _ _ c.in-Err.ensures.refused c.refuse.ensures.memory c.refuse.ensures.written

pub returns-in-Ok-Print-clause-answer : goal.returns-in-Ok-Print-clause-answer
returns-in-Ok-Print-clause-answer g c = λ none.
    let job = rw c.in-Ok-Print.field-0-is at c.in-Ok-Print.ensures.job in
    spelled _ _ (source_tree c.in-Ok-Print.source) job.0 job.1 _ _ _ c.print_source.ensures.written

pub returns-in-Ok-Convert-clause-answer : goal.returns-in-Ok-Convert-clause-answer
returns-in-Ok-Convert-clause-answer g c = λ none.
    let job = rw c.in-Ok-Convert.field-0-is at c.in-Ok-Convert.ensures.job in
    table_written _ _ (inputs_of c.in-Ok-Convert.inputs) job.0 job.1 _ _ _ c.write_inputs.ensures.written

pub returns-in-Ok-Run-clause-named_in_order : goal.returns-in-Ok-Run-clause-named_in_order
returns-in-Ok-Run-clause-named_in_order g c =
    let job = rw c.in-Ok-Run.field-0-is at c.in-Ok-Run.ensures.job in
    task_in_order _ _ c.in-Ok-Run.task job c.run_whole.result c.run_whole.ensures.in_order

pub returns-in-Err-clause-named_in_order : goal.returns-in-Err-clause-named_in_order
returns-in-Err-clause-named_in_order g c = refused_in_order _ _ c.in-Err.status c.refuse.result _ _ _ c.in-Err.ensures.refused c.refuse.ensures.written

pub returns-in-Ok-Print-clause-named_in_order : goal.returns-in-Ok-Print-clause-named_in_order
returns-in-Ok-Print-clause-named_in_order g c = printed_in_order _ _ c.print_source.result _ _ _ c.print_source.ensures.written

pub returns-in-Ok-Convert-clause-named_in_order : goal.returns-in-Ok-Convert-clause-named_in_order
returns-in-Ok-Convert-clause-named_in_order g c = printed_in_order _ _ c.write_inputs.result _ _ _ c.write_inputs.ensures.written

pub returns-in-Ok-Check-clause-answer : goal.returns-in-Ok-Check-clause-answer
returns-in-Ok-Check-clause-answer g c = λ none.
    let job = rw c.in-Ok-Check.field-0-is at c.in-Ok-Check.ensures.job in
    verdict_written _ _ (verdict_of c.in-Ok-Check.verdict) job _ _ _ c.write_verdict.ensures.written

pub returns-in-Ok-Check-clause-named_in_order : goal.returns-in-Ok-Check-clause-named_in_order
returns-in-Ok-Check-clause-named_in_order g c = printed_in_order _ _ c.write_verdict.result _ _ _ c.write_verdict.ensures.written

pub returns-in-Ok-Run-clause-drill : goal.returns-in-Ok-Run-clause-drill
returns-in-Ok-Run-clause-drill g c =
    let job = rw c.in-Ok-Run.field-0-is at c.in-Ok-Run.ensures.job in
    λ size asks. absurd (other_mode _ job.asked_for.wanted job.asked_for.accepted Run job.asked_for.mode run_apart size asks)

pub returns-in-Ok-Print-clause-drill : goal.returns-in-Ok-Print-clause-drill
returns-in-Ok-Print-clause-drill g c =
    let job = rw c.in-Ok-Print.field-0-is at c.in-Ok-Print.ensures.job in
    λ size asks. absurd (other_mode _ job.0.wanted job.0.accepted Print job.0.mode print_apart size asks)

pub returns-in-Ok-Convert-clause-drill : goal.returns-in-Ok-Convert-clause-drill
returns-in-Ok-Convert-clause-drill g c =
    let job = rw c.in-Ok-Convert.field-0-is at c.in-Ok-Convert.ensures.job in
    λ size asks. absurd (other_mode _ job.0.wanted job.0.accepted Convert job.0.mode convert_apart size asks)

pub returns-in-Ok-Check-clause-drill : goal.returns-in-Ok-Check-clause-drill
returns-in-Ok-Check-clause-drill g c =
    let job = rw c.in-Ok-Check.field-0-is at c.in-Ok-Check.ensures.job in
    λ size asks. absurd (other_mode _ job.asked.wanted job.asked.accepted Check job.asked.mode check_apart size asks)

pub returns-in-Err-clause-drill : goal.returns-in-Err-clause-drill
returns-in-Err-clause-drill g c = λ size asks. drill_stops _ size asks _ _ _ _ _ _ _ c.in-Err.ensures.refused c.refuse.ensures.memory c.refuse.ensures.written

pub returns-in-Ok-Drill-clause-answer : goal.returns-in-Ok-Drill-clause-answer
returns-in-Ok-Drill-clause-answer g c =
    let job = rw c.in-Ok-Drill.field-0-is at c.in-Ok-Drill.ensures.job in
    λ none. absurd (none _ job.asks)

pub returns-in-Ok-Drill-clause-drill : goal.returns-in-Ok-Drill-clause-drill
returns-in-Ok-Drill-clause-drill g c =
    let job = rw c.in-Ok-Drill.field-0-is at c.in-Ok-Drill.ensures.job in
    λ size asks. rw (one_size _ _ job.asks size asks) at (c.run_drill.ensures.answer _ job)

pub returns-in-Ok-Drill-clause-named_in_order : goal.returns-in-Ok-Drill-clause-named_in_order
returns-in-Ok-Drill-clause-named_in_order g c =
    let job = rw c.in-Ok-Drill.field-0-is at c.in-Ok-Drill.ensures.job in
    λ files told plan asked. absurd (not_run _ _ job.asks asked.wanted asked.accepted asked.mode)

pub returns-in-Ok-Run-clause-work : goal.returns-in-Ok-Run-clause-work
returns-in-Ok-Run-clause-work g c = λ none end.
    let job = rw c.in-Ok-Run.field-0-is at c.in-Ok-Run.ensures.job in
    c.run_whole.ensures.work _ _ job end

pub returns-in-Ok-Drill-clause-work : goal.returns-in-Ok-Drill-clause-work
returns-in-Ok-Drill-clause-work g c =
    let job = rw c.in-Ok-Drill.field-0-is at c.in-Ok-Drill.ensures.job in
    λ none. absurd (none _ job.asks)

pub returns-in-Err-clause-work : goal.returns-in-Err-clause-work
returns-in-Err-clause-work g c = λ none end.
    absurd (refused_untried _ _ c.in-Err.status c.refuse.result _ _ _ c.in-Err.ensures.refused c.refuse.ensures.written end)

pub returns-in-Ok-Print-clause-work : goal.returns-in-Ok-Print-clause-work
returns-in-Ok-Print-clause-work g c = λ none end.
    absurd (printed_untried [] None c.print_source.result _ _ _ c.print_source.ensures.written end)

pub returns-in-Ok-Convert-clause-work : goal.returns-in-Ok-Convert-clause-work
returns-in-Ok-Convert-clause-work g c = λ none end.
    absurd (printed_untried [] None c.write_inputs.result _ _ _ c.write_inputs.ensures.written end)

pub returns-in-Ok-Check-clause-work : goal.returns-in-Ok-Check-clause-work
returns-in-Ok-Check-clause-work g c = λ none end.
    absurd (printed_untried [] None c.write_verdict.result _ _ _ c.write_verdict.ensures.written end)
