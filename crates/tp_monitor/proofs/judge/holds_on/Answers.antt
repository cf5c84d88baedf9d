use Rattle.std.proofs.Common.{sym, subst, ◌∙◌}
use Rattle.tp_meaning.specs.Interval.{kinds_of}
use Rattle.tp_verdict.specs.Trace.{FactsOfStates}
use Rattle.tp_verdict.specs.VerdictLaws.{StatesAreOfKinds}
use Rattle.tp_monitor.proofs.KindLemmas.{told_of_kinds}
use Rattle.tp_monitor.proofs.judge.holds_on.Goals as goal

pub verdict_by_states-requires-clause-variables : goal.verdict_by_states-requires-clause-variables
verdict_by_states-requires-clause-variables c =
    let names = c.args.wide.now.globals in
    subst (λ (told : FactsOfStates). StatesAreOfKinds (kinds_of names) told) (sym (c.as_slice-2.ensures.value ∙ c.in_ok-told.ensures)) (told_of_kinds names c.as_slice.result.now)
