use Rattle.std.proofs.Common.{◌≡◌, true, List, sym, subst, ◌∙◌}
use Rattle.std.proofs.lemmas.Option.{MatchOption-at_none}
use Rattle.tp_value.specs.declared.path.Fact.{Fact}
use Rattle.tp_meaning.specs.Interval.{kinds_of}
use Rattle.tp_verdict.specs.Read.{wide_tree}
use Rattle.tp_verdict.specs.Trace.{clash_somewhere}
use Rattle.tp_verdict.specs.VerdictLaws.{AreOfKinds}
use Rattle.tp_monitor.proofs.KindLemmas.{lasting_of_kinds}
use Rattle.tp_monitor.proofs.JudgeLemmas.{torn_by_all}
use Rattle.tp_monitor.proofs.judge.verdict_by_states.Goals as goal

pub once_each-requires : goal.once_each-requires
once_each-requires c =
    let kinds = kinds_of c.args.wide.now.globals in
    subst (λ (fs : List Fact). AreOfKinds kinds fs) (sym (c.as_slice.ensures.value ∙ c.in_ok-all.ensures)) (lasting_of_kinds kinds c.args.told.now c.requires.variables)

pub returns-in_default : goal.returns-in_default
returns-in_default c =
    let torn = MatchOption-at_none _ _ c.in_default.is c.in_ok-lasting.ensures in
    sym (torn_by_all (wide_tree c.args.wide.now.formula) c.args.told.now c.requires.some (subst (λ (fs : List Fact). clash_somewhere fs ≡ true) (c.as_slice.ensures.value ∙ c.in_ok-all.ensures) torn))
