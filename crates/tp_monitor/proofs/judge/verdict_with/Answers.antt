use Rattle.std.proofs.Common.{◌≡◌, ◌-◌, List, length, sym, subst, ◌∙◌}
use Rattle.std.specs.List.{flat_map}
use Rattle.std.proofs.lemmas.Option.{MatchOption-at_none, MatchOption-at_some}
use Rattle.std.proofs.lemmas.Result.{IfOk-weaker}
use Rattle.tp_meaning.specs.Interval.{kinds_of}
use Rattle.tp_store.specs.Known.{lasting_facts}
use Rattle.tp_store.specs.Stock.{Stock}
use Rattle.tp_verdict.specs.Code.{verdict_of}
use Rattle.tp_verdict.specs.Read.{wide_tree}
use Rattle.tp_verdict.specs.Trace.{verdict, FactsOfStates, whole_verdict}
use Rattle.tp_verdict.specs.Found.{found_in}
use Rattle.tp_monitor.specs.Standing.{EachStandsFor}
use Rattle.tp_monitor.proofs.KindLemmas.{stand_of_kinds, lasting_of_kinds}
use Rattle.tp_monitor.proofs.JudgeLemmas.{torn_with, whole_with}
use Rattle.tp_monitor.proofs.judge.verdict_with.Goals as goal

pub state_stores-requires-clause-lasting : goal.state_stores-requires-clause-lasting
state_stores-requires-clause-lasting c =
    let told : FactsOfStates = c.args.told.now in
    let kinds = kinds_of c.args.wide.now.globals in
    stand_of_kinds kinds c.args.lasting.now (flat_map lasting_facts told) c.requires.lasting (lasting_of_kinds kinds told c.requires.variables)

pub returns-in-None : goal.returns-in-None
returns-in-None c = sym (torn_with c.args.told.now c.args.lasting.now c.requires.lasting (wide_tree c.args.wide.now.formula) (MatchOption-at_none _ _ c.in-None.is c.in_ok-state_stores.ensures))

pub returns-in-Some : goal.returns-in-Some
returns-in-Some c =
    let w = wide_tree c.args.wide.now.formula in
    let told : FactsOfStates = c.args.told.now in
    let each : EachStandsFor c.in-Some.stores.items told c.args.lasting.now = MatchOption-at_some _ _ c.in-Some.stores c.in-Some.is c.in_ok-state_stores.ensures in
    let given : EachStandsFor c.as_slice.result.now told c.args.lasting.now = subst (λ (ss : List Stock). EachStandsFor ss told c.args.lasting.now) (sym c.as_slice.ensures.value) each in
    let whole = whole_with told c.args.lasting.now c.requires.lasting w c.as_slice.result.now c.requires.some given in
    IfOk-weaker c.verdict_on.result
    (λ v. verdict_of v ≡ verdict (found_in c.as_slice.result.now) w 0 (length c.as_slice.result.now - 1))
    (λ v. verdict_of v ≡ whole_verdict w told) (λ v e. e ∙ sym whole) c.verdict_on.ensures
