use Rattle.std.proofs.Common.{List, sym, ap, subst}
use Rattle.tp_value.specs.declared.path.Fact.{Fact}
use Rattle.tp_store.specs.Known.{Contents, AreOfVariables}
use Rattle.tp_monitor.proofs.StandLemmas.{stand_alone, stand_copied}
use Rattle.tp_monitor.proofs.KindLemmas.{of_variables}
use Rattle.tp_monitor.proofs.filling.once_each.Goals as goal

pub add_all-requires-clause-variables : goal.add_all-requires-clause-variables
add_all-requires-clause-variables c =
    let facts : List Fact = c.args.facts.now in
    subst (λ (s : Contents). AreOfVariables s.variables facts) (sym c.in_ok-store.ensures) (of_variables c.args.globals.now facts c.requires)

pub returns : goal.returns
returns c =
    let kept : List Fact = c.add_all.new.store.facts in
    let stand = stand_alone _ kept c.args.facts.now (ap (λ (s : Contents). s.facts) c.in_ok-store.ensures) (c.in_ok-add_all.ensures.facts c.if-not-branch.false) in
    stand_copied c.add_all.new.store.variables kept c.args.facts.now _ c.facts.new.out c.count.result c.count.ensures.sound.of_variables c.count.ensures.number stand c.new-2.ensures.items c.in_ok-facts.ensures.ok
