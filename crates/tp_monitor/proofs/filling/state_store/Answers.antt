use Rattle.std.proofs.Common.{◌≡◌, ◌++◌, true, List, sym, ap, subst, ◌∙◌}
use Rattle.tp_value.specs.declared.path.Fact.{Fact}
use Rattle.tp_store.specs.Known.{Contents, Variable, AreOfVariables}
use Rattle.tp_verdict.specs.Trace.{clash_somewhere}
use Rattle.tp_monitor.proofs.StandLemmas.{stand_alone, stand_before, clash_before}
use Rattle.tp_monitor.proofs.KindLemmas.{of_variables}
use Rattle.tp_monitor.proofs.FillLemmas.{own_clash}
use Rattle.tp_monitor.proofs.filling.state_store.Goals as goal

pub add_all-requires-clause-variables : goal.add_all-requires-clause-variables
add_all-requires-clause-variables c =
    let own : List Fact = c.args.own.now in
    subst (λ (s : Contents). AreOfVariables s.variables own) (sym c.in_ok-store.ensures) (of_variables c.args.globals.now own c.requires.own)

pub returns-then-not-branch : goal.returns-then-not-branch
returns-then-not-branch c =
    let own : List Fact = c.args.own.now in
    let none = ap (λ (s : Contents). s.facts) c.in_ok-store.ensures in
    own_clash own c.args.lasting.now (subst (λ (fs : List Fact). clash_somewhere (fs ++ own) ≡ true) none (c.in_ok-add_all.ensures.clash c.if-not-branch.true))

pub add_all-requires-2-clause-variables : goal.add_all-requires-2-clause-variables
add_all-requires-2-clause-variables c =
    let lasting : List Fact = c.args.lasting.now in
    subst (λ (vs : List Variable). AreOfVariables vs lasting) (sym (c.in_ok-add_all.ensures.variables ∙ ap (λ (s : Contents). s.variables) c.in_ok-store.ensures)) (of_variables c.args.globals.now lasting c.requires.lasting)

pub returns-then-not-branch-2 : goal.returns-then-not-branch-2
returns-then-not-branch-2 c =
    let first : List Fact = c.add_all.new.store.facts in
    let stand = stand_alone _ first c.args.own.now (ap (λ (s : Contents). s.facts) c.in_ok-store.ensures) (c.in_ok-add_all.ensures.facts c.if-not-branch.false) in
    sym (clash_before first c.args.own.now stand c.args.lasting.now) ∙ c.in_ok-add_all-2.ensures.clash c.if-not-branch-2.true

pub returns : goal.returns
returns c =
    let first : List Fact = c.add_all.new.store.facts in
    let stand = stand_alone _ first c.args.own.now (ap (λ (s : Contents). s.facts) c.in_ok-store.ensures) (c.in_ok-add_all.ensures.facts c.if-not-branch.false) in
    stand_before first c.args.own.now stand c.args.lasting.now c.add_all-2.new.store.facts (c.in_ok-add_all-2.ensures.facts c.if-not-branch-2.false)
