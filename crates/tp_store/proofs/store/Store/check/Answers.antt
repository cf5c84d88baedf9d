use Rattle.std.proofs.Common.{sym, ◌∙◌, subst, List}
use Rattle.tp_value.specs.declared.path.Fact.{Fact}
use Rattle.tp_value.specs.Read.{tree}
use Rattle.tp_store.specs.FactMap.{AreOf}
use Rattle.tp_store.proofs.Separate.{value_of_variable}
use Rattle.tp_store.proofs.store.Store.check.Goals as goal

pub check_facts-requires-clause-filed : goal.check_facts-requires-clause-filed
check_facts-requires-clause-filed c =
    let P : List Fact → Type 0 = λ fs. AreOf c.args.path.now.var fs in
    subst P (sym (c.as_slice.ensures.value ∙ c.in_ok-facts.ensures)) (value_of_variable c.args.path.now (tree c.args.value.now))
