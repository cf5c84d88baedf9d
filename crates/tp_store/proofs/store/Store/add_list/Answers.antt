use Rattle.std.proofs.Common.{ap, sym, subst, List}
use Rattle.tp_value.specs.declared.path.Fact.{Fact}
use Rattle.tp_value.specs.Read.{tree}
use Rattle.tp_store.specs.Known.{NoClash}
use Rattle.tp_store.specs.Stock.{contents_in}
use Rattle.tp_store.specs.FactMap.{AreOf}
use Rattle.tp_store.proofs.Parts.{sound_view}
use Rattle.tp_store.proofs.Separate.{value_apart, value_of_variable}
use Rattle.tp_store.proofs.store.Store.add_list.Goals as goal

pub returns-in_err-facts-clause-sound : goal.returns-in_err-facts-clause-sound
returns-in_err-facts-clause-sound c = sound_view c.self.inside.entries.items c.self.inside.state c.self.inside.fixed _ (ap contents_in c.self.view_is) c.self.invariant

pub add_facts-requires-clause-filed : goal.add_facts-requires-clause-filed
add_facts-requires-clause-filed c =
    let P : List Fact → Type 0 = λ fs. AreOf c.args.path.now.var fs in
    subst P (sym c.in_ok-facts.ensures) (value_of_variable c.args.path.now (tree c.args.value))

pub add_facts-requires-clause-apart : goal.add_facts-requires-clause-apart
add_facts-requires-clause-apart c =
    let P : List Fact → Type 0 = λ fs. NoClash fs in
    subst P (sym c.in_ok-facts.ensures) (value_apart c.args.path.now (tree c.args.value))

pub returns-in_err-whole-clause-sound : goal.returns-in_err-whole-clause-sound
returns-in_err-whole-clause-sound c = sound_view c.self.inside.entries.items c.self.inside.state c.self.inside.fixed _ (ap contents_in c.self.view_is) c.self.invariant
