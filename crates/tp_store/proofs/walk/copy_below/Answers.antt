use Rattle.std.proofs.Common.{nat_lt, List, subst}
use Rattle.std.proofs.lemmas.Result.{on_ok_weaker}
use Rattle.tp_value.specs.declared.path.Fact.{Fact}
use Rattle.tp_store.specs.Known.{facts_below}
use Rattle.tp_store.specs.Changes.{HasAppended}
use Rattle.tp_store.specs.Nodes.{facts_in_tree}
use Rattle.tp_store.proofs.Members.{NoClash-filter}
use Rattle.tp_store.proofs.Joined.{all_appended, moved_behind}
use Rattle.tp_store.proofs.walk.copy_below.Goals as goal

pub returns-in-Ok : goal.returns-in-Ok
returns-in-Ok c =
    let below = facts_below c.args.below (facts_in_tree c.args.lasting c.args.nodes.now) in
    let found = c.copy_variables.new.facts.items in
    let A : List Fact → Type 0 = λ fs. HasAppended below fs found in
    moved_behind below found c.args.facts.now.items c.append.new.self.items (subst A c.new-found.ensures.items c.in-Ok.ensures) c.in_ok-append-in-Ok.ensures.items

pub returns-in-Err-Sparse : goal.returns-in-Err-Sparse
returns-in-Err-Sparse c =
    let all = facts_in_tree c.args.lasting c.args.nodes.now in
    on_ok_weaker c.copy_facts.result (all_appended (facts_below c.args.below all) c.args.facts.now.items c.copy_facts.new.facts.items (NoClash-filter (λ (f : Fact). nat_lt f.path.var.number c.args.below) all c.requires.no_clash)) c.copy_facts.ensures
