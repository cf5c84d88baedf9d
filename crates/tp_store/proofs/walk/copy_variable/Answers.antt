use Rattle.std.proofs.Common.{List, ℕ, sym, subst, ◌∙◌}
use Rattle.tp_store.specs.Changes.{HasAppended}
use Rattle.tp_store.specs.FactMap.{facts_from}
use Rattle.tp_store.specs.Nodes.{facts_in_tree, path_along}
use Rattle.tp_store.proofs.Walks.{no_variable, whole_variable}
use Rattle.tp_store.proofs.walk.copy_variable.Goals as goal

pub returns-in_default : goal.returns-in_default
returns-in_default c =
    no_variable c.args.nodes.now c.args.lasting c.requires.tree c.count-count.ensures.unique c.args.number c.args.facts.now.items (sym c.root.ensures ∙ c.in_default.is)

pub returns : goal.returns
returns c =
    let old = c.args.facts.now.items in
    let new = c.copy_from.new.facts.items in
    let F : List ℕ → Type 0 = λ at. HasAppended (facts_from (path_along (record { number = c.args.number; lasting = c.args.lasting }) at) (facts_in_tree c.args.lasting c.args.nodes.now)) old new in
    whole_variable c.args.nodes.now c.args.lasting c.requires.tree c.count-count.ensures.unique c.args.number old new (subst F c.new-at.ensures c.in_ok-copy_from.ensures.facts)
