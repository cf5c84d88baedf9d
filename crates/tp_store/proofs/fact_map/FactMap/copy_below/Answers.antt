use Rattle.std.proofs.Common.{subst}
use Rattle.std.proofs.lemmas.Result.{on_ok_weaker}
use Rattle.tp_store.specs.Known.{facts_below}
use Rattle.tp_store.specs.Changes.{HasAppended}
use Rattle.tp_store.specs.FactMap.{FactsOfKind}
use Rattle.tp_store.proofs.fact_map.FactMap.copy_below.Goals as goal

pub returns : goal.returns
returns c =
    let A : FactsOfKind → Type 0 = λ m. HasAppended (facts_below c.args.below m.facts) c.args.facts.now.items c.copy_below.new.facts.items in
    on_ok_weaker c.copy_below.result (subst A c.self.view_is) c.copy_below.ensures
