use Rattle.std.proofs.Common.{subst}
use Rattle.tp_store.specs.Stock.{Stock}
use Rattle.tp_store.specs.Wholes.{AreOfOthers}
use Rattle.tp_store.proofs.WholeValues.{both_others}
use Rattle.tp_store.proofs.store.Store.is_free.Goals as goal

pub returns-then-is_free : goal.returns-then-is_free
returns-then-is_free c = λ t.
    let P : Stock → Type 0 = λ s. AreOfOthers c.args.var.number s.facts in
    subst P c.self.view_is (both_others c.args.var.number c.self.inside.state.facts c.self.inside.fixed.facts (c.is_free.ensures c.if-is_free.true) (c.is_free-then-is_free.ensures t))
