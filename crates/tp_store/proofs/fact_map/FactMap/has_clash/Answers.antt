use Rattle.std.proofs.Common.{inl, inr, refl, ap, sym, ◌∙◌, subst}
use Rattle.std.specs.Map.{values_of}
use Rattle.tp_store.specs.Known.{NoClash, first_clash}
use Rattle.tp_store.specs.FactMap.{FactsOfKind}
use Rattle.tp_store.specs.Nodes.{edges_in}
use Rattle.tp_store.specs.declared.note.Noted.{Noted}
use Rattle.tp_store.specs.Answers.{IsNoted}
use Rattle.tp_store.proofs.FactMapLemmas.{kept_already}
use Rattle.tp_store.proofs.Paths.{same_shape-decides}
use Rattle.tp_store.proofs.EntryLemmas.{beq_other}
use Rattle.tp_store.proofs.Clashes.{other_clash, not_true}
use Rattle.tp_store.proofs.fact_map.FactMap.has_clash.Goals as goal

pub returns-then-fact-self : goal.returns-then-fact-self
returns-then-fact-self c = λ t.
    let m = c.self.inside.nodes in
    ap (λ (k : FactsOfKind). first_clash k.facts c.args.fact.now) (sym c.self.view_is)
    ∙ other_clash c.self.inside.lasting (edges_in m) (values_of m.below.entries) c.args.fact.now (beq_other _ _ (not_true _ c.if-fact-self.true))

pub returns-in-New : goal.returns-in-New
returns-in-New c = λ t.
    let fs = c.args.self.now.facts in
    let f = c.args.fact.now in
    let N : FactsOfKind → Type 0 = λ m. NoClash m.facts in
    let J : Noted → Type 0 = λ r. IsNoted fs f r in
    elim c.in-New.is [
      | inl new ↦ (subst J new c.judge.ensures).apart
      | inr kept ↦ kept_already fs f f.shape (subst N c.self.view_is c.self.invariant.0) (subst J kept c.judge.ensures) ((same_shape-decides f.shape f.shape).1 refl)
    ]
