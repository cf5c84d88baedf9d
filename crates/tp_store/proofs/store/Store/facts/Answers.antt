use Rattle.std.proofs.Common.{◌≡◌, ◌++◌, [], ap, sym, ◌∙◌, subst}
use Rattle.std.proofs.lemmas.List.{nil_from_length}
use Rattle.std.proofs.lemmas.Bool.Decides.{Decides-eqb}
use Rattle.tp_store.specs.Known.{facts_below}
use Rattle.tp_store.specs.Changes.{HasAppended}
use Rattle.tp_store.specs.Stock.{contents_in}
use Rattle.tp_store.proofs.Joined.{moved_behind}
use Rattle.tp_store.proofs.Parts.{sound_view, appended_is}
use Rattle.tp_store.proofs.store.Store.facts.Goals as goal

pub returns-in_err-copy_below-clause-sound : goal.returns-in_err-copy_below-clause-sound
returns-in_err-copy_below-clause-sound c = sound_view c.self.inside.entries.items c.self.inside.state c.self.inside.fixed _ (ap contents_in c.self.view_is) c.self.invariant

pub returns-in_err-copy_below-2-clause-sound : goal.returns-in_err-copy_below-2-clause-sound
returns-in_err-copy_below-2-clause-sound c = sound_view c.self.inside.entries.items c.self.inside.state c.self.inside.fixed _ (ap contents_in c.self.view_is) c.self.invariant

pub returns-then-is_empty-clause-sound : goal.returns-then-is_empty-clause-sound
returns-then-is_empty-clause-sound c = sound_view c.self.inside.entries.items c.self.inside.state c.self.inside.fixed _ (ap contents_in c.self.view_is) c.self.invariant

pub returns-in_err-append-clause-sound : goal.returns-in_err-append-clause-sound
returns-in_err-append-clause-sound c = sound_view c.self.inside.entries.items c.self.inside.state c.self.inside.fixed _ (ap contents_in c.self.view_is) c.self.invariant

pub returns-clause-sound : goal.returns-clause-sound
returns-clause-sound c = sound_view c.self.inside.entries.items c.self.inside.state c.self.inside.fixed _ (ap contents_in c.self.view_is) c.self.invariant

pub returns-then-is_empty-clause-ok : goal.returns-then-is_empty-clause-ok
returns-then-is_empty-clause-ok c =
    let copies = c.copy_below-2.new.facts.items in
    let found = appended_is c.self.inside.entries.items c.self.inside.state c.self.inside.fixed _ (ap contents_in c.self.view_is) c.self.invariant c.args.below [] _ copies
    (subst (λ fs. HasAppended (facts_below c.args.below c.self.inside.state.facts) fs c.copy_below.new.facts.items) c.new-copies.ensures.items c.in_ok-copy_below.ensures) c.in_ok-copy_below-2.ensures in
    let none : c.args.out.now ≡ [] = sym c.out.view_is ∙ nil_from_length _ (sym c.out.inside.items.ok.0 ∙ (Decides-eqb _ 0).0 (sym c.is_empty.ensures ∙ c.if-is_empty.true)) in
    moved_behind _ copies _ _ found (ap (λ v. v.items) c.swap.ensures.x_after ∙ ap (λ xs. xs ++ copies) (sym none))

pub returns-clause-ok : goal.returns-clause-ok
returns-clause-ok c =
    let copies = c.copy_below-2.new.facts.items in
    let found = appended_is c.self.inside.entries.items c.self.inside.state c.self.inside.fixed _ (ap contents_in c.self.view_is) c.self.invariant c.args.below [] _ copies
    (subst (λ fs. HasAppended (facts_below c.args.below c.self.inside.state.facts) fs c.copy_below.new.facts.items) c.new-copies.ensures.items c.in_ok-copy_below.ensures) c.in_ok-copy_below-2.ensures in
    moved_behind _ copies _ _ found (c.in_ok-append.ensures.items ∙ ap (λ xs. xs ++ copies) c.out.view_is)
