-- Adding facts: what the new ones say is what the added ones say, and a value stands at a path where its facts are agreed with.
use Rattle.std.proofs.Common.{◌≡◌, ◌↔◌, inl, inr, ℕ, List, refl}
use Rattle.tp_value.specs.Tree.{Tree}
use Rattle.tp_value.specs.declared.path.Fact.{Fact}
use Rattle.tp_store.specs.Facts.{AgreesWithAll}
use Rattle.tp_store.specs.Known.{Addition, adds, refuses, new_facts, addition}
use Rattle.tp_store.proofs.Members.{agrees_in, agrees_from}
use Rattle.tp_store.proofs.Adding.{AddsAll, adds_all, refused_by, given_in, news_given}
use Rattle.tp_store.proofs.Meaning.{clashes_agree_nowhere, facts_say_the_value}
use Rattle.tp_scene.proofs.Sides.{AdditionMeans, AddingIsRight}

news_say : (kept fs news : List Fact) → AddsAll kept fs news → (values : ℕ → Tree) → AgreesWithAll values kept → AgreesWithAll values fs ↔ AgreesWithAll values news
news_say kept fs news all values ag = (
  (λ h. agrees_from values news (λ f i. agrees_in values fs h f (news_given kept fs news all f i))),
  (λ h. agrees_from values fs (λ f i. elim (given_in kept fs news all f i) [ inl j ↦ agrees_in values kept ag f j | inr j ↦ agrees_in values news h f j ])),
)

adding_means : (kept fs : List Fact) (o : Addition) → addition kept fs ≡ o → AdditionMeans kept fs o
adding_means kept fs (adds news) q = news_say kept fs news (adds_all kept fs news q)
adding_means kept fs (refuses g f) q = λ values ag h.
    let r = refused_by kept fs (new_facts kept fs) g f q in
    clashes_agree_nowhere values g f r.clashes (agrees_in values kept ag g r.old_kept) (agrees_in values fs h f r.new_given)

pub adding_is_right : (facts : List Fact) → AddingIsRight facts
adding_is_right facts = record {
  adding = λ fs. adding_means facts fs (addition facts fs) refl;
  values = facts_say_the_value;
}
