-- Facts and states: what the same facts say, what adding says, and a state that agrees.
use Rattle.std.proofs.Common.{◌≡◌, inl, inr, ℕ, Bool, true, false, ltb, List, ◌++◌, refl, sym, ◌∙◌}
use Rattle.std.proofs.lemmas.Bool.{both_ways, cases_Bool}
use Rattle.tp_value.specs.Tree.{Tree}
use Rattle.tp_value.specs.declared.path.VarId.{VarId}
use Rattle.tp_value.specs.declared.path.Fact.{Fact}
use Rattle.tp_store.specs.Facts.{clash, AgreesWith, AgreesWithAll}
use Rattle.tp_store.specs.Known.{NoClash, clashes_with_some, new_facts}
use Rattle.tp_store.specs.Changes.{HaveSameShapes}
use Rattle.tp_store.specs.Laws.{SameShapesSameStore, AddingAddsMeaning, RefusedAgreeNowhere, NoClashArises}
use Rattle.tp_store.proofs.Members.{In, in_left, in_right, in_append, kept_in, in_kept, none_meets, meets_none, agrees_in, agrees_from, NoClash-filter}
use Rattle.tp_store.proofs.Same.{AgreeAt, same_excluded, same_full, same_first, same_addition}
use Rattle.tp_store.proofs.Adding.{adds_all, given_in, news_given, refused_by, NoClash-adds}
use Rattle.tp_store.proofs.Meaning.{clashes_agree_nowhere}
use Rattle.tp_store.proofs.Separate.{value_apart}

-- the same shapes are the same facts
same_member : (fs gs : List Fact) → NoClash fs → HaveSameShapes fs gs → (f : Fact) → In f fs → In f gs
same_member fs gs n h f i = kept_in gs f.path f.shape (sym (h f.path) ∙ in_kept fs f n i)

pub agree_all : (fs gs : List Fact) → NoClash fs → NoClash gs → HaveSameShapes fs gs → (x : VarId) → AgreeAt x fs gs
agree_all fs gs n m h x = record { there = λ f e i. same_member fs gs n h f i; back = λ f e i. same_member gs fs m (λ p. sym (h p)) f i }

meets_from : (fs : List Fact) (f g : Fact) → In g fs → clash g f ≡ true → clashes_with_some fs f ≡ true
meets_from fs f g i t =
    let P : Bool → Type 0 = λ b. clashes_with_some fs f ≡ b → b ≡ true in
    let cases : P (clashes_with_some fs f) = elim (clashes_with_some fs f) as P [ true ↦ λ e. refl | false ↦ λ e. absurd (both_ways (clash g f) (none_meets fs f e g i) t) ] in
    cases refl

meets_there : (fs gs : List Fact) (f : Fact) → ((g : Fact) → In g fs → In g gs) → clashes_with_some gs f ≡ false → clashes_with_some fs f ≡ false
meets_there fs gs f h e = meets_none fs f (λ g i. none_meets gs f e g (h g i))

same_meets : (fs gs : List Fact) (f : Fact) → ((g : Fact) → In g fs → In g gs) → ((g : Fact) → In g gs → In g fs) → clashes_with_some fs f ≡ clashes_with_some gs f
same_meets fs gs f h k =
    let P : Bool → Type 0 = λ b. clashes_with_some gs f ≡ b → clashes_with_some fs f ≡ b in
    let yes_ : P true = λ e. elim (cases_Bool (clashes_with_some fs f)) [ inl t ↦ t | inr t ↦ absurd (both_ways (clashes_with_some gs f) (meets_there gs fs f k t) e) ] in
    let cases : P (clashes_with_some gs f) = elim (clashes_with_some gs f) as P [ true ↦ yes_ | false ↦ λ e. meets_there fs gs f h e ] in
    cases refl

agrees_there : (values : ℕ → Tree) (fs gs : List Fact) → ((g : Fact) → In g gs → In g fs) → AgreesWithAll values fs → AgreesWithAll values gs
agrees_there values fs gs h a = agrees_from values gs (λ f i. agrees_in values fs a f (h f i))

pub same_shapes_same_store : SameShapesSameStore
same_shapes_same_store fs gs n m h =
    let there = same_member fs gs n h in
    let back = same_member gs fs m (λ p. sym (h p)) in
    record {
      excluded = λ p. same_excluded fs gs p (agree_all fs gs n m h p.var);
      wholes = λ p. same_full fs gs p m (agree_all fs gs n m h p.var);
      meetings = λ f. same_meets fs gs f there back;
      first = λ f. same_first fs gs f n (agree_all fs gs n m h f.path.var);
      additions = λ facts. same_addition fs gs facts n m (λ f i. agree_all fs gs n m h f.path.var);
      states = λ values. (agrees_there values fs gs back, agrees_there values gs fs there);
    }

-- what is kept after adding are the old facts and the new ones
pub adding_adds_meaning : AddingAddsMeaning
adding_adds_meaning old facts news new h n m k s values =
    let a = adds_all old facts news h in
    let both : NoClash (old ++ news) = NoClash-adds old facts news h n m in
    let there : (f : Fact) → In f new → In f (old ++ news) = same_member new (old ++ news) k s in
    let back : (f : Fact) → In f (old ++ news) → In f new = same_member (old ++ news) new both (λ p. sym (s p)) in
    let given : (f : Fact) → In f facts → In f new = λ f i. elim (given_in old facts news a f i) [ inl j ↦ back f (in_left f old news j) | inr j ↦ back f (in_right f old news j) ] in
    let kept : (f : Fact) → In f new → AgreesWithAll values old → AgreesWithAll values facts → AgreesWith values f = λ f i x y.
    elim (in_append f old news (there f i)) [ inl j ↦ agrees_in values old x f j | inr j ↦ agrees_in values facts y f (news_given old facts news a f j) ] in (
      λ x. (agrees_there values new old (λ f i. back f (in_left f old news i)) x, agrees_there values new facts given x),
      λ x. agrees_from values new (λ f i. kept f i x.0 x.1),
    )

pub refused_agree_nowhere : RefusedAgreeNowhere
refused_agree_nowhere old facts kept new h values a b =
    let r = refused_by old facts (new_facts old facts) kept new h in
    clashes_agree_nowhere values kept new r.clashes (agrees_in values old a kept r.old_kept) (agrees_in values facts b new r.new_given)

pub no_clash_arises : NoClashArises
no_clash_arises = record {
  adding = NoClash-adds;
  value_facts = value_apart;
  advancing = λ facts n. NoClash-filter (λ (f : Fact). f.path.var.lasting) facts n;
  below = λ k facts n. NoClash-filter (λ (f : Fact). ltb f.path.var.number k) facts n;
}
