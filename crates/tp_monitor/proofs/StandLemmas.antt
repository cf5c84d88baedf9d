-- Facts that stand for others are the same facts.
use Rattle.std.proofs.Common.{◌≡◌, ℕ, ◌<◌, inl, inr, true, false, cond, List, [], ◌∷◌, ◌++◌, length, map, Option, Some, None, refl, sym, ap, subst, ◌∙◌}
use Rattle.std.proofs.lemmas.Bool.{both_ways, cases_Bool, lt-ltb}
use Rattle.std.proofs.lemmas.List.{length-map}
use Rattle.std.proofs.lemmas.Option.{slice_get_within}
use Rattle.tp_value.specs.declared.value.Shape.{Shape}
use Rattle.tp_value.specs.declared.path.Path.{Path}
use Rattle.tp_value.specs.declared.path.Fact.{Fact}
use Rattle.tp_store.specs.Facts.{kept_shape, fact}
use Rattle.tp_store.specs.Known.{Variable, NoClash, AreOfVariables, facts_below, addition, adds, refuses, new_facts}
use Rattle.tp_store.specs.Changes.{HaveSameShapes, HasAppended}
use Rattle.tp_store.proofs.Members.{In, in_left, in_right, in_append, kept_in, kept_none, none_kept, in_kept}
use Rattle.tp_store.proofs.Adding.{AddsAll, adds_all, Refused, refused_by, NoClash-adds, given_in, news_given}
use Rattle.tp_verdict.specs.Trace.{clash_somewhere}
use Rattle.tp_verdict.proofs.ClashLemmas.{clash_fewer, clash_pair, clash_alike, kept_apart, each_kept}
use Rattle.tp_monitor.specs.Standing.{StandFor}

abbrev pub Among : List Fact → List Fact → Type 0
Among fs gs = (f : Fact) → In f fs → In f gs

pub stand_there : (fs all : List Fact) → StandFor fs all → Among fs all
stand_there fs all s f i = kept_in all f.path f.shape (sym (s.shapes f.path) ∙ in_kept fs f s.no_clash i)

pub stand_back : (fs all : List Fact) → StandFor fs all → Among all fs
stand_back fs all s f i = kept_in fs f.path f.shape (s.shapes f.path ∙ each_kept all s.apart f i)

pub stand_by : (fs all : List Fact) → NoClash fs → Among fs all → Among all fs → StandFor fs all
stand_by fs all n there back = record { apart = whole; no_clash = n; shapes = λ p. by p (kept_shape fs p) refl }
  where
    whole : clash_somewhere all ≡ false
    whole = clash_fewer all fs back (kept_apart fs n)

    by : (p : Path) (o : Option Shape) → kept_shape fs p ≡ o → kept_shape fs p ≡ kept_shape all p
    by p None e = e ∙ sym (kept_none all p (λ g i. none_kept fs p e g (back g i)))
    by p (Some sh) e = e ∙ sym (each_kept all whole (fact p sh) (there (fact p sh) (kept_in fs p sh e)))

-- where these are the same facts
pub stand_like : (fs gs hs : List Fact) → StandFor fs gs → Among gs hs → Among hs gs → StandFor fs hs
stand_like fs gs hs s there back = stand_by fs hs s.no_clash (λ f i. there f (stand_there fs gs s f i)) (λ f i. stand_back fs gs s f (back f i))

pub among_left : (fs gs hs : List Fact) → Among fs gs → Among (fs ++ hs) (gs ++ hs)
among_left fs gs hs h f i = elim (in_append f fs hs i) [ inl j ↦ in_left f gs hs (h f j) | inr j ↦ in_right f gs hs j ]

pub among_right : (fs gs hs : List Fact) → Among gs hs → Among (fs ++ gs) (fs ++ hs)
among_right fs gs hs h f i = elim (in_append f fs gs i) [ inl j ↦ in_left f fs hs j | inr j ↦ in_right f fs hs (h f j) ]

pub clash_more : (fs gs : List Fact) → Among fs gs → clash_somewhere fs ≡ true → clash_somewhere gs ≡ true
clash_more fs gs h t = elim (cases_Bool (clash_somewhere gs)) [ inl e ↦ e | inr e ↦ absurd (both_ways (clash_somewhere fs) (clash_fewer fs gs h e) t) ]

-- ---- one fact more

pub stand_start : (fs : List Fact) → NoClash fs → StandFor fs (fs ++ [])
stand_start fs n = stand_by fs (fs ++ []) n (λ f i. in_left f fs [] i) (λ f i. elim (in_append f fs [] i) [ inl j ↦ j | inr j ↦ absurd j ])

module _ (kept seen : List Fact) (s : StandFor kept seen) (f : Fact) where
  pub stand_more : (news new : List Fact) → addition kept (f ∷ []) ≡ adds news → NoClash new → HaveSameShapes new (kept ++ news) → StandFor new (seen ++ f ∷ [])
  stand_more news new e n same =
      let a : AddsAll kept (f ∷ []) news = adds_all kept (f ∷ []) news e in
      let all : NoClash (kept ++ news) = NoClash-adds kept (f ∷ []) news e s.no_clash (refl, refl, tt) in
      let there : Among new (kept ++ news) = λ g i. kept_in (kept ++ news) g.path g.shape (sym (same g.path) ∙ in_kept new g n i) in
      let back : Among (kept ++ news) new = λ g i. kept_in new g.path g.shape (same g.path ∙ in_kept (kept ++ news) g all i) in
      stand_by new (seen ++ f ∷ []) n
      (λ g i. elim (in_append g kept news (there g i)) [ inl j ↦ in_left g seen (f ∷ []) (stand_there kept seen s g j) | inr j ↦ in_right g seen (f ∷ []) (news_given kept (f ∷ []) news a g j) ])
      (λ g i. back g (elim (in_append g seen (f ∷ []) i) [
        | inl j ↦ in_left g kept news (stand_back kept seen s g j)
        | inr j ↦ elim (given_in kept (f ∷ []) news a g j) [ inl k ↦ in_left g kept news k | inr k ↦ in_right g kept news k ]
      ]))

  pub stand_clash : (old new : Fact) (rest : List Fact) → addition kept (f ∷ []) ≡ refuses old new → clash_somewhere (seen ++ f ∷ rest) ≡ true
  stand_clash old new rest e =
      let r : Refused kept (f ∷ []) old new = refused_by kept (f ∷ []) (new_facts kept (f ∷ [])) old new e in
      clash_pair (seen ++ f ∷ rest) new old
      (in_right new seen (f ∷ rest) (elim r.new_given [ inl q ↦ inl q | inr z ↦ absurd z ]))
      (in_left old seen (f ∷ rest) (stand_there kept seen s old r.old_kept)) r.clashes

-- ---- beside facts that stand for others

module _ (fs all : List Fact) (s : StandFor fs all) (own : List Fact) where
  pub clash_beside : clash_somewhere (own ++ fs) ≡ clash_somewhere (own ++ all)
  clash_beside = clash_alike (own ++ fs) (own ++ all) (among_right own fs all (stand_there fs all s)) (among_right own all fs (stand_back fs all s))

  pub stand_beside : (gs : List Fact) → StandFor gs (own ++ fs) → StandFor gs (own ++ all)
  stand_beside gs g = stand_like gs (own ++ fs) (own ++ all) g (among_right own fs all (stand_there fs all s)) (among_right own all fs (stand_back fs all s))

  pub stand_before : (gs : List Fact) → StandFor gs (fs ++ own) → StandFor gs (all ++ own)
  stand_before gs g = stand_like gs (fs ++ own) (all ++ own) g (among_left fs all own (stand_there fs all s)) (among_left all fs own (stand_back fs all s))

  pub clash_before : clash_somewhere (fs ++ own) ≡ clash_somewhere (all ++ own)
  clash_before = clash_alike (fs ++ own) (all ++ own) (among_left fs all own (stand_there fs all s)) (among_left all fs own (stand_back fs all s))

-- all facts of a store's variables have lower numbers
all_below : (xs : List Variable) (fs : List Fact) → AreOfVariables xs fs → facts_below (length xs) fs ≡ fs
all_below xs [] h = refl
all_below xs (f ∷ fs) h =
    let within : f.path.var.number < length xs = subst (λ (n : ℕ). f.path.var.number < n) (length-map xs (λ (v : Variable). v.lasting)) (slice_get_within (map (λ (v : Variable). v.lasting) xs) f.path.var.number f.path.var.lasting h.0) in
    ap (λ b. cond b (f ∷ facts_below (length xs) fs) (facts_below (length xs) fs)) (lt-ltb f.path.var.number (length xs) within) ∙ ap (λ gs. f ∷ gs) (all_below xs fs h.1)

-- facts that were copied, each once
-- where a store was empty, its facts stand for those that were added
pub stand_alone : (before kept facts : List Fact) → before ≡ [] → StandFor kept (before ++ facts) → StandFor kept facts
stand_alone before kept facts none s = subst (λ (fs : List Fact). StandFor kept (fs ++ facts)) none s

pub stand_copied : (xs : List Variable) (facts all old new : List Fact) (n : ℕ) → AreOfVariables xs facts → n ≡ length xs → StandFor facts all → old ≡ [] → HasAppended (facts_below n facts) old new → StandFor new all
stand_copied xs facts all old new n of long s none a =
    let is : new ≡ a.appended = a.list ∙ ap (λ (fs : List Fact). fs ++ a.appended) none in
    let below : facts_below n facts ≡ facts = ap (λ (k : ℕ). facts_below k facts) long ∙ all_below xs facts of in
    record {
      apart = s.apart;
      no_clash = subst (λ (fs : List Fact). NoClash fs) (sym is) a.no_clash;
      shapes = λ p. ap (λ (fs : List Fact). kept_shape fs p) is ∙ (a.shapes p ∙ (ap (λ (fs : List Fact). kept_shape fs p) below ∙ s.shapes p));
    }
