-- What comes of adding facts.
use Rattle.std.proofs.Common.{◌≡◌, ◌⊎◌, inl, inr, Bool, true, false, not, ◌&&◌, ◌||◌, List, [], ◌∷◌, ◌++◌, cond, Option, Some, None, refl, ap, ap₂, sym, ◌∙◌, subst}
use Rattle.std.proofs.lemmas.Bool.{both_ways, or_parts}
use Rattle.tp_value.specs.declared.value.Shape.{Shape}
use Rattle.tp_value.specs.declared.path.Fact.{Fact}
use Rattle.tp_store.specs.Facts.{same_path, same_shape, excludes, clash, kept_shape, fact}
use Rattle.tp_store.specs.Known.{Addition, NoClash, is_none, first_clash, adds, refuses, refused_or, checked, new_facts, addition}
use Rattle.tp_store.specs.FactMap.{IsNewFact}
use Rattle.tp_store.proofs.Paths.{same_path-decides, same_shape-decides, same_path-sym, clash-sym}
use Rattle.tp_store.proofs.Members.{In, kept_in, none_kept, in_filter, filter_in, NoClash-append, NoClash-filter, Apart}
use Rattle.tp_store.proofs.First.{FirstOf, first_is}

-- no fact clashes with a kept one, and these are new
pub record AddsAll (kept facts news : List Fact) : Type 0 where
  pub apart : (f g : Fact) → In f kept → In g facts → clash f g ≡ false
  pub new : new_facts kept facts ≡ news

no_first : (kept : List Fact) (g : Fact) → first_clash kept g ≡ None → (f : Fact) → In f kept → clash f g ≡ false
no_first kept g e = let P : Option Fact → Type 0 = λ o. FirstOf kept g o in subst P e (first_is kept g)

passed : (kept facts ns news : List Fact) → checked kept facts (adds ns) ≡ adds news → ((f g : Fact) → In f kept → In g facts → clash f g ≡ false) × (ns ≡ news)
passed kept [] ns news h = (λ f g i j. absurd j, cc h)
passed kept (x ∷ fs) ns news h =
    let P : Option Fact → Type 0 = λ o. first_clash kept x ≡ o → refused_or o x (checked kept fs (adds ns)) ≡ adds news → ((f g : Fact) → In f kept → In g (x ∷ fs) → clash f g ≡ false) × (ns ≡ news) in
    let none : P None = λ e k.
    (let rest = passed kept fs ns news k in
    (λ f g i j. elim j [ inl q ↦ ap (clash f) (sym q) ∙ no_first kept x e f i | inr m ↦ rest.0 f g i m ], rest.1)) in
    let some : (g : Fact) → P (Some g) = λ g e k. absurd (cc k) in
    let cases : P (first_clash kept x) = elim (first_clash kept x) as P [ None ↦ none | Some g ↦ some g ] in
    cases refl h

pub adds_all : (kept facts news : List Fact) → addition kept facts ≡ adds news → AddsAll kept facts news
adds_all kept facts news h = let p = passed kept facts (new_facts kept facts) news h in record { apart = p.0; new = p.1 }

-- a refusal names a kept fact and a new one that clash
pub record Refused (kept facts : List Fact) (old new : Fact) : Type 0 where
  pub old_kept : In old kept
  pub new_given : In new facts
  pub clashes : clash old new ≡ true

pub refused_by : (kept facts ns : List Fact) (old new : Fact) → checked kept facts (adds ns) ≡ refuses old new → Refused kept facts old new
refused_by kept [] ns old new h = absurd (cc h)
refused_by kept (x ∷ fs) ns old new h =
    let P : Option Fact → Type 0 = λ o. FirstOf kept x o → refused_or o x (checked kept fs (adds ns)) ≡ refuses old new → Refused kept (x ∷ fs) old new in
    let none : P None = λ e k. (let r = refused_by kept fs ns old new k in record { old_kept = r.old_kept; new_given = inr r.new_given; clashes = r.clashes }) in
    let some : (g : Fact) → P (Some g) = λ g e k.
    (let a : g ≡ old = cc k in
    let b : x ≡ new = cc k in
    let I : Fact → Type 0 = λ y. In y kept in
    record { old_kept = subst I a e.kept; new_given = inl b; clashes = ap₂ clash (sym a) (sym b) ∙ e.clashes }) in
    let cases : P (first_clash kept x) = elim (first_clash kept x) as P [ None ↦ none | Some g ↦ some g ] in
    cases (first_is kept x) h

is_none-true : {A : Type 0} (o : Option A) → is_none o ≡ true → o ≡ None
is_none-true None h = refl
is_none-true (Some a) h = absurd (cc)

pub news_apart : (kept facts news : List Fact) → AddsAll kept facts news → (f g : Fact) → In f kept → In g news → Apart f g
news_apart kept facts news a f g i j =
    let P : List Fact → Type 0 = λ xs. In g xs in
    let m = in_filter (λ (y : Fact). is_none (kept_shape kept y.path)) g facts (subst P (sym a.new) j) in
    (same_path-sym g.path f.path ∙ none_kept kept g.path (is_none-true (kept_shape kept g.path) m.1) f i, clash-sym g f ∙ a.apart f g i m.0)

pub NoClash-adds : (kept facts news : List Fact) → addition kept facts ≡ adds news → NoClash kept → NoClash facts → NoClash (kept ++ news)
NoClash-adds kept facts news h n m =
    let a = adds_all kept facts news h in
    let P : List Fact → Type 0 = λ xs. NoClash xs in
    NoClash-append kept news n (subst P a.new (NoClash-filter (λ (y : Fact). is_none (kept_shape kept y.path)) facts m)) (news_apart kept facts news a)

-- a given fact is new, or kept already
same_kept_shape : (f g : Fact) → f.path ≡ g.path → clash f g ≡ false → f.shape ≡ g.shape
same_kept_shape f g e h =
    let part : (same_path f.path g.path && not (same_shape f.shape g.shape)) ≡ false = (or_parts (same_path f.path g.path && not (same_shape f.shape g.shape)) (excludes f g.path || excludes g f.path) h).0 in
    let here : same_path f.path g.path ≡ true = (same_path-decides f.path g.path).1 e in
    let P : Bool → Type 0 = λ b. same_shape f.shape g.shape ≡ b → f.shape ≡ g.shape in
    let no : same_shape f.shape g.shape ≡ false → f.shape ≡ g.shape = λ q. absurd (both_ways (same_path f.path g.path && not (same_shape f.shape g.shape)) part (ap₂ (λ a b. a && not b) here q)) in
    let cases : P (same_shape f.shape g.shape) = elim (same_shape f.shape g.shape) as P [ true ↦ λ q. (same_shape-decides f.shape g.shape).0 q | false ↦ no ] in
    cases refl

pub given_in : (kept facts news : List Fact) → AddsAll kept facts news → (g : Fact) → In g facts → In g kept ⊎ In g news
given_in kept facts news a g j =
    let P : Option Shape → Type 0 = λ o. kept_shape kept g.path ≡ o → In g kept ⊎ In g news in
    let L : List Fact → Type 0 = λ xs. In g xs in
    let none : P None = λ e. inr (subst L a.new (filter_in (λ (y : Fact). is_none (kept_shape kept y.path)) g facts j (ap is_none e))) in
    let some : (sh : Shape) → P (Some sh) = λ sh e.
    (let i : In (fact g.path sh) kept = kept_in kept g.path sh e in
    let s : sh ≡ g.shape = same_kept_shape (fact g.path sh) g refl (a.apart (fact g.path sh) g i j) in
    let Q : Shape → Type 0 = λ y. In (fact g.path y) kept in
    inl (subst Q s i)) in
    let cases : P (kept_shape kept g.path) = elim (kept_shape kept g.path) as P [ None ↦ none | Some sh ↦ some sh ] in
    cases refl

pub news_given : (kept facts news : List Fact) → AddsAll kept facts news → (g : Fact) → In g news → In g facts
news_given kept facts news a g j =
    let P : List Fact → Type 0 = λ xs. In g xs in
    (in_filter (λ (y : Fact). is_none (kept_shape kept y.path)) g facts (subst P (sym a.new) j)).0

-- to nothing all of them can be added
checked_by_none : (fs : List Fact) (o : Addition) → checked [] fs o ≡ o
checked_by_none [] o = refl
checked_by_none (f ∷ fs) o = checked_by_none fs o

all_new : (fs : List Fact) → new_facts [] fs ≡ fs
all_new [] = refl
all_new (f ∷ fs) = ap (λ gs. f ∷ gs) (all_new fs)

-- a fact that is new is added
pub new_added : (kept : List Fact) (f : Fact) → IsNewFact kept f → addition kept (f ∷ []) ≡ adds (f ∷ [])
new_added kept f n = ap (λ o. refused_or o f (adds (new_facts kept (f ∷ [])))) n.apart ∙ ap (λ s. adds (cond (is_none s) (f ∷ []) [])) n.none

pub adds_to_none : (fs : List Fact) → addition [] fs ≡ adds fs
adds_to_none fs = checked_by_none fs (adds (new_facts [] fs)) ∙ ap adds (all_new fs)
