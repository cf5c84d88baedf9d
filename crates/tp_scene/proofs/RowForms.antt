-- What a step owes the item that it replaces, and how the forms of a step meet it.
use Rattle.std.proofs.Common.{◌≡◌, ℕ, ◌+◌, ◌<◌, Bool, true, false, nat_lt, List, [], Option, Some, None, refl, ap, sym, ◌∙◌, subst, arith}
use Rattle.std.proofs.lemmas.Bool.{cond_both}
use Rattle.tp_value.specs.Tree.{Tree}
use Rattle.tp_value.specs.declared.path.Fact.{Fact}
use Rattle.tp_kernel.specs.declared.fault.FaultKind.{FaultKind}
use Rattle.tp_meaning.specs.Syntax.{FormulaTree}
use Rattle.tp_meaning.specs.Course.{Course, Shows, blank, ◌⊕◌}
use Rattle.tp_meaning.specs.Bindings.{Locals, meanings_of}
use Rattle.tp_meaning.specs.Holds.{Context, Joined}
use Rattle.tp_meaning.proofs.Shows.{join-blank}
use Rattle.tp_meaning.proofs.DeeperHolds.{holds_deeper}
use Rattle.tp_store.specs.Facts.{AgreesWithAll}
use Rattle.tp_eval.specs.Outcome as found
use Rattle.tp_eval.specs.Right.{values_at}
use Rattle.tp_scene.specs.Scene.{Bindings, Side, Ending, Going, Leaf, Do, new_head, Entries, none, leaf, Place}
use Rattle.tp_scene.specs.Says.{IsSo, MarksHold, Claim, FormulaSays, LeafSays, Says}
use Rattle.tp_scene.proofs.Carry.{update_self}
use Rattle.tp_scene.proofs.Frame.{Known, MarkSo, Never, Keeps}
use Rattle.tp_scene.specs.Step.{PickOutcome, reduces, clashes, misses, becomes, vanishes, marking, with_region, region_limit, by_status, of_wanted, with_value}

-- the state at a position agrees with these facts
abbrev pub Agrees : (globals : ℕ) → List Fact → Locals → Course → ℕ → Type 0
Agrees globals fs σ s a = AgreesWithAll (values_at globals s σ a) fs

pub new_marks : (n a b : ℕ) → MarksHold (new_head n) a b
new_marks n a b Ending t = absurd (cc)
new_marks n a b Going t = absurd (cc)

-- `facts` is what is kept, n the number of the next local, and e is added to the depth where an item is said again.
module _ (w : Context) (globals : ℕ) (facts : List Fact) (n e : ℕ) where
  abbrev Row : PickOutcome → Claim → Course → ℕ → ℕ → Type 0
  Row = Keeps w globals facts n e

  abbrev No : Claim → Course → ℕ → ℕ → Type 0
  No = Never w globals facts n e

  -- one entry alone
  pub alone : (F : Claim) (d : ℕ) (σ : Locals) (s : Course) (a b : ℕ) (S : Shows) → F d σ s a b S → Joined (F d σ s) (Says w globals none d σ s) a b S
  alone F d σ s a b S h = (S, blank, h, refl, sym (join-blank S))

  pub of_alone : (F : Claim) (d : ℕ) (σ : Locals) (s : Course) (a b : ℕ) (S : Shows) → Joined (F d σ s) (Says w globals none d σ s) a b S → F d σ s a b S
  of_alone F d σ s a b S h = subst (λ (X : Shows). F d σ s a b X) (sym (h.4 ∙ ap (λ X. h.0 ⊕ X) h.3 ∙ join-blank h.0)) h.2

  pub raised : (f : FormulaTree) (env : Bindings) (d : ℕ) (σ : Locals) (s : Course) (a b : ℕ) (S : Shows) → FormulaSays w globals f env d σ s a b S → FormulaSays w globals f env (e + d) σ s a b S
  raised f env d σ s a b S h = holds_deeper w d (e + d) (omega arith) f (meanings_of globals s σ env) s a b S h

  module _ (Old : Claim) (s : Course) (a b : ℕ) where
    -- a step without a new local
    pub plain : (news : Entries) (items regions : ℕ) (mark : Option Side) (fs : List Fact)
        → ((d : ℕ) (σ : Locals) (S : Shows) → Agrees globals facts σ s a → Old d σ s a b S → Agrees globals fs σ s a × MarkSo mark a b × Says w globals news d σ s a b S)
        → ((d : ℕ) (σ : Locals) (S : Shows) → Agrees globals facts σ s a → Agrees globals fs σ s a → MarkSo mark a b → Says w globals news d σ s a b S → Old (e + d) σ s a b S)
        → Row (reduces (record { news = news; items = items; regions = regions; local = None; mark = mark; facts = fs })) Old s a b
    plain news items regions mark fs there back = (
      (λ d σ S ag h. let z = there d σ S ag h in (
        σ n,
        tt,
        subst (λ (τ : Locals). Agrees globals fs τ s a) (sym (update_self n σ)) z.0,
        z.1,
        subst (λ (τ : Locals). Says w globals news d τ s a b S) (sym (update_self n σ)) z.2,
      )),
      (λ d σ S ag _ agf m h. back d σ S ag agf m h),
    )

    -- without a mark and facts
    pub turns_into : (news : Entries) (items regions : ℕ)
        → ((d : ℕ) (σ : Locals) (S : Shows) → Agrees globals facts σ s a → Old d σ s a b S → Says w globals news d σ s a b S)
        → ((d : ℕ) (σ : Locals) (S : Shows) → Agrees globals facts σ s a → Says w globals news d σ s a b S → Old (e + d) σ s a b S)
        → Row (reduces (record { news = news; items = items; regions = regions; local = None; mark = None; facts = [] })) Old s a b
    turns_into news items regions there back = plain news items regions None [] (λ d σ S ag h. (tt, tt, there d σ S ag h)) (λ d σ S ag _ _ h. back d σ S ag h)

    -- one new item
    pub becomes_one : (id : ℕ) (l : Leaf) (items : ℕ)
        → ((d : ℕ) (σ : Locals) (S : Shows) → Agrees globals facts σ s a → Old d σ s a b S → LeafSays w globals l d σ s a b S)
        → ((d : ℕ) (σ : Locals) (S : Shows) → Agrees globals facts σ s a → LeafSays w globals l d σ s a b S → Old (e + d) σ s a b S)
        → Row (becomes (leaf id l none) items) Old s a b
    becomes_one id l items there back = turns_into (leaf id l none) items 0
        (λ d σ S ag h. alone (LeafSays w globals l) d σ s a b S (there d σ S ag h)) (λ d σ S ag h. back d σ S ag (of_alone (LeafSays w globals l) d σ s a b S h))

    -- one new formula that says the same at each depth
    pub becomes_formula : (id : ℕ) (f : FormulaTree) (env : Bindings) (items : ℕ)
        → ((d : ℕ) (σ : Locals) (S : Shows) → Agrees globals facts σ s a → Old d σ s a b S → FormulaSays w globals f env d σ s a b S)
        → ((d : ℕ) (σ : Locals) (S : Shows) → Agrees globals facts σ s a → FormulaSays w globals f env (e + d) σ s a b S → Old (e + d) σ s a b S)
        → Row (becomes (leaf id (Do f env) none) items) Old s a b
    becomes_formula id f env items there back = becomes_one id (Do f env) items there (λ d σ S ag h. back d σ S ag (raised f env d σ s a b S h))

    pub gone : ((d : ℕ) (σ : Locals) (S : Shows) → Agrees globals facts σ s a → Old d σ s a b S → S ≡ blank)
        → ((d : ℕ) (σ : Locals) (S : Shows) → Agrees globals facts σ s a → S ≡ blank → Old (e + d) σ s a b S)
        → Row vanishes Old s a b
    gone there back = turns_into none 0 0 there back

    pub marking_row : (z : Side) (x : Bool) (depth : ℕ) (news : Entries) (items : ℕ)
        → (x ≡ true → No Old s a b)
        → ((d : ℕ) (σ : Locals) (S : Shows) → Agrees globals facts σ s a → Old d σ s a b S → IsSo z a b × Says w globals news d σ s a b S)
        → ((d : ℕ) (σ : Locals) (S : Shows) → Agrees globals facts σ s a → IsSo z a b → Says w globals news d σ s a b S → Old (e + d) σ s a b S)
        → Row (marking z x depth news items) Old s a b
    marking_row z true depth news items never there back = never refl
    marking_row z false depth news items never there back = plain news items 0 (Some z) [] (λ d σ S ag h. let x = there d σ S ag h in (tt, x.0, x.1)) (λ d σ S ag _ m h. back d σ S ag m h)

    pub by_status_row : (p : Place) (if_goes if_ends : PickOutcome) → Known p a b → (a < b → Row if_goes Old s a b) → (a ≡ b → Row if_ends Old s a b) → Row (by_status p if_goes if_ends) Old s a b
    by_status_row p if_goes if_ends known g e =
        cond_both (p.is Going) _ _ (λ o. Row o Old s a b) (λ y. g (known Going y))
        (λ _. cond_both (p.is Ending) _ _ (λ o. Row o Old s a b) (λ y. e (known Ending y)) (λ _. tt))

    pub with_region_row : (depth : ℕ) (news : Entries) (items : ℕ)
        → Row (reduces (record { news = news; items = items; regions = 1; local = None; mark = None; facts = [] })) Old s a b
        → Row (with_region depth news items) Old s a b
    with_region_row depth news items h = cond_both (nat_lt depth region_limit) _ _ (λ o. Row o Old s a b) (λ _. h) (λ _. tt)

    pub with_value_row : (o : found.Outcome) (f : Tree → PickOutcome) → ((k : FaultKind) → o ≡ found.fault k → No Old s a b) → ((t : Tree) → o ≡ found.value t → Row (f t) Old s a b) → Row (with_value o f) Old s a b
    with_value_row (found.value t) f never h = h t refl
    with_value_row (found.fault k) f never h = never k refl
    with_value_row o f never h = tt

    pub with_wanted_row : {A : Type 0} (o : found.Outcome) (kind : Tree → Option A) (f : A → PickOutcome) → ((k : FaultKind) → o ≡ found.fault k → No Old s a b)
        → ((t : Tree) → o ≡ found.value t → kind t ≡ None → No Old s a b) → ((t : Tree) (x : A) → o ≡ found.value t → kind t ≡ Some x → Row (f x) Old s a b)
        → Row (with_value o (λ t. of_wanted (kind t) f)) Old s a b
    with_wanted_row {A} o kind f never other h = with_value_row o (λ t. of_wanted (kind t) f) never (λ t q. by t q (kind t) refl)
      where
        by : (t : Tree) → o ≡ found.value t → (wanted : Option A) → kind t ≡ wanted → Row (of_wanted wanted f) Old s a b
        by t q None e = other t q e
        by t q (Some x) e = h t x q e

  -- the same of what says the same
  pub row_as : (o : PickOutcome) (Old Old' : Claim) (s : Course) (a b : ℕ)
      → ((d : ℕ) (σ : Locals) (S : Shows) → Agrees globals facts σ s a → Old' d σ s a b S → Old d σ s a b S)
      → ((d : ℕ) (σ : Locals) (S : Shows) → Agrees globals facts σ s a → Old d σ s a b S → Old' d σ s a b S)
      → Row o Old s a b → Row o Old' s a b
  row_as (reduces r) Old Old' s a b to from h = ((λ d σ S ag x. h.0 d σ S ag (to d σ S ag x)), (λ d σ S ag l agf m x. from (e + d) σ S ag (h.1 d σ S ag l agf m x)))
  row_as (clashes c) Old Old' s a b to from h = λ d σ S ag x. h d σ S ag (to d σ S ag x)
  row_as (misses port) Old Old' s a b to from h = λ d σ S ag x. h d σ S ag (to d σ S ag x)
  row_as o Old Old' s a b to from h = tt
