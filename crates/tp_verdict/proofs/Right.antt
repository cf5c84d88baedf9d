-- Verdicts on whole runs are right.
use Rattle.std.proofs.Common.{◌≡◌, ℕ, zero, suc, ◌+◌, ◌-◌, ◌≤◌, ◌<◌, inl, inr, Bool, true, false, not, nat_lt, List, [], ◌∷◌, length, Some, None, slice_get, refl, sym, ap, subst, ◌∙◌, arith, if◌then◌else◌, filter}
use Rattle.std.specs.List.{flat_map, list_any}
use Rattle.std.proofs.lemmas.Bool.{or_parts, or_cases, not-true}
use Rattle.tp_value.specs.Tree.{Tree}
use Rattle.tp_value.specs.Shape.{shape_at_path}
use Rattle.tp_value.specs.declared.path.Fact.{Fact}
use Rattle.tp_meaning.specs.Syntax.{ExprTree, Definition}
use Rattle.tp_meaning.specs.Course.{Course, blank}
use Rattle.tp_meaning.specs.Bindings.{Locals}
use Rattle.tp_meaning.specs.Value.{value_by}
use Rattle.tp_meaning.specs.Fits.{IsVariable, ExprFits, DefinitionsFit}
use Rattle.tp_store.specs.Facts.{same_path, clash, AgreesWith, AgreesWithAll}
use Rattle.tp_store.specs.Known.{NoClash, clashes_with_some, lasting_facts}
use Rattle.tp_store.proofs.Members.{In, in_append, in_filter, kept_none, meets_none, none_meets, NoClash-filter, agrees_in, agrees_from}
use Rattle.tp_store.proofs.Meaning.{clashes_agree_nowhere}
use Rattle.tp_eval.specs.Evaluate.{depth_limit}
use Rattle.tp_eval.specs.Outcome as found
use Rattle.tp_eval.specs.Outcome.{Outcome, outcome}
use Rattle.tp_eval.specs.Right.{values_at, OutcomesAreRight}
use Rattle.tp_eval.proofs.OutcomesAre.{outcomes_mean}
use Rattle.tp_verdict.specs.Wide.{WideTree, Somehow, WideHolds, IsExprOf}
use Rattle.tp_verdict.specs.Verdict.{no, undecided}
use Rattle.tp_verdict.specs.Trace.{verdict, FactsOfStates, given_of, known_with, each_path_once, known_in, known_outcome, clash_somewhere, is_torn, IsTold, WideFits}
use Rattle.tp_verdict.specs.VerdictLaws.{AreOfKinds, StatesAreOfKinds, VerdictsAreRight, StaysOpen, UndecidedWhereOpen}
use Rattle.tp_verdict.proofs.Widened.{no_calls}
use Rattle.tp_verdict.proofs.Judged.{Judged, as_no, OutcomeSays}
use Rattle.tp_verdict.proofs.Sound.{sound}
use Rattle.tp_verdict.proofs.Undecided.{open_by}

once_in : (fs : List Fact) (f : Fact) → In f (each_path_once fs) → In f fs
once_in [] f h = absurd h
once_in (g ∷ gs) f (inl e) = inl e
once_in (g ∷ gs) f (inr h) = inr (once_in gs f (in_filter (λ x. not (same_path x.path g.path)) f (each_path_once gs) h).0)

once_apart : (fs : List Fact) → clash_somewhere fs ≡ false → NoClash (each_path_once fs)
once_apart [] h = tt
once_apart (f ∷ fs) h =
    let p = or_parts (clashes_with_some fs f) (clash_somewhere fs) h in
    let other : Fact → Bool = λ g. not (same_path g.path f.path) in
    let rest = each_path_once fs in (
      kept_none (filter other rest) f.path (λ g i. not-true (same_path g.path f.path) (in_filter other g rest i).1),
      meets_none (filter other rest) f (λ g i. none_meets fs f p.0 g (once_in fs g (in_filter other g rest i).0)),
      NoClash-filter other rest (once_apart fs p.1),
    )

clashing : (fs : List Fact) (f : Fact) → clashes_with_some fs f ≡ true → (g : Fact) × In g fs × (clash g f ≡ true)
clashing [] f h = absurd (cc)
clashing (g ∷ gs) f h = elim (or_cases (clash g f) (clashes_with_some gs f) h) [ inl e ↦ (g, inl refl, e) | inr e ↦ (let r = clashing gs f e in (r.0, inr r.1, r.2)) ]

clash_nowhere : (values : ℕ → Tree) (fs : List Fact) → clash_somewhere fs ≡ true → AgreesWithAll values fs → ⊥
clash_nowhere values [] h k = absurd (cc)
clash_nowhere values (f ∷ fs) h k = elim (or_cases (clashes_with_some fs f) (clash_somewhere fs) h) [
  | inl e ↦ (let r = clashing fs f e in clashes_agree_nowhere values r.0 f r.2 (agrees_in values fs k.1 r.0 r.1) k.0)
  | inr e ↦ clash_nowhere values fs e k.1
]

-- states by their numbers
none_of : (p : List Fact → Bool) (xs : FactsOfStates) → list_any p xs ≡ false → (i : ℕ) (x : List Fact) → slice_get xs i ≡ Some x → p x ≡ false
none_of p [] h i x e = absurd (cc)
none_of p (y ∷ ys) h zero x e = let q : y ≡ x = cc in ap p (sym q) ∙ (or_parts (p y) (list_any p ys) h).0
none_of p (y ∷ ys) h (suc i) x e = none_of p ys (or_parts (p y) (list_any p ys) h).1 i x e

some_of : (p : List Fact → Bool) (xs : FactsOfStates) → list_any p xs ≡ true → (i : ℕ) × (x : List Fact) × (slice_get xs i ≡ Some x) × (p x ≡ true)
some_of p [] h = absurd (cc)
some_of p (y ∷ ys) h = elim (or_cases (p y) (list_any p ys) h) [ inl e ↦ (0, y, refl, e) | inr e ↦ (let r = some_of p ys e in (suc r.0, r.1, r.2, r.3)) ]

within : (xs : FactsOfStates) (i : ℕ) (x : List Fact) → slice_get xs i ≡ Some x → i < length xs
within [] i x e = absurd (cc)
within (y ∷ ys) zero x e = omega arith
within (y ∷ ys) (suc i) x e = let r = within ys i x e in omega (arith, r)

there_is : (xs : FactsOfStates) (i : ℕ) → i < length xs → (x : List Fact) × (slice_get xs i ≡ Some x)
there_is [] i l = absurd (omega (arith, l))
there_is (y ∷ ys) zero l = (y, refl)
there_is (y ∷ ys) (suc i) l = there_is ys i (omega (arith, l))

-- where the run isn't torn
pub known_apart : (trace : FactsOfStates) → is_torn trace ≡ false → (i : ℕ) → i < length trace → NoClash (known_in trace i)
known_apart trace whole i l =
    let own = there_is trace i l in
    subst (λ o. NoClash (each_path_once (known_with trace (given_of o)))) (sym own.1)
    (once_apart (known_with trace own.0) (none_of (λ x. clash_somewhere (known_with trace x)) trace whole i own.0 own.1))

-- a lasting fact, and the state that it is given of
pub lasting_of : (xs : FactsOfStates) (f : Fact) → In f (flat_map lasting_facts xs) → (i : ℕ) × (x : List Fact) × (slice_get xs i ≡ Some x) × In f x × (f.path.var.lasting ≡ true)
lasting_of [] f h = absurd h
lasting_of (x ∷ xs) f h = elim (in_append f (lasting_facts x) (flat_map lasting_facts xs) h) [
  | inl i ↦ (let r = in_filter (λ g. g.path.var.lasting) f x i in (0, x, refl, r.0, r.1))
  | inr i ↦ (let r = lasting_of xs f i in (suc r.0, r.1, r.2, r.3, r.4))
]

pub of_kind : (kinds : List Bool) (fs : List Fact) → AreOfKinds kinds fs → (f : Fact) → In f fs → IsVariable kinds f.path.var
of_kind kinds [] h f i = absurd i
of_kind kinds (g ∷ gs) h f (inl e) = subst (λ (x : Fact). IsVariable kinds x.path.var) e h.0
of_kind kinds (g ∷ gs) h f (inr i) = of_kind kinds gs h.1 f i

pub state_of_kind : (kinds : List Bool) (xs : FactsOfStates) → StatesAreOfKinds kinds xs → (i : ℕ) (x : List Fact) → slice_get xs i ≡ Some x → AreOfKinds kinds x
state_of_kind kinds [] h i x e = absurd (cc)
state_of_kind kinds (y ∷ ys) h zero x e = let q : y ≡ x = cc in subst (AreOfKinds kinds) q h.0
state_of_kind kinds (y ∷ ys) h (suc i) x e = state_of_kind kinds ys h.1 i x e

-- the outcome of an expression over facts that a state agrees with
pub no_item : (p : ℕ) (f : Definition) → slice_get [] p ≡ Some f → ⊥
no_item zero f e = absurd (cc)
no_item (suc p) f e = absurd (cc)

nothing_fits : (kinds : List Bool) → DefinitionsFit [] kinds
nothing_fits kinds = record { formula = λ p f e. absurd (no_item p f e); expr = λ p f e x q. absurd (no_item p f e) }

one_way : (b : Bool) (t : Tree) → t ≡ (if b then t else t)
one_way true t = refl
one_way false t = refl

module _ (kinds : List Bool) (s : Course) (e : ExprTree) (fits : ExprFits [] kinds e 0) where
  abbrev as_locals : Locals
  as_locals n j = (s j).values n

  read_alike : (p : ℕ) → (s p).values ≡ values_at (length kinds) s as_locals p
  read_alike p = λ i n. one_way (nat_lt n (length kinds)) ((s p).values n) i

  outcome_right : (facts : List Fact) (p : ℕ) → NoClash facts → AgreesWithAll (s p).values facts → OutcomeSays s (outcome facts [] e []) e p
  outcome_right facts p apart agrees = says (outcome facts [] e []) refl
    where
      mean : OutcomesAreRight facts [] kinds s as_locals p e []
      mean = outcomes_mean facts [] kinds s as_locals p e [] apart (nothing_fits kinds) fits (subst (λ v. AgreesWithAll v facts) (read_alike p) agrees)

      says : (o : Outcome) → outcome facts [] e [] ≡ o → OutcomeSays s o e p
      says (found.value t) q = sym (ap (λ calls. value_by [] calls e [] s p) (no_calls depth_limit)) ∙ mean.values t q depth_limit (omega arith)
      says (found.wait x) q = tt
      says (found.fault k) q = λ v h. let z : None ≡ Some v = sym (mean.faults k q 0) ∙ h in absurd (cc)
      says (found.over k) q = tt

module _ (kinds : List Bool) (trace : FactsOfStates) (of : StatesAreOfKinds kinds trace) (s : Course) (a b : ℕ) (told : IsTold kinds trace s a b) where
  lasting_agrees : (i : ℕ) → i < length trace → (f : Fact) → In f (flat_map lasting_facts trace) → AgreesWith (s (i + a)).values f
  lasting_agrees i l f h =
      let r = lasting_of trace f h in
      let kind = of_kind kinds r.1 (state_of_kind kinds trace of r.0 r.1 r.2) f r.3 ∙ ap Some r.4 in
      let n = within trace r.0 r.1 r.2 in
      let all = told.states in
      let same = told.lasting f.path.var.number kind (r.0 + a) (i + a) (omega arith) (omega (arith, n, all)) (omega arith) (omega (arith, l, all)) in
      subst (λ t. shape_at_path f.path.at t ≡ Some f.shape) same (agrees_in (s (r.0 + a)).values r.1 (told.agrees r.0 r.1 r.2) f r.3)

  known_agrees : (i : ℕ) (own : List Fact) → slice_get trace i ≡ Some own → AgreesWithAll (s (i + a)).values (known_with trace own)
  known_agrees i own e = agrees_from (s (i + a)).values (known_with trace own)
      (λ f h. elim (in_append f own (flat_map lasting_facts trace) h) [ inl x ↦ agrees_in (s (i + a)).values own (told.agrees i own e) f x | inr x ↦ lasting_agrees i (within trace i own e) f x ])

  never_torn : is_torn trace ≡ true → ⊥
  never_torn h = let r = some_of (λ own. clash_somewhere (known_with trace own)) trace h in
      clash_nowhere (s (r.0 + a)).values (known_with trace r.1) r.3 (known_agrees r.0 r.1 r.2)

  some_state : 0 < length trace
  some_state = let n = told.nonempty in let m = told.states in omega (arith, n, m)

  module _ (whole : is_torn trace ≡ false) where
    right : (e : ExprTree) → ExprFits [] kinds e 0 → (i : ℕ) → i ≤ length trace - 1 → OutcomeSays s (known_outcome trace i e) e (i + a)
    right e fits i l =
        let first = some_state in
        let own = there_is trace i (omega (arith, l, first)) in
        let fs = known_with trace own.0 in
        let apart = once_apart fs (none_of (λ x. clash_somewhere (known_with trace x)) trace whole i own.0 own.1) in
        let agrees = known_agrees i own.0 own.1 in
        let once = agrees_from (s (i + a)).values (each_path_once fs) (λ f h. agrees_in (s (i + a)).values fs agrees f (once_in fs f h)) in
        subst (λ o. OutcomeSays s (outcome (each_path_once (known_with trace (given_of o))) [] e []) e (i + a)) (sym own.1)
        (outcome_right kinds s e fits (each_path_once fs) (i + a) apart once)

  judged : (w : WideTree) → WideFits kinds w → (t : Bool) → is_torn trace ≡ t
      → Judged (if t then no else verdict (known_outcome trace) w 0 (length trace - 1)) (WideHolds w s a b blank) (Somehow (WideHolds w s) a b)
  judged w fits true e = as_no (λ q. never_torn e)
  judged w fits false e =
      let first = some_state in
      let all = told.states in
      let lo : 0 + a ≡ a = omega arith in
      let hi : (length trace - 1) + a ≡ b = omega (arith, first, all) in
      let P : ℕ → ℕ → Type 0 = λ x y. Judged (verdict (known_outcome trace) w 0 (length trace - 1)) (WideHolds w s x y blank) (Somehow (WideHolds w s) x y) in
      subst (λ y. P a y) hi (subst (λ x. P x ((length trace - 1) + a)) lo (sound s a (known_outcome trace) (length trace - 1) w (λ x m. right e x (fits x m)) 0 (length trace - 1) (omega arith) (omega arith)))

pub verdicts_are_right : VerdictsAreRight
verdicts_are_right kinds w trace fits of = record {
  holds = λ e s a b told. (judged kinds trace of s a b told w fits (is_torn trace) refl).holds e;
  fails = λ e s a b told S h. (judged kinds trace of s a b told w fits (is_torn trace) refl).fails e (S, h);
}

pub undecided_where_open : UndecidedWhereOpen
undecided_where_open w trace some e = by (is_torn trace) refl e
  where
    by : (t : Bool) → is_torn trace ≡ t → (if t then no else verdict (known_outcome trace) w 0 (length trace - 1)) ≡ undecided
        → (x : ExprTree) × IsExprOf w x × (i : ℕ) × (i < length trace) × StaysOpen (known_outcome trace i x)
    by true q h = absurd (cc)
    by false q h = let r = open_by (known_outcome trace) w 0 (length trace - 1) (omega arith) h in let u = r.4 in (r.0, r.1, r.2, omega (arith, u, some), r.5)
