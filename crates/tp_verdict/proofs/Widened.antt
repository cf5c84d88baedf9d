-- A formula that is among the wider ones holds alike as one.
use Rattle.std.proofs.Common.{◌≡◌, ℕ, zero, suc, ◌<◌, ◌⊎◌, pos, true, false, [], Option, Some, None, refl, ap, sym, subst, ◌∙◌}
use Rattle.tp_value.specs.Tree.{truth}
use Rattle.tp_meaning.specs.Syntax.{FormulaTree, FormulaTrees, trivial, test, equation, next_equation, empty, more, next, weak_next, if_more, if_empty, always, conjunction, branch, len, assign, chop, while, for_from, forall_from, project, exists, call, input, display, no_formula, formula_then}
use Rattle.tp_meaning.specs.Course.{Course, Part, blank}
use Rattle.tp_meaning.specs.Value.{◌>>=◌, calls_at}
use Rattle.tp_meaning.specs.Inputs.{InputTable}
use Rattle.tp_meaning.specs.Holds.{Context, CallMeanings, Joined, Chopped, OnEachSuffix, Pieces, HoldsBy, AllHoldBy, CallHolds}
use Rattle.tp_verdict.specs.Wide as wide
use Rattle.tp_verdict.specs.Wide.{WideTree, WideTrees, HasValue, WideHolds, AllHoldWidely}
use Rattle.tp_verdict.specs.Widened.{widened, all_widened}
use Rattle.tp_verdict.specs.WidenedLaws.{WideHoldsAsHolds}

-- with no definitions no call has a value, at any depth
pub no_calls : (d : ℕ) → calls_at [] d ≡ calls_at [] 0
no_calls zero = refl
no_calls (suc d) = refl

-- what one that goes on began with
goes_from : {A B : Type 0} (o : Option A) (f : A → Option B) (y : B) → (o >>= f) ≡ Some y → (x : A) × (o ≡ Some x) × (f x ≡ Some y)
goes_from None f y e = absurd (cc)
goes_from (Some x) f y e = (x, refl, e)

module _ (inputs : InputTable) (meanings : CallMeanings) (s : Course) where
  abbrev given : Context
  given = record { defs = []; inputs = inputs }

  abbrev Before : FormulaTree → Part
  Before f = HoldsBy given (calls_at [] 0) meanings f [] s

  abbrev AllBefore : FormulaTrees → Part
  AllBefore fs = AllHoldBy given (calls_at [] 0) meanings fs [] s

  made : {P : Part} (w v : WideTree) → Some w ≡ Some v → P ≡ WideHolds w s → P ≡ WideHolds v s
  made w v e h = let q : w ≡ v = cc in h ∙ ap (λ x. WideHolds x s) q

  mutual
    same : (f : FormulaTree) (w : WideTree) → widened f ≡ Some w → Before f ≡ WideHolds w s
    same trivial w e = made wide.trivial w e refl
    same (test x) w e = made (wide.test x) w e refl
    same (equation l r) w e = made (wide.equation l r) w e refl
    same (next_equation k t x) w e = made (wide.next_equation k t x) w e refl
    same empty w e = made wide.empty w e refl
    same more w e = made wide.more w e refl
    same (next f) w e = let r = goes_from (widened f) _ w e in let h = same f r.0 r.1 in
        made (wide.next r.0) w r.2 (λ i a b S. (a < b) × h i (suc a) b S)
    same (weak_next f) w e = absurd (cc)
    same (if_more f) w e = let r = goes_from (widened f) _ w e in let h = same f r.0 r.1 in
        made (wide.if_more r.0) w r.2 (λ i a b S. ((a ≡ b) × (S ≡ blank)) ⊎ ((a < b) × h i a b S))
    same (if_empty f) w e = let r = goes_from (widened f) _ w e in let h = same f r.0 r.1 in
        made (wide.if_empty r.0) w r.2 (λ i a b S. ((a < b) × (S ≡ blank)) ⊎ ((a ≡ b) × h i a b S))
    same (always f) w e = let r = goes_from (widened f) _ w e in let h = same f r.0 r.1 in
        made (wide.always r.0) w r.2 (λ i. OnEachSuffix (h i))
    same (conjunction fs) w e = let r = goes_from (all_widened fs) _ w e in made (wide.conjunction r.0) w r.2 (all_same fs r.0 r.1)
    same (branch x f g) w e = let r = goes_from (widened f) _ w e in let q = goes_from (widened g) _ w r.2 in
        let h = same f r.0 r.1 in let k = same g q.0 q.1 in
        made (wide.branch x r.0 q.0) w q.2 (λ i a b S. (HasValue x s a (truth true) × h i a b S) ⊎ (HasValue x s a (truth false) × k i a b S))
    same (len x) w e = made (wide.len x) w e refl
    same (assign t x) w e = made (wide.assign t x) w e refl
    same (chop f g) w e = let r = goes_from (widened f) _ w e in let q = goes_from (widened g) _ w r.2 in
        let h = same f r.0 r.1 in let k = same g q.0 q.1 in
        made (wide.chop r.0 q.0) w q.2 (λ i. Chopped (h i) (k i))
    same (while x f) w e = let r = goes_from (widened f) _ w e in let h = same f r.0 r.1 in
        made (wide.while x r.0) w r.2 (λ i a b S. (m : ℕ) × Pieces (λ _ j k T. (j < k) × HasValue x s j (truth true) × h i j k T) m (pos 0) a b S × HasValue x s b (truth false))
    same (for_from name k x f) w e = absurd (cc)
    same (forall_from name k x f) w e = absurd (cc)
    same (project f g) w e = absurd (cc)
    same (exists name lasting f) w e = absurd (cc)
    same (call p es) w e = absurd (cc)
    same (input x port) w e = absurd (cc)
    same (display es) w e = absurd (cc)

    all_same : (fs : FormulaTrees) (ws : WideTrees) → all_widened fs ≡ Some ws → AllBefore fs ≡ AllHoldWidely ws s
    all_same no_formula ws e = let q : wide.no_formula ≡ ws = cc in ap (λ x. AllHoldWidely x s) q
    all_same (formula_then f fs) ws e = let r = goes_from (widened f) _ ws e in let q = goes_from (all_widened fs) _ ws r.2 in
        let h = same f r.0 r.1 in let k = all_same fs q.0 q.1 in let y : wide.formula_then r.0 q.0 ≡ ws = cc in
        (λ i. Joined (h i) (k i)) ∙ ap (λ x. AllHoldWidely x s) y

pub wide_holds_as_holds : WideHoldsAsHolds
wide_holds_as_holds f w e inputs d s a b S =
    let given : Context = record { defs = []; inputs = inputs } in
    let meanings = CallHolds given d in
    let p : HoldsBy given (calls_at [] d) meanings f [] s a b S ≡ WideHolds w s a b S = (λ i. HoldsBy given (no_calls d i) meanings f [] s a b S) ∙ (λ i. same inputs meanings s f w e i a b S) in
    ((λ h. subst (λ (X : Type 0). X) p h), (λ g. subst (λ (X : Type 0). X) (sym p) g))
