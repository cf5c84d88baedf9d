-- The verdict on a whole run, by stores that keep what is known of its states.
use Rattle.std.proofs.Common.{◌≡◌, ℕ, ◌-◌, ◌<◌, inl, inr, Bool, true, false, not, cond, List, [], ◌∷◌, filter, length, Some, slice_get, refl, sym, ap, ap₂, ◌∙◌, arith, if◌then◌else◌}
use Rattle.std.proofs.lemmas.Bool.{both_ways}
use Rattle.std.proofs.lemmas.Option.{slice_get_cases}
use Rattle.tp_value.specs.declared.path.Path.{Path}
use Rattle.tp_value.specs.declared.path.Fact.{Fact}
use Rattle.tp_store.specs.Facts.{same_path, kept_shape}
use Rattle.tp_store.specs.Known.{NoClash}
use Rattle.tp_store.specs.Stock.{Stock}
use Rattle.tp_store.specs.Changes.{HaveSameShapes}
use Rattle.tp_store.proofs.Paths.{same_path-decides, same_path-sym}
use Rattle.tp_eval.specs.Outcome.{outcome}
use Rattle.tp_verdict.specs.Wide.{WideTree}
use Rattle.tp_verdict.specs.Verdict.{no}
use Rattle.tp_verdict.specs.Trace.{verdict, FactsOfStates, given_of, known_with, each_path_once, known_in, known_outcome, is_torn, whole_verdict}
use Rattle.tp_verdict.specs.Found.{facts_of_state, found_in}
use Rattle.tp_verdict.proofs.Right.{known_apart}
use Rattle.tp_verdict.proofs.SameOutcomes.{outcomes_by_shapes}
use Rattle.tp_verdict.proofs.SameVerdicts.{verdicts_alike}

kept_through : (test : Fact → Bool) (fs : List Fact) (p : Path) → ((f : Fact) → same_path f.path p ≡ true → test f ≡ true) → kept_shape (filter test fs) p ≡ kept_shape fs p
kept_through test [] p h = refl
kept_through test (f ∷ fs) p h = by (kept_through test fs p h) (test f) refl (same_path f.path p) refl
  where
    by : kept_shape (filter test fs) p ≡ kept_shape fs p → (b : Bool) → test f ≡ b → (c : Bool) → same_path f.path p ≡ c → kept_shape (cond b (f ∷ filter test fs) (filter test fs)) p ≡ cond c (Some f.shape) (kept_shape fs p)
    by rest true e c s = ap₂ (λ b o. cond b (Some f.shape) o) s rest
    by rest false e true s = absurd (both_ways (test f) e (h f s))
    by rest false e false s = rest

-- a path keeps its shape where each path stands once
pub once_kept : (fs : List Fact) (p : Path) → kept_shape (each_path_once fs) p ≡ kept_shape fs p
once_kept [] p = refl
once_kept (f ∷ fs) p = by (once_kept fs p) (same_path f.path p) refl
  where
    by : kept_shape (each_path_once fs) p ≡ kept_shape fs p → (b : Bool) → same_path f.path p ≡ b
        → cond b (Some f.shape) (kept_shape (filter (λ g. not (same_path g.path f.path)) (each_path_once fs)) p) ≡ cond b (Some f.shape) (kept_shape fs p)
    by rest true e = refl
    by rest false e = kept_through (λ g. not (same_path g.path f.path)) (each_path_once fs) p
        (λ g s. ap not (ap (λ q. same_path q f.path) ((same_path-decides g.path p).0 s) ∙ same_path-sym p f.path ∙ e)) ∙ rest

-- what is known of a state is kept
abbrev pub IsKept : FactsOfStates → List Fact → Stock → Type 0
IsKept trace own state = NoClash state.facts × HaveSameShapes state.facts (known_with trace own)

module _ (trace : FactsOfStates) (states : List Stock) (whole : is_torn trace ≡ false) (many : length states ≡ length trace)
    (kept : (i : ℕ) (own : List Fact) (state : Stock) → slice_get trace i ≡ Some own → slice_get states i ≡ Some state → IsKept trace own state) where
  same_found : (i : ℕ) → i < length trace → known_outcome trace i ≡ found_in states i
  same_found i l = elim (slice_get_cases trace i).1 [
    | inl x ↦ elim (slice_get_cases states i).1 [
      | inl y ↦ (
          let k = kept i x.0 y.0 x.2 y.2 in
          let same : HaveSameShapes (known_in trace i) y.0.facts = λ p. once_kept (known_with trace (given_of (slice_get trace i))) p ∙ ap (λ o. kept_shape (known_with trace (given_of o)) p) x.2 ∙ sym (k.1 p) in
          let one : known_outcome trace i ≡ (λ e. outcome y.0.facts [] e []) = λ j e. outcomes_by_shapes (known_in trace i) y.0.facts (known_apart trace whole i l) k.0 same [] e [] j in
          one ∙ ap (λ o. λ e. outcome (facts_of_state o) [] e []) (sym y.2))
      | inr y ↦ (let past = y.0 in absurd (omega (arith, l, many, past)))
    ]
    | inr x ↦ (let past = x.0 in absurd (omega (arith, l, past)))
  ]

  pub whole_by_stores : (w : WideTree) → 0 < length trace → whole_verdict w trace ≡ verdict (found_in states) w 0 (length states - 1)
  whole_by_stores w some =
      ap (λ t. if t then no else verdict (known_outcome trace) w 0 (length trace - 1)) whole
      ∙ verdicts_alike (known_outcome trace) (found_in states) w 0 (length trace - 1) (omega arith) (λ i lo hi. same_found i (omega (arith, hi, some)))
      ∙ ap (λ n. verdict (found_in states) w 0 (n - 1)) (sym many)
