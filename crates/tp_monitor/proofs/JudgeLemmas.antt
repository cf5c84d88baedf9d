-- Verdicts by stores of the states.
use Rattle.std.proofs.Common.{◌≡◌, ℕ, zero, suc, ◌-◌, ◌<◌, Bool, true, false, List, [], ◌∷◌, ◌++◌, length, Some, slice_get, refl, sym, ap, subst, ◌∙◌, if◌then◌else◌}
use Rattle.std.specs.List.{AllZip, flat_map, list_any}
use Rattle.std.proofs.lemmas.Bool.{or_from, or_left}
use Rattle.std.proofs.lemmas.Slice.Zip.{AllZip-long}
use Rattle.tp_value.specs.declared.path.Fact.{Fact}
use Rattle.tp_store.specs.Known.{lasting_facts}
use Rattle.tp_store.specs.Stock.{Stock}
use Rattle.tp_store.proofs.Members.{in_right}
use Rattle.tp_verdict.specs.Wide.{WideTree}
use Rattle.tp_verdict.specs.Verdict.{no}
use Rattle.tp_verdict.specs.Trace.{verdict, FactsOfStates, known_outcome, clash_somewhere, is_torn, whole_verdict}
use Rattle.tp_verdict.specs.Found.{found_in}
use Rattle.tp_verdict.proofs.ByStores.{IsKept, whole_by_stores}
use Rattle.tp_monitor.specs.Standing.{StandFor, EachStandsFor}
use Rattle.tp_monitor.proofs.StandLemmas.{clash_more, clash_beside, stand_beside}

pub torn_so : (w : WideTree) (trace : FactsOfStates) → is_torn trace ≡ true → whole_verdict w trace ≡ no
torn_so w trace h = ap (λ t. if t then no else verdict (known_outcome trace) w 0 (length trace - 1)) h

-- where the facts of static variables clash
pub torn_by_all : (w : WideTree) (trace : FactsOfStates) → 0 < length trace → clash_somewhere (flat_map lasting_facts trace) ≡ true → whole_verdict w trace ≡ no
torn_by_all w [] some h = absurd (cc)
torn_by_all w (own ∷ xs) some h = torn_so w (own ∷ xs)
    (or_left (clash_somewhere (own ++ flat_map lasting_facts (own ∷ xs))) _ (clash_more (flat_map lasting_facts (own ∷ xs)) (own ++ flat_map lasting_facts (own ∷ xs)) (λ f i. in_right f own (flat_map lasting_facts (own ∷ xs)) i) h))

none_torn : (l : List Fact) (stores : List Stock) (states : FactsOfStates) → EachStandsFor stores states l → list_any (λ own. clash_somewhere (own ++ l)) states ≡ false
none_torn l [] [] h = refl
none_torn l [] (x ∷ xs) h = absurd h
none_torn l (s ∷ ss) [] h = absurd h
none_torn l (s ∷ ss) (x ∷ xs) h = or_from (clash_somewhere (x ++ l)) (list_any (λ own. clash_somewhere (own ++ l)) xs) h.0.apart (none_torn l ss xs h.1)

zip_at : (Q : Stock → List Fact → Type 0) (ss : List Stock) (xs : FactsOfStates) → AllZip Q ss xs → (i : ℕ) (x : List Fact) (s : Stock) → slice_get xs i ≡ Some x → slice_get ss i ≡ Some s → Q s x
zip_at Q [] [] h i x s e d = absurd (cc)
zip_at Q [] (y ∷ xs) h i x s e d = absurd h
zip_at Q (r ∷ ss) [] h i x s e d = absurd h
zip_at Q (r ∷ ss) (y ∷ xs) h zero x s e d = let p : y ≡ x = cc e in let q : r ≡ s = cc d in subst (λ z. Q s z) p (subst (λ z. Q z y) q h.0)
zip_at Q (r ∷ ss) (y ∷ xs) h (suc i) x s e d = zip_at Q ss xs h.1 i x s e d

module _ (trace : FactsOfStates) (lasting : List Fact) (s : StandFor lasting (flat_map lasting_facts trace)) where
  -- the run is torn by all facts where it is by those that stand for them
  same_torn : list_any (λ own. clash_somewhere (own ++ lasting)) trace ≡ is_torn trace
  same_torn = ap (λ (f : List Fact → Bool). list_any f trace) (λ i own. clash_beside lasting (flat_map lasting_facts trace) s own i)

  pub torn_with : (w : WideTree) → list_any (λ own. clash_somewhere (own ++ lasting)) trace ≡ true → whole_verdict w trace ≡ no
  torn_with w h = torn_so w trace (sym same_torn ∙ h)

  pub whole_with : (w : WideTree) (stores : List Stock) → 0 < length trace → EachStandsFor stores trace lasting
      → whole_verdict w trace ≡ verdict (found_in stores) w 0 (length stores - 1)
  whole_with w stores some h = whole_by_stores trace stores (sym same_torn ∙ none_torn lasting stores trace h)
      (sym (AllZip-long (λ (s : Stock) (own : List Fact). StandFor s.facts (own ++ lasting)) stores trace h)) kept w some
    where
      kept : (i : ℕ) (own : List Fact) (state : Stock) → slice_get trace i ≡ Some own → slice_get stores i ≡ Some state → IsKept trace own state
      kept i own state e d =
          let z = zip_at (λ (s : Stock) (own : List Fact). StandFor s.facts (own ++ lasting)) stores trace h i own state e d in
          let r = stand_beside lasting (flat_map lasting_facts trace) s own state.facts z in
          (r.no_clash, r.shapes)
