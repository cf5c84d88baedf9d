-- What is told is of the variables.
use Rattle.std.proofs.Common.{◌≡◌, ℕ, inl, inr, Bool, List, [], ◌∷◌, ◌++◌, map, Option, Some, None, slice_get, refl, sym, ap, ◌∙◌}
use Rattle.std.specs.List.{flat_map}
use Rattle.tp_value.specs.Globals.{variable_of}
use Rattle.tp_value.specs.declared.path.VarId.{VarId}
use Rattle.tp_value.specs.declared.path.Fact.{Fact}
use Rattle.tp_meaning.specs.Fits.{IsVariable}
use Rattle.tp_meaning.specs.Interval.{kinds_of}
use Rattle.tp_store.specs.Known.{Variable, AreOfVariables, global_variable, lasting_facts}
use Rattle.tp_store.proofs.Members.{In}
use Rattle.tp_scope.specs.Scope.{Names}
use Rattle.tp_show.specs.declared.named_fact.NamedFact.{NamedFact}
use Rattle.tp_show.proofs.TraceNumbers.{variable_is_of}
use Rattle.tp_verdict.specs.Trace.{FactsOfStates}
use Rattle.tp_verdict.specs.VerdictLaws.{AreOfKinds, StatesAreOfKinds}
use Rattle.tp_verdict.proofs.Right.{lasting_of, of_kind, state_of_kind}
use Rattle.tp_monitor.specs.Told.{fact_of, facts_among, told_by_trace}
use Rattle.tp_monitor.specs.Standing.{StandFor}
use Rattle.tp_monitor.proofs.StandLemmas.{stand_there}

same_kinds : (names : Names) → map (λ (v : Variable). v.lasting) (map global_variable names) ≡ kinds_of names
same_kinds [] = refl
same_kinds (x ∷ xs) = ap (λ ks. (global_variable x).lasting ∷ ks) (same_kinds xs)

pub of_variables : (names : Names) (fs : List Fact) → AreOfKinds (kinds_of names) fs → AreOfVariables (map global_variable names) fs
of_variables names [] h = tt
of_variables names (f ∷ fs) h = (ap (λ (ks : List Bool). slice_get ks f.path.var.number) (same_kinds names) ∙ h.0, of_variables names fs h.1)

kind_of : (names : Names) (name : List ℕ) (x : VarId) → variable_of names name ≡ Some x → IsVariable (kinds_of names) x
kind_of names name x e = ap (λ (ks : List Bool). slice_get ks x.number) (sym (same_kinds names)) ∙ variable_is_of names name x e

facts_of_kinds : (names : Names) (facts : List NamedFact) → AreOfKinds (kinds_of names) (facts_among names facts)
facts_of_kinds names [] = tt
facts_of_kinds names (f ∷ fs) = by (facts_of_kinds names fs) (variable_of names f.name) refl
  where
    by : AreOfKinds (kinds_of names) (facts_among names fs) → (o : Option VarId) → variable_of names f.name ≡ o → AreOfKinds (kinds_of names) (fact_of o f ++ facts_among names fs)
    by rest None e = rest
    by rest (Some x) e = (kind_of names f.name x e, rest)

pub told_of_kinds : (names : Names) (trace : List (List NamedFact)) → StatesAreOfKinds (kinds_of names) (told_by_trace names trace)
told_of_kinds names [] = tt
told_of_kinds names (facts ∷ trace) = (facts_of_kinds names facts, told_of_kinds names trace)

kinds_from : (kinds : List Bool) (fs : List Fact) → ((f : Fact) → In f fs → IsVariable kinds f.path.var) → AreOfKinds kinds fs
kinds_from kinds [] h = tt
kinds_from kinds (f ∷ fs) h = (h f (inl refl), kinds_from kinds fs (λ g i. h g (inr i)))

pub lasting_of_kinds : (kinds : List Bool) (trace : FactsOfStates) → StatesAreOfKinds kinds trace → AreOfKinds kinds (flat_map lasting_facts trace)
lasting_of_kinds kinds trace h = kinds_from kinds (flat_map lasting_facts trace) (λ f i. let r = lasting_of trace f i in of_kind kinds r.1 (state_of_kind kinds trace h r.0 r.1 r.2) f r.3)

pub stand_of_kinds : (kinds : List Bool) (fs all : List Fact) → StandFor fs all → AreOfKinds kinds all → AreOfKinds kinds fs
stand_of_kinds kinds fs all s h = kinds_from kinds fs (λ f i. of_kind kinds all h f (stand_there fs all s f i))
