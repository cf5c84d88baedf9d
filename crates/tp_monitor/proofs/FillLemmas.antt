-- Facts that are added one by one.
use Rattle.std.proofs.Common.{◌≡◌, ℕ, zero, suc, true, ◌+◌, ◌<◌, List, [], ◌∷◌, ◌++◌, length, take, drop, get_or, refl, sym, ap, subst, ◌∙◌, arith, append_assoc}
use Rattle.std.proofs.lemmas.List.{take_more, take-append-drop}
use Rattle.tp_value.specs.declared.value.Shape.{Shape}
use Rattle.tp_value.specs.declared.path.Fact.{Fact}
use Rattle.tp_store.specs.Facts.{fact}
use Rattle.tp_store.specs.Known.{Variable, IsVariableOf, AreOfVariables, new_store}
use Rattle.tp_store.specs.Changes.{IsSoundStore}
use Rattle.tp_store.proofs.Members.{in_left}
use Rattle.tp_store.proofs.Paths.{fact_from}
use Rattle.tp_verdict.specs.Trace.{clash_somewhere}
use Rattle.tp_monitor.proofs.StandLemmas.{clash_more}

pub one_more : (facts : List Fact) (i : ℕ) (f : Fact) → i < length facts → f ≡ get_or facts i f → take (i + 1) facts ≡ take i facts ++ f ∷ []
one_more facts i f l e = take_more facts i f l ∙ ap (λ (g : Fact). take i facts ++ g ∷ []) (sym e)

pub seen_more : (old facts : List Fact) (i : ℕ) (f : Fact) → i < length facts → f ≡ get_or facts i f → (old ++ take i facts) ++ f ∷ [] ≡ old ++ take (i + 1) facts
seen_more old facts i f l e = append_assoc old (take i facts) (f ∷ []) ∙ ap (λ (fs : List Fact). old ++ fs) (sym (one_more facts i f l e))

pub seen_split : (old facts : List Fact) (i : ℕ) (f : Fact) → i < length facts → f ≡ get_or facts i f → (old ++ take i facts) ++ f ∷ drop (i + 1) facts ≡ old ++ facts
seen_split old facts i f l e =
    append_assoc old (take i facts) (f ∷ drop (i + 1) facts)
    ∙ ap (λ (fs : List Fact). old ++ fs) (sym (append_assoc (take i facts) (f ∷ []) (drop (i + 1) facts))
    ∙ ap (λ (fs : List Fact). fs ++ drop (i + 1) facts) (sym (one_more facts i f l e)) ∙ take-append-drop (i + 1) facts)

pub variable_at : (xs : List Variable) (fs : List Fact) → AreOfVariables xs fs → (i : ℕ) (f : Fact) → i < length fs → f ≡ get_or fs i f → IsVariableOf xs f.path.var
variable_at xs [] h i f l e = absurd (omega (arith, l))
variable_at xs (g ∷ gs) h zero f l e = subst (λ (x : Fact). IsVariableOf xs x.path.var) (sym e) h.0
variable_at xs (g ∷ gs) h (suc i) f l e = variable_at xs gs h.1 i f (omega (arith, l)) e

pub as_fact : (f : Fact) (sh : Shape) → f.shape ≡ sh → fact f.path sh ≡ f
as_fact f sh e = fact_from (fact f.path sh) f refl (sym e)

-- a new store has no facts
pub new_sound : (names : List (List ℕ)) → IsSoundStore (new_store names)
new_sound names = record { no_clash = tt; of_variables = tt }

pub own_clash : (own lasting : List Fact) → clash_somewhere own ≡ true → clash_somewhere (own ++ lasting) ≡ true
own_clash own lasting h = clash_more own (own ++ lasting) (λ f i. in_left f own lasting i) h
