-- Turns of length 1 that display a number in their first state.
use Rattle.std.proofs.Common.{◌≡◌, Bool, subst, pos, ℕ, zero, suc, List, Some, [], ◌∷◌, refl, ap, sym, ◌∙◌, ◌≤◌, arith}
use Rattle.tp_meaning.specs.Syntax.{ExprTree, Equal, Less, bound, binary, equation, conjunction, while, exprs_of, formulas_of}
use Rattle.tp_meaning.specs.Course.{Shows, blank, ◌⊕◌, shown_at}
use Rattle.tp_meaning.specs.Value.{Env, values_by, calls_at}
use Rattle.tp_meaning.specs.Holds.{running, Holds}
use Rattle.tp_meaning.specs.Derived.{skip_of, fin_of}
use Rattle.tp_meaning.specs.Examples.{nothing_given, counting, A, number_expr, display_of, listed, one_shown}
use Rattle.tp_meaning.proofs.Shows.{join-blank}
use Rattle.tp_meaning.proofs.ExampleShows.{spelled_is}
use Rattle.tp_meaning.specs.Direct.{Means, ValueIs}
use Rattle.tp_meaning.proofs.Means.{fin_means}
use Rattle.tp_value.specs.Tree.{Tree, num, truth}
use Rattle.std.specs.Option.{option_and_then}

pub turn_shows : (e : ExprTree) (env : Env) (i j n : ℕ) → suc i ≡ j → ValueIs nothing_given 0 env counting e i (num (pos n)) → Holds nothing_given 0 (conjunction (formulas_of (skip_of ∷ display_of e ∷ []))) env counting i j (shown_at i (one_shown n ∷ []))
turn_shows e env i j n next has = (
  blank,
  shown_at i (one_shown n ∷ []),
  (omega arith, (next, refl)),
  (shown_at i (one_shown n ∷ []), blank, (one_shown n, ap (λ o. option_and_then (λ v. Some (v ∷ [])) o) has, refl), refl, sym (join-blank (shown_at i (one_shown n ∷ [])))),
  refl,
)

same_shown : (d : ℕ) (vs : List Tree) → values_by nothing_given.defs (calls_at nothing_given.defs d) (exprs_of (A ∷ [])) [] counting 0 ≡ Some vs → vs ≡ one_shown 0
same_shown d vs e = cc

-- a turn of length 0 would show 0 once more
pub shows_once : (d : ℕ) (S : Shows) → Holds nothing_given d (while (binary Less A (number_expr 1)) (display_of A)) [] counting 0 1 S → S ≡ listed ((one_shown 0 ∷ []) ∷ [])
shows_once d S (zero, h, last) = absurd (let e = h.0 in omega arith)
shows_once d S (suc zero, (i, T, U, low, high, (more, true, (vs, has, shows)), (end, none), is), last) =
    is ∙ (λ k. (shows ∙ ap (λ v. shown_at 0 (v ∷ [])) (same_shown d vs has)) k ⊕ none k) ∙ sym (spelled_is ((one_shown 0 ∷ []) ∷ []))
shows_once d S (suc (suc m), (i, T, U, low, high, (more, true, held), (j, T', U', low', high', (more', true', held'), others, is'), is), last) = absurd (omega arith)

-- from the number of a state to that of the last, a name that has the first of them is displayed in the last
pub last_shows : (b i : ℕ) → i ≤ b → Holds nothing_given 0 (conjunction (formulas_of (equation (bound 0) A ∷ fin_of (display_of (bound 0)) ∷ []))) (running (λ _. num (pos i)) ∷ []) counting i b (shown_at b (one_shown i ∷ []))
unfolding Means
last_shows b i le = (
  blank,
  shown_at b (one_shown i ∷ []),
  (num (pos i), refl, refl, refl),
  (
    shown_at b (one_shown i ∷ []),
    blank,
    (fin_means (display_of (bound 0)) nothing_given 0 (running (λ _. num (pos i)) ∷ []) counting i b (shown_at b (one_shown i ∷ [])) le).1 (one_shown i, refl, refl),
    refl,
    sym (join-blank (shown_at b (one_shown i ∷ []))),
  ),
  refl,
)

-- the first turn leads to state 1, where A is not 0
pub no_second_turn : (d : ℕ) (S : Shows) → Holds nothing_given d (while (binary Equal A (number_expr 0)) skip_of) [] counting 0 2 S → ⊥
no_second_turn d S (zero, h, last) = absurd (let e = h.0 in omega arith)
no_second_turn d S (suc zero, (i, T, U, low, high, (more, true, (l, (step, none))), (end, none'), is), last) = absurd (omega arith)
no_second_turn d S (suc (suc m), (i, T, U, low, high, (more, true, (l, (step, none))), (j, T', U', low', high', (more', true', held'), others, is'), is), last) =
    not_there d (subst (λ (k : ℕ). ValueIs nothing_given d [] counting (binary Equal A (number_expr 0)) k (truth Bool.true)) (sym step) true')
  where
    not_there : (d : ℕ) → ValueIs nothing_given d [] counting (binary Equal A (number_expr 0)) 1 (truth Bool.true) → ⊥
    not_there d e = absurd (cc)
