-- What is shown at the cuts of a projection.
use Rattle.std.proofs.Common.{◌≡◌, ℕ, zero, suc, [], ◌∷◌, ◌++◌, refl, sym, arith, ◌<◌}
use Rattle.tp_meaning.specs.Syntax.{conjunction, always, formulas_of}
use Rattle.tp_meaning.specs.Course.{Course, Shows, blank, ◌⊕◌, shown_at, total, woven}
use Rattle.tp_meaning.specs.Holds.{Holds}
use Rattle.tp_meaning.specs.Derived.{skip_of, fin_of}
use Rattle.tp_meaning.specs.Direct.{Means}
use Rattle.tp_meaning.specs.Examples.{nothing_given, counting, number_expr, display_of, listed, one_shown}
use Rattle.tp_meaning.proofs.Shows.{join-blank, shown_else}
use Rattle.tp_meaning.proofs.Means.{fin_means}

abbrev pub piece_from : ℕ → Shows
piece_from j = shown_at j (one_shown 1 ∷ []) ⊕ shown_at (suc j) (one_shown 3 ∷ [])

pub piece_shows : (j : ℕ) → Holds nothing_given 0 (conjunction (formulas_of (skip_of ∷ display_of (number_expr 1) ∷ fin_of (display_of (number_expr 3)) ∷ []))) [] counting j (suc j) (piece_from j)
unfolding Means
piece_shows j = (
  blank,
  piece_from j,
  (omega arith, (refl, refl)),
  (
    shown_at j (one_shown 1 ∷ []),
    shown_at (suc j) (one_shown 3 ∷ []),
    (one_shown 1, refl, refl),
    (
      shown_at (suc j) (one_shown 3 ∷ []),
      blank,
      (fin_means (display_of (number_expr 3)) nothing_given 0 [] counting j (suc j) (shown_at (suc j) (one_shown 3 ∷ [])) (omega arith)).1 (one_shown 3, refl, refl),
      refl,
      sym (join-blank (shown_at (suc j) (one_shown 3 ∷ []))),
    ),
    refl,
  ),
  refl,
)

-- what the outer formula shows at each cut
abbrev pub outer_shows : Shows
outer_shows = total 3 0 (λ i. shown_at i (one_shown 2 ∷ []))

pub outer_holds : (s : Course) → Holds nothing_given 0 (always (display_of (number_expr 2))) [] s 0 2 outer_shows
outer_holds s = (3, (λ i. shown_at i (one_shown 2 ∷ [])), omega arith, (λ i u v. (one_shown 2, refl, refl)), refl)

pub cuts_show : (j : ℕ) → listed ((one_shown 2 ∷ one_shown 1 ∷ []) ∷ (one_shown 3 ∷ one_shown 2 ∷ one_shown 1 ∷ []) ∷ (one_shown 3 ∷ one_shown 2 ∷ []) ∷ []) j ≡ woven 2 0 (λ k. k) outer_shows piece_from j
cuts_show zero = refl
cuts_show (suc zero) = refl
cuts_show (suc (suc zero)) = refl
cuts_show (suc (suc (suc j))) =
    let no : (a : ℕ) → a < 3 → suc (suc (suc j)) ≡ a → ⊥ = λ a l e. absurd (omega arith) in
    let n = suc (suc (suc j)) in
    λ i. sym (shown_else 0 (outer_shows 0) n (no 0 (omega arith))) i
    ++ ((sym (shown_else 0 (one_shown 1 ∷ []) n (no 0 (omega arith))) i ++ sym (shown_else 1 (one_shown 3 ∷ []) n (no 1 (omega arith))) i)
    ++ (sym (shown_else 1 (outer_shows 1) n (no 1 (omega arith))) i
    ++ ((sym (shown_else 1 (one_shown 1 ∷ []) n (no 1 (omega arith))) i ++ sym (shown_else 2 (one_shown 3 ∷ []) n (no 2 (omega arith))) i)
    ++ sym (shown_else 2 (outer_shows 2) n (no 2 (omega arith))) i)))
