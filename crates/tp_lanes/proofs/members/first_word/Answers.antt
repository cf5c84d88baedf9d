use Rattle.std.proofs.Common.{◌≡◌, ℕ, ap, ◌+◌, ◌<◌, ◌≤◌, Bool, false, true, not, eqb, ◌∙◌, inl, inr, arith, w64, get_or, List, length}
use Rattle.std.specs.List.{prefix_len}
use Rattle.std.proofs.lemmas.Simd.{bitmask_splat, none_from_empty_mask, length-chunk, trailing_mask_l, run_in_chunk_fails, run_in_chunk_stops}
use Rattle.std.proofs.lemmas.Bool.{eqb-true, eqb-false, cases_Bool, both_ways, cases_lt, not-true}
use lib.Lanes.{chunk, mask_l}
use lib.Count.{count_trailing_zeros}
use mathlib.Core.List.{map}
use Rattle.tp_lanes.specs.Planes.{AreEmpty}
use Rattle.tp_lanes.proofs.members.first_word.Goals as goal

is_zero : (x : ℕ) → not (eqb x 0) ≡ false → x ≡ 0
is_zero x e = elim (cases_Bool (eqb x 0)) [ inl yea ↦ eqb-true x 0 yea | inr nay ↦ absurd (both_ways (not (eqb x 0)) e (ap not nay)) ]

is_more : (x : ℕ) → not (eqb x 0) ≡ true → 0 < x
is_more x e = let ne = eqb-false x 0 (not-true (eqb x 0) e) in omega (arith, ne)

module _ (xs : List ℕ) (at r : ℕ) (room : at + 8 ≤ length xs) (some : AreEmpty xs at (at + 8) → ⊥) where
  abbrev has : ℕ → Bool
  has x = not (eqb x 0)

  module _ (is : r ≡ count_trailing_zeros 64 (mask_l (map has (chunk at 8 xs)))) where
    filled : 0 < mask_l (map has (chunk at 8 xs))
    filled = elim (cases_lt 0 (mask_l (map has (chunk at 8 xs)))) [
      | inl more ↦ more
      | inr none ↦ absurd (some (λ k from to. is_zero (get_or xs k 0) (none_from_empty_mask has xs at 8 0 room (omega (arith, none)) k from to)))
    ]

    first : r ≡ prefix_len (λ x. not (has x)) (chunk at 8 xs)
    first = let long = length-chunk at 8 xs room in is ∙ trailing_mask_l has 64 (chunk at 8 xs) (omega (arith, long)) filled

    pub before : (k : ℕ) → at ≤ k → k < at + r → get_or xs k 0 ≡ 0
    before k from to = is_zero (get_or xs k 0) (run_in_chunk_fails has xs at 8 r 0 room first k from to)

    pub within : r < 8
    within = elim (cases_lt r 8) [ inl less ↦ less | inr more ↦ absurd (some (λ k from to. before k from (omega (arith, to, more)))) ]

    pub here : 0 < get_or xs (at + r) 0
    here = is_more (get_or xs (at + r) 0) (run_in_chunk_stops has xs at 8 r 0 room first within)

pub returns-clause-within : goal.returns-clause-within
returns-clause-within c =
    let mask = bitmask_splat w64 (λ a b. not (eqb a b)) (chunk c.args.at 8 c.args.words.now) 8 0 (length-chunk c.args.at 8 c.args.words.now c.requires.room) (omega arith) in
    let low = within c.args.words.now c.args.at _ c.requires.room c.requires.some (ap (count_trailing_zeros 64) mask) in
    omega (arith, low)

pub returns-clause-before : goal.returns-clause-before
returns-clause-before c =
    let mask = bitmask_splat w64 (λ a b. not (eqb a b)) (chunk c.args.at 8 c.args.words.now) 8 0 (length-chunk c.args.at 8 c.args.words.now c.requires.room) (omega arith) in
    before c.args.words.now c.args.at _ c.requires.room c.requires.some (ap (count_trailing_zeros 64) mask)

pub returns-clause-here : goal.returns-clause-here
returns-clause-here c =
    let mask = bitmask_splat w64 (λ a b. not (eqb a b)) (chunk c.args.at 8 c.args.words.now) 8 0 (length-chunk c.args.at 8 c.args.words.now c.requires.room) (omega arith) in
    here c.args.words.now c.args.at _ c.requires.room c.requires.some (ap (count_trailing_zeros 64) mask)
