-- No range that a line names goes past the last state, and a text has no more lines than bytes.
use Rattle.std.proofs.Common.{refl, ◌≡◌, ℕ, zero, suc, ◌+◌, ◌≤◌, ◌==◌, Bool, true, false, cond, nat_le, nat_lt, ◌&&◌, List, [], ◌∷◌, length, take, drop, Option, Some, None, arith}
use Rattle.std.specs.List.{list_all, slice_split}
use Rattle.std.specs.Str.Lines.{lines, lines_of_parts}
use Rattle.std.specs.Char.{is_ascii_digit}
use Rattle.std.proofs.lemmas.Bool.{leb-true}
use Rattle.std.proofs.lemmas.List.Splits.{length-slice_split}
use Rattle.std.proofs.lemmas.List.Sums.{count_by-le-length}
use Rattle.tp_value.specs.Spelling.{decimal_value}
use Rattle.tp_inputs.specs.declared.span.Span.{Span}
use Rattle.tp_inputs.specs.declared.span.Span.TheVariants.{States, Others}
use Rattle.tp_inputs.specs.Spans.{last_state, named_state, between, end_of, cut_range, head_of}
use Rattle.tp_inputs.proofs.StateLemmas.{state_within}
use Rattle.tp_inputs.proofs.HeadLemmas.{RangeHas, HeadHas, ranged_has}

-- ---- ranges

abbrev StateEnds : Option ℕ → Type 0
StateEnds None = Unit {0}
StateEnds (Some n) = n ≤ last_state

state_ends : (z : List ℕ) → StateEnds (named_state z)
unfolding named_state
state_ends z = at (nat_lt 0 (length z)) (nat_le (length z) 8) (list_all is_ascii_digit z) refl refl
  where
    at : (p q s : Bool) → nat_le (length z) 8 ≡ q → list_all is_ascii_digit z ≡ s → StateEnds (cond (p && (q && s)) (Some (decimal_value z)) None)
    at true true true e f = state_within z f (leb-true (length z) 8 e)
    at true true false e f = tt
    at true false s e f = tt
    at false q s e f = tt

abbrev pub EndsInTime : Span → Type 0
EndsInTime (States a b) = b ≤ last_state
EndsInTime Others = Unit {0}

between_ends : (a b : Option ℕ) → StateEnds b → RangeHas EndsInTime (between a b)
between_ends None b h = tt
between_ends (Some a) None h = tt
between_ends (Some a) (Some b) h = at (nat_le a b)
  where
    at : (t : Bool) → RangeHas EndsInTime (cond t (Some (States a b)) None)
    at true = h
    at false = tt

end_ends : (z : List ℕ) → StateEnds (end_of z)
end_ends [] = omega arith
end_ends (b ∷ z) = state_ends (b ∷ z)

cut_ends : (z : List ℕ) (o : Option ℕ) → RangeHas EndsInTime (cut_range z o)
cut_ends z None = between_ends (named_state z) (named_state z) (state_ends z)
cut_ends z (Some i) = between_ends (named_state (take i z)) (end_of (drop (i + 1) z)) (end_ends (drop (i + 1) z))

-- ---- heads

pub head_ends : (second : Bool) (k : ℕ) (line : List ℕ) → k ≤ last_state → HeadHas EndsInTime (head_of second k line)
head_ends false k line h = h
head_ends true zero line h = tt
head_ends true (suc k) line h = ranged_has EndsInTime tt cut_ends line

-- ---- lines

lines_in : (parts : List (List ℕ)) → length (lines_of_parts parts) ≤ length parts
lines_in [] = omega arith
lines_in (x ∷ []) = one (length x == 0)
  where
    one : (b : Bool) → length (cond b [] (x ∷ [])) ≤ 1
    one true = omega arith
    one false = omega arith
lines_in (x ∷ y ∷ more) = let rest = lines_in (y ∷ more) in omega (arith, rest)

pub few_lines : (bytes : List ℕ) → length (lines bytes) ≤ length bytes + 1
few_lines bytes =
    let few = lines_in (slice_split (λ b. b == 10) bytes) in
    let count = length-slice_split (λ b. b == 10) bytes in
    let within = count_by-le-length (λ b. b == 10) bytes in
    omega (arith, few, count, within)
