-- The first line of a text.
use Rattle.std.proofs.Common.{refl, ap, ◌∙◌, ◌≡◌, ◌≢◌, ℕ, suc, ◌+◌, ◌-◌, ◌<◌, ◌≤◌, ◌==◌, nat_lt, Bool, true, false, not, cond, List, [], ◌∷◌, length, take, drop, position, Some, None, arith, length-drop, take_all}
use Rattle.std.specs.List.{slice_split, onto_first, position_or_len}
use Rattle.std.specs.Str.Lines.{lines, lines_of_parts, strip_carriage_return}
use Rattle.std.proofs.lemmas.Bool.Decides.{nat_tests}
use Rattle.std.proofs.lemmas.List.Splits.{slice_split_first}
use Rattle.std.proofs.lemmas.List.Sums.{prefix_len-le-length}

abbrev pub feed : ℕ → Bool
feed b = b == 10

-- a part with others behind it is a line
pub more_parts : (x y : List ℕ) → lines_of_parts (x ∷ slice_split feed y) ≡ strip_carriage_return x ∷ lines_of_parts (slice_split feed y)
more_parts x [] = refl
more_parts x (c ∷ y) = at (feed c) (slice_split feed y)
  where
    at : (b : Bool) (parts : List (List ℕ)) → lines_of_parts (x ∷ cond b ([] ∷ parts) (onto_first c parts)) ≡ strip_carriage_return x ∷ lines_of_parts (cond b ([] ∷ parts) (onto_first c parts))
    at true parts = refl
    at false [] = refl
    at false (part ∷ parts) = refl

placed : (test : Bool) (n i : ℕ) → cond test (Some n) None ≡ Some i → (test ≡ true) × (n ≡ i)
placed true n i e = (refl, cc)
placed false n i e = absurd (cc)

unplaced : (test : Bool) (n : ℕ) → cond test (Some n) None ≡ None → test ≡ false
unplaced true n e = absurd (cc)
unplaced false n e = refl

-- the first line ends at the first line feed
pub line_to_feed : (z : List ℕ) (i : ℕ) → position feed z ≡ Some i → lines z ≡ strip_carriage_return (take i z) ∷ lines (drop (i + 1) z)
line_to_feed z i e =
    let at = placed (nat_lt (position_or_len feed z) (length z)) (position_or_len feed z) i e in
    let test : nat_lt (position_or_len feed z) (length z) ≡ true = at.0 in
    let low : position_or_len feed z < length z = grind (arith, nat_tests) in
    let first : slice_split feed z ≡ take i z ∷ slice_split feed (drop (i + 1) z) = slice_split_first feed z 0 low ∙ ap (λ n. take n z ∷ slice_split feed (drop (n + 1) z)) at.1 in
    ap lines_of_parts first ∙ more_parts (take i z) (drop (i + 1) z)

no_cut : (z : List ℕ) → position_or_len feed z ≡ length z → slice_split feed z ≡ z ∷ []
no_cut [] e = refl
no_cut (c ∷ z) e = at (feed c) (no_cut z) e
  where
    at : (b : Bool) → (position_or_len feed z ≡ length z → slice_split feed z ≡ z ∷ []) → cond (not b) (1 + position_or_len feed z) 0 ≡ suc (length z) → cond b ([] ∷ slice_split feed z) (onto_first c (slice_split feed z)) ≡ (c ∷ z) ∷ []
    at true below q = absurd (omega arith)
    at false below q = ap (onto_first c) (below (omega arith))

-- with no line feed the bytes are one line
pub line_to_end : (z : List ℕ) → z ≢ [] → position feed z ≡ None → lines z ≡ z ∷ []
line_to_end [] full e = absurd (full refl)
line_to_end (b ∷ z) full e =
    let test : nat_lt (position_or_len feed (b ∷ z)) (length (b ∷ z)) ≡ false = unplaced _ _ e in
    let high : length (b ∷ z) ≤ position_or_len feed (b ∷ z) = grind (arith, nat_tests) in
    let low : position_or_len feed (b ∷ z) ≤ length (b ∷ z) = prefix_len-le-length (λ x. not (feed x)) (b ∷ z) in
    let some : (length (b ∷ z) == 0) ≡ false = grind (arith, nat_tests) in
    ap lines_of_parts (no_cut (b ∷ z) (omega arith)) ∙ ap (λ t. cond t [] ((b ∷ z) ∷ [])) some

-- the whole of what follows
pub rest_of : (z : List ℕ) (i : ℕ) → take (length z - i) (drop i z) ≡ drop i z
rest_of z i = take_all (length z - i) (drop i z) (omega (arith, length-drop i z))

pub nothing_left : (z : List ℕ) → drop (length z) z ≡ []
nothing_left [] = refl
nothing_left (b ∷ z) = nothing_left z
