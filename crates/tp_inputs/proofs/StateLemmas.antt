-- Eight digits spell no number past the last state.
use Rattle.std.proofs.Common.{refl, ◌≡◌, ℕ, zero, suc, ◌+◌, ◌-◌, ◌*◌, ◌≤◌, Bool, true, false, ◌&&◌, List, [], ◌∷◌, length, fold, min, arith}
use Rattle.std.specs.List.{list_all}
use Rattle.std.specs.Char.{is_ascii_digit}
use Rattle.std.proofs.lemmas.Bool.Decides.{nat_tests}
use Rattle.tp_value.specs.Spelling.{with_digit, decimal_value}
use Rattle.tp_inputs.specs.Spans.{last_state}

-- the greatest number with so many digits behind b
abbrev nines : ℕ → ℕ → ℕ
nines b zero = b
nines b (suc k) = nines (10 * b + 9) k

nines_least : (b k : ℕ) → b ≤ nines b k
nines_least b zero = omega arith
nines_least b (suc k) = let more = nines_least (10 * b + 9) k in omega arith

nines_more : (b k m : ℕ) → k ≤ m → nines b k ≤ nines b m
nines_more b zero m h = nines_least b m
nines_more b (suc k) zero h = absurd (omega arith)
nines_more b (suc k) (suc m) h = nines_more (10 * b + 9) k m (omega arith)

low_digit : (d : ℕ) → is_ascii_digit d ≡ true → d - 48 ≤ 9
low_digit d e = grind (arith, nat_tests)

within_nines : (n b : ℕ) (ds : List ℕ) → n ≤ b → list_all is_ascii_digit ds ≡ true → fold with_digit n ds ≤ nines b (length ds)
within_nines n b [] h e = h
within_nines n b (d ∷ ds) h e = at (is_ascii_digit d) refl e (λ low f. within_nines (with_digit n d) (10 * b + 9) ds low f)
  where
    at : (p : Bool) → is_ascii_digit d ≡ p → p && list_all is_ascii_digit ds ≡ true → (with_digit n d ≤ 10 * b + 9 → list_all is_ascii_digit ds ≡ true → fold with_digit (with_digit n d) ds ≤ nines (10 * b + 9) (length ds)) → fold with_digit n (d ∷ ds) ≤ nines b (length (d ∷ ds))
    at true x f later = let low = low_digit d x in later (omega arith) f
    at false x f later = absurd cc

pub state_within : (ds : List ℕ) → list_all is_ascii_digit ds ≡ true → length ds ≤ 8 → decimal_value ds ≤ last_state
state_within ds e short = at (within_nines 0 0 ds (omega arith) e) (nines_more 0 (length ds) 8 short)
  where
    at : fold with_digit 0 ds ≤ nines 0 (length ds) → nines 0 (length ds) ≤ last_state → decimal_value ds ≤ last_state
    at a b = omega arith

pub state_whole : (ds : List ℕ) → list_all is_ascii_digit ds ≡ true → length ds ≤ 8 → min (decimal_value ds) last_state ≡ decimal_value ds
state_whole ds e short = let low = state_within ds e short in omega arith
