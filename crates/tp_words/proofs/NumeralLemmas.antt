-- What a numeral among the words is parsed as, and in which range it is.
use Rattle.std.proofs.Common.{◌≡◌, ◌≢◌, ◌<◌, ◌≤◌, ◌^◌, ℕ, List, [], ◌∷◌, Bool, true, false, Option, None, Some, length, get_or, refl, subst, sym, arith, ◌&&◌, rules, if◌then◌else◌}
use Rattle.std.specs.Prelude.{nat_le, nat_lt}
use Rattle.std.specs.List.{list_all}
use Rattle.std.specs.Int.{IsInRange}
use Rattle.std.specs.Option.{option_and_then}
use Rattle.std.specs.Char.{is_ascii_digit, digit_value}
use Rattle.std.specs.Str.Parse.{AllDigits, IsNumeral, digits_value, without_leading_plus}
use Rattle.std.proofs.lemmas.Bool.{and_parts}
use Rattle.std.proofs.lemmas.Str.Parse.{without_leading_plus_none}
use Rattle.std.proofs.lemmas.Bool.Decides.{nat_tests}
use Rattle.tp_words.specs.Options.{is_numeral, numeral_value, numeral_within, from_one_to, limit_set, greatest_limit, limit_digits}

digit_below : (c : ℕ) → is_ascii_digit c ≡ true → digit_value c < 10
digit_below c h = grind arith

digit_no_plus : (c : ℕ) → is_ascii_digit c ≡ true → c ≢ 43
digit_no_plus c h e = grind arith

all_digits : (text : List ℕ) → list_all is_ascii_digit text ≡ true → AllDigits 10 text
all_digits [] h = tt
all_digits (c ∷ cs) h = let both = and_parts (is_ascii_digit c) (list_all is_ascii_digit cs) h in (digit_below c both.0, all_digits cs both.1)

no_plus : (text : List ℕ) → list_all is_ascii_digit text ≡ true → get_or text 0 0 ≢ 43
no_plus [] h e = omega arith
no_plus (c ∷ cs) h e = digit_no_plus c (and_parts (is_ascii_digit c) (list_all is_ascii_digit cs) h).0 e

-- a text of decimal digits that is read as no machine number spells one that is past them
pub past_machine : (most : ℕ) (text : List ℕ) → is_numeral most text ≡ true → ((IsNumeral 10 (without_leading_plus text) × (digits_value 10 (without_leading_plus text) < 2 ^ 64)) → ⊥) → 2 ^ 64 ≤ digits_value 10 text
past_machine most text h large =
    let outer = and_parts (nat_lt 0 (length text)) (nat_le (length text) most && list_all is_ascii_digit text) h in
    let digits = (and_parts (nat_le (length text) most) (list_all is_ascii_digit text) outer.1).1 in
    let some : 0 < length text = grind (arith, outer.0) in
    let plain : without_leading_plus text ≡ text = without_leading_plus_none text (no_plus text digits) in
    let past : (digits_value 10 text < 2 ^ 64 → ⊥) = λ small. large (subst (λ t. IsNumeral 10 t × (digits_value 10 t < 2 ^ 64)) (sym plain) ((some, all_digits text digits), small)) in
    omega (arith, past)

-- it is no numeral
pub large_numeral : (most : ℕ) (text : List ℕ) → is_numeral most text ≡ true → ((IsNumeral 10 (without_leading_plus text) × (digits_value 10 (without_leading_plus text) < 2 ^ 64)) → ⊥) → numeral_value most text ≡ None
large_numeral most text h large =
    let past = past_machine most text h large in
    let none : nat_lt (digits_value 10 text) (2 ^ 64) ≡ false = grind (arith, nat_tests, past) in
    rw (h, none) refl

past_greatest : (greatest n : ℕ) → greatest < n → from_one_to greatest n ≡ None
past_greatest greatest n h = grind arith

with_room : (greatest n : ℕ) (is room : Bool) → greatest < 2 ^ 64 → nat_lt n (2 ^ 64) ≡ room
    → option_and_then (from_one_to greatest) (if is && room then Some n else None) ≡ (if is then from_one_to greatest n else None)
with_room greatest n false room small e = refl
with_room greatest n true true small e = refl
with_room greatest n true false small e = let past : 2 ^ 64 ≤ n = grind (arith, nat_tests, e) in sym (past_greatest greatest n (omega arith))

-- a numeral within a bound is one that has room, and whose value is within it
pub within_value : (most greatest : ℕ) (text : List ℕ) → greatest < 2 ^ 64 → option_and_then (from_one_to greatest) (numeral_value most text) ≡ numeral_within most greatest text
within_value most greatest text small = with_room greatest (digits_value 10 text) (is_numeral most text) (nat_lt (digits_value 10 text) (2 ^ 64)) small refl

one_range : (greatest n m : ℕ) → from_one_to greatest n ≡ Some m → IsInRange 1 greatest m
one_range greatest n m h = grind arith

spelled_range : (greatest n m : ℕ) (is : Bool) → (if is then from_one_to greatest n else None) ≡ Some m → IsInRange 1 greatest m
spelled_range greatest n m true h = one_range greatest n m h
spelled_range greatest n m false h = search rules

pub numeral_range : (most greatest : ℕ) (text : List ℕ) (n : ℕ) → numeral_within most greatest text ≡ Some n → IsInRange 1 greatest n
numeral_range most greatest text n h = spelled_range greatest (digits_value 10 text) n (is_numeral most text) h

-- a limit that is set is in the range, where the usual one is
pub limit_range : (usual : ℕ) (text : Option (List ℕ)) (n : ℕ) → IsInRange 1 greatest_limit usual → limit_set usual text ≡ Some n → IsInRange 1 greatest_limit n
limit_range usual None n u h = let e : usual ≡ n = cc in subst (λ k. IsInRange 1 greatest_limit k) e u
limit_range usual (Some text) n u h = numeral_range limit_digits greatest_limit text n h
