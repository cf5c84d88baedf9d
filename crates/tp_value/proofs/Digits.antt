-- Reading digits.
use Rattle.std.proofs.Common.{◌≡◌, ℕ, zero, suc, ◌+◌, ◌-◌, ◌*◌, ◌<◌, ◌≤◌, ◌⊎◌, inl, inr, ℤ, pos, negsuc, neg_ℤ, ◌+ℤ◌, ◌-ℤ◌, ◌*ℤ◌, Bool, true, false, List, [], ◌∷◌, ◌++◌, length, fold, Option, Some, None, Ok, cond, IsTrue, refl, sym, ap, ◌∙◌, subst, arith}
use Rattle.std.specs.Prelude.{FitsSigned}
use Rattle.std.specs.Char.{is_ascii_digit}
use Rattle.std.proofs.lemmas.Int.{ints}
use Rattle.std.proofs.lemmas.Bool.{cases_lt}
use Rattle.std.proofs.lemmas.Bool.Decides.{nat_tests}
use Rattle.tp_value.specs.declared.phase.Phase.TheVariants.{Digits}
use Rattle.tp_value.specs.declared.phase.Move.TheVariants.{Go}
use Rattle.tp_value.specs.declared.reading.ReadValue.TheVariants.{NoValue, TooLarge, TooLong, TooDeep, NoMemory}
use Rattle.tp_value.specs.Number.{number_width, number_limit, is_within_limit, within_limit}
use Rattle.tp_value.specs.Tree.{Tree}
use Rattle.tp_value.specs.Spelling.{AllDigits, with_digit}
use Rattle.tp_value.specs.Reading.{ReadingState, Answer, found, refused, answered, digit_of, continued, first_move, lengthened, digit_read, carried, step_behind, reading}

-- a refusal for a limit
abbrev pub IsOver : Answer → Type 0
IsOver (found t n) = ⊥
IsOver (refused (NoValue at)) = ⊥
IsOver (refused (TooLarge at)) = Unit {0}
IsOver (refused (TooLong at)) = Unit {0}
IsOver (refused (TooDeep at)) = Unit {0}
IsOver (refused NoMemory) = ⊥

abbrev pub signed : Bool → ℕ → ℤ
signed true v = neg_ℤ (pos v)
signed false v = pos v

pub continued_signed : (negative : Bool) (v d : ℕ) → continued negative (signed negative v) d ≡ signed negative (10 * v + d)
continued_signed true v d = omega (arith, ints)
continued_signed false v d = omega (arith, ints)

-- what is within the limit is the number
pub within_is : (m n : ℤ) → Some m ≡ within_limit n → m ≡ n
within_is m n e = by_limit (is_within_limit n) e
  where
    by_limit : (b : Bool) → Some m ≡ cond b (Some n) None → m ≡ n
    by_limit true e = cc
    by_limit false e = cc

-- and has room in the machine's type
pub within_fits : (m n : ℤ) → Some m ≡ within_limit n → FitsSigned number_width m
within_fits m n e = by_limit (is_within_limit n) refl e
  where
    has_room : (n : ℤ) → is_within_limit n ≡ true → FitsSigned number_width n
    has_room (pos k) h = record { sfits = grind (arith, nat_tests, h) }
    has_room (negsuc k) h = record { sfits = grind (arith, nat_tests, h) }

    by_limit : (b : Bool) → is_within_limit n ≡ b → Some m ≡ cond b (Some n) None → FitsSigned number_width m
    by_limit true h e = let same : n ≡ m = cc in subst (λ k. FitsSigned number_width k) same (has_room n h)
    by_limit false h e = let bad : Some m ≡ None = e in cc

-- nine times a number, and the number with a digit
pub nines_and_rest : (negative : Bool) (n nines rest : ℤ) (d : ℕ) → nines ≡ n *ℤ pos 9 → rest ≡ cond negative (n -ℤ pos d) (n +ℤ pos d) → nines +ℤ rest ≡ continued negative n d
nines_and_rest true n nines rest d e h = omega (arith, ints, e, h)
nines_and_rest false n nines rest d e h = omega (arith, ints, e, h)

pub signed_small : (negative : Bool) (v : ℕ) → v ≤ number_limit → within_limit (signed negative v) ≡ Some (signed negative v)
signed_small true zero h = refl
signed_small true (suc v) h = grind (arith, nat_tests)
signed_small false v h = grind (arith, nat_tests)

pub signed_large : (negative : Bool) (v : ℕ) → number_limit < v → within_limit (signed negative v) ≡ None
signed_large true zero h = absurd (omega arith)
signed_large true (suc v) h = grind (arith, nat_tests)
signed_large false v h = grind (arith, nat_tests)

pub no_number : (negative : Bool) (v : ℕ) → number_limit < v → IsTrue (is_within_limit (signed negative v)) → ⊥
no_number true zero h n = absurd (omega arith)
no_number true (suc v) h n = grind (arith, nat_tests)
no_number false v h n = grind (arith, nat_tests)

pub a_number : (negative : Bool) (v : ℕ) → v ≤ number_limit → IsTrue (is_within_limit (signed negative v))
a_number true zero h = refl
a_number true (suc v) h = grind (arith, nat_tests)
a_number false v h = grind (arith, nat_tests)

pub digits_grow : (ds : List ℕ) (v : ℕ) → v ≤ fold with_digit v ds
digits_grow [] v = omega arith
digits_grow (b ∷ ds) v = let more = digits_grow ds (with_digit v b) in omega arith

pub digit_is : (b : ℕ) → is_ascii_digit b ≡ true → digit_of b ≡ Some (b - 48)
digit_is b h = ap (λ c. cond c (Some (b - 48)) None) h

pub digit_starts : (at depth begun b : ℕ) → is_ascii_digit b ≡ true → first_move at depth begun b ≡ Ok (Go (Digits at false (pos (b - 48))) begun)
digit_starts at depth begun b h = grind (arith, nat_tests)

-- reading within a number
abbrev pub in_digits : List (List Tree) → ℕ → ℕ → Bool → ℤ → ReadingState
in_digits lists begun begin negative n = record { lists = lists; begun = begun; phase = Digits begin negative n }

pub digit_steps : (n : ℕ) (lists : List (List Tree)) (begun begin : ℕ) (negative : Bool) (m : ℤ) (b : ℕ) (z : List ℕ) (o : Option ℤ) → is_ascii_digit b ≡ true → within_limit (continued negative m (b - 48)) ≡ o
    → reading n (in_digits lists begun begin negative m) (b ∷ z) ≡ answered (carried n (in_digits lists begun begin negative m) (lengthened begun begin negative o)) (λ t. reading (n + 1) t z)
digit_steps n lists begun begin negative m b z o h e =
    let s : ReadingState = in_digits lists begun begin negative m in
    ap (λ x. answered (step_behind n s b x) (λ t. reading (n + 1) t z)) (ap (λ c. cond c None (Some m)) h)
    ∙ ap (λ x. answered (carried n s (digit_read n begun begin negative m x)) (λ t. reading (n + 1) t z)) (digit_is b h)
    ∙ ap (λ x. answered (carried n s (lengthened begun begin negative x)) (λ t. reading (n + 1) t z)) e

-- where reading stands behind some digits
abbrev pub Read : ℕ → List (List Tree) → ℕ → ℕ → Bool → ℕ → List ℕ → List ℕ → Type 0
Read n lists begun begin negative v ds rest =
    let before = reading n (in_digits lists begun begin negative (signed negative v)) (ds ++ rest) in
    let all = fold with_digit v ds in
    ((before ≡ reading (n + length ds) (in_digits lists begun begin negative (signed negative all)) rest) × (all ≤ number_limit)) ⊎ (IsOver before × (number_limit < all))

read_later : (b : ℕ) (ds : List ℕ) (n : ℕ) (lists : List (List Tree)) (begun begin : ℕ) (negative : Bool) (v : ℕ) (rest : List ℕ)
    → reading n (in_digits lists begun begin negative (signed negative v)) (b ∷ (ds ++ rest)) ≡ reading (n + 1) (in_digits lists begun begin negative (signed negative (with_digit v b))) (ds ++ rest)
    → Read (n + 1) lists begun begin negative (with_digit v b) ds rest → Read n lists begun begin negative v (b ∷ ds) rest
read_later b ds n lists begun begin negative v rest here (inl r) =
    let place : (n + 1) + length ds ≡ n + suc (length ds) = omega arith in
    inl (here ∙ r.0 ∙ ap (λ k. reading k (in_digits lists begun begin negative (signed negative (fold with_digit (with_digit v b) ds))) rest) place, r.1)
read_later b ds n lists begun begin negative v rest here (inr r) = inr (subst IsOver (sym here) r.0, r.1)

read_first : (b : ℕ) (ds : List ℕ) (n : ℕ) (lists : List (List Tree)) (begun begin : ℕ) (negative : Bool) (v : ℕ) (rest : List ℕ) → is_ascii_digit b ≡ true
    → (with_digit v b ≤ number_limit → Read (n + 1) lists begun begin negative (with_digit v b) ds rest) → (number_limit < with_digit v b) ⊎ (with_digit v b ≤ number_limit) → Read n lists begun begin negative v (b ∷ ds) rest
read_first b ds n lists begun begin negative v rest h more (inr small) =
    read_later b ds n lists begun begin negative v rest
    (digit_steps n lists begun begin negative (signed negative v) b (ds ++ rest) _ h (ap within_limit (continued_signed negative v (b - 48)) ∙ signed_small negative (with_digit v b) small)) (more small)
read_first b ds n lists begun begin negative v rest h more (inl large) =
    let here = digit_steps n lists begun begin negative (signed negative v) b (ds ++ rest) None h (ap within_limit (continued_signed negative v (b - 48)) ∙ signed_large negative (with_digit v b) large) in
    let grows = digits_grow ds (with_digit v b) in
    inr (subst IsOver (sym here) tt, omega arith)

pub digits_read : (ds : List ℕ) → AllDigits ds → (n : ℕ) (lists : List (List Tree)) (begun begin : ℕ) (negative : Bool) (v : ℕ) (rest : List ℕ) → v ≤ number_limit → Read n lists begun begin negative v ds rest
digits_read [] all n lists begun begin negative v rest h = inl (ap (λ k. reading k (in_digits lists begun begin negative (signed negative v)) rest) (omega arith), h)
digits_read (b ∷ ds) all n lists begun begin negative v rest h =
    read_first b ds n lists begun begin negative v rest all.0 (λ small. digits_read ds all.1 (n + 1) lists begun begin negative (with_digit v b) rest small) (cases_lt number_limit (with_digit v b))
