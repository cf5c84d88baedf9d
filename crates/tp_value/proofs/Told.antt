-- Each byte of a value's text does what is right.
use Rattle.std.proofs.Common.{◌≡◌, ℕ, ◌+◌, ◌-◌, ◌≤◌, pos, Bool, true, false, ◌&&◌, List, [], ◌∷◌, ◌++◌, length, Option, Some, None, Result, Ok, Err, cond, refl, sym, ap, subst, arith, append_assoc}
use Rattle.std.specs.Prelude.{codes, ◌==◌, nat_lt}
use Rattle.std.specs.Char.{is_ascii_digit}
use Rattle.std.proofs.lemmas.Bool.{eqb-true}
use Rattle.std.proofs.lemmas.Bool.Decides.{nat_tests}
use Rattle.tp_value.specs.declared.phase.Last.TheVariants.{Bracket}
use Rattle.tp_value.specs.declared.phase.Phase.{Phase}
use Rattle.tp_value.specs.declared.phase.Phase.TheVariants.{Minus, Digits, Word as InWord}
use Rattle.tp_value.specs.declared.phase.Move.{Move}
use Rattle.tp_value.specs.declared.phase.Move.TheVariants.{Go, Open}
use Rattle.tp_value.specs.declared.reading.ReadValue.{ReadValue}
use Rattle.tp_value.specs.declared.reading.ReadValue.TheVariants.{NoValue, TooDeep}
use Rattle.tp_value.specs.Number.{number_limit}
use Rattle.tp_value.specs.Tree.{Tree, list, nil}
use Rattle.tp_value.specs.Limits.{item_limit, value_depth_limit}
use Rattle.tp_value.specs.Spelling.{with_digit, Spells, closed, bracket}
use Rattle.tp_value.specs.Reading.{ReadingState, begins_value, digit_of, number_started, first_move, carried}
use Rattle.tp_value.specs.Answers.{BeginsValue}
use Rattle.tp_value.proofs.Digits.{in_digits, digit_is}
use Rattle.tp_value.proofs.Completes.{digit_begins}
use Rattle.tp_value.proofs.Stands.{Outer, Stands, part, signs, number, letters, outer_depth, complete, begins_outer}
use Rattle.tp_value.proofs.Sound.{due_of, Told, by_test, digit_plain, plain_tallied}

-- the count of items that have begun, where the byte begins a value
abbrev pub counted : Phase → ℕ → ℕ → ℕ
counted phase begun b = cond (due_of phase && begins_value b) (begun + 1) begun

-- the bytes of open lists and what begins a value begin a value
pub outer_begins : {q : List ℕ} {lists : List (List Tree)} (b : ℕ) (z : List ℕ) (t : Tree) → Outer q lists → Spells (b ∷ z) t → BeginsValue (q ++ b ∷ [])
outer_begins {q = q} b z t o h =
    let c = complete o h in
    let shape : (q ++ (b ∷ z)) ++ c.rest ≡ (q ++ b ∷ []) ++ (z ++ c.rest) = simp append_assoc in
    (z ++ c.rest, c.value, subst (λ (y : List ℕ). Spells y c.value) shape c.spelled)

module _ (from n : ℕ) (q : List ℕ) (lists : List (List Tree)) (begun more : ℕ) (phase : Phase) (o : Outer q lists) (place : n ≡ from + length q) (small : more ≤ item_limit) where
  abbrev here : ReadingState
  here = record { lists = lists; begun = begun; phase = phase }

  abbrev Right : ℕ → Result Move ReadValue → Type 0
  Right b m = Told from q here b (carried n here m)

  -- a list opens
  opens : counted phase begun 60 ≡ more → Right 60 (cond (nat_lt (length lists) value_depth_limit) (Ok (Open more)) (Err (TooDeep n)))
  opens count = by_test (Right 60) (nat_lt (length lists) value_depth_limit) _ _
      (λ e. (
        part q (codes "<") lists more [] Bracket o bracket (record { depth = grind (arith, nat_tests); numbers = tt }),
        record { brackets = omega arith; begun = ap (λ c. record { count = c; due = true }) count; small = small },
      ))
      (λ e. record {
        place = place;
        so_far = begins_outer o;
        goes_on = outer_begins 60 (codes ">") (list nil) o (closed (codes "<") [] Bracket bracket tt);
        bracket = refl;
        depth = grind (arith, nat_tests, outer_depth o);
        count = subst (λ (c : ℕ). c ≤ item_limit) (sym count) small;
      })

  minus_begins : counted phase begun 45 ≡ more → Right 45 (Ok (Go (Minus n) more))
  minus_begins count = (
    subst (λ (k : ℕ). Stands from (q ++ codes "-") (record { lists = lists; begun = more; phase = Minus k })) (sym place) (signs q lists more o),
    record { brackets = refl; begun = ap (λ c. record { count = c; due = false }) count; small = small },
  )

  true_begins : counted phase begun 116 ≡ more → Right 116 (Ok (Go (InWord true 1) more))
  true_begins count = (letters q lists more true 1 o (omega arith), record { brackets = refl; begun = ap (λ c. record { count = c; due = false }) count; small = small })

  false_begins : counted phase begun 102 ≡ more → Right 102 (Ok (Go (InWord false 1) more))
  false_begins count = (letters q lists more false 1 o (omega arith), record { brackets = refl; begun = ap (λ c. record { count = c; due = false }) count; small = small })

  number_begins : (b : ℕ) → is_ascii_digit b ≡ true → counted phase begun b ≡ more → Right b (Ok (Go (Digits n false (pos (b - 48))) more))
  number_begins b h count =
      let value : with_digit 0 b ≡ b - 48 = omega arith in
      let little : with_digit 0 b ≤ number_limit = grind (arith, nat_tests) in
      let stands : Stands from (q ++ b ∷ []) (in_digits lists more (from + length q) false (pos (with_digit 0 b))) = number q lists more false (b ∷ []) o (h, tt) little in
      let valued : Stands from (q ++ b ∷ []) (in_digits lists more (from + length q) false (pos (b - 48))) = subst (λ (v : ℕ). Stands from (q ++ b ∷ []) (in_digits lists more (from + length q) false (pos v))) value stands in (
        subst (λ (k : ℕ). Stands from (q ++ b ∷ []) (in_digits lists more k false (pos (b - 48)))) (sym place) valued,
        plain_tallied here (in_digits lists more n false (pos (b - 48))) b (digit_plain b h) refl count refl small,
      )

  nothing_begins : (b : ℕ) → Right b (Err (NoValue n))
  nothing_begins b = (place, begins_outer o)

  -- the first byte of a value
  pub started_told : (b : ℕ) → (begins_value b ≡ true → counted phase begun b ≡ more) → Right b (first_move n (length lists) more b)
  started_told b count =
      by_test (Right b) (b == 60) _ _ (λ e. subst (λ (c : ℕ). Right c (cond (nat_lt (length lists) value_depth_limit) (Ok (Open more)) (Err (TooDeep n)))) (sym (eqb-true b 60 e)) (opens (at_byte 60 e refl)))
      (λ _. by_test (Right b) (b == 45) _ _ (λ e. subst (λ (c : ℕ). Right c (Ok (Go (Minus n) more))) (sym (eqb-true b 45 e)) (minus_begins (at_byte 45 e refl)))
      (λ _. by_test (Right b) (b == 116) _ _ (λ e. subst (λ (c : ℕ). Right c (Ok (Go (InWord true 1) more))) (sym (eqb-true b 116 e)) (true_begins (at_byte 116 e refl)))
      (λ _. by_test (Right b) (b == 102) _ _ (λ e. subst (λ (c : ℕ). Right c (Ok (Go (InWord false 1) more))) (sym (eqb-true b 102 e)) (false_begins (at_byte 102 e refl)))
      (λ _. digit_or_nothing (is_ascii_digit b) refl))))
    where
      digit_or_nothing : (c : Bool) → is_ascii_digit b ≡ c → Right b (number_started n more (digit_of b))
      digit_or_nothing true e = subst (λ (x : Option ℕ). Right b (number_started n more x)) (sym (digit_is b e)) (number_begins b e (count (digit_begins b e)))
      digit_or_nothing false e = subst (λ (x : Option ℕ). Right b (number_started n more x)) (sym (ap (λ c. cond c (Some (b - 48)) None) e)) (nothing_begins b)

      at_byte : (k : ℕ) → (b == k) ≡ true → begins_value k ≡ true → counted phase begun k ≡ more
      at_byte k e h = subst (λ (c : ℕ). counted phase begun c ≡ more) (eqb-true b k e) (count (subst (λ (c : ℕ). begins_value c ≡ true) (sym (eqb-true b k e)) h))
