-- What spells a value is read to it, or passes a limit.
use Rattle.std.proofs.Common.{◌≡◌, ℕ, ◌+◌, ◌-◌, ◌<◌, ◌≤◌, ◌⊎◌, max, inl, inr, ℤ, pos, neg_ℤ, Bool, true, false, List, [], ◌∷◌, ◌++◌, length, fold, Some, None, cond, refl, sym, ap, ◌∙◌, subst, arith, append_assoc, length-append}
use Rattle.std.specs.Prelude.{codes}
use Rattle.std.specs.Char.{is_ascii_digit}
use Rattle.std.proofs.lemmas.Bool.{cases_lt}
use Rattle.std.proofs.lemmas.Bool.Decides.{nat_tests}
use Rattle.tp_value.specs.declared.phase.Last.{Last}
use Rattle.tp_value.specs.declared.phase.Last.TheVariants.{Bracket, Item, Comma}
use Rattle.tp_value.specs.declared.phase.Phase.TheVariants.{Start, Between}
use Rattle.tp_value.specs.declared.reading.ReadValue.TheVariants.{TooLong, TooDeep}
use Rattle.tp_value.specs.Number.{number_limit}
use Rattle.tp_value.specs.Tree.{Tree, num, truth, list, of_items}
use Rattle.tp_value.specs.Limits.{item_limit, value_depth_limit, items_in, items_within, depth_of, greatest_depth, HasNumbers, HaveNumbers}
use Rattle.tp_value.specs.Spelling.{is_value_blank, AreDigits, with_digit, decimal_value, spelling, CanClose, TakesItem, Spells, digits, minus, word, closed, Unfinished, bracket, blank, item, comma}
use Rattle.tp_value.specs.Reading.{ReadingState, Answer, refused, answered, begins_value, carried, finished, step_behind, reading}
use Rattle.tp_value.specs.Answers.{EndsNumber, CannotContinue}
use Rattle.tp_value.proofs.Digits.{IsOver, signed, in_digits, digits_read, Read, digit_starts, a_number, no_number}

-- a value is due
abbrev pub due : List (List Tree) → ℕ → ReadingState
due lists begun = record { lists = lists; begun = begun; phase = Start }

-- within the innermost list, which has these items
abbrev pub within : List (List Tree) → ℕ → List Tree → Last → ReadingState
within lists begun ts last = record { lists = ts ∷ lists; begun = begun; phase = Between last }

abbrev pub FollowsPart : Last → List ℕ → Type 0
FollowsPart Bracket rest = Unit {0}
FollowsPart Item rest = EndsNumber rest
FollowsPart Comma rest = Unit {0}

-- what reading gives once a value has ended
abbrev pub behind : ℕ → List (List Tree) → ℕ → Tree → List ℕ → Answer
behind n lists begun t rest = answered (finished lists begun t n) (λ s. reading n s rest)

-- the limits leave room for the value, where so many lists are open and so many items have begun
pub record Fits (lists : List (List Tree)) (begun : ℕ) (t : Tree) : Type 0 where
  pub items : begun + items_in t ≤ item_limit
  pub depth : length lists + depth_of t ≤ value_depth_limit
  pub numbers : HasNumbers t

pub number_ends : (n : ℕ) (lists : List (List Tree)) (begun begin : ℕ) (negative : Bool) (m : ℤ) (rest : List ℕ) → EndsNumber rest → reading n (in_digits lists begun begin negative m) rest ≡ behind n lists begun (num m) rest
number_ends n [] begun begin negative m [] e = refl
number_ends n (ts ∷ lists) begun begin negative m [] e = refl
number_ends n [] begun begin negative m (b ∷ z) e = simp e
number_ends n (ts ∷ lists) begun begin negative m (b ∷ z) e = simp e

-- the first byte of what spells a value
list_begins : {s : List ℕ} {ts : List Tree} {last : Last} → Unfinished s ts last → (z : List ℕ) × (s ≡ 60 ∷ z)
list_begins bracket = ([], refl)
list_begins (blank s ts last b u e) = let r = list_begins u in (r.0 ++ b ∷ [], ap (λ z. z ++ b ∷ []) r.1)
list_begins (item s ts last r t u k h) = let q = list_begins u in (q.0 ++ r, ap (λ z. z ++ r) q.1)
list_begins (comma s ts u) = let r = list_begins u in (r.0 ++ codes ",", ap (λ z. z ++ codes ",") r.1)

pub digit_begins : (b : ℕ) → is_ascii_digit b ≡ true → begins_value b ≡ true
digit_begins b h = grind (arith, nat_tests)

pub first_byte : {s : List ℕ} {t : Tree} → Spells s t → (b : ℕ) × (z : List ℕ) × (s ≡ b ∷ z) × (begins_value b ≡ true)
first_byte (digits [] a) = absurd a
first_byte (digits (b ∷ z) a) = (b, z, refl, digit_begins b a.0)
first_byte (minus ds a) = (45, ds, refl, refl)
first_byte (word true) = (116, codes "rue", refl, refl)
first_byte (word false) = (102, codes "alse", refl, refl)
first_byte (closed s ts last u k) = let r = list_begins u in (60, r.0 ++ codes ">", ap (λ z. z ++ codes ">") r.1, refl)

-- an item begins
pub item_begins : (n : ℕ) (lists : List (List Tree)) (begun : ℕ) (ts : List Tree) (last : Last) (b : ℕ) (z : List ℕ) → TakesItem last → begins_value b ≡ true → begun < item_limit
    → reading n (within lists begun ts last) (b ∷ z) ≡ reading n (due (ts ∷ lists) (begun + 1)) (b ∷ z)
item_begins n lists begun ts Bracket b z k h r = grind (arith, nat_tests)
item_begins n lists begun ts Item b z k h r = absurd k
item_begins n lists begun ts Comma b z k h r = grind (arith, nat_tests)

pub item_refused : (n : ℕ) (lists : List (List Tree)) (begun : ℕ) (ts : List Tree) (last : Last) (b : ℕ) (z : List ℕ) → TakesItem last → begins_value b ≡ true → item_limit ≤ begun
    → reading n (within lists begun ts last) (b ∷ z) ≡ refused (TooLong n)
item_refused n lists begun ts Bracket b z k h r = grind (arith, nat_tests)
item_refused n lists begun ts Item b z k h r = absurd k
item_refused n lists begun ts Comma b z k h r = grind (arith, nat_tests)

-- the items of a list, and those with one more
pub items_more : (ts : List Tree) (t : Tree) → items_within (of_items (ts ++ t ∷ [])) ≡ items_within (of_items ts) + 1 + items_in t
items_more [] t = omega arith
items_more (u ∷ ts) t = let more = items_more ts t in omega arith

pub depth_more : (ts : List Tree) (t : Tree) → greatest_depth (of_items (ts ++ t ∷ [])) ≡ max (greatest_depth (of_items ts)) (depth_of t)
depth_more [] t = omega arith
depth_more (u ∷ ts) t = let more = depth_more ts t in omega arith

pub numbers_more : (ts : List Tree) (t : Tree) → HaveNumbers (of_items ts) → HasNumbers t → HaveNumbers (of_items (ts ++ t ∷ []))
numbers_more [] t h k = (k, tt)
numbers_more (u ∷ ts) t h k = (h.0, numbers_more ts t h.1 k)

pub numbers_last : (ts : List Tree) (t : Tree) → HaveNumbers (of_items (ts ++ t ∷ [])) → HaveNumbers (of_items ts) × HasNumbers t
numbers_last [] t h = (tt, h.0)
numbers_last (u ∷ ts) t h = let more = numbers_last ts t h.1 in ((h.0, more.0), more.1)

-- what spells a value is read to it where it fits, and else passes a limit
abbrev pub Goes : ℕ → List (List Tree) → ℕ → List ℕ → Tree → List ℕ → Type 0
Goes n lists begun s t rest =
    let all = reading n (due lists begun) (s ++ rest) in
    ((all ≡ behind (n + length s) lists (begun + items_in t) t rest) × Fits lists begun t) ⊎ (IsOver all × (Fits lists begun t → ⊥))

abbrev pub GoesIn : ℕ → List (List Tree) → ℕ → List ℕ → List Tree → Last → List ℕ → Type 0
GoesIn n lists begun s ts last rest =
    let all = reading n (due lists begun) (s ++ rest) in
    ((all ≡ reading (n + length s) (within lists (begun + items_within (of_items ts)) ts last) rest) × Fits lists begun (list (of_items ts))) ⊎ (IsOver all × (Fits lists begun (list (of_items ts)) → ⊥))

-- numbers
number_goes_by : (n m : ℕ) (lists : List (List Tree)) (begun : ℕ) (negative : Bool) (v : ℕ) (s ds rest : List ℕ) → reading n (due lists begun) (s ++ rest) ≡ reading m (in_digits lists begun n negative (signed negative v)) (ds ++ rest)
    → m + length ds ≡ n + length s → EndsNumber rest → begun ≤ item_limit → length lists ≤ value_depth_limit → Read m lists begun n negative v ds rest → Goes n lists begun s (num (signed negative (fold with_digit v ds))) rest
number_goes_by n m lists begun negative v s ds rest here place ends k d (inl r) =
    let all = fold with_digit v ds in
    let none : begun ≡ begun + 0 = omega arith in
    inl (
      here ∙ r.0 ∙ number_ends (m + length ds) lists begun n negative (signed negative all) rest ends ∙ ap (λ p. behind p lists begun (num (signed negative all)) rest) place ∙ ap (λ c. behind (n + length s) lists c (num (signed negative all)) rest) none,
      record { items = omega arith; depth = omega arith; numbers = a_number negative all r.1 },
    )
number_goes_by n m lists begun negative v s ds rest here place ends k d (inr r) = inr (subst IsOver (sym here) r.0, λ f. no_number negative _ r.1 f.numbers)

pub digit_small : (b : ℕ) → is_ascii_digit b ≡ true → with_digit 0 b ≤ number_limit
digit_small b h = grind (arith, nat_tests)

pub digits_start : (n : ℕ) (lists : List (List Tree)) (begun b : ℕ) (z rest : List ℕ) → is_ascii_digit b ≡ true → reading n (due lists begun) (b ∷ (z ++ rest)) ≡ reading (n + 1) (in_digits lists begun n false (pos (with_digit 0 b))) (z ++ rest)
digits_start n lists begun b z rest h =
    let first : b - 48 ≡ with_digit 0 b = omega arith in
    ap (λ x. answered (carried n (due lists begun) x) (λ t. reading (n + 1) t (z ++ rest))) (digit_starts n (length lists) begun b h) ∙ ap (λ v. reading (n + 1) (in_digits lists begun n false (pos v)) (z ++ rest)) first

digits_go : (n : ℕ) (lists : List (List Tree)) (begun : ℕ) (ds rest : List ℕ) → AreDigits ds → EndsNumber rest → begun ≤ item_limit → length lists ≤ value_depth_limit → Goes n lists begun ds (num (pos (decimal_value ds))) rest
digits_go n lists begun [] rest a ends k d = absurd a
digits_go n lists begun (b ∷ z) rest a ends k d =
    number_goes_by n (n + 1) lists begun false (with_digit 0 b) (b ∷ z) z rest (digits_start n lists begun b z rest a.0) (omega arith) ends k d (digits_read z a.1 (n + 1) lists begun n false (with_digit 0 b) rest (digit_small b a.0))

pub minus_start : (n : ℕ) (lists : List (List Tree)) (begun b : ℕ) (z rest : List ℕ) → is_ascii_digit b ≡ true → reading n (due lists begun) (45 ∷ (b ∷ (z ++ rest))) ≡ reading (n + 1) (in_digits lists begun n true (pos 0)) (b ∷ (z ++ rest))
minus_start n lists begun b z rest h =
    sym (ap (λ x. answered (step_behind (n + 1) (in_digits lists begun n true (pos 0)) b x) (λ t. reading ((n + 1) + 1) t (z ++ rest))) (ap (λ c. cond c None (Some (pos 0))) h))

minus_goes : (n : ℕ) (lists : List (List Tree)) (begun : ℕ) (ds rest : List ℕ) → AreDigits ds → EndsNumber rest → begun ≤ item_limit → length lists ≤ value_depth_limit → Goes n lists begun (codes "-" ++ ds) (num (neg_ℤ (pos (decimal_value ds)))) rest
minus_goes n lists begun [] rest a ends k d = absurd a
minus_goes n lists begun (b ∷ z) rest a ends k d =
    number_goes_by n (n + 1) lists begun true 0 (45 ∷ (b ∷ z)) (b ∷ z) rest (minus_start n lists begun b z rest a.0) (omega arith) ends k d (digits_read (b ∷ z) a (n + 1) lists begun n true 0 rest (omega arith))

-- words
word_goes : (n : ℕ) (lists : List (List Tree)) (begun : ℕ) (b : Bool) (rest : List ℕ) → begun ≤ item_limit → length lists ≤ value_depth_limit → Goes n lists begun (spelling b) (truth b) rest
word_goes n lists begun true rest k d =
    let place : (((n + 1) + 1) + 1) + 1 ≡ n + 4 = omega arith in
    let none : begun ≡ begun + 0 = omega arith in
    inl (ap (λ p. behind p lists begun (truth true) rest) place ∙ ap (λ c. behind (n + 4) lists c (truth true) rest) none, record { items = omega arith; depth = omega arith; numbers = tt })
word_goes n lists begun false rest k d =
    let place : ((((n + 1) + 1) + 1) + 1) + 1 ≡ n + 5 = omega arith in
    let none : begun ≡ begun + 0 = omega arith in
    inl (ap (λ p. behind p lists begun (truth false) rest) place ∙ ap (λ c. behind (n + 5) lists c (truth false) rest) none, record { items = omega arith; depth = omega arith; numbers = tt })

-- lists
closes : (n : ℕ) (lists : List (List Tree)) (begun : ℕ) (ts : List Tree) (last : Last) (rest : List ℕ) → CanClose last → reading n (within lists begun ts last) (62 ∷ rest) ≡ behind (n + 1) lists begun (list (of_items ts)) rest
closes n lists begun ts Bracket rest k = refl
closes n lists begun ts Item rest k = refl
closes n lists begun ts Comma rest k = absurd k

closed_goes : (n : ℕ) (lists : List (List Tree)) (begun : ℕ) (s : List ℕ) (ts : List Tree) (last : Last) (rest : List ℕ) → CanClose last → GoesIn n lists begun s ts last (62 ∷ rest) → Goes n lists begun (s ++ codes ">") (list (of_items ts)) rest
closed_goes n lists begun s ts last rest k (inl r) =
    let t : Tree = list (of_items ts) in
    let place : (n + length s) + 1 ≡ n + length (s ++ codes ">") = omega (arith, length-append s (codes ">")) in
    inl (ap (reading n (due lists begun)) (append_assoc s (codes ">") rest) ∙ r.0 ∙ closes (n + length s) lists (begun + items_in t) ts last rest k ∙ ap (λ p. behind p lists (begun + items_in t) t rest) place, r.1)
closed_goes n lists begun s ts last rest k (inr r) = inr (subst IsOver (sym (ap (reading n (due lists begun)) (append_assoc s (codes ">") rest))) r.0, r.1)

bracket_goes : (n : ℕ) (lists : List (List Tree)) (begun : ℕ) (rest : List ℕ) → begun ≤ item_limit → (length lists < value_depth_limit) ⊎ (value_depth_limit ≤ length lists) → GoesIn n lists begun (codes "<") [] Bracket rest
bracket_goes n lists begun rest k (inl d) =
    let none : begun ≡ begun + 0 = omega arith in
    let here : reading n (due lists begun) (60 ∷ rest) ≡ reading (n + 1) (within lists begun [] Bracket) rest = grind (arith, nat_tests) in
    inl (here ∙ ap (λ c. reading (n + 1) (within lists c [] Bracket) rest) none, record { items = omega arith; depth = omega arith; numbers = tt })
bracket_goes n lists begun rest k (inr d) =
    let here : reading n (due lists begun) (60 ∷ rest) ≡ refused (TooDeep n) = grind (arith, nat_tests) in
    inr (subst IsOver (sym here) tt, λ f. absurd (omega (arith, f.depth)))

blank_step : (n : ℕ) (lists : List (List Tree)) (begun : ℕ) (ts : List Tree) (last : Last) (b : ℕ) (rest : List ℕ) → is_value_blank b ≡ true → reading n (within lists begun ts last) (b ∷ rest) ≡ reading (n + 1) (within lists begun ts last) rest
blank_step n lists begun ts last b rest h = grind (arith, nat_tests)

blank_goes : (n : ℕ) (lists : List (List Tree)) (begun : ℕ) (s : List ℕ) (ts : List Tree) (last : Last) (b : ℕ) (rest : List ℕ) → is_value_blank b ≡ true → GoesIn n lists begun s ts last (b ∷ rest) → GoesIn n lists begun (s ++ b ∷ []) ts last rest
blank_goes n lists begun s ts last b rest h (inl r) =
    let c = begun + items_within (of_items ts) in
    let place : (n + length s) + 1 ≡ n + length (s ++ b ∷ []) = omega (arith, length-append s (b ∷ [])) in
    inl (ap (reading n (due lists begun)) (append_assoc s (b ∷ []) rest) ∙ r.0 ∙ blank_step (n + length s) lists c ts last b rest h ∙ ap (λ p. reading p (within lists c ts last) rest) place, r.1)
blank_goes n lists begun s ts last b rest h (inr r) = inr (subst IsOver (sym (ap (reading n (due lists begun)) (append_assoc s (b ∷ []) rest))) r.0, r.1)

comma_goes : (n : ℕ) (lists : List (List Tree)) (begun : ℕ) (s : List ℕ) (ts : List Tree) (rest : List ℕ) → GoesIn n lists begun s ts Item (44 ∷ rest) → GoesIn n lists begun (s ++ codes ",") ts Comma rest
comma_goes n lists begun s ts rest (inl r) =
    let c = begun + items_within (of_items ts) in
    let place : (n + length s) + 1 ≡ n + length (s ++ codes ",") = omega (arith, length-append s (codes ",")) in
    inl (ap (reading n (due lists begun)) (append_assoc s (codes ",") rest) ∙ r.0 ∙ ap (λ p. reading p (within lists c ts Comma) rest) place, r.1)
comma_goes n lists begun s ts rest (inr r) = inr (subst IsOver (sym (ap (reading n (due lists begun)) (append_assoc s (codes ",") rest))) r.0, r.1)

fewer : (lists : List (List Tree)) (begun : ℕ) (ts : List Tree) (t : Tree) → Fits lists begun (list (of_items (ts ++ t ∷ []))) → Fits lists begun (list (of_items ts))
fewer lists begun ts t f = record { items = omega (arith, f.items, items_more ts t); depth = omega (arith, f.depth, depth_more ts t); numbers = (numbers_last ts t f.numbers).0 }

last_fits : (lists : List (List Tree)) (begun : ℕ) (ts : List Tree) (t : Tree) → Fits lists begun (list (of_items (ts ++ t ∷ []))) → Fits (ts ∷ lists) (begun + items_within (of_items ts) + 1) t
last_fits lists begun ts t f = record { items = omega (arith, f.items, items_more ts t); depth = omega (arith, f.depth, depth_more ts t); numbers = (numbers_last ts t f.numbers).1 }

one_more_fits : (lists : List (List Tree)) (begun : ℕ) (ts : List Tree) (t : Tree) → Fits lists begun (list (of_items ts)) → Fits (ts ∷ lists) (begun + items_within (of_items ts) + 1) t → Fits lists begun (list (of_items (ts ++ t ∷ [])))
one_more_fits lists begun ts t f g = record { items = omega (arith, g.items, items_more ts t); depth = omega (arith, f.depth, g.depth, depth_more ts t); numbers = numbers_more ts t f.numbers g.numbers }

-- an item that begins, where there is room for it
item_goes_on : (n : ℕ) (lists : List (List Tree)) (begun : ℕ) (s : List ℕ) (ts : List Tree) (r : List ℕ) (t : Tree) (rest : List ℕ)
    → reading n (due lists begun) ((s ++ r) ++ rest) ≡ reading (n + length s) (due (ts ∷ lists) (begun + items_within (of_items ts) + 1)) (r ++ rest) → Fits lists begun (list (of_items ts))
    → Goes (n + length s) (ts ∷ lists) (begun + items_within (of_items ts) + 1) r t rest → GoesIn n lists begun (s ++ r) (ts ++ t ∷ []) Item rest
item_goes_on n lists begun s ts r t rest here f (inl g) =
    let place : (n + length s) + length r ≡ n + length (s ++ r) = omega (arith, length-append s r) in
    let count : (begun + items_within (of_items ts) + 1) + items_in t ≡ begun + items_within (of_items (ts ++ t ∷ [])) = omega (arith, items_more ts t) in
    inl (
      here ∙ g.0 ∙ ap (λ p. reading p (within lists ((begun + items_within (of_items ts) + 1) + items_in t) (ts ++ t ∷ []) Item) rest) place
          ∙ ap (λ c. reading (n + length (s ++ r)) (within lists c (ts ++ t ∷ []) Item) rest) count,
      one_more_fits lists begun ts t f g.1,
    )
item_goes_on n lists begun s ts r t rest here f (inr g) = inr (subst IsOver (sym here) g.0, λ w. g.1 (last_fits lists begun ts t w))

item_goes_in : (n : ℕ) (lists : List (List Tree)) (begun : ℕ) (s : List ℕ) (ts : List Tree) (last : Last) (r : List ℕ) (t : Tree) (rest : List ℕ) (b : ℕ) (z : List ℕ) → r ≡ b ∷ z → begins_value b ≡ true → TakesItem last
    → reading n (due lists begun) ((s ++ r) ++ rest) ≡ reading (n + length s) (within lists (begun + items_within (of_items ts)) ts last) (r ++ rest) → Fits lists begun (list (of_items ts))
    → (begun + items_within (of_items ts) < item_limit) ⊎ (item_limit ≤ begun + items_within (of_items ts))
    → (begun + items_within (of_items ts) + 1 ≤ item_limit → length (ts ∷ lists) ≤ value_depth_limit → Goes (n + length s) (ts ∷ lists) (begun + items_within (of_items ts) + 1) r t rest) → GoesIn n lists begun (s ++ r) (ts ++ t ∷ []) Item rest
item_goes_in n lists begun s ts last r t rest b z e h k here f (inl room) more =
    let c = begun + items_within (of_items ts) in
    let begins : reading (n + length s) (within lists c ts last) (r ++ rest) ≡ reading (n + length s) (due (ts ∷ lists) (c + 1)) (r ++ rest) =
    ap (λ x. reading (n + length s) (within lists c ts last) (x ++ rest)) e ∙ item_begins (n + length s) lists c ts last b (z ++ rest) k h room ∙ ap (λ x. reading (n + length s) (due (ts ∷ lists) (c + 1)) (x ++ rest)) (sym e) in
    item_goes_on n lists begun s ts r t rest (here ∙ begins) f (more (omega arith) (omega (arith, f.depth)))
item_goes_in n lists begun s ts last r t rest b z e h k here f (inr full) more =
    let c = begun + items_within (of_items ts) in
    let refusal : reading (n + length s) (within lists c ts last) (r ++ rest) ≡ refused (TooLong (n + length s)) =
    ap (λ x. reading (n + length s) (within lists c ts last) (x ++ rest)) e ∙ item_refused (n + length s) lists c ts last b (z ++ rest) k h full in
    inr (subst IsOver (sym (here ∙ refusal)) tt, λ w. absurd (omega (arith, w.items, items_more ts t)))

item_goes : (n : ℕ) (lists : List (List Tree)) (begun : ℕ) (s : List ℕ) (ts : List Tree) (last : Last) (r : List ℕ) (t : Tree) (rest : List ℕ) → Spells r t → TakesItem last → GoesIn n lists begun s ts last (r ++ rest)
    → (begun + items_within (of_items ts) + 1 ≤ item_limit → length (ts ∷ lists) ≤ value_depth_limit → Goes (n + length s) (ts ∷ lists) (begun + items_within (of_items ts) + 1) r t rest) → GoesIn n lists begun (s ++ r) (ts ++ t ∷ []) Item rest
item_goes n lists begun s ts last r t rest h k (inl q) more =
    let f = first_byte h in
    item_goes_in n lists begun s ts last r t rest f.0 f.1 f.2 f.3 k (ap (reading n (due lists begun)) (append_assoc s r rest) ∙ q.0) q.1 (cases_lt (begun + items_within (of_items ts)) item_limit) more
item_goes n lists begun s ts last r t rest h k (inr q) more = inr (subst IsOver (sym (ap (reading n (due lists begun)) (append_assoc s r rest))) q.0, λ w. q.1 (fewer lists begun ts t w))

follows : (t : Tree) (rest : List ℕ) → EndsNumber rest → CannotContinue t rest
follows (num n) rest e = e
follows (truth b) rest e = tt
follows (list ts) rest e = tt

no_digit_first : (last : Last) (b : ℕ) (rest : List ℕ) → is_ascii_digit b ≡ false → FollowsPart last (b ∷ rest)
no_digit_first Bracket b rest e = tt
no_digit_first Item b rest e = e
no_digit_first Comma b rest e = tt

any_first : (last : Last) (rest : List ℕ) → TakesItem last → FollowsPart last rest
any_first Bracket rest k = tt
any_first Item rest k = absurd k
any_first Comma rest k = tt

blank_is_no_digit : (b : ℕ) → is_value_blank b ≡ true → is_ascii_digit b ≡ false
blank_is_no_digit b h = grind (arith, nat_tests)

mutual
  pub value_goes : {s : List ℕ} {t : Tree} → Spells s t → (n : ℕ) (lists : List (List Tree)) (begun : ℕ) (rest : List ℕ) → CannotContinue t rest → begun ≤ item_limit → length lists ≤ value_depth_limit → Goes n lists begun s t rest
  value_goes (digits ds a) n lists begun rest f k d = digits_go n lists begun ds rest a f k d
  value_goes (minus ds a) n lists begun rest f k d = minus_goes n lists begun ds rest a f k d
  value_goes (word b) n lists begun rest f k d = word_goes n lists begun b rest k d
  value_goes (closed s ts last u c) n lists begun rest f k d = closed_goes n lists begun s ts last rest c (list_goes u n lists begun (62 ∷ rest) (no_digit_first last 62 rest refl) k d)

  list_goes : {s : List ℕ} {ts : List Tree} {last : Last} → Unfinished s ts last → (n : ℕ) (lists : List (List Tree)) (begun : ℕ) (rest : List ℕ) → FollowsPart last rest → begun ≤ item_limit → length lists ≤ value_depth_limit → GoesIn n lists begun s ts last rest
  list_goes bracket n lists begun rest f k d = bracket_goes n lists begun rest k (cases_lt (length lists) value_depth_limit)
  list_goes (blank s ts last b u e) n lists begun rest f k d = blank_goes n lists begun s ts last b rest e (list_goes u n lists begun (b ∷ rest) (no_digit_first last b rest (blank_is_no_digit b e)) k d)
  list_goes (item s ts last r t u c h) n lists begun rest f k d =
      item_goes n lists begun s ts last r t rest h c (list_goes u n lists begun (r ++ rest) (any_first last (r ++ rest) c) k d)
      (λ room depth. value_goes h (n + length s) (ts ∷ lists) (begun + items_within (of_items ts) + 1) rest (follows t rest f) room depth)
  list_goes (comma s ts u) n lists begun rest f k d = comma_goes n lists begun s ts rest (list_goes u n lists begun (44 ∷ rest) refl k d)
