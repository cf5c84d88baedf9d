-- What is written spells its value.
use Rattle.std.proofs.Common.{◌≡◌, ℕ, suc, ◌+◌, ◌/◌, ◌%◌, ◌<◌, ◌≤◌, ◌^◌, ℤ, pos, negsuc, neg_ℤ, true, false, List, [], ◌∷◌, ◌++◌, refl, sym, ap, ◌∙◌, subst, arith, append_assoc}
use Rattle.std.specs.Prelude.{codes}
use Rattle.std.specs.Fmt.{decimal, signed_decimal}
use Rattle.std.specs.Char.{is_ascii_digit}
use Rattle.std.proofs.lemmas.Bool.Decides.{nat_tests}
use Rattle.std.proofs.lemmas.Fmt.{decimal_by_steps_wide}
use Rattle.std.proofs.lemmas.List.{append-nil}
use Rattle.tp_value.specs.declared.phase.Last.TheVariants.{Bracket, Item, Comma}
use Rattle.tp_value.specs.Number.{IsNumber}
use Rattle.tp_value.specs.Tree.{Tree, Trees, num, truth, list, nil, cons, items_of, of_items}
use Rattle.tp_value.specs.Limits.{HasNumbers, HaveNumbers}
use Rattle.tp_value.specs.Spelling.{AreDigits, decimal_value, Spells, digits, minus, word, closed, Unfinished, bracket, item, comma}
use Rattle.tp_value.specs.Written.{text_of, later_text}
use Rattle.tp_value.proofs.ToldWithin.{more_digits, value_more, all_digits}

-- these digits are those of the number
abbrev pub Writes : ℕ → List ℕ → Type 0
Writes n ds = AreDigits ds × (decimal_value ds ≡ n)

digit_byte : (d : ℕ) → d < 10 → is_ascii_digit (48 + d) ≡ true
digit_byte d h = grind (arith, nat_tests)

one_digit : (n : ℕ) → n < 10 → Writes n ((48 + n) ∷ [])
one_digit n h = ((digit_byte n h, tt), omega arith)

digit_more : (n : ℕ) (ds : List ℕ) → 10 ≤ n → Writes (n / 10) ds → Writes n (ds ++ (48 + n % 10) ∷ [])
digit_more n ds h w =
    let last : n % 10 < 10 = omega arith in
    (more_digits ds (48 + n % 10) (all_digits ds w.0) (digit_byte (n % 10) last), value_more ds (48 + n % 10) ∙ omega (arith, w.1))

pub decimal_written : (n : ℕ) → n < 10 ^ 64 → Writes n (decimal n)
decimal_written n h = decimal_by_steps_wide Writes one_digit digit_more n h

positive_spelled : (n : ℕ) → n < 10 ^ 64 → Spells (decimal n) (num (pos n))
positive_spelled n h = let w = decimal_written n h in subst (λ (m : ℕ). Spells (decimal n) (num (pos m))) w.1 (digits (decimal n) w.0)

negative_spelled : (n : ℕ) → n < 10 ^ 64 → Spells (45 ∷ decimal n) (num (neg_ℤ (pos n)))
negative_spelled n h = let w = decimal_written n h in subst (λ (m : ℕ). Spells (45 ∷ decimal n) (num (neg_ℤ (pos m)))) w.1 (minus (decimal n) w.0)

number_spelled : (n : ℤ) → IsNumber n → Spells (signed_decimal n) (num n)
number_spelled (pos n) h = positive_spelled n (grind (arith, nat_tests))
number_spelled (negsuc n) h = negative_spelled (suc n) (grind (arith, nat_tests))

of_items-items_of : (ts : Trees) → of_items (items_of ts) ≡ ts
of_items-items_of nil = refl
of_items-items_of (cons t ts) = ap (cons t) (of_items-items_of ts)

finish : (t : Tree) (ts : Trees) → Unfinished ((codes "<" ++ text_of t) ++ later_text ts) ((t ∷ []) ++ items_of ts) Item → Spells (codes "<" ++ ((text_of t ++ later_text ts) ++ codes ">")) (list (cons t ts))
finish t ts u =
    let whole = closed _ _ Item u tt in
    let shape : ((codes "<" ++ text_of t) ++ later_text ts) ++ codes ">" ≡ codes "<" ++ ((text_of t ++ later_text ts) ++ codes ">") = simp append_assoc in
    subst (λ (us : Trees). Spells (codes "<" ++ ((text_of t ++ later_text ts) ++ codes ">")) (list (cons t us))) (of_items-items_of ts)
    (subst (λ (z : List ℕ). Spells z (list (cons t (of_items (items_of ts))))) shape whole)

mutual
  pub text_spelled : (t : Tree) → HasNumbers t → Spells (text_of t) t
  text_spelled (num n) h = number_spelled n h
  text_spelled (truth true) h = word true
  text_spelled (truth false) h = word false
  text_spelled (list nil) h = closed (codes "<") [] Bracket bracket tt
  text_spelled (list (cons t ts)) h = finish t ts (later_spelled ts h.1 (codes "<" ++ text_of t) (t ∷ []) (item (codes "<") [] Bracket (text_of t) t bracket tt (text_spelled t h.0)))

  later_spelled : (ts : Trees) → HaveNumbers ts → (s : List ℕ) (us : List Tree) → Unfinished s us Item → Unfinished (s ++ later_text ts) (us ++ items_of ts) Item
  later_spelled nil h s us u = subst (λ (vs : List Tree). Unfinished (s ++ []) vs Item) (sym (append-nil us)) (subst (λ (z : List ℕ). Unfinished z us Item) (sym (append-nil s)) u)
  later_spelled (cons t ts) h s us u =
      let next = later_spelled ts h.1 ((s ++ codes ",") ++ text_of t) (us ++ t ∷ []) (item (s ++ codes ",") us Comma (text_of t) t (comma s us u) tt (text_spelled t h.0)) in
      let shape : ((s ++ codes ",") ++ text_of t) ++ later_text ts ≡ s ++ (codes "," ++ (text_of t ++ later_text ts)) = simp append_assoc in
      subst (λ (vs : List Tree). Unfinished (s ++ (codes "," ++ (text_of t ++ later_text ts))) vs Item) (append_assoc us (t ∷ []) (items_of ts))
      (subst (λ (z : List ℕ). Unfinished z ((us ++ t ∷ []) ++ items_of ts) Item) shape next)
