-- Places behind bytes that end no line.
use Rattle.std.proofs.Common.{refl, ap, sym, subst, ◌∙◌, ◌≡◌, ℕ, suc, ◌+◌, ◌≤◌, ◌==◌, Bool, true, false, cond, List, [], ◌∷◌, length, take, count_by, arith, inl, inr, ◌-◌, ◌<◌, ◌≢◌, length-drop, length-take-le, drop, slice_index}
use Rattle.std.specs.List.{prefix_len}
use Rattle.std.proofs.lemmas.Bool.Decides.{nat_tests}
use Rattle.std.proofs.lemmas.Bool.{cases_lt}
use Rattle.std.proofs.lemmas.List.{take_at, drop_more, take-append-drop}
use Rattle.std.proofs.lemmas.List.Sums.{sum_by-append, fold-append}
use Rattle.tp_lex.specs.declared.token.TextPlace.{TextPlace}
use Rattle.tp_lex.specs.declared.token.Kind.{Kind}
use Rattle.tp_lex.specs.declared.token.Symbol.{Symbol}
use Rattle.tp_lex.specs.declared.token.Symbol.TheVariants as s
use Rattle.tp_lex.specs.declared.piece.Piece.TheVariants.{Lexeme}
use Rattle.tp_lex.specs.Bytes.{is_name_byte, is_digit}
use Rattle.tp_lex.specs.Spelling.{symbol_spelling}
use Rattle.tp_lex.specs.Pieces.{BeginsPiece, word, upper, lower, number, symbol}
use Rattle.tp_lex.specs.Place.{place_after, place_from}
use Rattle.tp_lex.specs.Line.{EndsNoLine, place_along}

same_place : (p q : TextPlace) → p.at ≡ q.at → p.line ≡ q.line → p.column ≡ q.column → p ≡ q
same_place p q a l c =
    let one : p ≡ record { at = q.at; line = p.line; column = p.column } = ap (λ (n : ℕ). record { at = n; line = p.line; column = p.column }) a in
    let two : record { at = q.at; line = p.line; column = p.column } ≡ record { at = q.at; line = q.line; column = p.column } = ap (λ (n : ℕ). record { at = q.at; line = n; column = p.column }) l in
    let three : record { at = q.at; line = q.line; column = p.column } ≡ q = ap (λ (n : ℕ). record { at = q.at; line = q.line; column = n }) c in
    one ∙ (two ∙ three)

pub along_line : (p : TextPlace) (z : List ℕ) → EndsNoLine z → place_from p z ≡ place_along p (length z)
along_line p [] one = same_place p (place_along p 0) (omega arith) refl (omega arith)
along_line p (b ∷ z) one =
    let next : TextPlace = record { at = p.at + 1; line = p.line; column = p.column + 1 } in
    let first : place_after p b ≡ next = ap (λ (t : Bool). cond t (record { at = p.at + 1; line = p.line + 1; column = 1 }) next) one.0 in
    ap (λ (q : TextPlace). place_from q z) first ∙ (along_line next z one.1
    ∙ same_place (place_along next (length z)) (place_along p (suc (length z))) (omega arith) refl (omega arith))

none_counted : (b : ℕ) (z : List ℕ) (t : Bool) → (b == 10) ≡ t → (0 + cond t 1 0) + count_by (λ x. x == 10) z ≡ 0 → (count_by (λ x. x == 10) z ≡ 0 → EndsNoLine z) → EndsNoLine (b ∷ z)
none_counted b z true e none below = absurd (omega arith)
none_counted b z false e none below = (e, below (omega arith))

-- with no line feed there is one line
pub line_counted : (z : List ℕ) → count_by (λ x. x == 10) z ≡ 0 → EndsNoLine z
line_counted [] none = tt
line_counted (b ∷ z) none =
    none_counted b z (b == 10) refl (sym (sum_by-append (λ x. cond (x == 10) 1 0) (b ∷ []) z) ∙ none) (line_counted z)

one_counted : (b : ℕ) (z : List ℕ) (t : Bool) → (b == 10) ≡ t → t ≡ false → count_by (λ x. x == 10) z ≡ 0 → (0 + cond t 1 0) + count_by (λ x. x == 10) z ≡ 0
one_counted b z true e other none = absurd cc
one_counted b z false e other none = omega (arith, none)

-- one line has no line feed
line_none : (z : List ℕ) → EndsNoLine z → count_by (λ x. x == 10) z ≡ 0
line_none [] one = refl
line_none (b ∷ z) one = sum_by-append (λ x. cond (x == 10) 1 0) (b ∷ []) z ∙ one_counted b z (b == 10) refl one.0 (line_none z one.1)

counted_at : (p : TextPlace) (b : ℕ) (z : List ℕ) (t : Bool) → (q : TextPlace) → q ≡ cond t (record { at = p.at + 1; line = p.line + 1; column = 1 }) (record { at = p.at + 1; line = p.line; column = p.column + 1 })
    → (place_from q z).at ≡ q.at + length z → (place_from q z).line ≡ q.line + count_by (λ x. x == 10) z
    → ((place_from q z).at ≡ p.at + suc (length z)) × ((place_from q z).line ≡ p.line + ((0 + cond t 1 0) + count_by (λ x. x == 10) z))
counted_at p b z true q e at line = let a = ap (λ (x : TextPlace). x.at) e in let l = ap (λ (x : TextPlace). x.line) e in (omega (arith, a, at), omega (arith, l, line))
counted_at p b z false q e at line = let a = ap (λ (x : TextPlace). x.at) e in let l = ap (λ (x : TextPlace). x.line) e in (omega (arith, a, at), omega (arith, l, line))

-- each byte counts, and each line feed
counted : (p : TextPlace) (z : List ℕ) → ((place_from p z).at ≡ p.at + length z) × ((place_from p z).line ≡ p.line + count_by (λ x. x == 10) z)
counted p [] = (omega arith, omega arith)
counted p (b ∷ z) =
    let below = counted (place_after p b) z in
    let parts = counted_at p b z (b == 10) (place_after p b) refl below.0 below.1 in
    (parts.0, parts.1 ∙ ap (λ (n : ℕ). p.line + n) (sym (sum_by-append (λ x. cond (x == 10) 1 0) (b ∷ []) z)))

-- where a line feed is counted, the last line isn't all
pub line_shorter : (z : List ℕ) (r : ℕ) → r ≤ length z → EndsNoLine (drop (length z - r) z) → count_by (λ x. x == 10) z ≢ 0 → r < length z
line_shorter z r within one some = elim (cases_lt r (length z)) [
  | inl less ↦ less
  | inr more ↦
      let nothing : length z - r ≡ 0 = omega (arith, within, more) in
      absurd (some (line_none z (subst (λ (n : ℕ). EndsNoLine (drop n z)) nothing one)))
]

-- the place behind bytes with a line feed
pub behind_lines : (p : TextPlace) (z : List ℕ) (r : ℕ) → r < length z → EndsNoLine (drop (length z - r) z) → slice_index z (length z - r - 1) ≡ 10
    → record { at = p.at + length z; line = p.line + count_by (λ x. x == 10) z; column = 1 + r } ≡ place_from p z
behind_lines p z r less one feed =
    let i : ℕ = length z - r - 1 in
    let q : TextPlace = place_from p (take i z) in
    let next : TextPlace = record { at = q.at + 1; line = q.line + 1; column = 1 } in
    let inside : i < length z = omega (arith, less) in
    let later : i + 1 ≡ length z - r = omega (arith, less) in
    let last : EndsNoLine (drop (i + 1) z) = subst (λ (n : ℕ). EndsNoLine (drop n z)) (sym later) one in
    let cut : drop i z ≡ 10 ∷ drop (i + 1) z = drop_more z i 0 inside ∙ ap (λ b. b ∷ drop (i + 1) z) feed in
    let whole : place_from p z ≡ place_from q (drop i z) = ap (place_from p) (sym (take-append-drop i z)) ∙ fold-append place_after p (take i z) (drop i z) in
    let along : place_from p z ≡ place_along next (length (drop (i + 1) z)) = whole ∙ (ap (place_from q) cut ∙ along_line next (drop (i + 1) z) last) in
    let left : length (drop (i + 1) z) ≡ r = omega (arith, length-drop (i + 1) z, less) in
    let column : (place_from p z).column ≡ 1 + r = ap (λ (x : TextPlace). x.column) along ∙ ap (λ (n : ℕ). 1 + n) left in
    let parts = counted p z in
    same_place (record { at = p.at + length z; line = p.line + count_by (λ x. x == 10) z; column = 1 + r }) (place_from p z) (sym parts.0) (sym parts.1) (sym column)

pub line_before : (z : List ℕ) (from : ℕ) → from ≤ length z → 0 < from → EndsNoLine (drop from z) → (slice_index z (from - 1) == 10) ≡ false → EndsNoLine (drop (from - 1) z)
line_before z from within some one other =
    let later : from - 1 + 1 ≡ from = omega (arith, some) in
    subst EndsNoLine (sym (drop_more z (from - 1) 0 (omega (arith, within, some)))) (other, subst (λ (n : ℕ). EndsNoLine (drop n z)) (sym later) one)

-- bytes that are no line feeds
abbrev NoFeeds : (ℕ → Bool) → Type 0
NoFeeds p = (b : ℕ) → p b ≡ true → (b == 10) ≡ false

run_at : (p : ℕ → Bool) (b : ℕ) (z : List ℕ) (t : Bool) → p b ≡ t → NoFeeds p → EndsNoLine (take (prefix_len p z) z) → EndsNoLine (take (cond t (1 + prefix_len p z) 0) (b ∷ z))
run_at p b z true e never below =
    let one : suc (prefix_len p z) ≡ 1 + prefix_len p z = omega arith in
    subst (λ (n : ℕ). EndsNoLine (take n (b ∷ z))) one (never b e, below)
run_at p b z false e never below = tt

run_line : (p : ℕ → Bool) → NoFeeds p → (z : List ℕ) → EndsNoLine (take (prefix_len p z) z)
run_line p never [] = tt
run_line p never (b ∷ z) = run_at p b z (p b) refl never (run_line p never z)

front_line : (p : ℕ → Bool) (z : List ℕ) (n : ℕ) → NoFeeds p → n ≡ prefix_len p z → EndsNoLine (take n z)
front_line p z n never longest = subst (λ (m : ℕ). EndsNoLine (take m z)) (sym longest) (run_line p never z)

name_feeds : NoFeeds is_name_byte
name_feeds b e = grind (arith, nat_tests)

digit_feeds : NoFeeds is_digit
digit_feeds b e = grind (arith, nat_tests)

symbol_line : (x : Symbol) → EndsNoLine (symbol_spelling x)
symbol_line s.LessEqual = (refl, (refl, tt))
symbol_line s.GreaterEqual = (refl, (refl, tt))
symbol_line s.Differs = (refl, (refl, tt))
symbol_line s.Becomes = (refl, (refl, tt))
symbol_line s.Arrow = (refl, (refl, tt))
symbol_line _ = (refl, tt)

-- a token is within a line
pub lexeme_line : (z : List ℕ) (kind : Kind) (n : ℕ) → BeginsPiece z (Lexeme kind n) → EndsNoLine (take n z)
lexeme_line z _ n (word is e) = front_line is_name_byte z n name_feeds is.longest
lexeme_line z _ n (upper is low never u) = front_line is_name_byte z n name_feeds is.longest
lexeme_line z _ n (lower is low never u) = front_line is_name_byte z n name_feeds is.longest
lexeme_line z _ n (number are low) = front_line is_digit z n digit_feeds are.longest
lexeme_line z _ _ (symbol {s = x} is) =
    let front : take (length (symbol_spelling x)) z ≡ symbol_spelling x = ap (take (length (symbol_spelling x))) is.stands.1 ∙ take_at (symbol_spelling x) is.stands.0 (length (symbol_spelling x)) refl in
    subst EndsNoLine (sym front) (symbol_line x)

-- the place follows the bytes behind another
pub record Follows (p : TextPlace) (z : List ℕ) (q : TextPlace) : Type 0 where
  pub place : q ≡ place_from p z
  pub at : q.at ≡ p.at + length z
  pub line : q.line ≤ q.at + 1
  pub column : q.column ≤ q.at + 1

pub followed : (p : TextPlace) (rest : List ℕ) (n m : ℕ) (q r : TextPlace) → n ≡ m → q ≡ r → Follows p (take m rest) r → Follows p (take n rest) q
followed p rest n m q r e f is = subst (λ (x : TextPlace). Follows p (take n rest) x) (sym f) (subst (λ (k : ℕ). Follows p (take k rest) r) (sym e) is)

along_follows : (p : TextPlace) (rest : List ℕ) (n : ℕ) → n ≤ length rest → EndsNoLine (take n rest) → p.line ≤ p.at + 1 → p.column ≤ p.at + 1 → Follows p (take n rest) (place_along p n)
along_follows p rest n low one line column =
    let count : length (take n rest) ≡ n = length-take-le n rest low in
    record { place = ap (place_along p) (sym count) ∙ sym (along_line p (take n rest) one); at = omega (arith, count); line = omega arith; column = omega arith }

pub follows_along : (p : TextPlace) (rest : List ℕ) (n : ℕ) (q : TextPlace) → n ≤ length rest → EndsNoLine (take n rest) → p.line ≤ p.at + 1 → p.column ≤ p.at + 1 → q ≡ place_along p n → Follows p (take n rest) q
follows_along p rest n q low one line column e = subst (λ (x : TextPlace). Follows p (take n rest) x) (sym e) (along_follows p rest n low one line column)
