-- The function that finds the first piece answers the one piece that the text begins with.
use Rattle.std.proofs.Common.{refl, ap, sym, subst, ◌∙◌, ◌≡◌, ◌≢◌, ℕ, pos, zero, suc, ◌+◌, ◌<◌, ◌≤◌, Bool, true, false, cond, List, [], ◌∷◌, ◌++◌, length, slice_index, take, drop, nat_eq, nat_le, Option, Some, None, arith, codes, length-drop, length-append, length-take-le}
use Rattle.std.specs.Option.{option_map}
use Rattle.std.specs.List.{starts_with, prefix_len}
use Rattle.std.specs.Char.{is_ascii_alphabetic, is_ascii_uppercase}
use Rattle.std.proofs.lemmas.Bool.Decides.{nat_tests}
use Rattle.std.proofs.lemmas.List.Sums.{prefix_len-le-length}
use Rattle.tp_value.specs.Number.{number_limit}
use Rattle.tp_lex.specs.declared.token.Word.{Word}
use Rattle.tp_lex.specs.declared.token.Symbol.{Symbol}
use Rattle.tp_lex.specs.declared.token.Kind.{Kind}
use Rattle.tp_lex.specs.declared.token.Kind.TheVariants as k
use Rattle.tp_lex.specs.declared.piece.Fault.TheVariants.{BadByte, NameTooLong}
use Rattle.tp_lex.specs.declared.piece.Piece.{Piece}
use Rattle.tp_lex.specs.declared.piece.Piece.TheVariants.{Gap, Lexeme, Refused}
use Rattle.tp_lex.specs.Spelling.{word_spelling, symbol_spelling}
use Rattle.tp_lex.specs.Spelled.{spelled_word, longest_symbol}
use Rattle.tp_lex.specs.First as f
use Rattle.tp_lex.specs.First.{first_close, first_piece}
use Rattle.tp_lex.specs.Bytes.{is_blank, is_name_byte, is_digit, spelled_value, name_limit}
use Rattle.tp_lex.specs.Pieces.{Opens, ClosesAt, IsName, AreLeadingDigits, IsLongestSymbol, IsBad, BeginsPiece, blank, comment, word, upper, lower, number, symbol, bad_byte, open_comment, large_number, long_name}
use Rattle.tp_lex.proofs.Lists.{begins_from, starts_from, no_start, starts_not}
use Rattle.tp_lex.proofs.SpellingLemmas.{word_is, word_from, no_word, word_none, upper_no_word, longest_is, longest_from, no_symbol, symbol_none, symbol_byte, some, word_short}

-- ---- where a comment closes

-- what `first_close` found
abbrev pub FindsClose : List ℕ → Option ℕ → Type 0
FindsClose z (Some n) = ClosesAt z n × ((m : ℕ) → m < n → ¬ ClosesAt z m)
FindsClose z None = (n : ℕ) → ¬ ClosesAt z n

-- one byte further on
close_later : (b : ℕ) (z : List ℕ) (found : Option ℕ) → ¬ ClosesAt (b ∷ z) 0 → FindsClose z found → FindsClose (b ∷ z) (option_map suc found)
close_later b z (Some n) never is = (is.0, before)
  where
    before : (m : ℕ) → m < suc n → ¬ ClosesAt (b ∷ z) m
    before zero h c = never c
    before (suc m) h c = is.1 m (omega arith) c
close_later b z None never is = nowhere
  where
    nowhere : (m : ℕ) → ¬ ClosesAt (b ∷ z) m
    nowhere zero c = never c
    nowhere (suc m) c = is m c

close_at : (b : ℕ) (z : List ℕ) (stands : Bool) → starts_with nat_eq (b ∷ z) (codes "*/") ≡ stands → FindsClose z (first_close z) → FindsClose (b ∷ z) (cond stands (Some 0) (option_map suc (first_close z)))
close_at b z true e below = (begins_from (b ∷ z) (codes "*/") e, λ m h c. absurd (omega arith))
close_at b z false e below = close_later b z (first_close z) (no_start (b ∷ z) (codes "*/") e) below

drop_nothing : (n : ℕ) → drop {A = ℕ} n [] ≡ []
drop_nothing zero = refl
drop_nothing (suc n) = refl

pub close_is : (z : List ℕ) → FindsClose z (first_close z)
close_is [] = λ n c. let none = drop_nothing n in let e = c.1 in absurd cc
close_is (b ∷ z) = close_at b z (starts_with nat_eq (b ∷ z) (codes "*/")) refl (close_is z)

-- there is one first close
close_one : (z : List ℕ) (n : ℕ) (found : Option ℕ) → FindsClose z found → ClosesAt z n → ((m : ℕ) → m < n → ¬ ClosesAt z m) → found ≡ Some n
close_one z n None is here before = absurd (is n here)
close_one z n (Some m) is here before =
    let not_less : m < n → ⊥ = λ h. before m h is.0 in
    let not_more : n < m → ⊥ = λ h. is.1 n h here in
    let same : m ≡ n = omega arith in
    ap Some same

pub close_from : (z : List ℕ) (n : ℕ) → ClosesAt z n → ((m : ℕ) → m < n → ¬ ClosesAt z m) → first_close z ≡ Some n
close_from z n here before = close_one z n (first_close z) (close_is z) here before

close_never : (z : List ℕ) (found : Option ℕ) → FindsClose z found → ((n : ℕ) → ¬ ClosesAt z n) → found ≡ None
close_never z None is nowhere = refl
close_never z (Some n) is nowhere = absurd (nowhere n is.0)

pub close_none : (z : List ℕ) → ((n : ℕ) → ¬ ClosesAt z n) → first_close z ≡ None
close_none z nowhere = close_never z (first_close z) (close_is z) nowhere

-- ---- the function answers a piece that the text begins with

name_begins_named : (z : List ℕ) (n : ℕ) → IsName z n → n ≤ name_limit → (spelled : Option Word) → spelled_word (take n z) ≡ spelled → BeginsPiece z (f.word_piece spelled n z)
name_begins_named z n is low (Some w) e = word is (word_is (take n z) w e)
name_begins_named z n is low None e = at (is_ascii_uppercase (slice_index z 0)) refl
  where
    at : (b : Bool) → is_ascii_uppercase (slice_index z 0) ≡ b → BeginsPiece z (Lexeme (cond b (k.Upper (take n z)) (k.Lower (take n z))) n)
    at true u = upper is low (no_word (take n z) e) u
    at false u = lower is low (no_word (take n z) e) u

name_begins : (z : List ℕ) → is_ascii_alphabetic (slice_index z 0) ≡ true → BeginsPiece z (f.name_piece z)
unfolding f.name_piece
name_begins z letter = at (nat_le n name_limit) refl
  where
    n : ℕ
    n = prefix_len is_name_byte z

    is : IsName z n
    is = record { letter = letter; longest = refl }

    at : (b : Bool) → nat_le n name_limit ≡ b → BeginsPiece z (cond b (f.word_piece (spelled_word (take n z)) n z) (Refused NameTooLong))
    at true e = name_begins_named z n is (grind (arith, nat_tests)) (spelled_word (take n z)) refl
    at false e = long_name is (grind (arith, nat_tests))

number_begins : (z : List ℕ) → is_digit (slice_index z 0) ≡ true → BeginsPiece z (f.number_piece z)
unfolding f.number_piece
number_begins z digit = at (nat_le (spelled_value (take n z)) number_limit) refl
  where
    n : ℕ
    n = prefix_len is_digit z

    are : AreLeadingDigits z n
    are = record { digit = digit; longest = refl }

    at : (b : Bool) → nat_le (spelled_value (take n z)) number_limit ≡ b → BeginsPiece z (f.numbered_piece n (cond b (Some (pos (spelled_value (take n z)))) None))
    at true e = number are (grind (arith, nat_tests))
    at false e = large_number are (grind (arith, nat_tests))

comment_begins : (z : List ℕ) → Opens z → BeginsPiece z (f.comment z)
unfolding f.comment
comment_begins z opens = at (first_close (drop 2 z)) (close_is (drop 2 z))
  where
    at : (found : Option ℕ) → FindsClose (drop 2 z) found → BeginsPiece z (f.comment_piece found)
    at (Some n) is = comment opens is.0 is.1
    at None is = open_comment opens is

symbol_begins : (z : List ℕ) → (longest_symbol z ≡ None → IsBad z) → BeginsPiece z (f.symbol z)
unfolding f.symbol
symbol_begins z bad = at (longest_symbol z) refl
  where
    at : (o : Option Symbol) → longest_symbol z ≡ o → BeginsPiece z (f.symbol_piece o)
    at (Some s) e = symbol (longest_is z s e)
    at None e = bad_byte (bad e)

filled : (z : List ℕ) → z ≢ [] → 0 < length z
filled [] full = absurd (full refl)
filled (b ∷ z) full = omega arith

begins_by : (z : List ℕ) → z ≢ [] → (b1 b2 b3 b4 : Bool) → is_blank (slice_index z 0) ≡ b1 → is_ascii_alphabetic (slice_index z 0) ≡ b2 → is_digit (slice_index z 0) ≡ b3
    → starts_with nat_eq z (codes "/*") ≡ b4 → BeginsPiece z (cond b1 (Gap 1) (cond b2 (f.name_piece z) (cond b3 (f.number_piece z) (cond b4 (f.comment z) (f.symbol z)))))
begins_by z full true b2 b3 b4 e1 e2 e3 e4 = blank e1
begins_by z full false true b3 b4 e1 e2 e3 e4 = name_begins z e2
begins_by z full false false true b4 e1 e2 e3 e4 = number_begins z e3
begins_by z full false false false true e1 e2 e3 e4 = comment_begins z (begins_from z (codes "/*") e4)
begins_by z full false false false false e1 e2 e3 e4 =
    symbol_begins z (λ none. record { some = filled z full; no_blank = e1; no_letter = e2; no_digit = e3; no_comment = no_start z (codes "/*") e4; no_symbol = no_symbol z none })

pub piece_is : (z : List ℕ) → z ≢ [] → BeginsPiece z (first_piece z)
unfolding first_piece
piece_is z full = begins_by z full _ _ _ _ refl refl refl refl

-- ---- and no other

letter_no_blank : (b : ℕ) → is_ascii_alphabetic b ≡ true → is_blank b ≡ false
letter_no_blank b e = grind (arith, nat_tests)

digit_no_blank : (b : ℕ) → is_digit b ≡ true → is_blank b ≡ false
digit_no_blank b e = grind (arith, nat_tests)

digit_no_letter : (b : ℕ) → is_digit b ≡ true → is_ascii_alphabetic b ≡ false
digit_no_letter b e = grind (arith, nat_tests)

letter_name : (b : ℕ) → is_ascii_alphabetic b ≡ true → is_name_byte b ≡ true
letter_name b e = grind (arith, nat_tests)

opens_bytes : (z : List ℕ) → Opens z → (is_blank (slice_index z 0) ≡ false) × (is_ascii_alphabetic (slice_index z 0) ≡ false) × (is_digit (slice_index z 0) ≡ false)
opens_bytes z (rest, e) = rw e (refl, refl, refl)

name_piece : (z : List ℕ) (n : ℕ) → IsName z n → first_piece z ≡ f.name_of_len n z
unfolding first_piece f.name_piece
name_piece z n is = rw (letter_no_blank (slice_index z 0) is.letter, is.letter) (ap (λ m. f.name_of_len m z) (sym is.longest))

number_piece : (z : List ℕ) (n : ℕ) → AreLeadingDigits z n → first_piece z ≡ f.number_of_len n z
unfolding first_piece f.number_piece
number_piece z n are = rw (digit_no_blank (slice_index z 0) are.digit, digit_no_letter (slice_index z 0) are.digit, are.digit) (ap (λ m. f.number_of_len m z) (sym are.longest))

comment_piece : (z : List ℕ) → Opens z → first_piece z ≡ f.comment_piece (first_close (drop 2 z))
unfolding first_piece f.comment
comment_piece z opens = let bytes = opens_bytes z opens in rw (bytes.0, bytes.1, bytes.2, starts_from z (codes "/*") opens) refl

symbol_piece : (z : List ℕ) (s : Symbol) → IsLongestSymbol z s → first_piece z ≡ Lexeme (k.Symbol s) (length (symbol_spelling s))
unfolding first_piece f.symbol
symbol_piece z s is =
    let bytes = symbol_byte s is.stands.0 in
    let e : z ≡ symbol_spelling s ++ is.stands.0 = is.stands.1 in
    let here : (is_blank (slice_index z 0) ≡ false) × (is_ascii_alphabetic (slice_index z 0) ≡ false) × (is_digit (slice_index z 0) ≡ false) × (starts_with nat_eq z (codes "/*") ≡ false) = rw e bytes in
    rw (here.0, here.1, here.2, here.3, longest_from z s is) refl

blank_piece : (z : List ℕ) → is_blank (slice_index z 0) ≡ true → first_piece z ≡ Gap 1
unfolding first_piece
blank_piece z e = rw e refl

bad_piece : (z : List ℕ) → IsBad z → first_piece z ≡ Refused BadByte
unfolding first_piece f.symbol
bad_piece z is = rw (is.no_blank, is.no_letter, is.no_digit, starts_not z (codes "/*") is.no_comment, symbol_none z is.no_symbol) refl

-- a name is no longer than the text
within : (z : List ℕ) (n : ℕ) → IsName z n → n ≤ length z
within z n is = let all = prefix_len-le-length is_name_byte z in let e = is.longest in omega arith

word_low : (z : List ℕ) (n : ℕ) (w : Word) → IsName z n → take n z ≡ word_spelling w → n ≤ name_limit
word_low z n w is e = let taken = length-take-le n z (within z n is) in let same = ap length e in let low = word_short w in omega arith

low_is : (n m : ℕ) → n ≤ m → nat_le n m ≡ true
low_is n m h = grind (arith, nat_tests)

high_is : (n m : ℕ) → m < n → nat_le n m ≡ false
high_is n m h = grind (arith, nat_tests)

pub piece_one : (z : List ℕ) (p : Piece) → BeginsPiece z p → p ≡ first_piece z
piece_one z _ (blank e) = sym (blank_piece z e)
piece_one z _ (comment {n = n} opens here before) = sym (rw (comment_piece z opens, close_from (drop 2 z) n here before) refl)
piece_one z _ (word {n = n} {w = w} is e) = sym (rw (name_piece z n is, low_is n name_limit (word_low z n w is e), word_from (take n z) w e) refl)
piece_one z _ (upper {n = n} is low never u) = sym (rw (name_piece z n is, low_is n name_limit low, word_none (take n z) never, u) refl)
piece_one z _ (lower {n = n} is low never u) = sym (rw (name_piece z n is, low_is n name_limit low, word_none (take n z) never, u) refl)
piece_one z _ (number {n = n} are low) = sym (rw (number_piece z n are, low_is (spelled_value (take n z)) number_limit low) refl)
piece_one z _ (symbol {s = s} is) = sym (symbol_piece z s is)
piece_one z _ (bad_byte is) = sym (bad_piece z is)
piece_one z _ (open_comment opens nowhere) = sym (rw (comment_piece z opens, close_none (drop 2 z) nowhere) refl)
piece_one z _ (large_number {n = n} are high) = sym (rw (number_piece z n are, high_is (spelled_value (take n z)) number_limit high) refl)
piece_one z _ (long_name {n = n} is long) = sym (rw (name_piece z n is, high_is n name_limit long) refl)

upper_name : (b : ℕ) → is_ascii_uppercase b ≡ true → is_name_byte b ≡ true
upper_name b e = grind (arith, nat_tests)

upper_front : (z : List ℕ) (n : ℕ) → n ≡ prefix_len is_name_byte z → is_ascii_uppercase (slice_index z 0) ≡ true → is_ascii_uppercase (slice_index (take n z) 0) ≡ true
upper_front [] n longest u = absurd cc
upper_front (b ∷ z) zero longest u =
    let more : prefix_len is_name_byte (b ∷ z) ≡ 1 + prefix_len is_name_byte z = rw (upper_name b u) refl in
    absurd (omega arith)
upper_front (b ∷ z) (suc n) longest u = u

-- a name that begins with an upper-case letter is no word
pub upper_piece : (z : List ℕ) (n : ℕ) → n ≡ prefix_len is_name_byte z → n ≤ name_limit → is_ascii_uppercase (slice_index z 0) ≡ true → Lexeme (k.Upper (take n z)) n ≡ f.name_piece z
unfolding f.name_piece
upper_piece z n longest low u =
    let named : f.name_of_len n z ≡ Lexeme (k.Upper (take n z)) n = rw (low_is n name_limit low, upper_no_word (take n z) (upper_front z n longest u), u) refl in
    sym named ∙ ap (λ m. f.name_of_len m z) longest

-- ---- each piece has some bytes of the text

abbrev pub Takes : Piece → ℕ → Type 0
Takes (Gap n) most = (0 < n) × (n ≤ most)
Takes (Lexeme kind n) most = (0 < n) × (n ≤ most)
Takes (Refused fault) most = Unit {0}

pub some_name : (z : List ℕ) (n : ℕ) → IsName z n → (0 < n) × (n ≤ length z)
some_name [] n is = let e = is.letter in absurd cc
some_name (b ∷ rest) n is =
    let e : is_name_byte b ≡ true = letter_name b is.letter in
    let more : prefix_len is_name_byte (b ∷ rest) ≡ 1 + prefix_len is_name_byte rest = rw e refl in
    let l = is.longest in
    (omega arith, within (b ∷ rest) n is)

some_digits : (z : List ℕ) (n : ℕ) → AreLeadingDigits z n → (0 < n) × (n ≤ length z)
some_digits [] n are = let e = are.digit in absurd cc
some_digits (b ∷ rest) n are =
    let e : is_digit b ≡ true = are.digit in
    let more : prefix_len is_digit (b ∷ rest) ≡ 1 + prefix_len is_digit rest = rw e refl in
    let l = are.longest in
    let all = prefix_len-le-length is_digit (b ∷ rest) in
    (omega arith, omega arith)

some_blank : (z : List ℕ) → is_blank (slice_index z 0) ≡ true → 1 ≤ length z
some_blank [] e = absurd cc
some_blank (b ∷ rest) e = omega arith

pub takes : (z : List ℕ) (p : Piece) → BeginsPiece z p → Takes p (length z)
takes z _ (blank e) = (omega arith, some_blank z e)
takes z _ (comment {n = n} opens here before) =
    let whole = ap length opens.1 in
    let close = ap length here.1 in
    let left = length-drop n (drop 2 z) in
    let front = length-drop 2 z in
    (omega arith, omega arith)
takes z _ (word {n = n} is e) = some_name z n is
takes z _ (upper {n = n} is low never u) = some_name z n is
takes z _ (lower {n = n} is low never u) = some_name z n is
takes z _ (number {n = n} are low) = some_digits z n are
takes z _ (symbol {s = s} is) =
    let whole = ap length is.stands.1 in
    let parts = length-append (symbol_spelling s) is.stands.0 in
    (some s, omega arith)
takes z _ (bad_byte is) = tt
takes z _ (open_comment opens nowhere) = tt
takes z _ (large_number are high) = tt
takes z _ (long_name is long) = tt

-- what the function answers at a text that is not empty
pub piece_found : (z : List ℕ) (p : Piece) → 0 < length z → p ≡ first_piece z → BeginsPiece z p × Takes p (length z)
piece_found z p full e =
    let is : BeginsPiece z (first_piece z) = piece_is z (λ none. let len = ap length none in absurd (omega arith)) in
    subst (λ (q : Piece). BeginsPiece z q × Takes q (length z)) (sym e) (is, takes z (first_piece z) is)

pub gap_takes : (most n m : ℕ) (p : Piece) → Takes p most → p ≡ Gap n → m ≡ n → (0 < m) × (m ≤ most)
gap_takes most n m p t e same = let u = subst (λ (q : Piece). Takes q most) e t in (omega arith, omega arith)

pub lexeme_takes : (most n m : ℕ) (kind : Kind) (p : Piece) → Takes p most → p ≡ Lexeme kind n → m ≡ n → (0 < m) × (m ≤ most)
lexeme_takes most n m kind p t e same = let u = subst (λ (q : Piece). Takes q most) e t in (omega arith, omega arith)
