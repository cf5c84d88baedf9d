-- Readings are determined, and there is one of each text.
use Rattle.std.proofs.Common.{refl, ap, sym, subst, ◌∙◌, ◌≡◌, ℕ, zero, suc, ◌+◌, ◌-◌, ◌<◌, ◌≤◌, ◌==◌, Bool, true, false, cond, inl, inr, List, [], ◌∷◌, ◌++◌, length, length-append, slice_index, take, drop, arith, length-drop, length-take-le}
use Rattle.std.specs.Char.{is_ascii_alphabetic, is_ascii_uppercase, is_ascii_lowercase}
use Rattle.std.proofs.lemmas.Bool.Decides.{eqb_tells, nat_tests}
use Rattle.tp_lex.specs.declared.token.Symbol.{Symbol}
use Rattle.tp_lex.specs.Spelling.{symbol_spelling}
use Rattle.tp_lex.proofs.SpellingLemmas.{some}
use Rattle.tp_lex.specs.declared.token.Token.{Token}
use Rattle.tp_lex.specs.declared.token.TextPlace.{TextPlace}
use Rattle.tp_lex.specs.declared.piece.Piece.{Piece}
use Rattle.tp_lex.specs.declared.piece.Piece.TheVariants.{Gap, Lexeme, Refused}
use Rattle.tp_lex.specs.First.{first_piece}
use Rattle.tp_lex.specs.Place.{place_of, place_from, place_after, text_start, token_at}
use Rattle.tp_lex.specs.Pieces.{BeginsPiece, blank, comment, word, upper, lower, number, symbol, bad_byte, open_comment, large_number, long_name}
use Rattle.tp_lex.specs.Tokens.{ReadsTokens, ReadingEnd, Whole, Fails, whole, gap, lexeme, fails, refusal_at}
use Rattle.tp_lex.specs.Laws.{EachTextIsRead, OneTokenList, OneRefusal, NeverBoth, PlacesCount, HasItsCase, HaveTheirCase, NamesHaveTheirCase}
use Rattle.tp_lex.proofs.PieceLemmas.{piece_one, piece_found, some_name, Takes}

nothing : (s : Symbol) (rest : List ℕ) → [] ≡ symbol_spelling s ++ rest → 0 < length {A = ℕ} []
nothing s rest e = let parts = length-append (symbol_spelling s) rest in let none = ap length e in let one = some s in omega arith

-- a text that begins with something isn't empty
full : (z : List ℕ) (p : Piece) → BeginsPiece z p → 0 < length z
full (b ∷ z) p is = omega arith
full [] _ (blank e) = absurd cc
full [] _ (comment opens here before) = let e = opens.1 in absurd cc
full [] _ (word is e) = let l = is.letter in absurd cc
full [] _ (upper is low never u) = let l = is.letter in absurd cc
full [] _ (lower is low never u) = let l = is.letter in absurd cc
full [] _ (number are low) = let l = are.digit in absurd cc
full [] _ (symbol {s = s} is) = nothing s is.stands.0 is.stands.1
full [] _ (bad_byte is) = is.some
full [] _ (open_comment opens nowhere) = let e = opens.1 in absurd cc
full [] _ (large_number are high) = let l = are.digit in absurd cc
full [] _ (long_name is long) = let l = is.letter in absurd cc

-- at one place stands one piece
one_piece : (z : List ℕ) (p q : Piece) → BeginsPiece z p → BeginsPiece z q → p ≡ q
one_piece z p q a b = piece_one z p a ∙ sym (piece_one z q b)

-- nothing stands at the end
at_end : (bytes : List ℕ) (at : ℕ) (p : Piece) → at ≡ length bytes → BeginsPiece (drop at bytes) p → ⊥
at_end bytes at p e is = let some = full (drop at bytes) p is in let none = length-drop at bytes in omega arith

-- what two readings from one place have in common
abbrev Same : List Token → ReadingEnd → List Token → ReadingEnd → Type 0
Same ts e us f = (ts ≡ us) × (e ≡ f)

one_reading : (bytes : List ℕ) (at : ℕ) (ts us : List Token) (e f : ReadingEnd) → ReadsTokens bytes at ts e → ReadsTokens bytes at us f → Same ts e us f
one_reading bytes at _ _ _ _ (whole e) (whole f) = (refl, refl)
one_reading bytes at _ _ _ _ (whole e) (gap is r) = absurd (at_end bytes at _ e is)
one_reading bytes at _ _ _ _ (whole e) (lexeme is r) = absurd (at_end bytes at _ e is)
one_reading bytes at _ _ _ _ (whole e) (fails is) = absurd (at_end bytes at _ e is)
one_reading bytes at _ _ _ _ (gap is r) (whole f) = absurd (at_end bytes at _ f is)
one_reading bytes at _ us _ f (gap {n = n} {ts = ts} {end = end} is r) (gap {n = m} js s) =
    let same : Gap n ≡ Gap m = one_piece _ _ _ is js in
    let count : m ≡ n = cc in
    one_reading bytes (at + n) ts us end f r (subst (λ (k : ℕ). ReadsTokens bytes (at + k) us f) count s)
one_reading bytes at _ _ _ _ (gap {n = n} is r) (lexeme {n = m} {kind = kind} js s) = let same : Gap n ≡ Lexeme kind m = one_piece _ _ _ is js in absurd cc
one_reading bytes at _ _ _ _ (gap {n = n} is r) (fails {fault = fault} js) = let same : Gap n ≡ Refused fault = one_piece _ _ _ is js in absurd cc
one_reading bytes at _ _ _ _ (lexeme is r) (whole f) = absurd (at_end bytes at _ f is)
one_reading bytes at _ _ _ _ (lexeme {n = n} {kind = kind} is r) (gap {n = m} js s) = let same : Lexeme kind n ≡ Gap m = one_piece _ _ _ is js in absurd cc
one_reading bytes at _ _ _ f (lexeme {n = n} {kind = kind} {ts = ts} {end = end} is r) (lexeme {n = m} {kind = other} {ts = us} js s) =
    let same : Lexeme kind n ≡ Lexeme other m = one_piece _ _ _ is js in
    let count : m ≡ n = cc in
    let kinds : kind ≡ other = cc in
    let below = one_reading bytes (at + n) ts us end f r (subst (λ (k : ℕ). ReadsTokens bytes (at + k) us f) count s) in
    let tokens = below.0 in
    (cc, below.1)
one_reading bytes at _ _ _ _ (lexeme {n = n} {kind = kind} is r) (fails {fault = fault} js) = let same : Lexeme kind n ≡ Refused fault = one_piece _ _ _ is js in absurd cc
one_reading bytes at _ _ _ _ (fails is) (whole f) = absurd (at_end bytes at _ f is)
one_reading bytes at _ _ _ _ (fails {fault = fault} is) (gap {n = m} js s) = let same : Refused fault ≡ Gap m = one_piece _ _ _ is js in absurd cc
one_reading bytes at _ _ _ _ (fails {fault = fault} is) (lexeme {n = m} {kind = kind} js s) = let same : Refused fault ≡ Lexeme kind m = one_piece _ _ _ is js in absurd cc
one_reading bytes at _ _ _ _ (fails {fault = fault} is) (fails {fault = other} js) =
    let same : Refused fault ≡ Refused other = one_piece _ _ _ is js in
    let faults : fault ≡ other = cc in
    (refl, ap (λ x. Fails (refusal_at x at)) faults)

-- some reading of what is left
abbrev Read : List ℕ → ℕ → Type 0
Read bytes at = (ts : List Token) × (end : ReadingEnd) × ReadsTokens bytes at ts end

read_on : (bytes : List ℕ) (at : ℕ) (p : Piece) → BeginsPiece (drop at bytes) p → ((n : ℕ) → 0 < n → n ≤ length (drop at bytes) → Read bytes (at + n)) → Takes p (length (drop at bytes)) → Read bytes at
read_on bytes at (Gap n) is more t = let later = more n t.0 t.1 in (later.0, later.1, gap is later.2)
read_on bytes at (Lexeme kind n) is more t = let later = more n t.0 t.1 in (token_at kind n (place_of bytes at) ∷ later.0, later.1, lexeme is later.2)
read_on bytes at (Refused fault) is more t = ([], Fails (refusal_at fault at), fails is)

read_from : (bytes : List ℕ) (at : ℕ) → at ≤ length bytes → ((n : ℕ) → 0 < n → n ≤ length (drop at bytes) → Read bytes (at + n)) → Read bytes at
read_from bytes at within more = elim (eqb_tells at (length bytes)) [
  | inl w ↦ ([], Whole, whole w.1)
  | inr w ↦
      let left = length-drop at bytes in
      let differs = w.1 in
      let some : 0 < length (drop at bytes) = omega arith in
      let found = piece_found (drop at bytes) (first_piece (drop at bytes)) some refl in
      read_on bytes at (first_piece (drop at bytes)) found.0 more found.1
]

some_reading : (bytes : List ℕ) (most at : ℕ) → length bytes - at ≤ most → at ≤ length bytes → Read bytes at
some_reading bytes zero at few within = let end : at ≡ length bytes = omega arith in ([], Whole, whole end)
some_reading bytes (suc most) at few within =
    let left = length-drop at bytes in
    read_from bytes at within (λ n some low. some_reading bytes most (at + n) (omega arith) (omega arith))

pub each_text : EachTextIsRead
each_text bytes = some_reading bytes (length bytes) 0 (omega arith) (omega arith)

pub one_list : OneTokenList
one_list bytes ts us a b = (one_reading bytes 0 ts us Whole Whole a b).0

pub one_refusal : OneRefusal
one_refusal bytes e f (ts, a) (us, b) = let same = (one_reading bytes 0 ts us (Fails e) (Fails f) a b).1 in cc

pub never_both : NeverBoth
never_both bytes ts e a (us, b) = let same = (one_reading bytes 0 ts us Whole (Fails e) a b).1 in cc

either_at : (test : Bool) (p q : TextPlace) (n : ℕ) → p.at ≡ n → q.at ≡ n → (cond test p q).at ≡ n
either_at true p q n e f = e
either_at false p q n e f = f

after_counts : (p : TextPlace) (b : ℕ) → (place_after p b).at ≡ p.at + 1
after_counts p b = either_at (b == 10) _ _ (p.at + 1) refl refl

place_counts : (p : TextPlace) (bytes : List ℕ) → (place_from p bytes).at ≡ p.at + length bytes
place_counts p [] = omega arith
place_counts p (b ∷ bytes) = let below = place_counts (place_after p b) bytes in let one = after_counts p b in omega arith

pub places_count : PlacesCount
places_count bytes at within = place_counts text_start (take at bytes) ∙ (let taken = length-take-le at bytes within in omega arith)

-- ---- cases

pub first_stays : (z : List ℕ) (n : ℕ) → 0 < n → slice_index (take n z) 0 ≡ slice_index z 0
first_stays [] zero some = absurd (omega arith)
first_stays [] (suc n) some = refl
first_stays (b ∷ z) zero some = absurd (omega arith)
first_stays (b ∷ z) (suc n) some = refl

not_upper : (b : ℕ) → is_ascii_alphabetic b ≡ true → is_ascii_uppercase b ≡ false → is_ascii_lowercase b ≡ true
not_upper b letter e = grind (arith, nat_tests)

-- the case of a token that stands first
abbrev PieceHasItsCase : Piece → Type 0
PieceHasItsCase (Gap n) = Unit {0}
PieceHasItsCase (Lexeme kind n) = HasItsCase kind
PieceHasItsCase (Refused fault) = Unit {0}

piece_case : (z : List ℕ) (p : Piece) → BeginsPiece z p → PieceHasItsCase p
piece_case z _ (upper {n = n} is low never u) = let some = some_name z n is in ap is_ascii_uppercase (first_stays z n some.0) ∙ u
piece_case z _ (lower {n = n} is low never u) = let some = some_name z n is in ap is_ascii_lowercase (first_stays z n some.0) ∙ not_upper (slice_index z 0) is.letter u
piece_case z _ _ = tt

cases_from : (bytes : List ℕ) (at : ℕ) (ts : List Token) (end : ReadingEnd) → ReadsTokens bytes at ts end → HaveTheirCase ts
cases_from bytes at _ _ (whole e) = tt
cases_from bytes at ts end (gap {n = n} is r) = cases_from bytes (at + n) ts end r
cases_from bytes at _ end (lexeme {n = n} {ts = ts} is r) = (piece_case (drop at bytes) _ is, cases_from bytes (at + n) ts end r)
cases_from bytes at _ _ (fails is) = tt

pub names_have_their_case : NamesHaveTheirCase
names_have_their_case bytes ts are = cases_from bytes 0 ts Whole are
