-- Each name among the tokens of a text is spelled as names are.
use Rattle.std.proofs.Common.{refl, ap, sym, subst, ◌∙◌, ◌≡◌, ℕ, suc, ◌+◌, arith, Bool, true, false, cond, List, [], ◌∷◌, length, take, drop, All}
use Rattle.std.specs.List.{prefix_len}
use Rattle.std.specs.Char.{is_ascii_alphabetic}
use Rattle.std.proofs.lemmas.List.Elements.{All-nil, All-cons, All-append}
use Rattle.std.proofs.lemmas.List.Folds.{length-prefix_len}
use Rattle.tp_lex.specs.declared.token.Token.{Token}
use Rattle.tp_lex.specs.declared.piece.Piece.{Piece}
use Rattle.tp_lex.specs.declared.piece.Piece.TheVariants.{Gap, Lexeme, Refused}
use Rattle.tp_lex.specs.Bytes.{is_name_byte}
use Rattle.tp_lex.specs.Pieces.{IsName, BeginsPiece, word, upper, lower, number, symbol}
use Rattle.tp_lex.specs.Tokens.{ReadsTokens, ReadingEnd, Whole, whole, gap, lexeme, fails}
use Rattle.tp_lex.specs.Names.{own_names, token_names, IsNameText, NamesAreSpelled}
use Rattle.tp_lex.proofs.PieceLemmas.{some_name}
use Rattle.tp_lex.proofs.LawLemmas.{first_stays}

-- the longest front whose bytes pass is itself one whose bytes pass
passes_at : (p : ℕ → Bool) (b : ℕ) (z : List ℕ) (test : Bool) → p b ≡ test → prefix_len p (take (prefix_len p z) z) ≡ prefix_len p z
    → prefix_len p (take (cond test (1 + prefix_len p z) 0) (b ∷ z)) ≡ cond test (1 + prefix_len p z) 0
passes_at p b z true e later =
    let n : ℕ = prefix_len p z in
    let one : suc n ≡ 1 + n = omega arith in
    let head : cond (p b) (1 + prefix_len p (take n z)) 0 ≡ 1 + prefix_len p (take n z) = ap (λ (q : Bool). cond q (1 + prefix_len p (take n z)) 0) e in
    subst (λ (k : ℕ). prefix_len p (take k (b ∷ z)) ≡ k) one (head ∙ (ap (λ (k : ℕ). 1 + k) later ∙ sym one))
passes_at p b z false e later = refl

front_passes : (p : ℕ → Bool) (z : List ℕ) → prefix_len p (take (prefix_len p z) z) ≡ prefix_len p z
front_passes p [] = refl
front_passes p (b ∷ z) = passes_at p b z (p b) refl (front_passes p z)

name_text : (z : List ℕ) (n : ℕ) → IsName z n → IsNameText (take n z)
name_text z n is =
    let some = some_name z n is in
    let front : take n z ≡ take (prefix_len is_name_byte z) z = ap (λ m. take m z) is.longest in
    let count : length (take n z) ≡ prefix_len is_name_byte z = ap length front ∙ length-prefix_len is_name_byte z in
    let passes : prefix_len is_name_byte (take n z) ≡ prefix_len is_name_byte z = ap (prefix_len is_name_byte) front ∙ front_passes is_name_byte z in
    record { letter = ap is_ascii_alphabetic (first_stays z n some.0) ∙ is.letter; longest = count ∙ sym passes }

-- the name that a piece is
abbrev PieceIsSpelled : Piece → Type 0
PieceIsSpelled (Gap n) = Unit {0}
PieceIsSpelled (Lexeme kind n) = All IsNameText (own_names kind)
PieceIsSpelled (Refused fault) = Unit {0}

no_names : All IsNameText []
no_names = All-nil IsNameText

piece_spelled : (z : List ℕ) (p : Piece) → BeginsPiece z p → PieceIsSpelled p
piece_spelled z _ (word is e) = no_names
piece_spelled z _ (upper {n = n} is low never u) = All-cons IsNameText (take n z) [] (name_text z n is) no_names
piece_spelled z _ (lower {n = n} is low never u) = All-cons IsNameText (take n z) [] (name_text z n is) no_names
piece_spelled z _ (number are low) = no_names
piece_spelled z _ (symbol is) = no_names
piece_spelled z _ _ = tt

spelled_from : (bytes : List ℕ) (at : ℕ) (ts : List Token) (end : ReadingEnd) → ReadsTokens bytes at ts end → All IsNameText (token_names ts)
spelled_from bytes at _ _ (whole e) = no_names
spelled_from bytes at ts end (gap {n = n} is r) = spelled_from bytes (at + n) ts end r
spelled_from bytes at _ end (lexeme {n = n} {kind = kind} {ts = ts} is r) =
    All-append IsNameText (own_names kind) (token_names ts) (piece_spelled (drop at bytes) _ is) (spelled_from bytes (at + n) ts end r)
spelled_from bytes at _ _ (fails is) = no_names

pub names_are_spelled : NamesAreSpelled
names_are_spelled bytes ts are = spelled_from bytes 0 ts Whole are
