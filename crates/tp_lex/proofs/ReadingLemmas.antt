-- One more piece of a reading.
use Rattle.std.proofs.Common.{ap, sym, subst, ◌∙◌, ◌≡◌, ℕ, ◌+◌, ◌-◌, List, [], ◌∷◌, ◌++◌, length, take, drop, append_assoc}
use Rattle.std.proofs.lemmas.List.{take_rest, append-nil, drop-drop}
use Rattle.std.proofs.Math.Seq.{take-add}
use Rattle.std.proofs.lemmas.List.Sums.{fold-append}
use Rattle.tp_lex.specs.declared.token.Token.{Token}
use Rattle.tp_lex.specs.declared.token.Kind.{Kind}
use Rattle.tp_lex.specs.declared.token.TextPlace.{TextPlace}
use Rattle.tp_lex.specs.declared.piece.Fault.{Fault}
use Rattle.tp_lex.specs.declared.piece.Fault.TheVariants.{BadByte, OpenComment, NumberTooLarge, NameTooLong}
use Rattle.tp_lex.specs.declared.piece.Piece.{Piece}
use Rattle.tp_lex.specs.declared.piece.Piece.TheVariants.{Gap, Lexeme, Refused}
use Rattle.tp_lex.specs.Place.{place_of, place_from, place_after, token_at, text_start}
use Rattle.tp_lex.specs.Pieces.{BeginsPiece}
use Rattle.tp_lex.specs.Tokens.{ReadsTokens, ReadingEnd, Whole, Fails, whole, gap, lexeme, fails, refusal_at, IsRefused, IsRefusedUnlessMemory, AreTokens}

-- what the text reads as from the byte `at` on stands behind the tokens that were found
abbrev pub Continues : List ℕ → ℕ → List Token → Type 0
Continues bytes at found = (ts : List Token) (end : ReadingEnd) → ReadsTokens bytes at ts end → ReadsTokens bytes 0 (found ++ ts) end

-- after a gap
pub past_gap : (bytes : List ℕ) (at n m : ℕ) (p : Piece) (found new : List Token) → Continues bytes at found → BeginsPiece (drop at bytes) p → p ≡ Gap n → m ≡ n → new ≡ found
    → Continues bytes (at + m) new
past_gap bytes at n m p found new so_far is e same kept =
    let begins : BeginsPiece (drop at bytes) (Gap n) = subst (BeginsPiece (drop at bytes)) e is in
    let past : Continues bytes (at + n) found = λ ts end reads. so_far ts end (gap begins reads) in
    subst (λ (k : ℕ). Continues bytes (at + k) new) (sym same) (subst (Continues bytes (at + n)) (sym kept) past)

-- after a token
pub past_lexeme : (bytes : List ℕ) (at n m : ℕ) (kind : Kind) (p : Piece) (found new : List Token) → Continues bytes at found → BeginsPiece (drop at bytes) p → p ≡ Lexeme kind n → m ≡ n
    → new ≡ found ++ token_at kind n (place_of bytes at) ∷ [] → Continues bytes (at + m) new
past_lexeme bytes at n m kind p found new so_far is e same more =
    let begins : BeginsPiece (drop at bytes) (Lexeme kind n) = subst (BeginsPiece (drop at bytes)) e is in
    let token : Token = token_at kind n (place_of bytes at) in
    let past : Continues bytes (at + n) (found ++ token ∷ []) =
    λ ts end reads. subst (λ (xs : List Token). ReadsTokens bytes 0 xs end) (sym (append_assoc found (token ∷ []) ts)) (so_far _ end (lexeme begins reads)) in
    subst (λ (k : ℕ). Continues bytes (at + k) new) (sym same) (subst (Continues bytes (at + n)) (sym more) past)

pub at_fault : (bytes : List ℕ) (at : ℕ) (fault : Fault) (found : List Token) → Continues bytes at found → BeginsPiece (drop at bytes) (Refused fault) → IsRefused bytes (refusal_at fault at)
at_fault bytes at fault found so_far is = (found ++ [], so_far [] (Fails (refusal_at fault at)) (fails is))

pub at_end : (bytes : List ℕ) (at : ℕ) (found : List Token) → Continues bytes at found → at ≡ length bytes → AreTokens bytes found
at_end bytes at found so_far e = subst (λ (xs : List Token). ReadsTokens bytes 0 xs Whole) (append-nil found) (so_far [] Whole (whole e))

-- the place behind some bytes of what is left
place_later : (bytes : List ℕ) (at n : ℕ) → place_from (place_of bytes at) (take n (drop at bytes)) ≡ place_of bytes (at + n)
place_later bytes at n = sym (ap (place_from text_start) (take-add at n bytes) ∙ fold-append place_after text_start (take at bytes) (take n (drop at bytes)))

-- the same, from a place of the text on
pub place_behind : (bytes rest : List ℕ) (p q : TextPlace) (n : ℕ) → rest ≡ drop p.at bytes → p ≡ place_of bytes p.at → q ≡ place_from p (take n rest) → q ≡ place_of bytes (p.at + n)
place_behind bytes rest p q n left here next =
    next ∙ (ap (λ (x : TextPlace). place_from x (take n rest)) here ∙ (ap (λ (z : List ℕ). place_from (place_of bytes p.at) (take n z)) left ∙ place_later bytes p.at n))

-- what is left behind a piece
pub rest_later : (bytes rest : List ℕ) (at n : ℕ) → rest ≡ drop at bytes → take (length rest - n) (drop n rest) ≡ drop (at + n) bytes
rest_later bytes rest at n e =
    take_rest rest n ∙ (ap (drop n) e ∙ drop-drop n at bytes)

pub refused_so : (bytes : List ℕ) (fault : Fault) (at : ℕ) → IsRefused bytes (refusal_at fault at) → IsRefusedUnlessMemory bytes (refusal_at fault at)
refused_so bytes BadByte at is = is
refused_so bytes OpenComment at is = is
refused_so bytes NumberTooLarge at is = is
refused_so bytes NameTooLong at is = is
