-- A text that is cut behind some of its tokens, and goes on with a blank, begins with these tokens.
use Rattle.std.proofs.Common.{◌≡◌, ◌≢◌, ℕ, zero, suc, ◌+◌, ◌-◌, ◌<◌, ◌≤◌, pos, Bool, true, false, cond, inl, inr, List, [], ◌∷◌, ◌++◌, length, slice_index, slice_get, take, drop, codes, Some, refl, sym, ap, subst, ◌∙◌, arith}
use Rattle.std.specs.List.{prefix_len}
use Rattle.std.specs.Char.{is_ascii_alphabetic, is_ascii_uppercase}
use Rattle.std.proofs.lemmas.Bool.{cases_lt}
use Rattle.std.proofs.lemmas.List.{drop-drop, drop_at, take_at, take-append-drop, take-append-le, drop-append-le, drop-take, take-take, length-append, length-take-le, length-drop}
use Rattle.tp_value.specs.Number.{number_limit}
use Rattle.tp_lex.specs.declared.token.Token.{Token}
use Rattle.tp_lex.specs.declared.token.Kind.{Kind}
use Rattle.tp_lex.specs.declared.token.Kind.TheVariants as kind
use Rattle.tp_lex.specs.declared.token.Symbol.{Symbol}
use Rattle.tp_lex.specs.declared.token.Symbol.TheVariants as symbol
use Rattle.tp_lex.specs.declared.piece.Piece.{Piece}
use Rattle.tp_lex.specs.declared.piece.Piece.TheVariants.{Gap, Lexeme, Refused}
use Rattle.tp_lex.specs.Spelling.{symbol_spelling}
use Rattle.tp_lex.specs.Bytes.{is_blank, is_name_byte, is_digit, spelled_value}
use Rattle.tp_lex.specs.Pieces as piece
use Rattle.tp_lex.specs.Pieces.{BeginsPiece, BeginsWith, IsName, IsNoWord, AreLeadingDigits}
use Rattle.tp_lex.specs.Place.{place_of, place_from, text_start, token_at}
use Rattle.tp_lex.specs.Tokens.{ReadsTokens, Whole, whole, gap, lexeme}
use Rattle.tp_lex.proofs.PieceLemmas.{takes, some_name}
use Rattle.tp_lex.proofs.SpellingLemmas.{some}
use Rattle.tp_lex.proofs.LawLemmas.{places_count}
use Rattle.tp_parse.specs.Marks.{Tokens}
use Rattle.tp_parse.specs.Spelled.{token_kinds}
use Rattle.tp_parse.proofs.TextTokens.{IsRead, space_read}

-- ---- a piece of the text that is cut behind it

-- the front of a text, and then a blank and more
abbrev cut : ℕ → List ℕ → List ℕ → List ℕ
cut m z w = take m z ++ (32 ∷ w)

cut_there : (k j m : ℕ) (z w : List ℕ) → k + j ≤ m → m ≤ length z → take j (drop k (cut m z w)) ≡ take j (drop k z)
cut_there k j m z w low le =
    let long = length-take-le m z le in
    let rest : k + (m - k) ≡ m = omega (arith, low) in
    let front : drop k (take m z) ≡ take (m - k) (drop k z) = ap (λ n. drop k (take n z)) (sym rest) ∙ drop-take k (m - k) z in
    let count = length-drop k (take m z) in
    ap (take j) (drop-append-le k (take m z) (32 ∷ w) (omega (arith, long, low)))
    ∙ (take-append-le j (drop k (take m z)) (32 ∷ w) (omega (arith, long, low, count)) ∙ (ap (take j) front ∙ take-take j (m - k) (drop k z) (omega (arith, low))))

cut_first : (m : ℕ) (z w : List ℕ) → 0 < m → m ≤ length z → slice_index (cut m z w) 0 ≡ slice_index z 0
cut_first zero z w low le = absurd (omega arith)
cut_first (suc m) [] w low le = absurd (omega arith)
cut_first (suc m) (b ∷ z) w low le = refl

-- a run of bytes that a blank ends, and that ends before the cut
cut_prefix : (p : ℕ → Bool) (m : ℕ) (z w : List ℕ) → p 32 ≡ false → prefix_len p z ≤ m → m ≤ length z → prefix_len p (cut m z w) ≡ prefix_len p z
cut_prefix p zero z w blank low le = let none : prefix_len p (32 ∷ w) ≡ 0 = ap (λ b. cond b (1 + prefix_len p w) 0) blank in omega (arith, none, low)
cut_prefix p (suc m) [] w blank low le = absurd (omega arith)
cut_prefix p (suc m) (b ∷ z) w blank low le = by (p b) low (λ h. cut_prefix p m z w blank h (omega (arith, le)))
  where
    by : (t : Bool) → cond t (1 + prefix_len p z) 0 ≤ suc m → (prefix_len p z ≤ m → prefix_len p (cut m z w) ≡ prefix_len p z) → cond t (1 + prefix_len p (cut m z w)) 0 ≡ cond t (1 + prefix_len p z) 0
    by true h below = ap (λ n. 1 + n) (below (omega (arith, h)))
    by false h below = refl

begins_front : (f : List ℕ) (x y : List ℕ) → take (length f) x ≡ take (length f) y → BeginsWith x f → BeginsWith y f
begins_front f x y e is =
    let front : take (length f) y ≡ f = sym e ∙ (ap (take (length f)) is.1 ∙ take_at f is.0 (length f) refl) in
    (drop (length f) y, sym (take-append-drop (length f) y) ∙ ap (λ u. u ++ drop (length f) y) front)

-- no symbol has a blank in it
no_blank : (x : Symbol) (m : ℕ) (z w rest : List ℕ) → 0 < m → m < length (symbol_spelling x) → m ≤ length z → cut m z w ≢ symbol_spelling x ++ rest
no_blank x m z w rest some less le e =
    let at : slice_index (drop m (cut m z w)) 0 ≡ 32 = ap (λ y. slice_index y 0) (drop_at (take m z) (32 ∷ w) m (length-take-le m z le)) in
    by x m some less (ap (λ y. slice_index (drop m y) 0) (sym e) ∙ at)
  where
    by : (x : Symbol) (m : ℕ) → 0 < m → m < length (symbol_spelling x) → slice_index (drop m (symbol_spelling x ++ rest)) 0 ≡ 32 → ⊥
    by x zero some less q = omega (arith, some)
    by symbol.LessEqual (suc zero) some less q = omega (arith, q)
    by symbol.GreaterEqual (suc zero) some less q = omega (arith, q)
    by symbol.Differs (suc zero) some less q = omega (arith, q)
    by symbol.Becomes (suc zero) some less q = omega (arith, q)
    by symbol.Arrow (suc zero) some less q = omega (arith, q)
    by symbol.OpenRound (suc m) some less q = omega (arith, less)
    by _ (suc m) some less q = omega (arith, less)

-- the piece ends before the cut
abbrev EndsBy : ℕ → Piece → Type 0
EndsBy m (Gap n) = n ≤ m
EndsBy m (Lexeme k n) = n ≤ m
EndsBy m (Refused fault) = ⊥

cut_name : (m n : ℕ) (z w : List ℕ) → n ≤ m → m ≤ length z → IsName z n → IsName (cut m z w) n
cut_name m n z w low le is =
    let some = some_name z n is in
    let long = is.longest in
    record { letter = ap is_ascii_alphabetic (cut_first m z w (omega (arith, low, some.0)) le) ∙ is.letter; longest = long ∙ sym (cut_prefix is_name_byte m z w refl (omega (arith, low, long)) le) }

cut_piece : (m : ℕ) (z w : List ℕ) (p : Piece) → m ≤ length z → BeginsPiece z p → EndsBy m p → BeginsPiece (cut m z w) p
cut_piece m z w _ le (piece.blank e) low = piece.blank (ap is_blank (cut_first m z w (omega (arith, low)) le) ∙ e)
cut_piece m z w _ le (piece.comment {n = n} opens here before) low =
    let y = cut m z w in
    let there : (k : ℕ) → k ≤ n → take 2 (drop k (drop 2 y)) ≡ take 2 (drop k (drop 2 z)) =
    λ k h. ap (take 2) (drop-drop k 2 y) ∙ (cut_there (2 + k) 2 m z w (omega (arith, h, low)) le ∙ ap (take 2) (sym (drop-drop k 2 z))) in
    piece.comment (begins_front (codes "/*") z y (sym (cut_there 0 2 m z w (omega (arith, low)) le)) opens) (begins_front (codes "*/") (drop n (drop 2 z)) (drop n (drop 2 y)) (sym (there n (omega arith))) here)
    (λ k h c. before k h (begins_front (codes "*/") (drop k (drop 2 y)) (drop k (drop 2 z)) (there k (omega (arith, h))) c))
cut_piece m z w _ le (piece.word {n = n} is e) low = piece.word (cut_name m n z w low le is) (cut_there 0 n m z w (omega (arith, low)) le ∙ e)
cut_piece m z w _ le (piece.upper {n = n} is short never u) low =
    let front = cut_there 0 n m z w (omega (arith, low)) le in
    let first = ap is_ascii_uppercase (cut_first m z w (omega (arith, low, (some_name z n is).0)) le) in
    subst (λ x. BeginsPiece (cut m z w) (Lexeme (kind.Upper x) n)) front (piece.upper (cut_name m n z w low le is) short (subst IsNoWord (sym front) never) (first ∙ u))
cut_piece m z w _ le (piece.lower {n = n} is short never u) low =
    let front = cut_there 0 n m z w (omega (arith, low)) le in
    let first = ap is_ascii_uppercase (cut_first m z w (omega (arith, low, (some_name z n is).0)) le) in
    subst (λ x. BeginsPiece (cut m z w) (Lexeme (kind.Lower x) n)) front (piece.lower (cut_name m n z w low le is) short (subst IsNoWord (sym front) never) (first ∙ u))
cut_piece m z w _ le (piece.number {n = n} are small) low =
    let front = cut_there 0 n m z w (omega (arith, low)) le in
    let some = takes z _ (piece.number are small) in
    let long = are.longest in
    let is : AreLeadingDigits (cut m z w) n =
    record { digit = ap is_digit (cut_first m z w (omega (arith, low, some.0)) le) ∙ are.digit; longest = long ∙ sym (cut_prefix is_digit m z w refl (omega (arith, low, long)) le) } in
    subst (λ x. BeginsPiece (cut m z w) (Lexeme (kind.Number (pos (spelled_value x))) n)) front (piece.number is (subst (λ x. spelled_value x ≤ number_limit) (sym front) small))
cut_piece m z w _ le (piece.symbol {s = s} is) low =
    let y = cut m z w in
    let longest : (x : Symbol) → BeginsWith y (symbol_spelling x) → length (symbol_spelling x) ≤ length (symbol_spelling s) =
    λ x b. elim (cases_lt m (length (symbol_spelling x))) [
      | inl less ↦ absurd (no_blank x m z w b.0 (omega (arith, low, some s)) less le b.1)
      | inr fits ↦ is.longest x (begins_front (symbol_spelling x) y z (cut_there 0 (length (symbol_spelling x)) m z w (omega (arith, fits)) le) b)
    ] in
    piece.symbol (record { stands = begins_front (symbol_spelling s) z y (sym (cut_there 0 (length (symbol_spelling s)) m z w (omega (arith, low)) le)) is.stands; longest = longest })
cut_piece m z w _ le (piece.bad_byte is) low = absurd low
cut_piece m z w _ le (piece.open_comment opens nowhere) low = absurd low
cut_piece m z w _ le (piece.large_number are high) low = absurd low
cut_piece m z w _ le (piece.long_name is long) low = absurd low

-- ---- the tokens before the cut

-- from the byte `at` on these tokens are read, up to another byte
pub data ReadsUpTo (bytes : List ℕ) : ℕ → Tokens → ℕ → Type 0 where
  here : {at : ℕ} → ReadsUpTo bytes at [] at
  gap_then : {at n end : ℕ} {ts : Tokens} → BeginsPiece (drop at bytes) (Gap n) → ReadsUpTo bytes (at + n) ts end → ReadsUpTo bytes at ts end
  token_then : {at n end : ℕ} {k : Kind} {ts : Tokens} → BeginsPiece (drop at bytes) (Lexeme k n) → ReadsUpTo bytes (at + n) ts end
      → ReadsUpTo bytes at (token_at k n (place_of bytes at) ∷ ts) end

gap_within : (bytes : List ℕ) (at : ℕ) {n : ℕ} → BeginsPiece (drop at bytes) (Gap n) → at + n ≤ length bytes
gap_within bytes at is = let some = takes _ _ is in omega (arith, some.0, some.1, length-drop at bytes)

token_within : (bytes : List ℕ) (at : ℕ) {n : ℕ} {k : Kind} → BeginsPiece (drop at bytes) (Lexeme k n) → at + n ≤ length bytes
token_within bytes at is = let some = takes _ _ is in omega (arith, some.0, some.1, length-drop at bytes)

within : {bytes : List ℕ} {at end : ℕ} {ts : Tokens} → ReadsUpTo bytes at ts end → at ≤ length bytes → (at ≤ end) × (end ≤ length bytes)
within here le = (omega arith, le)
within (gap_then is r) le = let more = within r (gap_within _ _ is) in (omega (arith, more.0), more.1)
within (token_then is r) le = let more = within r (token_within _ _ is) in (omega (arith, more.0), more.1)

-- what stands there in the text that is cut further on
cut_left : (bytes w : List ℕ) (at end : ℕ) → at ≤ end → end ≤ length bytes → drop at (cut end bytes w) ≡ cut (end - at) (drop at bytes) w
cut_left bytes w at end low le =
    let rest : at + (end - at) ≡ end = omega (arith, low) in
    drop-append-le at (take end bytes) (32 ∷ w) (omega (arith, low, length-take-le end bytes le))
    ∙ ap (λ y. y ++ (32 ∷ w)) (ap (λ n. drop at (take n bytes)) (sym rest) ∙ drop-take at (end - at) bytes)

cut_left_piece : (bytes w : List ℕ) {at end : ℕ} {p : Piece} → at ≤ end → end ≤ length bytes → BeginsPiece (drop at bytes) p → EndsBy (end - at) p → BeginsPiece (drop at (cut end bytes w)) p
cut_left_piece bytes w {at} {end} {p} low le is ends =
    subst (λ y. BeginsPiece y p) (sym (cut_left bytes w at end low le)) (cut_piece (end - at) (drop at bytes) w p (omega (arith, low, le, length-drop at bytes)) is ends)

pub cut_read : {bytes : List ℕ} {at end : ℕ} {ts : Tokens} (w : List ℕ) (ks : List Kind) → ReadsUpTo bytes at ts end → at ≤ length bytes → IsRead w ks
    → (us : Tokens) × ReadsTokens (cut end bytes w) at (ts ++ us) Whole × (token_kinds us ≡ ks)
cut_read {bytes} {at} w ks here le r =
    let long = length-take-le at bytes le in
    let sum = length-append (take at bytes) (32 ∷ w) in
    space_read w ks r (cut at bytes w) at (drop_at (take at bytes) (32 ∷ w) at long) (omega (arith, long, sum))
cut_read {at = at} {end = end} w ks (gap_then {n = n} is r) le more =
    let later = cut_read w ks r (gap_within _ _ is) more in
    let ends = within r (gap_within _ _ is) in
    (later.0, gap (cut_left_piece _ w (omega (arith, ends.0)) ends.1 is (omega (arith, ends.0))) later.1, later.2)
cut_read {bytes} {at = at} {end = end} w ks (token_then {n = n} {k = k} {ts = ts} is r) le more =
    let later = cut_read w ks r (token_within _ _ is) more in
    let ends = within r (token_within _ _ is) in
    let low : at ≤ end = omega (arith, ends.0) in
    let front : take at (cut end bytes w) ≡ take at bytes = cut_there 0 at end bytes w (omega (arith, low)) ends.1 in
    let read = lexeme (cut_left_piece _ w low ends.1 is (omega (arith, ends.0))) later.1 in
    (later.0, subst (λ y. ReadsTokens (cut end bytes w) at (token_at k n (place_from text_start y) ∷ ts ++ later.0) Whole) front read, later.2)

-- ---- up to which bytes the tokens of a text are read

-- up to a token's first byte, and up to behind its last
pub up_to_token : {bytes : List ℕ} {at : ℕ} {ts : Tokens} (i : ℕ) (t : Token) → ReadsTokens bytes at ts Whole → slice_get ts i ≡ Some t
    → ReadsUpTo bytes at (take i ts) t.from × ReadsUpTo bytes at (take (suc i) ts) t.to
up_to_token i t (whole e) q = absurd cc
up_to_token i t (gap is r) q = let more = up_to_token i t r q in (gap_then is more.0, gap_then is more.1)
up_to_token {bytes} {at} zero t (lexeme {n = n} {kind = k} is r) q =
    let same : token_at k n (place_of bytes at) ≡ t = cc in
    let count : (place_of bytes at).at ≡ at = places_count bytes at (omega (arith, token_within bytes at is)) in
    let from : at ≡ t.from = sym count ∙ ap (λ u. u.from) same in
    let to : at + n ≡ t.to = ap (λ i. i + n) (sym count) ∙ ap (λ u. u.to) same in
    (subst (ReadsUpTo bytes at []) from here, token_then is (subst (ReadsUpTo bytes (at + n) []) to here))
up_to_token (suc i) t (lexeme is r) q = let more = up_to_token i t r q in (token_then is more.0, token_then is more.1)

pub up_to_end : {bytes : List ℕ} {at : ℕ} {ts : Tokens} → ReadsTokens bytes at ts Whole → ReadsUpTo bytes at ts (length bytes)
up_to_end {bytes} {at} (whole e) = subst (ReadsUpTo bytes at []) e here
up_to_end (gap is r) = gap_then is (up_to_end r)
up_to_end (lexeme is r) = token_then is (up_to_end r)
