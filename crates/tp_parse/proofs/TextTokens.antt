-- Texts that are read as tokens of given kinds, from the back to the front.
use Rattle.std.proofs.Common.{◌≡◌, ◌≢◌, ℕ, ◌+◌, ◌-◌, ◌*◌, ◌/◌, ◌%◌, ◌^◌, ◌<◌, ◌≤◌, pos, Bool, true, false, cond, List, [], ◌∷◌, ◌++◌, length, slice_index, take, drop, Some, refl, sym, ap, subst, ◌∙◌, arith, lit≤}
use Rattle.std.specs.List.{prefix_len}
use Rattle.std.specs.Fmt.{decimal}
use Rattle.std.specs.Char.{is_ascii_alphabetic, is_ascii_uppercase}
use Rattle.std.proofs.lemmas.Bool.{eq-eqb}
use Rattle.std.proofs.lemmas.Bool.Decides.{nat_tests}
use Rattle.std.proofs.lemmas.Fmt.{decimal_by_steps_wide}
use Rattle.std.proofs.lemmas.List.{drop-drop, drop_at, take_at, length-append}
use Rattle.std.proofs.lemmas.List.Sums.{fold-append}
use Rattle.std.proofs.lemmas.List.Folds.{prefix_len-append}
use Rattle.tp_value.specs.Number.{number_limit}
use Rattle.tp_lex.specs.declared.token.Token.{Token}
use Rattle.tp_lex.specs.declared.token.Kind.{Kind}
use Rattle.tp_lex.specs.declared.token.Kind.TheVariants as kind
use Rattle.tp_lex.specs.declared.token.Word.{Word}
use Rattle.tp_lex.specs.declared.token.Word.TheVariants as word
use Rattle.tp_lex.specs.declared.token.Symbol.{Symbol}
use Rattle.tp_lex.specs.declared.token.Symbol.TheVariants as symbol
use Rattle.tp_lex.specs.declared.piece.Piece.TheVariants.{Gap, Lexeme}
use Rattle.tp_lex.specs.Spelling.{word_spelling, symbol_spelling}
use Rattle.tp_lex.specs.Spelled.{longest_symbol}
use Rattle.tp_lex.specs.Bytes.{is_blank, is_name_byte, is_digit, spelled_value}
use Rattle.tp_lex.specs.Pieces as piece
use Rattle.tp_lex.specs.Pieces.{BeginsPiece, BeginsWith, IsName, IsNoWord, IsLongestSymbol, AreLeadingDigits}
use Rattle.tp_lex.specs.Place.{place_of, token_at}
use Rattle.tp_lex.specs.Tokens.{ReadsTokens, AreTokens, Whole, whole, gap, lexeme}
use Rattle.tp_lex.proofs.SpellingLemmas.{longest_is, longest_from}
use Rattle.tp_parse.specs.Spelled.{token_kinds, list_opened, variable_kind}
use Rattle.tp_parse.specs.SpelledText.{IsVariableText, IsLowerText}

-- wherever a text ends with z, what is left of it there are tokens of these kinds
abbrev pub IsRead : List ℕ → List Kind → Type 0
IsRead z ks = (bytes : List ℕ) (at : ℕ) → drop at bytes ≡ z → at + length z ≡ length bytes → (ts : List Token) × (ReadsTokens bytes at ts Whole) × (token_kinds ts ≡ ks)

pub nothing_read : IsRead [] []
nothing_read bytes at e l = let done : at ≡ length bytes = omega (arith, l) in ([], whole done, refl)

pub whole_read : (z : List ℕ) (ks : List Kind) → IsRead z ks → (ts : List Token) × (AreTokens z ts) × (token_kinds ts ≡ ks)
whole_read z ks r = r z 0 refl (omega arith)

-- behind the front
behind : (front z bytes : List ℕ) (at : ℕ) → drop at bytes ≡ front ++ z → drop (at + length front) bytes ≡ z
behind front z bytes at e = sym (drop-drop (length front) at bytes) ∙ (ap (drop (length front)) e ∙ drop_at front z (length front) refl)

left_over : (front z bytes : List ℕ) (at : ℕ) → at + length (front ++ z) ≡ length bytes → (at + length front) + length z ≡ length bytes
left_over front z bytes at l = omega (arith, l, length-append front z)

pub token_read : (front z : List ℕ) (k : Kind) (ks : List Kind) → BeginsPiece (front ++ z) (Lexeme k (length front)) → IsRead z ks → IsRead (front ++ z) (k ∷ ks)
token_read front z k ks b r bytes at e l =
    let more = r bytes (at + length front) (behind front z bytes at e) (left_over front z bytes at l) in
    (token_at k (length front) (place_of bytes at) ∷ more.0, lexeme (subst (λ y. BeginsPiece y (Lexeme k (length front))) (sym e) b) more.1, ap (λ xs. k ∷ xs) more.2)

pub blank_read : (b : ℕ) (z : List ℕ) (ks : List Kind) → is_blank b ≡ true → IsRead z ks → IsRead (b ∷ z) ks
blank_read b z ks blank r bytes at e l =
    let more = r bytes (at + 1) (behind (b ∷ []) z bytes at e) (left_over (b ∷ []) z bytes at l) in
    (more.0, gap (subst (λ y. BeginsPiece y (Gap 1)) (sym e) (piece.blank blank)) more.1, more.2)

pub space_read : (z : List ℕ) (ks : List Kind) → IsRead z ks → IsRead (32 ∷ z) ks
space_read z ks r = blank_read 32 z ks refl r

pub symbol_read : (x : Symbol) (z : List ℕ) (ks : List Kind) → longest_symbol (symbol_spelling x ++ z) ≡ Some x → IsRead z ks → IsRead (symbol_spelling x ++ z) (kind.Symbol x ∷ ks)
symbol_read x z ks e r = token_read (symbol_spelling x) z (kind.Symbol x) ks (piece.symbol (longest_is _ x e)) r

-- ---- names and words

-- the text does not begin with a byte of a name, so with no digit
pub record EndsName (z : List ℕ) : Type 0 where
  pub name : prefix_len is_name_byte z ≡ 0
  pub digits : prefix_len is_digit z ≡ 0

-- all of the front passes, and nothing behind it
all_pass : (p : ℕ → Bool) (x z : List ℕ) → prefix_len p x ≡ length x → prefix_len p z ≡ 0 → prefix_len p (x ++ z) ≡ length x
all_pass p x z e f =
    let tested = ap (λ b. cond b (length x + prefix_len p z) (prefix_len p x)) (eq-eqb (prefix_len p x) (length x) e) in
    let none : length x + prefix_len p z ≡ length x = omega (arith, f) in
    prefix_len-append p x z ∙ (tested ∙ none)

word_bytes : (w : Word) → prefix_len is_name_byte (word_spelling w) ≡ length (word_spelling w)
word_bytes word.If = refl
word_bytes _ = refl

word_letter : (w : Word) (z : List ℕ) → is_ascii_alphabetic (slice_index (word_spelling w ++ z) 0) ≡ true
word_letter word.If z = refl
word_letter _ z = refl

pub word_read : (w : Word) (z : List ℕ) (ks : List Kind) → EndsName z → IsRead z ks → IsRead (word_spelling w ++ z) (kind.Word w ∷ ks)
word_read w z ks ends r =
    let is : IsName (word_spelling w ++ z) (length (word_spelling w)) = record { letter = word_letter w z; longest = sym (all_pass is_name_byte (word_spelling w) z (word_bytes w) ends.name) } in
    token_read (word_spelling w) z (kind.Word w) ks (piece.word is (take_at (word_spelling w) z (length (word_spelling w)) refl)) r

first_byte : (x z : List ℕ) → is_ascii_alphabetic (slice_index x 0) ≡ true → slice_index (x ++ z) 0 ≡ slice_index x 0
first_byte [] z e = absurd cc
first_byte (b ∷ x) z e = refl

name_here : (x z : List ℕ) → IsVariableText x → EndsName z → IsName (x ++ z) (length x)
name_here x z is ends = record {
  letter = ap is_ascii_alphabetic (first_byte x z is.spelled.letter) ∙ is.spelled.letter;
  longest = sym (all_pass is_name_byte x z (sym is.spelled.longest) ends.name);
}

name_begins : (x z : List ℕ) (upper : Bool) → IsVariableText x → EndsName z → is_ascii_uppercase (slice_index x 0) ≡ upper → BeginsPiece (x ++ z) (Lexeme (cond upper (kind.Upper x) (kind.Lower x)) (length x))
name_begins x z true is ends u =
    let front = take_at x z (length x) refl in
    subst (λ y. BeginsPiece (x ++ z) (Lexeme (kind.Upper y) (length x))) front
    (piece.upper (name_here x z is ends) is.short (subst IsNoWord (sym front) is.no_word) (ap is_ascii_uppercase (first_byte x z is.spelled.letter) ∙ u))
name_begins x z false is ends u =
    let front = take_at x z (length x) refl in
    subst (λ y. BeginsPiece (x ++ z) (Lexeme (kind.Lower y) (length x))) front
    (piece.lower (name_here x z is ends) is.short (subst IsNoWord (sym front) is.no_word) (ap is_ascii_uppercase (first_byte x z is.spelled.letter) ∙ u))

pub name_read : (x z : List ℕ) (ks : List Kind) → IsVariableText x → EndsName z → IsRead z ks → IsRead (x ++ z) (variable_kind x ∷ ks)
name_read x z ks is ends r = token_read x z (variable_kind x) ks (name_begins x z (is_ascii_uppercase (slice_index x 0)) is ends refl) r

pub lower_read : (x z : List ℕ) (ks : List Kind) → IsLowerText x → EndsName z → IsRead z ks → IsRead (x ++ z) (kind.Lower x ∷ ks)
lower_read x z ks is ends r = token_read x z (kind.Lower x) ks (name_begins x z false is.variable ends is.lower) r

-- ---- numbers

-- digits that spell the number
record IsNumberText (n : ℕ) (ds : List ℕ) : Type 0 where
  all : prefix_len is_digit ds ≡ length ds
  some : is_digit (slice_index ds 0) ≡ true
  value : spelled_value ds ≡ n

digit_is : (d : ℕ) → d < 10 → is_digit (48 + d) ≡ true
digit_is d h = grind (arith, nat_tests)

one_digit : (n : ℕ) → n < 10 → IsNumberText n ((48 + n) ∷ [])
one_digit n h = record {
  all = ap (λ b. cond b (1 + 0) 0) (digit_is n h);
  some = digit_is n h;
  value = (let v : 10 * 0 + ((48 + n) - 48) ≡ n = omega arith in v);
}

first_stays : (ds : List ℕ) (b : ℕ) → is_digit (slice_index ds 0) ≡ true → is_digit (slice_index (ds ++ b ∷ []) 0) ≡ true
first_stays [] b e = absurd cc
first_stays (d ∷ ds) b e = e

next_digit : (n : ℕ) (ds : List ℕ) → 10 ≤ n → IsNumberText (n / 10) ds → IsNumberText n (ds ++ ((48 + n % 10) ∷ []))
next_digit n ds h is =
    let d = n % 10 in
    let small : d < 10 = omega arith in
    let one : prefix_len is_digit ((48 + d) ∷ []) ≡ 1 = ap (λ b. cond b (1 + 0) 0) (digit_is d small) in
    let tested = ap (λ b. cond b (length ds + prefix_len is_digit ((48 + d) ∷ [])) (prefix_len is_digit ds)) (eq-eqb (prefix_len is_digit ds) (length ds) is.all) in
    let count : length (ds ++ ((48 + d) ∷ [])) ≡ length ds + 1 = length-append ds ((48 + d) ∷ []) in
    let v : 10 * (n / 10) + ((48 + d) - 48) ≡ n = omega arith in
    record {
      all = prefix_len-append is_digit ds ((48 + d) ∷ []) ∙ (tested ∙ (ap (λ i. length ds + i) one ∙ sym count));
      some = first_stays ds (48 + d) is.some;
      value = fold-append (λ i b. 10 * i + (b - 48)) 0 ds ((48 + d) ∷ []) ∙ (ap (λ i. 10 * i + ((48 + d) - 48)) is.value ∙ v);
    }

number_text : (n : ℕ) → n < 10 ^ 64 → IsNumberText n (decimal n)
number_text n h = decimal_by_steps_wide IsNumberText one_digit next_digit n h

first_digit : (ds z : List ℕ) → is_digit (slice_index ds 0) ≡ true → is_digit (slice_index (ds ++ z) 0) ≡ true
first_digit [] z e = absurd cc
first_digit (d ∷ ds) z e = e

limit_low : (n : ℕ) → n ≤ number_limit → n < 10 ^ 64
limit_low n h = omega (arith, h)

pub number_begins : (n : ℕ) → n ≤ number_limit → is_digit (slice_index (decimal n) 0) ≡ true
number_begins n h = (number_text n (limit_low n h)).some

pub number_read : (n : ℕ) (z : List ℕ) (ks : List Kind) → n ≤ number_limit → EndsName z → IsRead z ks → IsRead (decimal n ++ z) (kind.Number (pos n) ∷ ks)
number_read n z ks low ends r =
    let ds = decimal n in
    let is = number_text n (limit_low n low) in
    let front = take_at ds z (length ds) refl in
    let value : spelled_value (take (length ds) (ds ++ z)) ≡ n = ap spelled_value front ∙ is.value in
    let are : AreLeadingDigits (ds ++ z) (length ds) = record { digit = first_digit ds z is.some; longest = sym (all_pass is_digit ds z is.all ends.digits) } in
    token_read ds z (kind.Number (pos n)) ks (subst (λ i. BeginsPiece (ds ++ z) (Lexeme (kind.Number (pos i)) (length ds))) value (piece.number are (omega (arith, value, low)))) r

-- ---- what a `<` may open

-- The text begins with a `-`, or with what a `<` before it leaves as it is.
pub data Starts : List ℕ → List Kind → Type 0 where
  minus : {z : List ℕ} {ks : List Kind} → IsRead z ks → Starts (45 ∷ z) (kind.Symbol symbol.Minus ∷ ks)
  other : {z : List ℕ} {ks : List Kind} → longest_symbol (60 ∷ z) ≡ Some symbol.Less → list_opened ks ≡ kind.Symbol symbol.Less ∷ ks → Starts z ks

-- a text that is read, and how it starts
pub record Spells (z : List ℕ) (ks : List Kind) : Type 0 where
  pub reads : IsRead z ks
  pub starts : Starts z ks

arrow_stands : (z : List ℕ) → longest_symbol (60 ∷ 45 ∷ z) ≡ Some symbol.Arrow
unfolding longest_symbol
arrow_stands z = refl

pub opened_read : (z : List ℕ) (ks : List Kind) → Spells z ks → IsRead (60 ∷ z) (list_opened ks)
opened_read z ks s = by z ks s.reads s.starts
  where
    by : (z : List ℕ) (ks : List Kind) → IsRead z ks → Starts z ks → IsRead (60 ∷ z) (list_opened ks)
    by _ _ r (minus {z = z} {ks = ks} q) = symbol_read symbol.Arrow z ks (arrow_stands z) q
    by z ks r (other e f) = subst (IsRead (60 ∷ z)) (sym f) (symbol_read symbol.Less z ks e r)

-- a `<` before another byte stands alone
pub less_stands : (b : ℕ) (z : List ℕ) → b ≢ 61 → b ≢ 62 → b ≢ 45 → longest_symbol (60 ∷ b ∷ z) ≡ Some symbol.Less
less_stands b z p q r = longest_from (60 ∷ b ∷ z) symbol.Less (record { stands = (b ∷ z, refl); longest = longest })
  where
    longest : (x : Symbol) → BeginsWith (60 ∷ b ∷ z) (symbol_spelling x) → length (symbol_spelling x) ≤ 1
    longest symbol.LessEqual w = let e = w.1 in absurd (p cc)
    longest symbol.Differs w = let e = w.1 in absurd (q cc)
    longest symbol.Arrow w = let e = w.1 in absurd (r cc)
    longest symbol.GreaterEqual w = let e : 60 ≡ 62 = ap (λ y. slice_index y 0) w.1 in absurd (omega (arith, e))
    longest symbol.Becomes w = let e : 60 ≡ 58 = ap (λ y. slice_index y 0) w.1 in absurd (omega (arith, e))
    longest _ w = lit≤ tt
