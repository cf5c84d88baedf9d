-- Which word and which symbol stand in a text.
use Rattle.std.proofs.Common.{refl, ap, sym, subst, ◌∙◌, ◌≡◌, ◌≢◌, ℕ, ◌<◌, ◌≤◌, Bool, true, false, ◌&&◌, inl, inr, List, [], ◌∷◌, ◌++◌, length, length-append, slice_index, take, drop, find, nat_eq, Option, Some, None, arith, lit≤, codes}
use Rattle.std.specs.Str.{bytes_eq}
use Rattle.std.specs.List.{starts_with, filter}
use Rattle.std.specs.Char.{is_ascii_alphabetic, is_ascii_uppercase}
use Rattle.std.proofs.lemmas.Bool.Decides.{nat_tests}
use Rattle.std.proofs.lemmas.Slice.Eq.{bytes_eq-Decides}
use Rattle.std.proofs.lemmas.List.{take_at}
use Rattle.tp_lex.specs.declared.token.Word.{Word}
use Rattle.tp_lex.specs.declared.token.Word.TheVariants as w
use Rattle.tp_lex.specs.declared.token.Symbol.{Symbol}
use Rattle.tp_lex.specs.declared.token.Symbol.TheVariants as s
use Rattle.tp_lex.specs.declared.spelling.TheConstants.{WORDS, SYMBOLS}
use Rattle.tp_lex.specs.Spelling.{word_spelling, symbol_spelling}
use Rattle.tp_lex.specs.Spelled.{has_letters, spelled_word, longest_symbol}
use Rattle.tp_lex.specs.Bytes.{is_blank, is_digit}
use Rattle.tp_lex.specs.Pieces.{BeginsWith, IsNoWord, IsLongestSymbol}
use Rattle.tp_lex.proofs.Lists.{find_sieved, AllFail, find_passes, find_none, find_early, begins_from, starts_from}

-- ---- words

pub word_found : (word : Word) → spelled_word (word_spelling word) ≡ Some word
unfolding spelled_word
word_found w.If = refl
word_found _ = refl

pub word_short : (word : Word) → length (word_spelling word) ≤ 9
word_short w.If = lit≤ tt
word_short _ = lit≤ tt

pub word_is : (text : List ℕ) (word : Word) → spelled_word text ≡ Some word → text ≡ word_spelling word
unfolding spelled_word
word_is text word e = sym ((bytes_eq-Decides (word_spelling word) text).0 (find_passes (λ w. bytes_eq (word_spelling w) text) WORDS word e))

pub word_from : (text : List ℕ) (word : Word) → text ≡ word_spelling word → spelled_word text ≡ Some word
word_from text word e = ap spelled_word e ∙ word_found word

pub no_word : (text : List ℕ) → spelled_word text ≡ None → IsNoWord text
no_word text none word e = let found = word_from text word e in cc

pub word_none : (text : List ℕ) → IsNoWord text → spelled_word text ≡ None
word_none text never = at (spelled_word text) refl
  where
    at : (o : Option Word) → spelled_word text ≡ o → o ≡ None
    at (Some word) e = absurd (never word (word_is text word e))
    at None e = refl

-- the word has so many letters, and begins with this one
abbrev is_like : ℕ → ℕ → Word → Bool
is_like n b word = has_letters n word && nat_eq (slice_index (word_spelling word) 0) b

unlike : (text : List ℕ) (n b : ℕ) → length text ≡ n → slice_index text 0 ≡ b → (word : Word) → is_like n b word ≡ false → bytes_eq (word_spelling word) text ≡ false
unlike text n b e f word other = at (bytes_eq (word_spelling word) text) refl
  where
    at : (t : Bool) → bytes_eq (word_spelling word) text ≡ t → t ≡ false
    at true found =
        let same : word_spelling word ≡ text = (bytes_eq-Decides (word_spelling word) text).0 found in
        let letters : length (word_spelling word) ≡ n = ap length same ∙ e in
        let first : slice_index (word_spelling word) 0 ≡ b = ap (λ z. slice_index z 0) same ∙ f in
        grind (arith, nat_tests)
    at false found = refl

-- the words of the text's length and first byte are enough
pub word_by_first : (text : List ℕ) (n b : ℕ) → length text ≡ n → slice_index text 0 ≡ b → find (λ w. bytes_eq (word_spelling w) text) (filter (is_like n b) WORDS) ≡ spelled_word text
unfolding spelled_word
word_by_first text n b e f = find_sieved (λ w. bytes_eq (word_spelling w) text) (is_like n b) (unlike text n b e f) WORDS

-- no word is empty
pub no_word_in : (text : List ℕ) → length text ≡ 0 → spelled_word text ≡ None
unfolding spelled_word
no_word_in [] none = refl
no_word_in (b ∷ text) none = absurd (omega arith)

lowercase : (word : Word) → is_ascii_uppercase (slice_index (word_spelling word) 0) ≡ false
lowercase w.If = refl
lowercase _ = refl

-- no word begins with an upper-case letter
pub upper_no_word : (text : List ℕ) → is_ascii_uppercase (slice_index text 0) ≡ true → spelled_word text ≡ None
upper_no_word text e = word_none text (λ word same. let low = ap (λ z. is_ascii_uppercase (slice_index z 0)) same ∙ lowercase word in cc)

-- ---- symbols

-- whether the text begins with the symbol
abbrev begins : List ℕ → Symbol → Bool
begins z = λ symbol. starts_with nat_eq z (symbol_spelling symbol)

short : (symbol : Symbol) → length (symbol_spelling symbol) ≤ 2
short s.OpenRound = lit≤ tt
short _ = lit≤ tt

pub some : (symbol : Symbol) → 1 ≤ length (symbol_spelling symbol)
some s.OpenRound = lit≤ tt
some _ = lit≤ tt

-- the whole text is the symbol
abbrev spelled_symbol : List ℕ → Option Symbol
spelled_symbol text = find (λ symbol. bytes_eq (symbol_spelling symbol) text) SYMBOLS

symbol_found : (symbol : Symbol) → spelled_symbol (symbol_spelling symbol) ≡ Some symbol
symbol_found s.OpenRound = refl
symbol_found _ = refl

one_spelling : (a b : Symbol) → symbol_spelling a ≡ symbol_spelling b → a ≡ b
one_spelling a b e = let same = ap spelled_symbol e in let x = symbol_found a in let y = symbol_found b in cc

abbrev pairs : List Symbol
pairs = s.LessEqual ∷ s.GreaterEqual ∷ s.Differs ∷ s.Becomes ∷ s.Arrow ∷ []

abbrev singles : List Symbol
singles = drop 5 SYMBOLS

fails_at : (test : Symbol → Bool) (symbol : Symbol) → AllFail test SYMBOLS → test symbol ≡ false
fails_at test s.OpenRound all = assumption
fails_at test _ all = assumption

-- a longer symbol would have been found
longest_of : (z : List ℕ) (symbol other : Symbol) → AllFail (begins z) pairs → begins z other ≡ true → length (symbol_spelling other) ≤ length (symbol_spelling symbol)
longest_of z symbol s.LessEqual all e = absurd cc
longest_of z symbol s.GreaterEqual all e = absurd cc
longest_of z symbol s.Differs all e = absurd cc
longest_of z symbol s.Becomes all e = absurd cc
longest_of z symbol s.Arrow all e = absurd cc
longest_of z symbol _ all e = some symbol

pub longest_is : (z : List ℕ) (symbol : Symbol) → longest_symbol z ≡ Some symbol → IsLongestSymbol z symbol
unfolding longest_symbol
longest_is z symbol e = record {
  stands = begins_from z (symbol_spelling symbol) (find_passes (begins z) SYMBOLS symbol e);
  longest = λ other b. elim (find_early (begins z) (λ x. 2 ≤ length (symbol_spelling x)) pairs singles symbol (lit≤ tt, (lit≤ tt, (lit≤ tt, (lit≤ tt, (lit≤ tt, tt))))) e) [
    | inl two ↦ let most = short other in omega arith
    | inr all ↦ longest_of z symbol other all (starts_from z (symbol_spelling other) b)
  ];
}

pub no_symbol : (z : List ℕ) → longest_symbol z ≡ None → (symbol : Symbol) → ¬ BeginsWith z (symbol_spelling symbol)
unfolding longest_symbol
no_symbol z e symbol b =
    let fails = fails_at (begins z) symbol (find_none (begins z) SYMBOLS e) in
    let stands = starts_from z (symbol_spelling symbol) b in
    cc

pub symbol_none : (z : List ℕ) → ((symbol : Symbol) → ¬ BeginsWith z (symbol_spelling symbol)) → longest_symbol z ≡ None
symbol_none z never = at (longest_symbol z) refl
  where
    at : (o : Option Symbol) → longest_symbol z ≡ o → o ≡ None
    at (Some symbol) e = absurd (never symbol (longest_is z symbol e).stands)
    at None e = refl

-- two fronts of one length are one
one_front : (z a b x y : List ℕ) → z ≡ a ++ x → z ≡ b ++ y → length a ≡ length b → a ≡ b
one_front z a b x y e f same = sym (take_at a x (length a) refl) ∙ (ap (take (length a)) (sym e ∙ f) ∙ (ap (λ n. take n (b ++ y)) same ∙ take_at b y (length b) refl))

pub longest_from : (z : List ℕ) (symbol : Symbol) → IsLongestSymbol z symbol → longest_symbol z ≡ Some symbol
longest_from z symbol is = at (longest_symbol z) refl
  where
    at : (o : Option Symbol) → longest_symbol z ≡ o → o ≡ Some symbol
    at (Some other) e =
        let found = longest_is z other e in
        let one = is.longest other found.stands in
        let two = found.longest symbol is.stands in
        let same : symbol_spelling other ≡ symbol_spelling symbol = one_front z _ _ found.stands.0 is.stands.0 found.stands.1 is.stands.1 (omega arith) in
        ap Some (one_spelling other symbol same)
    at None e = absurd (no_symbol z e symbol is.stands)

-- no symbol begins with a byte that begins something else
pub symbol_byte : (symbol : Symbol) (rest : List ℕ) →
    let b = slice_index (symbol_spelling symbol ++ rest) 0 in
    (is_blank b ≡ false) × (is_ascii_alphabetic b ≡ false) × (is_digit b ≡ false) × (starts_with nat_eq (symbol_spelling symbol ++ rest) (codes "/*") ≡ false)
symbol_byte s.OpenRound rest = (refl, refl, refl, refl)
symbol_byte _ rest = (refl, refl, refl, refl)

-- the symbol begins with this byte
abbrev first_is : ℕ → Symbol → Bool
first_is b symbol = nat_eq (slice_index (symbol_spelling symbol) 0) b

first_byte : (symbol : Symbol) (rest : List ℕ) → slice_index (symbol_spelling symbol ++ rest) 0 ≡ slice_index (symbol_spelling symbol) 0
first_byte s.OpenRound rest = refl
first_byte _ rest = refl

begins_so : (z : List ℕ) (symbol : Symbol) → begins z symbol ≡ true → slice_index z 0 ≡ slice_index (symbol_spelling symbol) 0
begins_so z symbol e = let b = begins_from z (symbol_spelling symbol) e in ap (λ x. slice_index x 0) b.1 ∙ first_byte symbol b.0

other_byte : (z : List ℕ) (b : ℕ) → slice_index z 0 ≡ b → (symbol : Symbol) → first_is b symbol ≡ false → begins z symbol ≡ false
other_byte z b e symbol other = at (begins z symbol) refl
  where
    at : (t : Bool) → begins z symbol ≡ t → t ≡ false
    at true found = let same : slice_index (symbol_spelling symbol) 0 ≡ b = sym (begins_so z symbol found) ∙ e in grind (arith, nat_tests)
    at false found = refl

-- the symbols that begin with the text's first byte are enough
pub symbol_by_byte : (z : List ℕ) (b : ℕ) → slice_index z 0 ≡ b → find (begins z) (filter (first_is b) SYMBOLS) ≡ longest_symbol z
unfolding longest_symbol
symbol_by_byte z b e = find_sieved (begins z) (first_is b) (other_byte z b e) SYMBOLS

begins_by : (z : List ℕ) (b : ℕ) → slice_index z 0 ≡ b → 0 < length z → BeginsWith z (b ∷ [])
begins_by [] b e some = absurd (omega arith)
begins_by (x ∷ z) b e some = (z, ap (λ y. y ∷ z) e)

-- the only symbol that begins with the text's first byte, which is all of it
pub single_symbol : (z : List ℕ) (b : ℕ) (symbol : Symbol) → filter (first_is b) SYMBOLS ≡ symbol ∷ [] → symbol_spelling symbol ≡ b ∷ [] → slice_index z 0 ≡ b → 0 < length z → Some symbol ≡ longest_symbol z
single_symbol z b symbol only spelled e some =
    let stands : begins z symbol ≡ true = starts_from z (symbol_spelling symbol) (subst (BeginsWith z) (sym spelled) (begins_by z b e some)) in
    let found : find (begins z) (symbol ∷ []) ≡ Some symbol = rw stands refl in
    sym found ∙ (ap (find (begins z)) (sym only) ∙ symbol_by_byte z b e)

byte_at : (first : ℕ) (symbol : Symbol) → first ≢ 60 → first ≢ 62 → first ≢ 58 → first ≢ 40 → first ≢ 41 → first ≢ 123 → first ≢ 125 → first ≢ 91 → first ≢ 93 → first ≢ 61 → first ≢ 43 → first ≢ 45 → first ≢ 42 → first ≢ 59 → first ≢ 44 → first ≢ 46 → first ≢ 124 → first ≡ slice_index (symbol_spelling symbol) 0 → ⊥
byte_at first s.OpenRound n60 n62 n58 n40 n41 n123 n125 n91 n93 n61 n43 n45 n42 n59 n44 n46 n124 e = omega (arith, e, n60, n62, n58, n40, n41, n123, n125, n91, n93, n61, n43, n45, n42, n59, n44, n46, n124)
byte_at first _ n60 n62 n58 n40 n41 n123 n125 n91 n93 n61 n43 n45 n42 n59 n44 n46 n124 e = omega (arith, e, n60, n62, n58, n40, n41, n123, n125, n91, n93, n61, n43, n45, n42, n59, n44, n46, n124)

-- no symbol begins with another byte
pub no_symbol_byte : (z : List ℕ) → slice_index z 0 ≢ 60 → slice_index z 0 ≢ 62 → slice_index z 0 ≢ 58 → slice_index z 0 ≢ 40 → slice_index z 0 ≢ 41 → slice_index z 0 ≢ 123 → slice_index z 0 ≢ 125 → slice_index z 0 ≢ 91 → slice_index z 0 ≢ 93 → slice_index z 0 ≢ 61 → slice_index z 0 ≢ 43 → slice_index z 0 ≢ 45 → slice_index z 0 ≢ 42 → slice_index z 0 ≢ 59 → slice_index z 0 ≢ 44 → slice_index z 0 ≢ 46 → slice_index z 0 ≢ 124 → longest_symbol z ≡ None
no_symbol_byte z n60 n62 n58 n40 n41 n123 n125 n91 n93 n61 n43 n45 n42 n59 n44 n46 n124 = symbol_none z (λ symbol b. byte_at (slice_index z 0) symbol n60 n62 n58 n40 n41 n123 n125 n91 n93 n61 n43 n45 n42 n59 n44 n46 n124 (ap (λ x. slice_index x 0) b.1 ∙ first_byte symbol b.0))

pub no_symbol_in : (z : List ℕ) → length z ≡ 0 → longest_symbol z ≡ None
no_symbol_in z none = symbol_none z (λ symbol b. let whole = ap length b.1 in let parts = length-append (symbol_spelling symbol) b.0 in let one = some symbol in omega arith)
