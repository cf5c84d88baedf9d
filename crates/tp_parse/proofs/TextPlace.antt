-- What goes on as a list of tokens goes on as a text: a blank follows, and then a text with the same marks.
use Rattle.std.proofs.Common.{◌≡◌, ◌≢◌, ℕ, ◌+◌, ◌<◌, suc, pos, List, [], ◌∷◌, ◌++◌, length, take, slice_get, codes, Some, inl, inr, refl, ap, subst, ◌∙◌, arith, lit≤}
use Rattle.std.specs.Fmt.{decimal}
use Rattle.std.proofs.lemmas.Option.{slice_get_cases}
use Rattle.tp_lex.specs.declared.token.Token.{Token}
use Rattle.tp_lex.specs.declared.token.Kind.{Kind}
use Rattle.tp_lex.specs.declared.token.Kind.TheVariants as kind
use Rattle.tp_lex.specs.declared.token.Word.{Word}
use Rattle.tp_lex.specs.declared.token.Word.TheVariants as word
use Rattle.tp_lex.specs.declared.token.Symbol.{Symbol}
use Rattle.tp_lex.specs.declared.token.Symbol.TheVariants as symbol
use Rattle.tp_lex.specs.Spelling.{word_spelling, symbol_spelling}
use Rattle.tp_lex.specs.Spelled.{longest_symbol}
use Rattle.tp_lex.specs.Tokens.{AreTokens}
use Rattle.tp_tree.specs.Tree.{SourceTree}
use Rattle.tp_parse.specs.declared.refusal.ParseRefusal.{ParseRefusal}
use Rattle.tp_parse.specs.declared.refusal.ParseRefusal.TheVariants.{Unexpected, Unfinished, TooDeep, NoMemory}
use Rattle.tp_parse.specs.Marks.{kind_mark, Tokens}
use Rattle.tp_parse.specs.Spelled.{token_kinds}
use Rattle.tp_parse.specs.SpelledText.{IsVariableText}
use Rattle.tp_parse.specs.Grammar.{IsSource}
use Rattle.tp_parse.specs.Place.{GoesOn, GoesOnHigher, BlamesFirst, GoesOnInText, GoesOnHigherInText, BlamesFirstInText}
use Rattle.tp_parse.proofs.TextTokens.{IsRead, EndsName, nothing_read, space_read, word_read, symbol_read, name_read, number_read}
use Rattle.tp_parse.proofs.SameMarks.{SameMarks, none, one, behind_same, source_same}
use Rattle.tp_parse.proofs.TextCut.{ReadsUpTo, cut_read, up_to_token, up_to_end}

-- a token with the same mark, which stands in a text
abbrev plain : Kind → Kind
plain (kind.Upper x) = kind.Upper (codes "A")
plain (kind.Lower x) = kind.Lower (codes "p")
plain (kind.Number n) = kind.Number (pos 0)
plain (kind.Word w) = kind.Word w
plain (kind.Symbol x) = kind.Symbol x

abbrev plain_text : Kind → List ℕ
plain_text (kind.Upper x) = codes "A"
plain_text (kind.Lower x) = codes "p"
plain_text (kind.Number n) = decimal 0
plain_text (kind.Word w) = word_spelling w
plain_text (kind.Symbol x) = symbol_spelling x

plain_mark : (k : Kind) → kind_mark (plain k) ≡ kind_mark k
plain_mark (kind.Upper x) = refl
plain_mark _ = refl

-- such tokens, with a blank behind each
abbrev plain_kinds : Tokens → List Kind
plain_kinds [] = []
plain_kinds (t ∷ ts) = plain t.kind ∷ plain_kinds ts

abbrev plain_texts : Tokens → List ℕ
plain_texts [] = []
plain_texts (t ∷ ts) = plain_text t.kind ++ (32 ∷ plain_texts ts)

a_word_not : (w : Word) → codes "A" ≢ word_spelling w
a_word_not word.If e = absurd cc
a_word_not _ e = absurd cc

p_word_not : (w : Word) → codes "p" ≢ word_spelling w
p_word_not word.If e = absurd cc
p_word_not _ e = absurd cc

a_variable : IsVariableText (codes "A")
a_variable = record { spelled = record { letter = refl; longest = refl }; short = lit≤ tt; no_word = a_word_not }

p_variable : IsVariableText (codes "p")
p_variable = record { spelled = record { letter = refl; longest = refl }; short = lit≤ tt; no_word = p_word_not }

symbol_stands : (x : Symbol) (w : List ℕ) → longest_symbol (symbol_spelling x ++ (32 ∷ w)) ≡ Some x
unfolding longest_symbol
symbol_stands symbol.OpenRound w = refl
symbol_stands _ w = refl

blank_ends : (w : List ℕ) → EndsName (32 ∷ w)
blank_ends w = record { name = refl; digits = refl }

plain_read : (k : Kind) (w : List ℕ) (ks : List Kind) → IsRead (32 ∷ w) ks → IsRead (plain_text k ++ (32 ∷ w)) (plain k ∷ ks)
plain_read (kind.Upper x) w ks r = name_read (codes "A") (32 ∷ w) ks a_variable (blank_ends w) r
plain_read (kind.Lower x) w ks r = name_read (codes "p") (32 ∷ w) ks p_variable (blank_ends w) r
plain_read (kind.Number n) w ks r = number_read 0 (32 ∷ w) ks (lit≤ tt) (blank_ends w) r
plain_read (kind.Word x) w ks r = word_read x (32 ∷ w) ks (blank_ends w) r
plain_read (kind.Symbol x) w ks r = symbol_read x (32 ∷ w) ks (symbol_stands x w) r

plain_texts_read : (ts : Tokens) → IsRead (plain_texts ts) (plain_kinds ts)
plain_texts_read [] = nothing_read
plain_texts_read (t ∷ ts) = plain_read t.kind (plain_texts ts) (plain_kinds ts) (space_read _ _ (plain_texts_read ts))

plain_same : (ts us : Tokens) → token_kinds us ≡ plain_kinds ts → SameMarks ts us
plain_same [] [] e = none
plain_same [] (u ∷ us) e = absurd cc
plain_same (t ∷ ts) [] e = absurd cc
plain_same (t ∷ ts) (u ∷ us) e =
    let same : u.kind ≡ plain t.kind = cc in
    let rest : token_kinds us ≡ plain_kinds ts = cc in
    one (ap kind_mark same ∙ plain_mark t.kind) (plain_same ts us rest)

higher_in_text : {bytes : List ℕ} {end : ℕ} {ts : Tokens} → ReadsUpTo bytes 0 ts end → (more : Tokens) (x : SourceTree) (h : ℕ) → IsSource (ts ++ more) x h
    → (w : List ℕ) × (us : Tokens) × (y : SourceTree) × AreTokens (take end bytes ++ w) (ts ++ us) × IsSource (ts ++ us) y h
higher_in_text {ts = ts} r more x h is =
    let read = cut_read (plain_texts more) (plain_kinds more) r (omega arith) (plain_texts_read more) in
    let again = source_same (behind_same ts (plain_same more read.0 read.2)) is in
    (32 ∷ plain_texts more, read.0, again.0, read.1, again.1)

goes_in_text : {bytes : List ℕ} {end : ℕ} {ts : Tokens} → ReadsUpTo bytes 0 ts end → GoesOn ts → GoesOnInText bytes end ts
goes_in_text r (more, x, is) =
    let made = higher_in_text r more x is.height is.source in
    (made.0, made.1, made.2, made.3, record { height = is.height; source = made.4; low = is.low })

goes_higher_in_text : {bytes : List ℕ} {end : ℕ} {ts : Tokens} → ReadsUpTo bytes 0 ts end → GoesOnHigher ts → GoesOnHigherInText bytes end ts
goes_higher_in_text r (more, x, h, is) = let made = higher_in_text r more x h is in (made.0, made.1, made.2, h, made.3, made.4)

token_there : (ts : Tokens) (i : ℕ) → i < length ts → (t : Token) × (slice_get ts i ≡ Some t)
token_there ts i less = elim (slice_get_cases ts i).1 [ inl is ↦ (is.0, is.2) | inr past ↦ absurd (omega (arith, less, past.0)) ]

pub place_in_text : (bytes : List ℕ) (ts : Tokens) (e : ParseRefusal) → AreTokens bytes ts → BlamesFirst ts e → BlamesFirstInText bytes ts e
place_in_text bytes ts (Unexpected i) are place =
    let t = token_there ts i place.0 in
    (t.0, t.1, goes_in_text (up_to_token i t.0 are t.1).0 place.1, λ more. place.2 (more.1, more.2, more.3, more.5))
place_in_text bytes ts (TooDeep i) are place =
    let t = token_there ts i place.0 in
    let next : suc i ≡ i + 1 = omega arith in
    let parts = up_to_token i t.0 are t.1 in
    let whole = subst (λ n. ReadsUpTo bytes 0 (take n ts) t.0.to) next parts.1 in
    (t.0, t.1, goes_in_text parts.0 place.1, λ more. place.2 (more.1, more.2, more.4), goes_higher_in_text whole place.3)
place_in_text bytes ts Unfinished are place = (goes_in_text (up_to_end are) place.0, place.1)
place_in_text bytes ts NoMemory are place = tt
