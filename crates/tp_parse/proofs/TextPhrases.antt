-- The canonical spelling of phrases is read as its tokens.
use Rattle.std.proofs.Common.{◌≡◌, ℕ, Bool, true, false, cond, nat_le, List, [], ◌∷◌, ◌++◌, append_assoc, slice_index, Some, codes, refl, sym, ap, subst, ◌∙◌}
use Rattle.std.specs.Char.{is_ascii_alphabetic, is_ascii_uppercase}
use Rattle.tp_lex.specs.declared.token.Kind.{Kind}
use Rattle.tp_lex.specs.declared.token.Kind.TheVariants as kind
use Rattle.tp_lex.specs.declared.token.Word.{Word}
use Rattle.tp_lex.specs.declared.token.Word.TheVariants as word
use Rattle.tp_lex.specs.declared.token.Symbol.{Symbol}
use Rattle.tp_lex.specs.declared.token.Symbol.TheVariants as symbol
use Rattle.tp_lex.specs.Spelling.{word_spelling, symbol_spelling}
use Rattle.tp_lex.specs.Spelled.{longest_symbol}
use Rattle.tp_lex.specs.Bytes.{is_digit}
use Rattle.tp_tree.specs.declared.operator.Op.{Op}
use Rattle.tp_tree.specs.declared.operator.Op.TheVariants as op
use Rattle.tp_tree.specs.Tree.{PhraseTree, phrase, KindTree, PhraseTrees, no_phrase, phrase_then}
use Rattle.tp_tree.specs.Levels.{kind_level}
use Rattle.tp_tree.specs.Spelling.{op_spelling, operand_spelling, operands_spelling, kind_spelling}
use Rattle.tp_parse.specs.Spelled.{op_kind, variable_kind, comma_kind, open_kind, close_kind, list_opened, operand_kinds, more_operands, operands_kinds, kind_kinds}
use Rattle.tp_parse.proofs.TextTokens.{IsRead, space_read, symbol_read, EndsName, word_read, other, Spells, less_stands}

-- ---- what may follow a phrase

pub data Follows : List ℕ → Type 0 where
  space : {z : List ℕ} → Follows (32 ∷ z)
  close : {z : List ℕ} → Follows (41 ∷ z)
  comma : {z : List ℕ} → Follows (44 ∷ z)
  stop : {z : List ℕ} → Follows (46 ∷ z)
  greater : {z : List ℕ} → Follows (62 ∷ z)
  open_square : {z : List ℕ} → Follows (91 ∷ z)
  close_square : {z : List ℕ} → Follows (93 ∷ z)
  bar : {z : List ℕ} → Follows (124 ∷ z)

pub ends : {z : List ℕ} → Follows z → EndsName z
ends space = record { name = refl; digits = refl }
ends _ = record { name = refl; digits = refl }

pub round_ends : (z : List ℕ) → EndsName (40 ∷ z)
round_ends z = record { name = refl; digits = refl }

-- ---- symbols

-- no longer symbol begins with it
abbrev pub is_longest : Symbol → Bool
is_longest symbol.Less = false
is_longest symbol.Greater = false
is_longest symbol.Colon = false
is_longest _ = true

longest_stands : (x : Symbol) → is_longest x ≡ true → (z : List ℕ) → longest_symbol (symbol_spelling x ++ z) ≡ Some x
unfolding longest_symbol
longest_stands symbol.Less e z = absurd cc
longest_stands symbol.Greater e z = absurd cc
longest_stands symbol.Colon e z = absurd cc
longest_stands _ e z = refl

pub longest_read : (x : Symbol) → is_longest x ≡ true → (z : List ℕ) (ks : List Kind) → IsRead z ks → IsRead (symbol_spelling x ++ z) (kind.Symbol x ∷ ks)
longest_read x e z ks r = symbol_read x z ks (longest_stands x e z) r

-- before a space each symbol is the longest
spaced_stands : (x : Symbol) (z : List ℕ) → longest_symbol (symbol_spelling x ++ (32 ∷ z)) ≡ Some x
unfolding longest_symbol
spaced_stands symbol.Less z = refl
spaced_stands _ z = refl

symbol_then : (x : Symbol) (z : List ℕ) (ks : List Kind) → IsRead z ks → IsRead (symbol_spelling x ++ (32 ∷ z)) (kind.Symbol x ∷ ks)
symbol_then x z ks r = symbol_read x (32 ∷ z) ks (spaced_stands x z) (space_read z ks r)

pub comma_read : (z : List ℕ) (ks : List Kind) → IsRead z ks → IsRead (44 ∷ 32 ∷ z) (comma_kind ∷ ks)
comma_read = symbol_then symbol.Comma

-- a colon with a space on each side, and a `<`
pub colon_read : (z : List ℕ) (ks : List Kind) → IsRead z ks → IsRead (32 ∷ 58 ∷ 32 ∷ z) (kind.Symbol symbol.Colon ∷ ks)
colon_read z ks r = space_read _ _ (symbol_then symbol.Colon z ks r)

pub less_read : (z : List ℕ) (ks : List Kind) → IsRead z ks → IsRead (32 ∷ 60 ∷ 32 ∷ z) (kind.Symbol symbol.Less ∷ ks)
less_read z ks r = space_read _ _ (symbol_then symbol.Less z ks r)

pub equal_read : (z : List ℕ) (ks : List Kind) → IsRead z ks → IsRead (41 ∷ 32 ∷ 61 ∷ 32 ∷ z) (close_kind ∷ kind.Symbol symbol.Equal ∷ ks)
equal_read z ks r = longest_read symbol.CloseRound refl _ _ (space_read _ _ (symbol_then symbol.Equal z ks r))

-- the end of a list
greater_stands : {z : List ℕ} → Follows z → longest_symbol (62 ∷ z) ≡ Some symbol.Greater
unfolding longest_symbol
greater_stands space = refl
greater_stands _ = refl

pub greater_read : (z : List ℕ) (ks : List Kind) → Follows z → IsRead z ks → IsRead (62 ∷ z) (kind.Symbol symbol.Greater ∷ ks)
greater_read z ks fo r = symbol_read symbol.Greater z ks (greater_stands fo) r

-- ---- words

-- a word with a space behind it, and with one on each side
pub word_then : (w : Word) (z : List ℕ) (ks : List Kind) → IsRead z ks → IsRead (word_spelling w ++ (32 ∷ z)) (kind.Word w ∷ ks)
word_then w z ks r = word_read w (32 ∷ z) ks (ends space) (space_read z ks r)

pub between : (w : Word) (z : List ℕ) (ks : List Kind) → IsRead z ks → IsRead (32 ∷ (word_spelling w ++ (32 ∷ z))) (kind.Word w ∷ ks)
between w z ks r = space_read _ _ (word_then w z ks r)

-- the text is that of a word or a symbol
abbrev IsTextOf : Kind → List ℕ → Type 0
IsTextOf (kind.Word w) text = text ≡ word_spelling w
IsTextOf (kind.Symbol x) text = text ≡ symbol_spelling x
IsTextOf (kind.Upper x) text = ⊥
IsTextOf (kind.Lower x) text = ⊥
IsTextOf (kind.Number n) text = ⊥

spaced_read : (k : Kind) (text z : List ℕ) (ks : List Kind) → IsTextOf k text → IsRead z ks → IsRead (32 ∷ (text ++ (32 ∷ z))) (k ∷ ks)
spaced_read (kind.Word w) text z ks is r = subst (λ y. IsRead (32 ∷ (y ++ (32 ∷ z))) (kind.Word w ∷ ks)) (sym is) (between w z ks r)
spaced_read (kind.Symbol x) text z ks is r = subst (λ y. IsRead (32 ∷ (y ++ (32 ∷ z))) (kind.Symbol x ∷ ks)) (sym is) (space_read _ _ (symbol_then x z ks r))
spaced_read (kind.Upper x) text z ks is r = absurd is
spaced_read (kind.Lower x) text z ks is r = absurd is
spaced_read (kind.Number n) text z ks is r = absurd is

op_text : (o : Op) → IsTextOf (op_kind o) (op_spelling o)
op_text op.Chop = refl
op_text _ = refl

pub op_read : (o : Op) (z : List ℕ) (ks : List Kind) → IsRead z ks → IsRead (32 ∷ (op_spelling o ++ (32 ∷ z))) (op_kind o ∷ ks)
op_read o z ks r = spaced_read (op_kind o) (op_spelling o) z ks (op_text o) r

-- a text that begins with a word
word_starts : (w : Word) (z : List ℕ) → longest_symbol (60 ∷ (word_spelling w ++ z)) ≡ Some symbol.Less
unfolding longest_symbol
word_starts word.If z = refl
word_starts _ z = refl

pub word_spells : (w : Word) (z : List ℕ) (ks : List Kind) → EndsName z → IsRead z ks → Spells (word_spelling w ++ z) (kind.Word w ∷ ks)
word_spells w z ks e r = record { reads = word_read w z ks e r; starts = other (word_starts w z) refl }

-- ---- names and numbers

pub letter_starts : (x z : List ℕ) → is_ascii_alphabetic (slice_index x 0) ≡ true → longest_symbol (60 ∷ (x ++ z)) ≡ Some symbol.Less
letter_starts [] z e = absurd cc
letter_starts (c ∷ x) z e = less_stands c (x ++ z) (λ q. let w = sym (ap is_ascii_alphabetic q) ∙ e in cc) (λ q. let w = sym (ap is_ascii_alphabetic q) ∙ e in cc) (λ q. let w = sym (ap is_ascii_alphabetic q) ∙ e in cc)

pub digit_starts : (x z : List ℕ) → is_digit (slice_index x 0) ≡ true → longest_symbol (60 ∷ (x ++ z)) ≡ Some symbol.Less
digit_starts [] z e = absurd cc
digit_starts (c ∷ x) z e = less_stands c (x ++ z) (λ q. let w = sym (ap is_digit q) ∙ e in cc) (λ q. let w = sym (ap is_digit q) ∙ e in cc) (λ q. let w = sym (ap is_digit q) ∙ e in cc)

pub variable_opened : (x : List ℕ) (ks : List Kind) → list_opened (variable_kind x ∷ ks) ≡ kind.Symbol symbol.Less ∷ variable_kind x ∷ ks
variable_opened x ks = by (is_ascii_uppercase (slice_index x 0))
  where
    by : (u : Bool) → list_opened (cond u (kind.Upper x) (kind.Lower x) ∷ ks) ≡ kind.Symbol symbol.Less ∷ cond u (kind.Upper x) (kind.Lower x) ∷ ks
    by true = refl
    by false = refl

-- ---- phrases

-- whatever follows them
abbrev pub SpellsKind : KindTree → Type 0
SpellsKind k = (z : List ℕ) (ks : List Kind) → Follows z → IsRead z ks → Spells (kind_spelling k ++ z) (kind_kinds k ks)

abbrev pub SpellsOperand : PhraseTree → Type 0
SpellsOperand p = (level : ℕ) (z : List ℕ) (ks : List Kind) → Follows z → IsRead z ks → Spells (operand_spelling level p ++ z) (operand_kinds level p ks)

pub moved : (y z : List ℕ) (ks : List Kind) → y ≡ z → Spells z ks → Spells y ks
moved y z ks e s = subst (λ x. Spells x ks) (sym e) s

round_starts : (z : List ℕ) → longest_symbol (60 ∷ 40 ∷ z) ≡ Some symbol.Less
unfolding longest_symbol
round_starts z = refl

round_spells : (k : KindTree) → SpellsKind k → (z : List ℕ) (ks : List Kind) → IsRead z ks → Spells (40 ∷ (kind_spelling k ++ (41 ∷ z))) (open_kind ∷ kind_kinds k (close_kind ∷ ks))
round_spells k s z ks r = record { reads = longest_read symbol.OpenRound refl _ _ (s (41 ∷ z) (close_kind ∷ ks) close (longest_read symbol.CloseRound refl z ks r)).reads; starts = other (round_starts _) refl }

pub operand_spells : (at : ℕ) (k : KindTree) → SpellsKind k → SpellsOperand (phrase at k)
operand_spells at k s level z ks fo r = by (nat_le (kind_level k) level)
  where
    by : (low : Bool) → Spells (cond low (kind_spelling k) (codes "(" ++ kind_spelling k ++ codes ")") ++ z) (cond low (kind_kinds k ks) (open_kind ∷ kind_kinds k (close_kind ∷ ks)))
    by true = s z ks fo r
    by false =
        let shape : (codes "(" ++ kind_spelling k ++ codes ")") ++ z ≡ 40 ∷ (kind_spelling k ++ (41 ∷ z)) = simp append_assoc in
        moved _ _ _ shape (round_spells k s z ks r)

abbrev pub SpellOperands : PhraseTrees → Type 0
SpellOperands no_phrase = Unit {0}
SpellOperands (phrase_then p ps) = SpellsOperand p × SpellOperands ps

-- what follows an operand, where a separator with a space before or behind it may follow
pub commas_read : (level : ℕ) (ps : PhraseTrees) → SpellOperands ps → (z : List ℕ) (ks : List Kind) → Follows z → IsRead z ks → Follows (operands_spelling (codes ", ") (codes ", ") level ps ++ z) × IsRead (operands_spelling (codes ", ") (codes ", ") level ps ++ z) (more_operands comma_kind level ps ks)
commas_read level no_phrase s z ks fo r = (fo, r)
commas_read level (phrase_then p ps) s z ks fo r =
    let more = commas_read level ps s.1 z ks fo r in
    let shape : operands_spelling (codes ", ") (codes ", ") level (phrase_then p ps) ++ z ≡ 44 ∷ 32 ∷ (operand_spelling level p ++ (operands_spelling (codes ", ") (codes ", ") level ps ++ z)) = simp append_assoc in
    (comma, subst (λ y. IsRead y (more_operands comma_kind level (phrase_then p ps) ks)) (sym shape) (comma_read _ _ (s.0 level _ _ more.0 more.1).reads))

pub ands_read : (level : ℕ) (ps : PhraseTrees) → SpellOperands ps → (z : List ℕ) (ks : List Kind) → Follows z → IsRead z ks → Follows (operands_spelling (codes " and ") (codes " and ") level ps ++ z) × IsRead (operands_spelling (codes " and ") (codes " and ") level ps ++ z) (more_operands (kind.Word word.And) level ps ks)
ands_read level no_phrase s z ks fo r = (fo, r)
ands_read level (phrase_then p ps) s z ks fo r =
    let more = ands_read level ps s.1 z ks fo r in
    let shape : operands_spelling (codes " and ") (codes " and ") level (phrase_then p ps) ++ z ≡ 32 ∷ (word_spelling word.And ++ (32 ∷ (operand_spelling level p ++ (operands_spelling (codes " and ") (codes " and ") level ps ++ z)))) = simp append_assoc in
    (space, subst (λ y. IsRead y (more_operands (kind.Word word.And) level (phrase_then p ps) ks)) (sym shape) (between word.And _ _ (s.0 level _ _ more.0 more.1).reads))

-- operands in `(` and `)`
pub round_operands : (ps : PhraseTrees) → SpellOperands ps → (z : List ℕ) (ks : List Kind) → IsRead z ks → IsRead (40 ∷ (operands_spelling [] (codes ", ") 11 ps ++ (41 ∷ z))) (open_kind ∷ operands_kinds comma_kind 11 ps (close_kind ∷ ks))
round_operands no_phrase s z ks r = longest_read symbol.OpenRound refl _ _ (longest_read symbol.CloseRound refl z ks r)
round_operands (phrase_then p ps) s z ks r =
    let more = commas_read 11 ps s.1 (41 ∷ z) (close_kind ∷ ks) close (longest_read symbol.CloseRound refl z ks r) in
    let shape : operands_spelling [] (codes ", ") 11 (phrase_then p ps) ++ (41 ∷ z) ≡ operand_spelling 11 p ++ (operands_spelling (codes ", ") (codes ", ") 11 ps ++ (41 ∷ z)) = append_assoc (operand_spelling 11 p) _ _ in
    longest_read symbol.OpenRound refl _ _ (subst (λ y. IsRead y (operands_kinds comma_kind 11 (phrase_then p ps) (close_kind ∷ ks))) (sym shape) (s.0 11 _ _ more.0 more.1).reads)
