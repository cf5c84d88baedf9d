-- The names and numbers of a source stand in its text, so they may stand in one.
use Rattle.std.proofs.Common.{◌≡◌, ◌⊎◌, inl, inr, ℕ, ℤ, Some, subst, ◌+◌, ◌≤◌, Bool, true, false, cond, eqb, List, [], ◌∷◌, ◌++◌, length, take, drop, refl, sym, ap, ◌∙◌, arith}
use Rattle.std.specs.List.{prefix_len}
use Rattle.std.specs.Char.{is_ascii_alphabetic, is_ascii_uppercase}
use Rattle.std.proofs.lemmas.Bool.{eqb-true}
use Rattle.std.proofs.lemmas.List.{take-append-drop}
use Rattle.std.proofs.lemmas.List.Folds.{prefix_len-append, length-prefix_len}
use Rattle.tp_lex.specs.declared.token.Token.{Token}
use Rattle.tp_lex.specs.declared.token.Kind.{Kind}
use Rattle.tp_lex.specs.declared.token.Kind.TheVariants as kind
use Rattle.tp_lex.specs.declared.piece.Piece.{Piece}
use Rattle.tp_lex.specs.declared.piece.Piece.TheVariants.{Gap, Lexeme, Refused}
use Rattle.tp_lex.specs.Bytes.{is_name_byte, spelled_value}
use Rattle.tp_lex.specs.Pieces as piece
use Rattle.tp_lex.specs.Pieces.{IsName, BeginsPiece}
use Rattle.tp_lex.specs.Names.{IsNameText}
use Rattle.tp_lex.specs.Tokens.{ReadsTokens, ReadingEnd, Whole, whole, gap, lexeme, fails}
use Rattle.tp_lex.proofs.PieceLemmas.{some_name}
use Rattle.tp_lex.proofs.LawLemmas.{first_stays}
use Rattle.tp_tree.specs.Tree.{PhraseTree, PhraseTrees, phrases_of, DefinitionTree, SourceTree}
use Rattle.tp_parse.specs.declared.mark.TokenMark.{TokenMark}
use Rattle.tp_parse.specs.declared.mark.TokenMark.TheVariants as m
use Rattle.tp_parse.specs.declared.mark.Prefix.{Prefix}
use Rattle.tp_parse.specs.declared.mark.Prefix.TheVariants as prefix
use Rattle.tp_parse.specs.declared.mark.Enclosure.{Enclosure}
use Rattle.tp_parse.specs.declared.mark.Enclosure.TheVariants.{Round, Curly, Size}
use Rattle.tp_parse.specs.declared.head.Listed.{Listed}
use Rattle.tp_parse.specs.declared.head.Listed.TheVariants as listed
use Rattle.tp_parse.specs.declared.head.Pair.{Pair}
use Rattle.tp_parse.specs.declared.head.Pair.TheVariants as pair
use Rattle.tp_parse.specs.declared.head.PrimaryHead.{PrimaryHead}
use Rattle.tp_parse.specs.declared.head.PrimaryHead.TheVariants as h
use Rattle.tp_parse.specs.Marks.{same, start_of, kind_mark, Tokens, mark, from, first_name, first_number, mark_due, past, left_of, without_half, kind_name, kind_number}
use Rattle.tp_parse.specs.Grammar.{Found, Operands, atom_kind, listed_kind, enclosed_tree, pair_kind, prefixed_kind, ReadsNames, BeginsPrimary, Parses, Goes, Others, Listing, Parameters, Sentence, Defines, Definitions, IsSource, Accepts}
use Rattle.tp_parse.specs.Grammar as g
use Rattle.tp_parse.specs.SpelledText.{IsVariableText, IsLowerText, IsNumeral, AreVariableTexts, IsSpellable, IsSpellableKind, AreSpellable, IsSpellableDefinition, AreSpellableDefinitions, SourcesAreSpellable}
use Rattle.tp_parse.proofs.HeadTokens.{mark_of_start, started, head_left}

-- ---- the tokens of a text

-- a name or a number that may stand in a text, or no such token
abbrev IsTokenText : Kind → Type 0
IsTokenText (kind.Upper x) = IsVariableText x
IsTokenText (kind.Lower x) = IsLowerText x
IsTokenText (kind.Number n) = IsNumeral n
IsTokenText (kind.Word w) = Unit {0}
IsTokenText (kind.Symbol x) = Unit {0}

abbrev AreTokenTexts : Tokens → Type 0
AreTokenTexts [] = Unit {0}
AreTokenTexts (t ∷ ts) = IsTokenText t.kind × AreTokenTexts ts

-- the front of a text that passes is as long as what passes of it
front_passes : (p : ℕ → Bool) (z : List ℕ) (n : ℕ) → n ≡ prefix_len p z → length (take n z) ≡ prefix_len p (take n z)
front_passes p z n e = by (eqb (prefix_len p (take n z)) (length (take n z))) refl
  where
    whole_z : prefix_len p (take n z ++ drop n z) ≡ prefix_len p z
    whole_z = ap (prefix_len p) (take-append-drop n z)

    count : length (take n z) ≡ prefix_len p z
    count = ap (λ i. length (take i z)) e ∙ length-prefix_len p z

    by : (b : Bool) → eqb (prefix_len p (take n z)) (length (take n z)) ≡ b → length (take n z) ≡ prefix_len p (take n z)
    by true q = sym (eqb-true _ _ q)
    by false q =
        let seam = prefix_len-append p (take n z) (drop n z) ∙ ap (λ b. cond b (length (take n z) + prefix_len p (drop n z)) (prefix_len p (take n z))) q in
        count ∙ (sym whole_z ∙ seam)

variable_text : (z : List ℕ) (n : ℕ) → IsName z n → IsNameText (take n z)
variable_text z n is = record { letter = ap is_ascii_alphabetic (first_stays z n (some_name z n is).0) ∙ is.letter; longest = front_passes is_name_byte z n is.longest }

short_text : (z : List ℕ) (n : ℕ) → IsName z n → n ≤ 64 → length (take n z) ≤ 64
short_text z n is low = let count : length (take n z) ≡ n = ap (λ i. length (take i z)) is.longest ∙ (length-prefix_len is_name_byte z ∙ sym is.longest) in omega (arith, count, low)

abbrev IsPieceText : Piece → Type 0
IsPieceText (Gap n) = Unit {0}
IsPieceText (Lexeme k n) = IsTokenText k
IsPieceText (Refused fault) = Unit {0}

piece_text : (z : List ℕ) (p : Piece) → BeginsPiece z p → IsPieceText p
piece_text z _ (piece.blank e) = tt
piece_text z _ (piece.comment opens here before) = tt
piece_text z _ (piece.word is e) = tt
piece_text z _ (piece.upper {n = n} is low never u) = record { spelled = variable_text z n is; short = short_text z n is low; no_word = never }
piece_text z _ (piece.lower {n = n} is low never u) = record {
  variable = record { spelled = variable_text z n is; short = short_text z n is low; no_word = never };
  lower = ap is_ascii_uppercase (first_stays z n (some_name z n is).0) ∙ u;
}
piece_text z _ (piece.number {n = n} are low) = (spelled_value (take n z), refl, low)
piece_text z _ (piece.symbol is) = tt
piece_text z _ (piece.bad_byte is) = tt
piece_text z _ (piece.open_comment opens nowhere) = tt
piece_text z _ (piece.large_number are high) = tt
piece_text z _ (piece.long_name is long) = tt

token_texts : (bytes : List ℕ) (at : ℕ) (ts : List Token) (end : ReadingEnd) → ReadsTokens bytes at ts end → AreTokenTexts ts
token_texts bytes at _ _ (whole e) = tt
token_texts bytes at ts end (gap {n = n} is r) = token_texts bytes (at + n) ts end r
token_texts bytes at _ end (lexeme {n = n} {ts = ts} is r) = (piece_text (drop at bytes) _ is, token_texts bytes (at + n) ts end r)
token_texts bytes at _ _ (fails is) = tt

-- ---- what is left of them

dropped : (ts : Tokens) → AreTokenTexts ts → AreTokenTexts (drop 1 ts)
dropped [] are = tt
dropped (t ∷ ts) are = are.1

halved_text : (k : Kind) → IsTokenText k → IsTokenText (without_half k)
halved_text (kind.Upper x) is = is
halved_text (kind.Lower x) is = is
halved_text (kind.Number n) is = is
halved_text (kind.Word w) is = is
halved_text (kind.Symbol x) is = tt

halved_texts : (ts : Tokens) → AreTokenTexts ts → AreTokenTexts (left_of true ts)
halved_texts [] are = tt
halved_texts (t ∷ ts) are = (halved_text t.kind are.0, are.1)

passed : (ts : Tokens) → AreTokenTexts ts → AreTokenTexts (past ts)
unfolding past
passed ts are = elim (same (mark_due ts) (mark ts)) as (λ b. AreTokenTexts (cond b (drop 1 ts) (left_of true ts))) [ true ↦ dropped ts are | false ↦ halved_texts ts are ]

-- ---- the next token

-- what holds of the name and the number of a token with this mark
abbrev IsMarkText : TokenMark → List ℕ → ℤ → Type 0
IsMarkText m.Upper x n = IsVariableText x
IsMarkText m.Lower x n = IsLowerText x
IsMarkText m.Number x n = IsNumeral n
IsMarkText m.End x n = Unit {0}
IsMarkText (m.Word w) x n = Unit {0}
IsMarkText (m.Symbol y) x n = Unit {0}

kind_text : (k : Kind) → IsTokenText k → IsMarkText (kind_mark k) (kind_name k) (kind_number k)
kind_text (kind.Upper x) is = is
kind_text (kind.Lower x) is = is
kind_text (kind.Number n) is = is
kind_text (kind.Word w) is = tt
kind_text (kind.Symbol x) is = tt

first_text : (ts : Tokens) → AreTokenTexts ts → IsMarkText (mark ts) (first_name ts) (first_number ts)
unfolding mark first_name first_number
first_text [] are = tt
first_text (t ∷ ts) are = kind_text t.kind are.0

text_of : (ts : Tokens) → AreTokenTexts ts → (x : TokenMark) → mark ts ≡ x → IsMarkText x (first_name ts) (first_number ts)
text_of ts are x e = subst (λ y. IsMarkText y (first_name ts) (first_number ts)) e (first_text ts are)

name_of : (ts : Tokens) → AreTokenTexts ts → (mark ts ≡ m.Upper) ⊎ (mark ts ≡ m.Lower) → IsVariableText (first_name ts)
name_of ts are (inl e) = text_of ts are m.Upper e
name_of ts are (inr e) = (text_of ts are m.Lower e).variable

-- of one that starts so
start_text : (ts : Tokens) → AreTokenTexts ts → (x : TokenMark) → mark_of_start (start_of (mark ts)) ≡ Some x → IsMarkText x (first_name ts) (first_number ts)
start_text ts are x e = text_of ts are x (started (mark ts) x e)

names_of : {ts rest : Tokens} {xs : List (List ℕ)} → ReadsNames ts xs rest → AreTokenTexts ts → AreVariableTexts xs × AreTokenTexts rest
names_of {ts} (g.last_name n e) are = ((name_of ts are n, tt), dropped ts are)
names_of {ts} (g.name_then n e d) are = let later = names_of d (dropped (drop 1 ts) (dropped ts are)) in ((name_of ts are n, later.0), later.1)

-- ---- heads

abbrev IsListedText : Listed → Type 0
IsListedText listed.List = Unit {0}
IsListedText (listed.Form f) = Unit {0}
IsListedText (listed.Call x) = IsLowerText x

abbrev IsPairText : Pair → Type 0
IsPairText pair.While = Unit {0}
IsPairText pair.Repeat = Unit {0}
IsPairText (pair.For x) = IsLowerText x
IsPairText (pair.Forall x) = IsLowerText x

abbrev IsHeadText : PrimaryHead → Type 0
IsHeadText (h.Atom x) = IsSpellableKind (atom_kind x)
IsHeadText (h.Listed x) = IsListedText x
IsHeadText (h.Enclosed e) = Unit {0}
IsHeadText h.If = Unit {0}
IsHeadText (h.Paired x) = IsPairText x
IsHeadText (h.Exists xs) = AreVariableTexts xs

listed_text : (x : Listed) (ps : PhraseTrees) → IsListedText x → AreSpellable ps → IsSpellableKind (listed_kind x ps)
listed_text listed.List ps is w = w
listed_text (listed.Form f) ps is w = w
listed_text (listed.Call x) ps is w = (is, w)

enclosed_text : (at : ℕ) (e : Enclosure) (a : PhraseTree) → IsSpellable a → IsSpellable (enclosed_tree at e a)
enclosed_text at Size a w = w
enclosed_text at Round a w = w
enclosed_text at Curly a w = w

pair_text : (x : Pair) (a b : PhraseTree) → IsPairText x → IsSpellable a → IsSpellable b → IsSpellableKind (pair_kind x a b)
pair_text pair.While a b is v w = (v, w)
pair_text pair.Repeat a b is v w = (v, w)
pair_text (pair.For x) a b is v w = (is, v, w)
pair_text (pair.Forall x) a b is v w = (is, v, w)

prefixed_text : (o : Prefix) (a : PhraseTree) → IsSpellable a → IsSpellableKind (prefixed_kind o a)
prefixed_text prefix.Not a w = w
prefixed_text prefix.Minus a w = w
prefixed_text prefix.Next a w = w

own_text : {ts rest : Tokens} {x : PrimaryHead} → BeginsPrimary ts x rest → AreTokenTexts ts → IsHeadText x
own_text {ts} (g.number e) are = start_text ts are m.Number (ap mark_of_start e)
own_text {ts} (g.upper_name e) are = start_text ts are m.Upper (ap mark_of_start e)
own_text {ts} (g.lower_name e f) are = (start_text ts are m.Lower (ap mark_of_start e)).variable
own_text {ts} (g.call e f) are = start_text ts are m.Lower (ap mark_of_start e)
own_text {ts} (g.for e f l) are = text_of (drop 1 ts) (dropped ts are) m.Lower f
own_text {ts} (g.forall e f l) are = text_of (drop 1 ts) (dropped ts are) m.Lower f
own_text {ts} (g.exists e d f) are = (names_of d (dropped ts are)).0
own_text _ are = tt

head_text : {ts rest : Tokens} {x : PrimaryHead} → BeginsPrimary ts x rest → AreTokenTexts ts → IsHeadText x × AreTokenTexts rest
head_text b are = (own_text b are, head_left AreTokenTexts dropped passed b are)

-- ---- phrases

mutual
  phrase_text : {k : ℕ} {ts rest : Tokens} {x : Found} → Parses k ts x rest → AreTokenTexts ts → IsSpellable x.tree × AreTokenTexts rest
  phrase_text (g.atom b) are = head_text b are
  phrase_text (g.listed {x = x} {all = all} b o) are =
      let head = head_text b are in
      let operands = listing_text o head.1 in
      (listed_text x (phrases_of all.trees) head.0 operands.0, operands.1)
  phrase_text {ts = ts} (g.enclosed {end = end} {e = e} {x = x} b d f) are =
      let inside = phrase_text d (head_text b are).1 in
      (enclosed_text (from ts) e x.tree inside.0, passed end inside.1)
  phrase_text (g.if_then {then = then} b d t e n) are =
      let first = phrase_text d (head_text b are).1 in
      let second = phrase_text e (passed then first.1) in
      ((first.0, second.0), second.1)
  phrase_text (g.if_else {then = then} {else = else} b d t e n f) are =
      let first = phrase_text d (head_text b are).1 in
      let second = phrase_text e (passed then first.1) in
      let third = phrase_text f (dropped else second.1) in
      ((first.0, second.0, third.0), third.1)
  phrase_text (g.paired {next = next} {q = q} {x = x} {y = y} b d f e) are =
      let head = head_text b are in
      let first = phrase_text d head.1 in
      let second = phrase_text e (passed next first.1) in
      (pair_text q x.tree y.tree head.0 first.0 second.0, second.1)
  phrase_text (g.quantified b d) are =
      let head = head_text b are in
      let body = phrase_text d head.1 in
      ((head.0, body.0), body.1)
  phrase_text {ts = ts} (g.prefixed {o = o} {x = x} e d) are =
      let operand = phrase_text d (dropped ts are) in
      (prefixed_text o x.tree operand.0, operand.1)
  phrase_text (g.level d f) are = let first = phrase_text d are in goes_text first.0 f first.1

  goes_text : {k at : ℕ} {a t : Found} {ts rest : Tokens} → IsSpellable a.tree → Goes k at a ts t rest → AreTokenTexts ts → IsSpellable t.tree × AreTokenTexts rest
  goes_text w (g.ends e) are = (w, are)
  goes_text {ts = ts} w (g.left e way d f) are = let operand = phrase_text d (dropped ts are) in goes_text (w, operand.0) f operand.1
  goes_text {ts = ts} w (g.single e way d) are = let operand = phrase_text d (dropped ts are) in ((w, operand.0), operand.1)
  goes_text {ts = ts} w (g.right e way d) are = let operand = phrase_text d (dropped ts are) in ((w, operand.0), operand.1)
  goes_text {ts = ts} w (g.indexed {end = end} e d c f) are = let operand = phrase_text d (dropped ts are) in goes_text (w, operand.0) f (passed end operand.1)
  goes_text w (g.joins e o) are = let others = others_text o are in ((w, others.0), others.1)

  others_text : {k : ℕ} {separator : TokenMark} {all : Operands} {ts rest : Tokens} → Others k separator ts all rest → AreTokenTexts ts → AreSpellable (phrases_of all.trees) × AreTokenTexts rest
  others_text (g.no_more e) are = (tt, are)
  others_text {ts = ts} (g.one_more e d o) are =
      let first = phrase_text d (dropped ts are) in
      let others = others_text o first.1 in
      ((first.0, others.0), others.1)

  listing_text : {k : ℕ} {close : TokenMark} {all : Operands} {ts rest : Tokens} → Listing k close ts all rest → AreTokenTexts ts → AreSpellable (phrases_of all.trees) × AreTokenTexts rest
  listing_text {ts = ts} (g.no_operands e) are = (tt, passed ts are)
  listing_text (g.operands {end = end} d o e) are =
      let first = phrase_text d are in
      let others = others_text o first.1 in
      ((first.0, others.0), passed end others.1)

-- ---- sources

sentence_text : {ts rest : Tokens} {x : Found} → Sentence ts x rest → AreTokenTexts ts → IsSpellable x.tree × AreTokenTexts rest
sentence_text (g.sentence {end = end} d e) are = let read = phrase_text d are in (read.0, passed end read.1)

parameters_text : {ts rest : Tokens} {xs : List (List ℕ)} → Parameters ts xs rest → AreTokenTexts ts → AreVariableTexts xs × AreTokenTexts rest
parameters_text {ts} (g.no_parameters e) are = (tt, dropped ts are)
parameters_text (g.parameters {mid = mid} d e) are = let read = names_of d are in (read.0, passed mid read.1)

defines_text : {ts rest : Tokens} {d : DefinitionTree} {i : ℕ} → Defines ts d i rest → AreTokenTexts ts → IsSpellableDefinition d × AreTokenTexts rest
defines_text {ts} (g.defines {mid = mid} e n o ps q b) are =
    let on = dropped ts are in
    let bound = parameters_text ps (passed (drop 1 (drop 1 ts)) (dropped (drop 1 ts) on)) in
    let body = sentence_text b (passed mid bound.1) in
    ((text_of (drop 1 ts) on m.Lower n, bound.0, body.0), body.1)

definitions_text : {ts rest : Tokens} {ds : List DefinitionTree} {i : ℕ} → Definitions ts ds i rest → AreTokenTexts ts → AreSpellableDefinitions ds × AreTokenTexts rest
definitions_text (g.no_definition e) are = (tt, are)
definitions_text (g.definition_then f e) are =
    let first = defines_text f are in
    let others = definitions_text e first.1 in
    ((first.0, others.0), others.1)

source_text : {ts : Tokens} {s : SourceTree} {i : ℕ} → IsSource ts s i → AreTokenTexts ts → AreSpellableDefinitions s.definitions × IsSpellable s.main
source_text (g.source {mid = mid} d r b e) are =
    let first = definitions_text d are in
    let main = sentence_text b (passed mid first.1) in
    (first.0, main.0)

pub sources_are_spellable : SourcesAreSpellable
sources_are_spellable bytes ts s are is = source_text is.source (token_texts bytes 0 ts Whole are)
