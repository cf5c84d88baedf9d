-- The canonical spelling of each kind of phrase, and of sources, is read as its tokens.
use Rattle.std.proofs.Common.{◌≡◌, ℕ, ℤ, Bool, true, false, List, [], ◌∷◌, ◌++◌, append_assoc, Some, codes, refl, sym, subst}
use Rattle.std.specs.Fmt.{decimal}
use Rattle.tp_lex.specs.declared.token.Kind.{Kind}
use Rattle.tp_lex.specs.declared.token.Kind.TheVariants as kind
use Rattle.tp_lex.specs.declared.token.Word.{Word}
use Rattle.tp_lex.specs.declared.token.Word.TheVariants as word
use Rattle.tp_lex.specs.declared.token.Symbol.TheVariants as symbol
use Rattle.tp_lex.specs.Spelling.{word_spelling}
use Rattle.tp_lex.specs.Spelled.{longest_symbol}
use Rattle.tp_tree.specs.declared.operator.Op.{Op}
use Rattle.tp_tree.specs.declared.operator.Bare.{Bare}
use Rattle.tp_tree.specs.declared.operator.Bare.TheVariants as b
use Rattle.tp_tree.specs.declared.operator.Form.{Form}
use Rattle.tp_tree.specs.declared.operator.Form.TheVariants as f
use Rattle.tp_tree.specs.Tree as t
use Rattle.tp_tree.specs.Tree.{PhraseTree, phrase, KindTree, PhraseTrees, no_phrase, phrase_then, DefinitionTree, SourceTree}
use Rattle.tp_tree.specs.Levels.{left_level, right_level}
use Rattle.tp_tree.specs.Spelling.{op_spelling, form_spelling, names_spelling, operand_spelling, operands_spelling, phrase_spelling, definition_spelling, definitions_spelling, source_spelling}
use Rattle.tp_parse.specs.Spelled.{form_kind, operand_kinds, more_names, name_kinds, list_opened, phrase_kinds, definition_kinds, definitions_kinds, source_kinds, HasTwo, IsWhole, IsWholeKind, AreWhole, AreWholeBodies}
use Rattle.tp_parse.specs.SpelledText.{IsVariableText, IsLowerText, IsNumeral, AreVariableTexts, IsSpellable, IsSpellableKind, AreSpellable, IsSpellableDefinition, AreSpellableDefinitions, SpellingsHaveTheirTokens}
use Rattle.tp_parse.proofs.TextTokens.{IsRead, nothing_read, whole_read, blank_read, space_read, EndsName, name_read, lower_read, number_begins, number_read, minus, other, Spells, opened_read}
use Rattle.tp_parse.proofs.TextPhrases.{Follows, space, close, stop, greater, open_square, close_square, bar, ends, round_ends, longest_read, comma_read, colon_read, less_read, equal_read, greater_read, between, op_read, word_spells, letter_starts, digit_starts, variable_opened, SpellsKind, SpellsOperand, moved, operand_spells, SpellOperands, commas_read, ands_read, round_operands}

number_spells : (n : ℤ) → IsNumeral n → SpellsKind (t.number n)
number_spells n is = subst (λ m. SpellsKind (t.number m)) (sym is.1) (λ z ks fo r. record { reads = number_read is.0 z ks is.2 (ends fo) r; starts = other (digit_starts (decimal is.0) z (number_begins is.0 is.2)) refl })

truth_spells : (x : Bool) → SpellsKind (t.truth x)
truth_spells true z ks fo r = word_spells word.True z ks (ends fo) r
truth_spells false z ks fo r = word_spells word.False z ks (ends fo) r

name_spells : (x : List ℕ) → IsVariableText x → SpellsKind (t.name x)
name_spells x is z ks fo r = record { reads = name_read x z ks is (ends fo) r; starts = other (letter_starts x z is.spelled.letter) (variable_opened x ks) }

bare_spells : (w : Bare) → SpellsKind (t.bare w)
bare_spells b.Empty z ks fo r = word_spells word.Empty z ks (ends fo) r
bare_spells b.More z ks fo r = word_spells word.More z ks (ends fo) r
bare_spells b.Skip z ks fo r = word_spells word.Skip z ks (ends fo) r

less_starts : (z : List ℕ) → longest_symbol (60 ∷ 60 ∷ z) ≡ Some symbol.Less
unfolding longest_symbol
less_starts z = refl

bar_starts : (z : List ℕ) → longest_symbol (60 ∷ 124 ∷ z) ≡ Some symbol.Less
unfolding longest_symbol
bar_starts z = refl

opened_twice : (ks : List Kind) → list_opened (list_opened ks) ≡ kind.Symbol symbol.Less ∷ list_opened ks
opened_twice [] = refl
opened_twice (kind.Symbol symbol.Minus ∷ ks) = refl
opened_twice (kind.Symbol _ ∷ ks) = refl
opened_twice (kind.Word w ∷ ks) = refl
opened_twice (kind.Number n ∷ ks) = refl
opened_twice (kind.Upper x ∷ ks) = refl
opened_twice (kind.Lower x ∷ ks) = refl

list_spells : (ps : PhraseTrees) → SpellOperands ps → SpellsKind (t.list ps)
list_spells no_phrase s z ks fo r = record { reads = longest_read symbol.Differs refl z ks r; starts = other (less_starts (62 ∷ z)) refl }
list_spells (phrase_then p ps) s z ks fo r =
    let A = operand_spelling 4 p in
    let B = operands_spelling (codes ", ") (codes ", ") 4 ps in
    let more = commas_read 4 ps s.1 (62 ∷ z) (kind.Symbol symbol.Greater ∷ ks) greater (greater_read z ks fo r) in
    let first = s.0 4 _ _ more.0 more.1 in
    let shape : (codes "<" ++ (A ++ B) ++ codes ">") ++ z ≡ codes "<" ++ (A ++ (B ++ (codes ">" ++ z))) = simp append_assoc in
    moved _ _ _ shape (record { reads = opened_read _ _ first; starts = other (less_starts _) (opened_twice _) })

size_spells : (p : PhraseTree) → SpellsOperand p → SpellsKind (t.size p)
size_spells p s z ks fo r =
    let A = operand_spelling 4 p in
    let first = s 4 (124 ∷ z) (kind.Symbol symbol.Bar ∷ ks) bar (longest_read symbol.Bar refl z ks r) in
    let shape : (codes "|" ++ A ++ codes "|") ++ z ≡ codes "|" ++ (A ++ (codes "|" ++ z)) = simp append_assoc in
    moved _ _ _ shape (record { reads = longest_read symbol.Bar refl _ _ first.reads; starts = other (bar_starts _) refl })

index_spells : (p q : PhraseTree) → SpellsOperand p → SpellsOperand q → SpellsKind (t.index p q)
index_spells p q s u z ks fo r =
    let A = operand_spelling 1 p in
    let B = operand_spelling 11 q in
    let second = u 11 (93 ∷ z) (kind.Symbol symbol.CloseSquare ∷ ks) close_square (longest_read symbol.CloseSquare refl z ks r) in
    let shape : (A ++ codes "[" ++ B ++ codes "]") ++ z ≡ A ++ (codes "[" ++ (B ++ (codes "]" ++ z))) = simp append_assoc in
    moved _ _ _ shape (s 1 _ _ open_square (longest_read symbol.OpenSquare refl _ _ second.reads))

minus_spells : (p : PhraseTree) → SpellsOperand p → SpellsKind (t.minus p)
minus_spells p s z ks fo r = let first = s 2 z ks fo r in record { reads = longest_read symbol.Minus refl _ _ first.reads; starts = minus first.reads }

-- a word and a space, and then more
opens_with : (w : Word) (z : List ℕ) (ks : List Kind) → IsRead z ks → Spells (word_spelling w ++ (32 ∷ z)) (kind.Word w ∷ ks)
opens_with w z ks r = word_spells w (32 ∷ z) ks (ends space) (space_read z ks r)

next_spells : (p : PhraseTree) → SpellsOperand p → SpellsKind (t.next p)
next_spells p s z ks fo r = opens_with word.Next _ _ (s 2 z ks fo r).reads

negation_spells : (p : PhraseTree) → SpellsOperand p → SpellsKind (t.negation p)
negation_spells p s z ks fo r = opens_with word.Not _ _ (s 6 z ks fo r).reads

binary_spells : (o : Op) (p q : PhraseTree) → SpellsOperand p → SpellsOperand q → SpellsKind (t.binary o p q)
binary_spells o p q s u z ks fo r =
    let A = operand_spelling (left_level o) p in
    let B = operand_spelling (right_level o) q in
    let shape : (A ++ codes " " ++ op_spelling o ++ codes " " ++ B) ++ z ≡ A ++ (codes " " ++ (op_spelling o ++ (codes " " ++ (B ++ z)))) = simp append_assoc in
    moved _ _ _ shape (s (left_level o) _ _ space (op_read o _ _ (u (right_level o) z ks fo r).reads))

conjunction_spells : (ps : PhraseTrees) → HasTwo ps → SpellOperands ps → SpellsKind (t.conjunction ps)
conjunction_spells no_phrase two s z ks fo r = absurd two
conjunction_spells (phrase_then p ps) two s z ks fo r =
    let more = ands_read 6 ps s.1 z ks fo r in
    let shape : operands_spelling [] (codes " and ") 6 (phrase_then p ps) ++ z ≡ operand_spelling 6 p ++ (operands_spelling (codes " and ") (codes " and ") 6 ps ++ z) = append_assoc (operand_spelling 6 p) _ _ in
    moved _ _ _ shape (s.0 6 _ _ more.0 more.1)

-- a word, an operand, another word and an operand
two_parts : (w A v B z : List ℕ) → (w ++ A ++ v ++ B) ++ z ≡ w ++ (A ++ (v ++ (B ++ z)))
two_parts w A v B z = simp append_assoc

two_words : (w v : Word) (level : ℕ) (p q : PhraseTree) → SpellsOperand p → SpellsOperand q → (z : List ℕ) (ks : List Kind) → Follows z → IsRead z ks
    → Spells (word_spelling w ++ (32 ∷ (operand_spelling 11 p ++ (32 ∷ (word_spelling v ++ (32 ∷ (operand_spelling level q ++ z))))))) (kind.Word w ∷ operand_kinds 11 p (kind.Word v ∷ operand_kinds level q ks))
two_words w v level p q s u z ks fo r = opens_with w _ _ (s 11 _ _ space (between v _ _ (u level z ks fo r).reads)).reads

choice_spells : (p q : PhraseTree) → SpellsOperand p → SpellsOperand q → SpellsKind (t.choice p q)
choice_spells p q s u z ks fo r = moved _ _ _ (two_parts (codes "if ") (operand_spelling 11 p) (codes " then ") (operand_spelling 10 q) z) (two_words word.If word.Then 10 p q s u z ks fo r)

choice_else_spells : (p q v : PhraseTree) → SpellsOperand p → SpellsOperand q → SpellsOperand v → SpellsKind (t.choice_else p q v)
choice_else_spells p q v s u w z ks fo r =
    let A = operand_spelling 11 p in
    let B = operand_spelling 10 q in
    let C = operand_spelling 11 v in
    let shape : (codes "if " ++ A ++ codes " then " ++ B ++ codes " else " ++ C) ++ z ≡ codes "if " ++ (A ++ (codes " then " ++ (B ++ (codes " else " ++ (C ++ z))))) = simp append_assoc in
    moved _ _ _ shape (opens_with word.If _ _ (s 11 _ _ space (between word.Then _ _ (u 10 _ _ space (between word.Else _ _ (w 11 z ks fo r).reads)).reads)).reads)

while_spells : (p q : PhraseTree) → SpellsOperand p → SpellsOperand q → SpellsKind (t.while p q)
while_spells p q s u z ks fo r = moved _ _ _ (two_parts (codes "while ") (operand_spelling 11 p) (codes " do ") (operand_spelling 11 q) z) (two_words word.While word.Do 11 p q s u z ks fo r)

repeat_spells : (p q : PhraseTree) → SpellsOperand p → SpellsOperand q → SpellsKind (t.repeat p q)
repeat_spells p q s u z ks fo r = moved _ _ _ (two_parts (codes "repeat ") (operand_spelling 11 p) (codes " until ") (operand_spelling 11 q) z) (two_words word.Repeat word.Until 11 p q s u z ks fo r)

-- a word, a name, its bound, what stands behind that, and an operand
counted_parts : (w x A v B z : List ℕ) → ((w ++ x ++ codes " < " ++ A) ++ v ++ B) ++ z ≡ w ++ (x ++ (codes " < " ++ (A ++ (v ++ (B ++ z)))))
counted_parts w x A v B z = simp append_assoc

for_spells : (x : List ℕ) (p q : PhraseTree) → IsLowerText x → SpellsOperand p → SpellsOperand q → SpellsKind (t.for x p q)
for_spells x p q is s u z ks fo r =
    moved _ _ _ (counted_parts (codes "for ") x (operand_spelling 11 p) (codes " do ") (operand_spelling 11 q) z)
    (opens_with word.For _ _ (lower_read x _ _ is (ends space) (less_read _ _ (s 11 _ _ space (between word.Do _ _ (u 11 z ks fo r).reads)).reads)))

forall_spells : (x : List ℕ) (p q : PhraseTree) → IsLowerText x → SpellsOperand p → SpellsOperand q → SpellsKind (t.forall x p q)
forall_spells x p q is s u z ks fo r =
    moved _ _ _ (counted_parts (codes "forall ") x (operand_spelling 11 p) (codes " : ") (operand_spelling 11 q) z)
    (opens_with word.Forall _ _ (lower_read x _ _ is (ends space) (less_read _ _ (s 11 _ _ space (colon_read _ _ (u 11 z ks fo r).reads)).reads)))

-- names behind commas
more_names_read : (xs : List (List ℕ)) → AreVariableTexts xs → (z : List ℕ) (ks : List Kind) → EndsName z → IsRead z ks → EndsName (names_spelling (codes ", ") xs ++ z) × IsRead (names_spelling (codes ", ") xs ++ z) (more_names xs ks)
more_names_read [] are z ks e r = (e, r)
more_names_read (x ∷ xs) are z ks e r =
    let more = more_names_read xs are.1 z ks e r in
    let shape : (codes ", " ++ x ++ names_spelling (codes ", ") xs) ++ z ≡ codes ", " ++ (x ++ (names_spelling (codes ", ") xs ++ z)) = simp append_assoc in
    (record { name = refl; digits = refl }, subst (λ y. IsRead y (more_names (x ∷ xs) ks)) (sym shape) (comma_read _ _ (name_read x _ _ are.0 more.0 more.1)))

names_read : (xs : List (List ℕ)) → AreVariableTexts xs → (z : List ℕ) (ks : List Kind) → EndsName z → IsRead z ks → IsRead (names_spelling [] xs ++ z) (name_kinds xs ks)
names_read [] are z ks e r = r
names_read (x ∷ xs) are z ks e r =
    let more = more_names_read xs are.1 z ks e r in
    let shape : (x ++ names_spelling (codes ", ") xs) ++ z ≡ x ++ (names_spelling (codes ", ") xs ++ z) = append_assoc x _ _ in
    subst (λ y. IsRead y (name_kinds (x ∷ xs) ks)) (sym shape) (name_read x _ _ are.0 more.0 more.1)

exists_spells : (xs : List (List ℕ)) (p : PhraseTree) → AreVariableTexts xs → SpellsOperand p → SpellsKind (t.exists xs p)
exists_spells xs p are s z ks fo r =
    let A = operand_spelling 11 p in
    let N = names_spelling [] xs in
    let shape : (codes "exists " ++ N ++ codes " : " ++ A) ++ z ≡ codes "exists " ++ (N ++ (codes " : " ++ (A ++ z))) = simp append_assoc in
    moved _ _ _ shape (opens_with word.Exists _ _ (names_read xs are _ _ (ends space) (colon_read _ _ (s 11 z ks fo r).reads)))

form_word : (x : Form) (z : List ℕ) (ks : List Kind) → EndsName z → IsRead z ks → Spells (form_spelling x ++ z) (form_kind x ∷ ks)
form_word f.Always = word_spells word.Always
form_word f.Keep = word_spells word.Keep
form_word f.Fin = word_spells word.Fin
form_word f.Halt = word_spells word.Halt
form_word f.Stable = word_spells word.Stable
form_word f.Sometimes = word_spells word.Sometimes
form_word f.Len = word_spells word.Len
form_word f.List = word_spells word.List
form_word f.Input = word_spells word.Input
form_word f.Display = word_spells word.Display

form_spells : (x : Form) (ps : PhraseTrees) → SpellOperands ps → SpellsKind (t.form x ps)
form_spells x ps s z ks fo r =
    let A = operands_spelling [] (codes ", ") 11 ps in
    let shape : (form_spelling x ++ codes "(" ++ A ++ codes ")") ++ z ≡ form_spelling x ++ (codes "(" ++ (A ++ (codes ")" ++ z))) = simp append_assoc in
    moved _ _ _ shape (form_word x _ _ (round_ends _) (round_operands ps s z ks r))

call_spells : (x : List ℕ) (ps : PhraseTrees) → IsLowerText x → SpellOperands ps → SpellsKind (t.call x ps)
call_spells x ps is s z ks fo r =
    let A = operands_spelling [] (codes ", ") 11 ps in
    let shape : (x ++ codes "(" ++ A ++ codes ")") ++ z ≡ x ++ (codes "(" ++ (A ++ (codes ")" ++ z))) = simp append_assoc in
    moved _ _ _ shape (record { reads = lower_read x _ _ is (round_ends _) (round_operands ps s z ks r); starts = other (letter_starts x _ is.variable.spelled.letter) refl })

mutual
  operand : (p : PhraseTree) → IsWhole p → IsSpellable p → SpellsOperand p
  operand (phrase at k) w s = operand_spells at k (kind_spells k w s)

  operands : (ps : PhraseTrees) → AreWhole ps → AreSpellable ps → SpellOperands ps
  operands no_phrase w s = tt
  operands (phrase_then p ps) w s = (operand p w.0 s.0, operands ps w.1 s.1)

  kind_spells : (k : KindTree) → IsWholeKind k → IsSpellableKind k → SpellsKind k
  kind_spells (t.number n) w s = number_spells n s
  kind_spells (t.truth x) w s = truth_spells x
  kind_spells (t.name x) w s = name_spells x s
  kind_spells (t.list ps) w s = list_spells ps (operands ps w s)
  kind_spells (t.size p) w s = size_spells p (operand p w s)
  kind_spells (t.index p q) w s = index_spells p q (operand p w.0 s.0) (operand q w.1 s.1)
  kind_spells (t.minus p) w s = minus_spells p (operand p w s)
  kind_spells (t.next p) w s = next_spells p (operand p w s)
  kind_spells (t.negation p) w s = negation_spells p (operand p w s)
  kind_spells (t.binary o p q) w s = binary_spells o p q (operand p w.0 s.0) (operand q w.1 s.1)
  kind_spells (t.conjunction ps) w s = conjunction_spells ps w.0 (operands ps w.1 s)
  kind_spells (t.choice p q) w s = choice_spells p q (operand p w.0 s.0) (operand q w.1 s.1)
  kind_spells (t.choice_else p q v) w s = choice_else_spells p q v (operand p w.0 s.0) (operand q w.1 s.1) (operand v w.2 s.2)
  kind_spells (t.while p q) w s = while_spells p q (operand p w.0 s.0) (operand q w.1 s.1)
  kind_spells (t.repeat p q) w s = repeat_spells p q (operand p w.0 s.0) (operand q w.1 s.1)
  kind_spells (t.for x p q) w s = for_spells x p q s.0 (operand p w.0 s.1) (operand q w.1 s.2)
  kind_spells (t.forall x p q) w s = forall_spells x p q s.0 (operand p w.0 s.1) (operand q w.1 s.2)
  kind_spells (t.exists xs p) w s = exists_spells xs p s.0 (operand p w.1 s.1)
  kind_spells (t.bare x) w s = bare_spells x
  kind_spells (t.form x ps) w s = form_spells x ps (operands ps w s)
  kind_spells (t.call x ps) w s = call_spells x ps s.0 (operands ps w s.1)

phrase_read : (p : PhraseTree) → IsWhole p → IsSpellable p → (z : List ℕ) (ks : List Kind) → Follows z → IsRead z ks → IsRead (phrase_spelling p ++ z) (phrase_kinds p ks)
phrase_read (phrase at k) w s z ks fo r = (kind_spells k w s z ks fo r).reads

-- a `.` and the end of the line
line_read : (z : List ℕ) (ks : List Kind) → IsRead z ks → IsRead (codes ".\n" ++ z) (kind.Symbol symbol.Stop ∷ ks)
line_read z ks r = longest_read symbol.Stop refl _ _ (blank_read 10 z ks refl r)

definition_read : (d : DefinitionTree) → IsWhole d.body → IsSpellableDefinition d → (z : List ℕ) (ks : List Kind) → IsRead z ks → IsRead (definition_spelling d ++ z) (definition_kinds d ks)
definition_read d w s z ks r =
    let N = names_spelling [] d.parameters in
    let P = phrase_spelling d.body in
    let body = phrase_read d.body w s.2 _ _ stop (line_read z ks r) in
    let shape : (codes "define " ++ d.name ++ codes "(" ++ N ++ codes ") = " ++ P ++ codes ".\n") ++ z ≡ codes "define " ++ (d.name ++ (codes "(" ++ (N ++ (codes ") = " ++ (P ++ (codes ".\n" ++ z)))))) = simp append_assoc in
    subst (λ y. IsRead y (definition_kinds d ks)) (sym shape)
    (opens_with word.Define _ _ (lower_read d.name _ _ s.0 (round_ends _) (longest_read symbol.OpenRound refl _ _ (names_read d.parameters s.1 _ _ (ends close) (equal_read _ _ body))))).reads

definitions_read : (ds : List DefinitionTree) → AreWholeBodies ds → AreSpellableDefinitions ds → (z : List ℕ) (ks : List Kind) → IsRead z ks → IsRead (definitions_spelling ds ++ z) (definitions_kinds ds ks)
definitions_read [] w s z ks r = r
definitions_read (d ∷ ds) w s z ks r =
    let more = definitions_read ds w.1 s.1 z ks r in
    subst (λ y. IsRead y (definitions_kinds (d ∷ ds) ks)) (sym (append_assoc (definition_spelling d) (definitions_spelling ds) z)) (definition_read d w.0 s.0 _ _ more)

pub spellings_have_their_tokens : SpellingsHaveTheirTokens
spellings_have_their_tokens s w is =
    let D = definitions_spelling s.definitions in
    let P = phrase_spelling s.main in
    let main = phrase_read s.main w.1 is.1 _ _ stop (line_read [] [] nothing_read) in
    let all : IsRead (D ++ (codes "run " ++ (P ++ codes ".\n"))) (source_kinds s) = definitions_read s.definitions w.0 is.0 _ _ (opens_with word.Run _ _ main).reads in
    let shape : source_spelling s ≡ D ++ (codes "run " ++ (P ++ codes ".\n")) = simp append_assoc in
    whole_read (source_spelling s) (source_kinds s) (subst (λ y. IsRead y (source_kinds s)) (sym shape) all)
