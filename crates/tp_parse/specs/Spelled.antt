-- The kinds of the tokens of the canonical spelling, and that they are read back.
use Rattle.std.specs.Prelude.{◌≡◌, ℕ, ◌≤◌, Bool, true, false, nat_le, if◌then◌else◌, List, [], ◌∷◌, slice_index, Ok}
use Rattle.std.specs.Char.{is_ascii_uppercase}
use Rattle.tp_lex.specs.declared.token.Token.{Token}
use Rattle.tp_lex.specs.declared.token.Kind.{Kind}
use Rattle.tp_lex.specs.declared.token.Kind.TheVariants as kind
use Rattle.tp_lex.specs.declared.token.Word.TheVariants as word
use Rattle.tp_lex.specs.declared.token.Symbol.TheVariants as symbol
use Rattle.tp_tree.specs.declared.operator.Op.{Op}
use Rattle.tp_tree.specs.declared.operator.Op.TheVariants as op
use Rattle.tp_tree.specs.declared.operator.Bare.{Bare}
use Rattle.tp_tree.specs.declared.operator.Bare.TheVariants as b
use Rattle.tp_tree.specs.declared.operator.Form.{Form}
use Rattle.tp_tree.specs.declared.operator.Form.TheVariants as f
use Rattle.tp_tree.specs.Tree.{PhraseTree, phrase, KindTree, number, truth, name, list, size, index, minus, next, negation, binary, conjunction, choice, choice_else, while, repeat, for, forall, exists, bare, form, call, PhraseTrees, no_phrase, phrase_then, DefinitionTree, SourceTree}
use Rattle.tp_tree.specs.Levels.{index_level, prefix_level, sum_level, not_level, chop_level, any_level, left_level, right_level, kind_level}
use Rattle.tp_tree.specs.Places.{IsSameUpToPlaces}
use Rattle.tp_parse.specs.Marks.{Tokens}
use Rattle.tp_parse.specs.Grammar.{limit, IsSource, Accepts}
use Rattle.tp_parse.specs.Source.{parse_outcome}

abbrev pub token_kinds : List Token → List Kind
token_kinds [] = []
token_kinds (t ∷ ts) = t.kind ∷ token_kinds ts

abbrev pub op_kind : Op → Kind
op_kind op.Chop = kind.Symbol symbol.Semicolon
op_kind op.Proj = kind.Word word.Proj
op_kind op.Or = kind.Word word.Or
op_kind op.Equal = kind.Symbol symbol.Equal
op_kind op.Differs = kind.Symbol symbol.Differs
op_kind op.Less = kind.Symbol symbol.Less
op_kind op.LessEqual = kind.Symbol symbol.LessEqual
op_kind op.Greater = kind.Symbol symbol.Greater
op_kind op.GreaterEqual = kind.Symbol symbol.GreaterEqual
op_kind op.Gets = kind.Word word.Gets
op_kind op.Arrow = kind.Symbol symbol.Arrow
op_kind op.Becomes = kind.Symbol symbol.Becomes
op_kind op.Plus = kind.Symbol symbol.Plus
op_kind op.Minus = kind.Symbol symbol.Minus
op_kind op.Times = kind.Symbol symbol.Times
op_kind op.Div = kind.Word word.Div
op_kind op.Mod = kind.Word word.Mod

abbrev pub bare_kind : Bare → Kind
bare_kind b.Empty = kind.Word word.Empty
bare_kind b.More = kind.Word word.More
bare_kind b.Skip = kind.Word word.Skip

abbrev pub form_kind : Form → Kind
form_kind f.Always = kind.Word word.Always
form_kind f.Keep = kind.Word word.Keep
form_kind f.Fin = kind.Word word.Fin
form_kind f.Halt = kind.Word word.Halt
form_kind f.Stable = kind.Word word.Stable
form_kind f.Sometimes = kind.Word word.Sometimes
form_kind f.Len = kind.Word word.Len
form_kind f.List = kind.Word word.List
form_kind f.Input = kind.Word word.Input
form_kind f.Display = kind.Word word.Display

abbrev pub truth_kind : Bool → Kind
truth_kind true = kind.Word word.True
truth_kind false = kind.Word word.False

-- a variable's name
abbrev pub variable_kind : List ℕ → Kind
variable_kind x = if is_ascii_uppercase (slice_index x 0) then kind.Upper x else kind.Lower x

abbrev pub comma_kind : Kind
comma_kind = kind.Symbol symbol.Comma

abbrev pub open_kind : Kind
open_kind = kind.Symbol symbol.OpenRound

abbrev pub close_kind : Kind
close_kind = kind.Symbol symbol.CloseRound

-- Each of these is given what follows it.

-- names, each behind a comma
abbrev pub more_names : List (List ℕ) → List Kind → List Kind
more_names [] ks = ks
more_names (x ∷ xs) ks = comma_kind ∷ variable_kind x ∷ more_names xs ks

-- names with a comma between each two
abbrev pub name_kinds : List (List ℕ) → List Kind → List Kind
name_kinds [] ks = ks
name_kinds (x ∷ xs) ks = variable_kind x ∷ more_names xs ks

-- a `<`, which makes one token with a `-` right behind it
abbrev pub opened_by : Kind → List Kind → List Kind
opened_by (kind.Symbol symbol.Minus) ks = kind.Symbol symbol.Arrow ∷ ks
opened_by k ks = kind.Symbol symbol.Less ∷ k ∷ ks

abbrev pub list_opened : List Kind → List Kind
list_opened [] = kind.Symbol symbol.Less ∷ []
list_opened (k ∷ ks) = opened_by k ks

abbrev mutual
  -- bare where its level is at most this, else in parentheses
  pub operand_kinds : ℕ → PhraseTree → List Kind → List Kind
  operand_kinds level (phrase at k) ks =
      if nat_le (kind_level k) level then kind_kinds k ks
      else open_kind ∷ kind_kinds k (close_kind ∷ ks)

  -- such operands, each behind the separator
  pub more_operands : Kind → ℕ → PhraseTrees → List Kind → List Kind
  more_operands separator level no_phrase ks = ks
  more_operands separator level (phrase_then p ps) ks =
      separator ∷ operand_kinds level p (more_operands separator level ps ks)

  -- with the separator between each two
  pub operands_kinds : Kind → ℕ → PhraseTrees → List Kind → List Kind
  operands_kinds separator level no_phrase ks = ks
  operands_kinds separator level (phrase_then p ps) ks =
      operand_kinds level p (more_operands separator level ps ks)

  -- in `<` and `>`
  pub listed_kinds : PhraseTrees → List Kind → List Kind
  listed_kinds no_phrase ks = kind.Symbol symbol.Differs ∷ ks
  listed_kinds (phrase_then p ps) ks =
      list_opened (operand_kinds sum_level p
      (more_operands comma_kind sum_level ps (kind.Symbol symbol.Greater ∷ ks)))

  pub kind_kinds : KindTree → List Kind → List Kind
  kind_kinds (number n) ks = kind.Number n ∷ ks
  kind_kinds (truth b) ks = truth_kind b ∷ ks
  kind_kinds (name x) ks = variable_kind x ∷ ks
  kind_kinds (list ps) ks = listed_kinds ps ks
  kind_kinds (size p) ks =
      kind.Symbol symbol.Bar ∷ operand_kinds sum_level p (kind.Symbol symbol.Bar ∷ ks)
  kind_kinds (index p q) ks =
      operand_kinds index_level p
      (kind.Symbol symbol.OpenSquare
      ∷ operand_kinds any_level q (kind.Symbol symbol.CloseSquare ∷ ks))
  kind_kinds (minus p) ks = kind.Symbol symbol.Minus ∷ operand_kinds prefix_level p ks
  kind_kinds (next p) ks = kind.Word word.Next ∷ operand_kinds prefix_level p ks
  kind_kinds (negation p) ks = kind.Word word.Not ∷ operand_kinds not_level p ks
  kind_kinds (binary o p q) ks =
      operand_kinds (left_level o) p (op_kind o ∷ operand_kinds (right_level o) q ks)
  kind_kinds (conjunction ps) ks = operands_kinds (kind.Word word.And) not_level ps ks
  kind_kinds (choice b p) ks =
      kind.Word word.If ∷ operand_kinds any_level b
      (kind.Word word.Then ∷ operand_kinds chop_level p ks)
  kind_kinds (choice_else b p q) ks =
      kind.Word word.If ∷ operand_kinds any_level b
      (kind.Word word.Then
      ∷ operand_kinds chop_level p (kind.Word word.Else ∷ operand_kinds any_level q ks))
  kind_kinds (while b p) ks =
      kind.Word word.While
      ∷ operand_kinds any_level b (kind.Word word.Do ∷ operand_kinds any_level p ks)
  kind_kinds (repeat p b) ks =
      kind.Word word.Repeat
      ∷ operand_kinds any_level p (kind.Word word.Until ∷ operand_kinds any_level b ks)
  kind_kinds (for x e p) ks =
      kind.Word word.For ∷ kind.Lower x ∷ kind.Symbol symbol.Less
      ∷ operand_kinds any_level e (kind.Word word.Do ∷ operand_kinds any_level p ks)
  kind_kinds (forall x e p) ks =
      kind.Word word.Forall ∷ kind.Lower x ∷ kind.Symbol symbol.Less
      ∷ operand_kinds any_level e (kind.Symbol symbol.Colon ∷ operand_kinds any_level p ks)
  kind_kinds (exists xs p) ks =
      kind.Word word.Exists
      ∷ name_kinds xs (kind.Symbol symbol.Colon ∷ operand_kinds any_level p ks)
  kind_kinds (bare w) ks = bare_kind w ∷ ks
  kind_kinds (form f ps) ks =
      form_kind f ∷ open_kind ∷ operands_kinds comma_kind any_level ps (close_kind ∷ ks)
  kind_kinds (call x ps) ks =
      kind.Lower x ∷ open_kind ∷ operands_kinds comma_kind any_level ps (close_kind ∷ ks)

abbrev pub phrase_kinds : PhraseTree → List Kind → List Kind
phrase_kinds (phrase at k) ks = kind_kinds k ks

abbrev pub definition_kinds : DefinitionTree → List Kind → List Kind
definition_kinds d ks =
    kind.Word word.Define ∷ kind.Lower d.name ∷ open_kind
    ∷ name_kinds d.parameters
    (close_kind ∷ kind.Symbol symbol.Equal ∷ phrase_kinds d.body (kind.Symbol symbol.Stop ∷ ks))

abbrev pub definitions_kinds : List DefinitionTree → List Kind → List Kind
definitions_kinds [] ks = ks
definitions_kinds (d ∷ ds) ks = definition_kinds d (definitions_kinds ds ks)

-- the kinds of all the tokens of the source's canonical spelling
abbrev pub source_kinds : SourceTree → List Kind
source_kinds s =
    definitions_kinds s.definitions
    (kind.Word word.Run ∷ phrase_kinds s.main (kind.Symbol symbol.Stop ∷ []))

-- a chain has two operands at least, and an `exists` one name
abbrev pub HasTwo : PhraseTrees → Type 0
HasTwo no_phrase = ⊥
HasTwo (phrase_then p no_phrase) = ⊥
HasTwo (phrase_then p (phrase_then q ps)) = Unit {0}

abbrev pub HasName : List (List ℕ) → Type 0
HasName [] = ⊥
HasName (x ∷ xs) = Unit {0}

-- each chain and each `exists` in the phrase has so many
abbrev mutual
  pub IsWhole : PhraseTree → Type 0
  IsWhole (phrase at k) = IsWholeKind k

  pub IsWholeKind : KindTree → Type 0
  IsWholeKind (number n) = Unit {0}
  IsWholeKind (truth b) = Unit {0}
  IsWholeKind (name x) = Unit {0}
  IsWholeKind (list ps) = AreWhole ps
  IsWholeKind (size p) = IsWhole p
  IsWholeKind (index p q) = IsWhole p × IsWhole q
  IsWholeKind (minus p) = IsWhole p
  IsWholeKind (next p) = IsWhole p
  IsWholeKind (negation p) = IsWhole p
  IsWholeKind (binary o p q) = IsWhole p × IsWhole q
  IsWholeKind (conjunction ps) = HasTwo ps × AreWhole ps
  IsWholeKind (choice b p) = IsWhole b × IsWhole p
  IsWholeKind (choice_else b p q) = IsWhole b × IsWhole p × IsWhole q
  IsWholeKind (while b p) = IsWhole b × IsWhole p
  IsWholeKind (repeat p b) = IsWhole p × IsWhole b
  IsWholeKind (for x e p) = IsWhole e × IsWhole p
  IsWholeKind (forall x e p) = IsWhole e × IsWhole p
  IsWholeKind (exists xs p) = HasName xs × IsWhole p
  IsWholeKind (bare w) = Unit {0}
  IsWholeKind (form f ps) = AreWhole ps
  IsWholeKind (call x ps) = AreWhole ps

  pub AreWhole : PhraseTrees → Type 0
  AreWhole no_phrase = Unit {0}
  AreWhole (phrase_then p ps) = IsWhole p × AreWhole ps

abbrev pub AreWholeBodies : List DefinitionTree → Type 0
AreWholeBodies [] = Unit {0}
AreWholeBodies (d ∷ ds) = IsWhole d.body × AreWholeBodies ds

abbrev pub IsWholeSource : SourceTree → Type 0
IsWholeSource s = AreWholeBodies s.definitions × IsWhole s.main

-- The tokens are a source that is the same up to places, and no other. They are parsed so where no
-- phrase is too high with its parentheses.
pub record ReadsBack (us : Tokens) (s : SourceTree) : Type 0 where
  pub tree : SourceTree
  pub height : ℕ
  pub source : IsSource us tree height
  pub same : IsSameUpToPlaces tree s
  pub only : (t : SourceTree) → Accepts us t → t ≡ tree
  pub parsed : height ≤ limit → parse_outcome us ≡ Ok tree

-- a source of the grammar is whole
abbrev pub SourcesAreWhole : Type 0
SourcesAreWhole = (ts : Tokens) (s : SourceTree) → Accepts ts s → IsWholeSource s

-- whatever tokens a whole source is spelled with, they are read back
abbrev pub SpellingsAreReadBack : Type 0
SpellingsAreReadBack =
    (us : Tokens) (s : SourceTree) → IsWholeSource s → token_kinds us ≡ source_kinds s
    → ReadsBack us s
