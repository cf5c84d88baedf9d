-- The canonical spelling of phrases, definitions and sources.
use Rattle.std.specs.Prelude.{ℕ, Bool, true, false, nat_le, if◌then◌else◌, List, [], ◌∷◌, ◌++◌, codes}
use Rattle.std.specs.Fmt.{signed_decimal}
use Rattle.tp_tree.specs.declared.operator.Op.{Op}
use Rattle.tp_tree.specs.declared.operator.Op.TheVariants as op
use Rattle.tp_tree.specs.declared.operator.Bare.{Bare}
use Rattle.tp_tree.specs.declared.operator.Bare.TheVariants as b
use Rattle.tp_tree.specs.declared.operator.Form.{Form}
use Rattle.tp_tree.specs.declared.operator.Form.TheVariants as f
use Rattle.tp_tree.specs.Tree.{PhraseTree, phrase, KindTree, number, truth, name, list, size, index, minus, next, negation, binary, conjunction, choice, choice_else, while, repeat, for, forall, exists, bare, form, call, PhraseTrees, no_phrase, phrase_then, DefinitionTree, SourceTree}
use Rattle.tp_tree.specs.Levels.{index_level, prefix_level, sum_level, not_level, chop_level, any_level, left_level, right_level, kind_level}

abbrev pub op_spelling : Op → List ℕ
op_spelling op.Chop = codes ";"
op_spelling op.Proj = codes "proj"
op_spelling op.Or = codes "or"
op_spelling op.Equal = codes "="
op_spelling op.Differs = codes "<>"
op_spelling op.Less = codes "<"
op_spelling op.LessEqual = codes "<="
op_spelling op.Greater = codes ">"
op_spelling op.GreaterEqual = codes ">="
op_spelling op.Gets = codes "gets"
op_spelling op.Arrow = codes "<-"
op_spelling op.Becomes = codes ":="
op_spelling op.Plus = codes "+"
op_spelling op.Minus = codes "-"
op_spelling op.Times = codes "*"
op_spelling op.Div = codes "div"
op_spelling op.Mod = codes "mod"

abbrev pub bare_spelling : Bare → List ℕ
bare_spelling b.Empty = codes "empty"
bare_spelling b.More = codes "more"
bare_spelling b.Skip = codes "skip"

abbrev pub form_spelling : Form → List ℕ
form_spelling f.Always = codes "always"
form_spelling f.Keep = codes "keep"
form_spelling f.Fin = codes "fin"
form_spelling f.Halt = codes "halt"
form_spelling f.Stable = codes "stable"
form_spelling f.Sometimes = codes "sometimes"
form_spelling f.Len = codes "len"
form_spelling f.List = codes "list"
form_spelling f.Input = codes "input"
form_spelling f.Display = codes "display"

abbrev pub truth_spelling : Bool → List ℕ
truth_spelling true = codes "true"
truth_spelling false = codes "false"

-- the names, the first behind `opening` and each other one behind a comma and a space
abbrev pub names_spelling : (opening : List ℕ) → List (List ℕ) → List ℕ
names_spelling opening [] = []
names_spelling opening (x ∷ xs) = opening ++ x ++ names_spelling (codes ", ") xs

abbrev mutual
  -- the phrase, with no parentheses round the whole
  pub phrase_spelling : PhraseTree → List ℕ
  phrase_spelling (phrase at k) = kind_spelling k

  -- bare where its level is at most this, else in parentheses
  pub operand_spelling : ℕ → PhraseTree → List ℕ
  operand_spelling level (phrase at k) =
      if nat_le (kind_level k) level then kind_spelling k
      else codes "(" ++ kind_spelling k ++ codes ")"

  -- several such operands, the first behind `opening` and each other one behind `separator`
  pub operands_spelling : (opening separator : List ℕ) → ℕ → PhraseTrees → List ℕ
  operands_spelling opening separator level no_phrase = []
  operands_spelling opening separator level (phrase_then p ps) =
      opening ++ operand_spelling level p ++ operands_spelling separator separator level ps

  pub kind_spelling : KindTree → List ℕ
  kind_spelling (number n) = signed_decimal n
  kind_spelling (truth b) = truth_spelling b
  kind_spelling (name x) = x
  kind_spelling (list ps) = codes "<" ++ operands_spelling [] (codes ", ") sum_level ps ++ codes ">"
  kind_spelling (size p) = codes "|" ++ operand_spelling sum_level p ++ codes "|"
  kind_spelling (index p q) =
      operand_spelling index_level p ++ codes "[" ++ operand_spelling any_level q ++ codes "]"
  kind_spelling (minus p) = codes "-" ++ operand_spelling prefix_level p
  kind_spelling (next p) = codes "next " ++ operand_spelling prefix_level p
  kind_spelling (negation p) = codes "not " ++ operand_spelling not_level p
  kind_spelling (binary o p q) =
      operand_spelling (left_level o) p ++ codes " " ++ op_spelling o ++ codes " "
      ++ operand_spelling (right_level o) q
  kind_spelling (conjunction ps) = operands_spelling [] (codes " and ") not_level ps
  kind_spelling (choice b p) =
      codes "if " ++ operand_spelling any_level b ++ codes " then " ++ operand_spelling chop_level p
  kind_spelling (choice_else b p q) =
      codes "if " ++ operand_spelling any_level b ++ codes " then " ++ operand_spelling chop_level p
      ++ codes " else " ++ operand_spelling any_level q
  kind_spelling (while b p) =
      codes "while " ++ operand_spelling any_level b ++ codes " do " ++ operand_spelling any_level p
  kind_spelling (repeat p b) =
      codes "repeat " ++ operand_spelling any_level p ++ codes " until "
      ++ operand_spelling any_level b
  kind_spelling (for x e p) =
      (codes "for " ++ x ++ codes " < " ++ operand_spelling any_level e)
      ++ codes " do " ++ operand_spelling any_level p
  kind_spelling (forall x e p) =
      (codes "forall " ++ x ++ codes " < " ++ operand_spelling any_level e) ++ codes " : "
      ++ operand_spelling any_level p
  kind_spelling (exists xs p) =
      codes "exists " ++ names_spelling [] xs ++ codes " : " ++ operand_spelling any_level p
  kind_spelling (bare w) = bare_spelling w
  kind_spelling (form f ps) =
      form_spelling f ++ codes "(" ++ operands_spelling [] (codes ", ") any_level ps ++ codes ")"
  kind_spelling (call x ps) =
      x ++ codes "(" ++ operands_spelling [] (codes ", ") any_level ps ++ codes ")"

-- a line for each definition
abbrev pub definition_spelling : DefinitionTree → List ℕ
definition_spelling d =
    codes "define " ++ d.name ++ codes "(" ++ names_spelling [] d.parameters ++ codes ") = "
    ++ phrase_spelling d.body ++ codes ".\n"

abbrev pub definitions_spelling : List DefinitionTree → List ℕ
definitions_spelling [] = []
definitions_spelling (d ∷ ds) = definition_spelling d ++ definitions_spelling ds

-- and one for the phrase that runs
abbrev pub source_spelling : SourceTree → List ℕ
source_spelling s =
    definitions_spelling s.definitions ++ codes "run " ++ phrase_spelling s.main ++ codes ".\n"
