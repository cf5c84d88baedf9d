-- The spelling of a residual phrase, part by part, as the code writes it.
use Rattle.std.specs.Prelude.{ℕ, ℤ, zero, suc, List, [], ◌++◌, nat_le, if◌then◌else◌, codes}
use Rattle.tp_meaning.specs.Syntax.{ExprTree, ExprTrees, FormulaTree, FormulaTrees}
use Rattle.tp_tree.specs.declared.operator.Op.{Op}
use Rattle.tp_tree.specs.Levels.{not_level, any_level, left_level, right_level, kind_level}
use Rattle.tp_tree.specs.Spelling.{op_spelling, kind_spelling, operands_spelling}
use Rattle.tp_residual.specs.Phrases.{Vocabulary, all_kind, from_spelling, expr_kind, exprs_phrases, formula_kind, formulas_phrases}

-- An operand of that level: bare where this is at most `most`, else in parentheses.
abbrev pub enclosed : (most level : ℕ) → List ℕ → List ℕ
enclosed most level text = if nat_le level most then text else codes "(" ++ text ++ codes ")"

-- an operator between its operands, each with its level
abbrev pub operation_spelling : Op → (left_is : ℕ) → (left : List ℕ) → (right_is : ℕ)
    → (right : List ℕ) → List ℕ
operation_spelling o l left r right =
    enclosed (left_level o) l left ++ codes " " ++ op_spelling o ++ codes " "
    ++ enclosed (right_level o) r right

-- a form or a call with the text of its operands
abbrev pub called_with : (word operands : List ℕ) → List ℕ
called_with word operands = word ++ codes "(" ++ operands ++ codes ")"

-- expressions, by their levels and texts
abbrev pub expr_level : Vocabulary → ExprTree → ℕ
expr_level v e = kind_level (expr_kind v e)

abbrev pub expr_spelling : Vocabulary → ExprTree → List ℕ
expr_spelling v e = kind_spelling (expr_kind v e)

abbrev pub operand_expr : Vocabulary → (most : ℕ) → ExprTree → List ℕ
operand_expr v most e = enclosed most (expr_level v e) (expr_spelling v e)

abbrev pub exprs_spelling : Vocabulary → (opening separator : List ℕ) → (most : ℕ) → ExprTrees
    → List ℕ
exprs_spelling v opening separator most es =
    operands_spelling opening separator most (exprs_phrases v es)

-- of these as the operands of a conjunction
abbrev pub exprs_level : Vocabulary → ExprTrees → ℕ
exprs_level v es = kind_level (all_kind (exprs_phrases v es))

abbrev pub all_exprs_spelling : Vocabulary → ExprTrees → List ℕ
all_exprs_spelling v es = kind_spelling (all_kind (exprs_phrases v es))

-- so many of `next `
abbrev pub nexts_spelling : ℕ → List ℕ
nexts_spelling zero = []
nexts_spelling (suc n) = codes "next " ++ nexts_spelling n

-- the word of a loop, its variable, and from what number to below which
abbrev pub counted_spelling : Vocabulary → (word name : List ℕ) → (from : ℤ) → (to : ExprTree)
    → List ℕ
counted_spelling v word name k e =
    word ++ (name ++ from_spelling k) ++ codes " < " ++ operand_expr v any_level e

-- formulas
abbrev pub formula_level : Vocabulary → FormulaTree → ℕ
formula_level v w = kind_level (formula_kind v w)

abbrev pub formula_spelling : Vocabulary → FormulaTree → List ℕ
formula_spelling v w = kind_spelling (formula_kind v w)

abbrev pub operand_formula : Vocabulary → (most : ℕ) → FormulaTree → List ℕ
operand_formula v most w = enclosed most (formula_level v w) (formula_spelling v w)

abbrev pub formulas_level : Vocabulary → FormulaTrees → ℕ
formulas_level v ws = kind_level (all_kind (formulas_phrases v ws))

abbrev pub all_formulas_spelling : Vocabulary → FormulaTrees → List ℕ
all_formulas_spelling v ws = kind_spelling (all_kind (formulas_phrases v ws))

-- several operands of `and`
abbrev pub formulas_spelling : Vocabulary → (opening : List ℕ) → FormulaTrees → List ℕ
formulas_spelling v opening ws =
    operands_spelling opening (codes " and ") not_level (formulas_phrases v ws)
