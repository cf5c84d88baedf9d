-- Names that are hidden by `exists` one in another.
use Rattle.std.specs.Prelude.{◌≤◌, ℕ, List, ◌++◌}
use Rattle.tp_meaning.specs.Syntax.{FormulaTree}
use Rattle.tp_kernel.specs.declared.formula.Formula.{Formula}
use Rattle.tp_kernel.specs.declared.formula.Formula.TheViews.{size-Formula}
use Rattle.tp_tree.specs.Levels.{any_level}
use Rattle.tp_residual.specs.Phrases.{Vocabulary}
use Rattle.tp_residual.specs.Parts.{operand_formula}
use Rattle.tp_residual.specs.Read.{own_bound_names}

-- with names that the phrase itself binds, the outermost first
abbrev pub naming_all : Vocabulary → List (List ℕ) → Vocabulary
naming_all v names =
    record {
      variables = v.variables;
      definitions = v.definitions;
      bound = v.bound ++ own_bound_names names;
    }

-- the body of a phrase that binds names
abbrev pub within_spelling : Vocabulary → FormulaTree → List ℕ
within_spelling v w = operand_formula v any_level w

-- the formula has no more levels than the whole
abbrev pub IsNoDeeper : Formula → Formula → Type 0
IsNoDeeper inner whole = size-Formula inner ≤ size-Formula whole
