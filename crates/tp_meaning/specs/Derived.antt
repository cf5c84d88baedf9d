-- The formulas of the derived operators.
use Rattle.std.specs.Prelude.{ℕ, [], ◌∷◌}
use Rattle.tp_meaning.specs.Syntax.{ExprTree, FormulaTree, equation, next_equation, empty, more, next, if_more, if_empty, always, conjunction, branch, chop, while, negation, size, formulas_of}

-- skip
abbrev pub skip_of : FormulaTree
skip_of = next empty

-- halt(b)
abbrev pub halt_of : ExprTree → FormulaTree
halt_of b = always (branch b empty more)

-- keep(f)
abbrev pub keep_of : FormulaTree → FormulaTree
keep_of f = always (if_more f)

-- fin(f)
abbrev pub fin_of : FormulaTree → FormulaTree
fin_of f = always (if_empty f)

-- A gets e
abbrev pub gets_of : (variable e : ExprTree) → FormulaTree
gets_of x e = always (if_more (next_equation 1 x e))

-- stable(A)
abbrev pub stable_of : ExprTree → FormulaTree
stable_of x = gets_of x x

-- A := e
abbrev pub becomes_of : (variable e : ExprTree) → FormulaTree
becomes_of x e = conjunction (formulas_of (skip_of ∷ next_equation 1 x e ∷ []))

-- repeat f until b
abbrev pub repeat_of : FormulaTree → ExprTree → FormulaTree
repeat_of f b = chop f (while (negation b) f)

-- list(L, e)
abbrev pub list_of_length : (whole e : ExprTree) → FormulaTree
list_of_length l e = equation (size l) e

-- next .. next t = e, with k of `next`
abbrev pub next_equals_of : (k : ℕ) → (t e : ExprTree) → FormulaTree
next_equals_of k t e = conjunction (formulas_of (more ∷ next_equation k t e ∷ []))
