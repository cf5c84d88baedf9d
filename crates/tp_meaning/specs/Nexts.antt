-- A formula behind so many `next`.
use Rattle.std.specs.Prelude.{ℕ, zero, suc}
use Rattle.tp_meaning.specs.Syntax.{FormulaTree, next}

-- under n times `next`
abbrev pub nexts : ℕ → FormulaTree → FormulaTree
nexts zero f = f
nexts (suc n) f = next (nexts n f)
