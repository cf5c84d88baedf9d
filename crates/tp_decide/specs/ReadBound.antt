-- A formula under the bindings of its names, as it is kept.
use Rattle.tp_meaning.specs.Syntax.{FormulaTree}
use Rattle.tp_kernel.specs.Read.{formula_tree, bindings_of}
use Rattle.tp_scene.specs.Scene as S
use Rattle.tp_decide.specs.declared.bound_formula.BoundFormula.{BoundFormula}

abbrev pub formula_of : BoundFormula → FormulaTree
formula_of a = formula_tree a.what.value

abbrev pub env_of : BoundFormula → S.Bindings
env_of a = bindings_of a.env.value
