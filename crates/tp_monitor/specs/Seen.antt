-- What the code builds, as plain data.
use Rattle.std.specs.Prelude.{List, map}
use Rattle.std.specs.Global.{Global}
use Rattle.std.specs.declared.boxed.Box.{Box}
use Rattle.tp_meaning.specs.Syntax.{ExprTree}
use Rattle.tp_verdict.specs.declared.wide_formula.WideFormula.{WideFormula}
use Rattle.tp_verdict.specs.declared.wide_formula.WideFormulas.{WideFormulas}
use Rattle.tp_verdict.specs.Wide.{WideTree, trivial, next, if_more, if_empty, always, branch, while}
use Rattle.tp_verdict.specs.Read.{wide_tree}
use Rattle.tp_monitor.specs.declared.wide.Wide.{Wide}
use Rattle.tp_monitor.specs.declared.widening.Over.{Over}
use Rattle.tp_monitor.specs.declared.widening.Over.TheVariants.{Next, IfMore, IfEmpty, Always}
use Rattle.tp_monitor.specs.declared.wide_formula_of.WideGuard.{WideGuard}
use Rattle.tp_monitor.specs.declared.wide_formula_of.WideGuard.TheVariants.{If, While}
use Rattle.tp_monitor.specs.WideOf.{NamedWide}

abbrev pub wide_seen : Wide → NamedWide
wide_seen w = record { globals = w.globals; formula = wide_tree w.formula }

-- in a box
abbrev pub box_seen : Box WideFormula Global → WideTree
box_seen w = wide_tree w.value

-- several
abbrev pub wides_seen : WideFormulas → List WideTree
wides_seen ws = map wide_tree ws.items.items

-- what is made of a formula
abbrev pub made_over : Over → WideTree → WideTree
made_over Next w = next w
made_over IfMore w = if_more w
made_over IfEmpty w = if_empty w
made_over Always w = always w

-- what stands under a condition
abbrev pub widely_guarded : WideGuard → ExprTree → WideTree → WideTree
widely_guarded If = λ b w. branch b w trivial
widely_guarded While = while
