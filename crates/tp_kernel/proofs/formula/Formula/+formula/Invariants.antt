use Rattle.std.proofs.Common.{◌≤◌}
use Rattle.tp_kernel.specs.declared.formula.Formula.TheViews.{size-Formula}
use Rattle.tp_kernel.proofs.formula.Formula.+formula.Given as goal

-- what is still to be let go is no deeper than the whole
abbrev pub invariant-names : goal.invariant-names
invariant-names l = size-Formula l.self ≤ size-Formula l.initial.self
