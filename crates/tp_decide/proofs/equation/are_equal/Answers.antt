use Rattle.std.proofs.Common.{◌∙◌, sym}
use Rattle.tp_decide.proofs.equation.are_equal.Goals as goal

pub returns : goal.returns
returns c = λ h. record { values = c.are_one_value.ensures h; no_length = sym c.sets_length.ensures ∙ c.if-sets_length.false }
