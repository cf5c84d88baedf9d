use Rattle.tp_verdict.proofs.Widened.{wide_holds_as_holds as law}
use Rattle.tp_verdict.proofs.wide.wide_formulas_hold_alike.Goals as goal

pub returns : goal.returns
returns c = law
