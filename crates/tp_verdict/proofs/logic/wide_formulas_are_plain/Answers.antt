use Rattle.tp_verdict.proofs.ChopLaws.{wide_formulas_show_nothing}
use Rattle.tp_verdict.proofs.Decided.{wide_formulas_are_decided}
use Rattle.tp_verdict.proofs.logic.wide_formulas_are_plain.Goals as goal

pub returns : goal.returns
returns c = record { show_nothing = wide_formulas_show_nothing; decided = wide_formulas_are_decided }
