use Rattle.std.proofs.Common.{ap, sym}
use Rattle.tp_value.specs.Read.{tree}
use Rattle.tp_eval.specs.Reached.{◌>>=◌}
use Rattle.tp_eval.specs.Evaluate.{element_in, length_of}
use Rattle.tp_eval.proofs.Steps.{answers_same}
use Rattle.tp_eval.proofs.places.element_length.Goals as goal

pub returns-in-Some : goal.returns-in-Some
returns-in-Some c = answers_same tree c.length_of.result _ _ (ap (λ o. element_in o >>= length_of) (sym c.in-Some.ensures)) c.length_of.ensures
