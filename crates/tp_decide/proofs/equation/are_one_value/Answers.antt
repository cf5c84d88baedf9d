use Rattle.std.proofs.Common.{◌∙◌, ap, sym}
use Rattle.tp_value.specs.Read.{tree}
use Rattle.tp_eval.specs.Answers.{outcome_tree}
use Rattle.tp_eval.specs.Outcome.{value}
use Rattle.tp_decide.proofs.equation.are_one_value.Goals as goal

pub returns-in-Value-second : goal.returns-in-Value-second
returns-in-Value-second c = λ h.
    record {
      value = tree c.in-Value.left;
      first = ap outcome_tree c.in-Value.is;
      second = ap outcome_tree c.in-Value-second.is ∙ ap value (sym (c.same.ensures.0 h));
    }
