use Rattle.std.proofs.Common.{◌∙◌, ap, sym, subst}
use Rattle.std.proofs.lemmas.Result.{IfOk-weaker}
use Rattle.tp_eval.specs.Answers.{outcome_tree, place_outcome_of}
use Rattle.tp_eval.specs.Outcome.{PlaceOutcome}
use Rattle.tp_scene.specs.Step as row
use Rattle.tp_decide.specs.Found.{BoundIn}
use Rattle.tp_decide.proofs.calls.find_place.Goals as goal

pub returns-in-Other-clause-bound : goal.returns-in-Other-clause-bound
returns-in-Other-clause-bound c =
    IfOk-weaker c.known.result _ _
    (λ bound is. subst (λ (o : PlaceOutcome). BoundIn (λ f. row.with_place o f) bound)
    (ap place_outcome_of (sym c.in-Other.is) ∙ c.in_ok-path.ensures)
    (is (outcome_tree c.in-Other.outcome) c.value.ensures.found))
    c.known.ensures.bound
