use Rattle.std.proofs.lemmas.Result.{IfOk-weaker}
use Rattle.tp_kernel.specs.Read.{expr_tree, bindings_of, definitions_of}
use Rattle.tp_eval.specs.Answers.{outcome_tree}
use Rattle.tp_eval.proofs.Answered.{answer_is, eval_is}
use Rattle.tp_eval.proofs.calls.eval.Goals as goal

pub returns : goal.returns
returns c =
    IfOk-weaker c.settled.result _ _
    (λ o is. eval_is c.args.store.now.facts (definitions_of c.args.defs.now) (expr_tree c.args.expr.now) (bindings_of c.args.env.now) (outcome_tree o)
    (answer_is _ c.evaluate-answer.result c.evaluate-answer.new.calls (outcome_tree o) c.evaluate-answer.ensures is))
    c.settled.ensures
