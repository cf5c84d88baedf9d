use Rattle.std.proofs.Common.{◌++◌, ap, ◌∙◌, codes, append_assoc}
use Rattle.std.specs.Fmt.{decimal}
use Rattle.std.proofs.lemmas.Result.{on_ok_weaker}
use Rattle.tp_call.proofs.end_line.append_states.Goals as goal

pub returns : goal.returns
returns c =
    on_ok_weaker c.append.result
    (λ e. e ∙ ap (λ t. t ++ codes " states") c.in_ok-append_counted.ensures ∙ append_assoc c.args.out.now (codes "trace too long: " ++ decimal c.args.states) (codes " states"))
    c.append.ensures.ok
