use Rattle.std.proofs.lemmas.Result.{on_ok_weaker}
use Rattle.tp_residual.proofs.Reductions.{reductions_written}
use Rattle.tp_residual.proofs.trace.append_reductions.Goals as goal

pub returns : goal.returns
returns c =
    on_ok_weaker c.append-2.result (reductions_written c.args.out.now c.append.new.self c.append_decimal.new.out c.append-2.new.self c.args.reductions c.in_ok-append.ensures.ok c.in_ok-append_decimal.ensures) c.append-2.ensures.ok
