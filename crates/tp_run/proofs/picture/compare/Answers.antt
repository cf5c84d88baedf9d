use Rattle.std.proofs.Common.{◌≡◌, ap, ◌∙◌, is_lt, is_gt, rules}
use Rattle.tp_show.proofs.FactOrder.{order_of, before_is, after_is}
use Rattle.tp_run.proofs.picture.compare.Goals as goal

pub returns : goal.returns
returns c =
    let e : c.then_with.result ≡ order_of c.args.f.now c.args.g.now = search rules in
    record { before = ap is_lt e ∙ before_is c.args.f.now c.args.g.now; after = ap is_gt e ∙ after_is c.args.f.now c.args.g.now }
