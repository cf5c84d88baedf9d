use Rattle.std.proofs.Common.{ap, ◌∙◌, map}
use Rattle.tp_inputs.specs.Model.{row_of}
use Rattle.tp_inputs.proofs.PlaceLemmas.{rows_stay}
use Rattle.tp_inputs.proofs.ranges.Ranges.place.Goals as goal

pub returns-in_ok-push-in-None-clause-kept : goal.returns-in_ok-push-in-None-clause-kept
returns-in_ok-push-in-None-clause-kept c =
    let r = c.args.self.now in
    ap (λ vs. map (row_of vs) r.rows.entries) c.in_ok-push-in-None.ensures.items ∙ rows_stay r.values.items c.args.value r.rows.entries r.placed
