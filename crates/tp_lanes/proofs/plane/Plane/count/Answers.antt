use Rattle.std.proofs.Common.{ap, ◌∙◌, count_by}
use Rattle.tp_lanes.proofs.Planes.{count_is}
use Rattle.tp_lanes.proofs.plane.Plane.count.Goals as goal

pub returns : goal.returns
returns c =
    let s = c.self.inside in
    count_is s.bound s.words.items s.rows.items s.size c.self.invariant ∙ ap (count_by (λ b. b)) c.self.view_is
