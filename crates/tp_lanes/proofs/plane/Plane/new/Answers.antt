use Rattle.std.proofs.Common.{◌*◌, arith}
use Rattle.tp_lanes.proofs.Edits.{no_members, no_flags}
use Rattle.tp_lanes.proofs.plane.Plane.new.Goals as goal

pub invariant_of-result : goal.invariant_of-result
invariant_of-result c =
    let count = c.div_ceil-count.result in
    no_members c.args.bound count c.in_ok-words.words.items c.in_ok-rows.rows.items c.ranges.bound.fits (omega (arith, c.div_ceil-count.ensures)) c.in_ok-words.ensures c.in_ok-rows.ensures

pub returns : goal.returns
returns c = no_flags c.args.bound (8 * c.div_ceil-count.result) c.in_ok-words.words.items c.in_ok-words.ensures
