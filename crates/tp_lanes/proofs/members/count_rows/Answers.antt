use Rattle.std.proofs.Common.{◌*◌, ◌+◌, ◌^◌, ◌<◌, length, arith, rules}
use Rattle.tp_lanes.specs.Planes.{bit_in}
use Rattle.tp_lanes.proofs.Passing.{upward}
use Rattle.tp_lanes.proofs.members.count_rows.Goals as goal

pub overflow_add-total : goal.overflow_add-total
overflow_add-total c =
    let row = c.loop-row.row in
    let up = upward (bit_in c.args.words.now) (512 * row + 512) (512 * length c.args.rows.now.items) (omega (arith, c.loop-row.invariant.len)) in
    let low : c.loop-row.total + c.row_count-count.result < 2 ^ 64 = omega (arith, up, c.loop-row.invariant.total, c.row_count-count.ensures, c.requires.few) in
    search (rules, low)
