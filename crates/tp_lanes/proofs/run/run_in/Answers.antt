use Rattle.std.proofs.lemmas.Simd.{length-chunk}
use lib.Lanes.{chunk}
use Rattle.tp_lanes.proofs.RunLemmas.{run_is, out_of_four}
use Rattle.tp_lanes.proofs.run.run_in.Goals as goal

pub returns : goal.returns
returns c =
    let v = chunk c.args.at 16 c.args.bytes.now in
    let long = length-chunk c.args.at 16 c.args.bytes.now c.requires in
    let e = c.ends-from0.result in
    let f = c.ends-from1.result in
    let g = c.ends-from2.result in
    let h = c.ends-from3.result in
    run_is c.args.class.now e f g h c.ends-from0.ensures c.ends-from1.ensures c.ends-from2.ensures c.ends-from3.ensures v _ _ long (out_of_four v e f g h long) c.first_set.ensures
