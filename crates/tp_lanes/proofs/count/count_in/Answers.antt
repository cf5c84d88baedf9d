use Rattle.std.proofs.Common.{eqb, nat_eq, count_ones, ap, ◌∙◌, arith, w8}
use Rattle.std.proofs.lemmas.Simd.{bitmask_splat, ones-mask_l, length-chunk}
use lib.Lanes.{chunk}
use Rattle.tp_lanes.proofs.count.count_in.Goals as goal

pub returns : goal.returns
returns c =
    let v = chunk c.args.at 16 c.args.bytes.now in
    let long = length-chunk c.args.at 16 c.args.bytes.now c.requires in
    ap count_ones (bitmask_splat w8 eqb v 16 c.args.byte long (omega arith)) ∙ ones-mask_l (λ b. nat_eq b c.args.byte) v
