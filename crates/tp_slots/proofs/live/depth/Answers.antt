-- Each turn is one region outward.
use Rattle.std.proofs.Common.{◌≡◌, ℕ, suc, ◌+◌, ◌<◌, ◌^◌, length, ap, ◌∙◌, arith, rules}
use Rattle.tp_slots.specs.Kept.{IsShaped}
use Rattle.tp_slots.specs.Places.{place_outward}
use Rattle.tp_slots.specs.Read.{holders_of, slots_of}
use Rattle.tp_slots.specs.declared.scene.Region.{Region}
use Rattle.tp_slots.specs.declared.scene.Scene.{Scene}
use Rattle.tp_slots.proofs.Seeing.{depth_small, home_less, holder_within, inside, next_depth, holder_read}
use Rattle.tp_slots.proofs.live.depth.Goals as goal

pub index-slot-requires : goal.index-slot-requires
index-slot-requires c =
    let a : 0 < c.outward.at = search rules in
    let b = holder_within c.args.scene.now c.requires.kept.shape c.outward.at c.outward.invariant.0 a in
    let h = ap (λ (x : Region). x.holder) c.index.ensures ∙ holder_read c.args.scene.now c.outward.at c.outward.invariant.0 c.index.result.now in
    omega (arith, b, h)

pub outward-smaller : goal.outward-smaller
outward-smaller c =
    let a : 0 < c.outward.at = search rules in
    home_less c.args.scene.now c.requires.kept.shape c.outward.at c.outward.invariant.0 a c.index.result.now c.index-slot.result.now c.index.ensures c.index-slot.ensures

pub outward-preserved : goal.outward-preserved
outward-preserved c =
    let a : 0 < c.outward.at = search rules in
    let u = home_less c.args.scene.now c.requires.kept.shape c.outward.at c.outward.invariant.0 a c.index.result.now c.index-slot.result.now c.index.ensures c.index-slot.ensures in
    let d = next_depth c.args.scene.now c.requires.kept.shape c.outward.at c.outward.invariant.0 a c.index.result.now c.index-slot.result.now c.index.ensures c.index-slot.ensures in
    let i = c.outward.invariant.0 in
    let e = c.outward.invariant.1 in
    (omega (arith, i, u), omega (arith, d, e))

small : (s : Scene) (region at depth : ℕ) → IsShaped (slots_of s) (holders_of s) → region < length s.regions.items → length s.regions.items < 2 ^ 63
    → depth + (place_outward (slots_of s) (holders_of s) at).depth ≡ (place_outward (slots_of s) (holders_of s) region).depth → depth + (place_outward (slots_of s) (holders_of s) at).depth < 2 ^ 63
small s region at depth shape r n e = let b = depth_small (slots_of s) (holders_of s) shape.ordered shape.held (suc region) region (omega arith) (inside s region r) in omega (arith, b, e, n, r)

pub overflow_add-depth : goal.overflow_add-depth
overflow_add-depth c =
    let a : 0 < c.outward.at = search rules in
    let d = next_depth c.args.scene.now c.requires.kept.shape c.outward.at c.outward.invariant.0 a c.index.result.now c.index-slot.result.now c.index.ensures c.index-slot.ensures in
    let b = small c.args.scene.now c.args.region c.outward.at c.outward.depth c.requires.kept.shape c.requires.region (search rules) c.outward.invariant.1 in
    omega (arith, d, b)

pub overflow_add-result : goal.overflow_add-result
overflow_add-result c =
    let s = c.args.scene.now in
    let e = c.depth_found-known.ensures in
    let p : 0 < c.depth_found-known.result = search rules in
    let k = (c.requires.kept.looks.depths.known c.outward.at (inside s c.outward.at c.outward.invariant.0) (omega (arith, e, p))).1 in
    let b = small c.args.scene.now c.args.region c.outward.at c.outward.depth c.requires.kept.shape c.requires.region (search rules) c.outward.invariant.1 in
    omega (arith, e, k, b)
