-- Each turn keeps the depth of one region outward.
use Rattle.std.proofs.Common.{sym, ◌∙◌, arith, rules}
use Rattle.std.proofs.Math.Nat.{lt_trans}
use Rattle.std.proofs.lemmas.Bool.{and_parts}
use Rattle.tp_slots.specs.Lives.{leads_to}
use Rattle.tp_slots.specs.Read.{holders_of, slots_of, what_of}
use Rattle.tp_slots.proofs.Looking.{kept_depth}
use Rattle.tp_slots.proofs.Remembering.{holder_inside, holder_outward, outward_depth, outward_lives, remembered}
use Rattle.tp_slots.proofs.Seeing.{inside}
use Rattle.tp_slots.proofs.live.remember_depths.Goals as goal

pub returns-then-depth_found-gt0-2-clause-kept : goal.returns-then-depth_found-gt0-2-clause-kept
returns-then-depth_found-gt0-2-clause-kept c = remembered c.args.scene.now c.outward.scene c.outward.invariant.slots c.outward.invariant.regions c.requires.kept c.outward.invariant.looks

pub index-slot-requires : goal.index-slot-requires
index-slot-requires c = holder_inside c.args.scene.now c.outward.scene c.outward.invariant.slots c.outward.invariant.regions c.requires.kept.shape c.outward.at c.outward.invariant.within (search rules) c.index.result.now c.index.ensures

pub outward-smaller : goal.outward-smaller
outward-smaller c = holder_outward c.args.scene.now c.outward.scene c.outward.invariant.slots c.outward.invariant.regions c.requires.kept.shape c.outward.at c.outward.invariant.within (search rules) c.index.result.now c.index.ensures c.index-slot.result.now c.index-slot.ensures

pub outward-preserved : goal.outward-preserved
outward-preserved c =
    let i = c.outward.invariant in
    let lives = outward_lives c.args.scene.now c.outward.scene i.slots i.regions c.requires.kept.shape c.outward.at i.within (search rules) c.index.result.now c.index.ensures c.index-slot.result.now c.index-slot.ensures in
    let deep = outward_depth c.args.scene.now c.outward.scene i.slots i.regions c.requires.kept.shape c.outward.at i.within (search rules) c.index.result.now c.index.ensures c.index-slot.result.now c.index-slot.ensures in
    let known = i.deep in
    record {
      within = lt_trans (outward-smaller c) i.within;
      slots = i.slots;
      regions = i.regions;
      lives = (and_parts (leads_to (what_of c.index-slot.result.now.what) c.outward.at) _ (sym lives ∙ i.lives)).1;
      deep = omega (arith, deep, known);
      looks = kept_depth (slots_of c.args.scene.now) (holders_of c.args.scene.now) c.outward.scene.looks c.keep_depth.new.looks c.outward.at c.outward.depth i.looks (inside c.args.scene.now c.outward.at i.within) c.keep_depth.ensures i.lives i.deep;
    }

pub returns-clause-kept : goal.returns-clause-kept
returns-clause-kept c = remembered c.args.scene.now c.outward.scene c.outward.invariant.slots c.outward.invariant.regions c.requires.kept c.outward.invariant.looks
