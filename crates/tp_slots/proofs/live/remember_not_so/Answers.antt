-- Each turn keeps one region outward that isn't so either.
use Rattle.std.proofs.Common.{◌&&◌, ap, sym, ◌∙◌, rules}
use Rattle.std.proofs.Math.Nat.{lt_trans}
use Rattle.std.proofs.lemmas.Bool.{or_parts}
use Rattle.tp_decide.specs.Decided.{mark_of}
use Rattle.tp_slots.specs.Flags.{forced_in}
use Rattle.tp_slots.specs.Read.{flag_of, holders_of, slots_of, what_of}
use Rattle.tp_slots.proofs.Looking.{kept_not_so}
use Rattle.tp_slots.proofs.Remembering.{holder_inside, holder_outward, outward_seen, remembered}
use Rattle.tp_slots.proofs.Seeing.{inside, sees_at}
use Rattle.tp_slots.proofs.live.remember_not_so.Goals as goal

pub returns-then-is_found_not_so-clause-kept : goal.returns-then-is_found_not_so-clause-kept
returns-then-is_found_not_so-clause-kept c = remembered c.args.scene.now c.outward.scene c.outward.invariant.slots c.outward.invariant.regions c.requires.kept c.outward.invariant.looks

pub index-slot-requires : goal.index-slot-requires
index-slot-requires c = holder_inside c.args.scene.now c.outward.scene c.outward.invariant.slots c.outward.invariant.regions c.requires.kept.shape c.outward.at c.outward.invariant.within (search rules) c.index.result.now c.index.ensures

pub returns-then-not-sinks-clause-kept : goal.returns-then-not-sinks-clause-kept
returns-then-not-sinks-clause-kept c =
    remembered c.args.scene.now (record { slots = c.outward.scene.slots; regions = c.outward.scene.regions; looks = c.keep_not_so.new.looks }) c.outward.invariant.slots c.outward.invariant.regions c.requires.kept (kept_not_so (slots_of c.args.scene.now) (holders_of c.args.scene.now) c.outward.scene.looks c.keep_not_so.new.looks (mark_of c.args.side) c.outward.at c.outward.invariant.looks (inside c.args.scene.now c.outward.at c.outward.invariant.within) c.keep_not_so.ensures c.outward.invariant.not_so)

pub outward-smaller : goal.outward-smaller
outward-smaller c = holder_outward c.args.scene.now c.outward.scene c.outward.invariant.slots c.outward.invariant.regions c.requires.kept.shape c.outward.at c.outward.invariant.within (search rules) c.index.result.now c.index.ensures c.index-slot.result.now c.index-slot.ensures

pub outward-preserved : goal.outward-preserved
outward-preserved c =
    let i = c.outward.invariant in
    let z = mark_of c.args.side in
    let y = c.index-slot.result.now in
    let seen = outward_seen c.args.scene.now c.outward.scene i.slots i.regions c.requires.kept.shape c.outward.at i.within (search rules) c.index.result.now c.index.ensures c.index-slot.result.now c.index-slot.ensures c.requires.kept z in
    let held = (or_parts (forced_in (what_of y.what) c.outward.at z) _ (or_parts (flag_of z c.index.result.now) _ (sym seen ∙ i.not_so)).1).1 in
    let sinks = sym c.sinks.ensures ∙ c.if-not-sinks.false in
    record {
      within = lt_trans (outward-smaller c) i.within;
      slots = i.slots;
      regions = i.regions;
      not_so = ap (λ b. b && sees_at c.args.scene.now c.requires.kept z y.home) (sym sinks) ∙ held;
      looks = kept_not_so (slots_of c.args.scene.now) (holders_of c.args.scene.now) c.outward.scene.looks c.keep_not_so.new.looks z c.outward.at i.looks (inside c.args.scene.now c.outward.at i.within) c.keep_not_so.ensures i.not_so;
    }

pub returns-clause-kept : goal.returns-clause-kept
returns-clause-kept c = remembered c.args.scene.now c.outward.scene c.outward.invariant.slots c.outward.invariant.regions c.requires.kept c.outward.invariant.looks
