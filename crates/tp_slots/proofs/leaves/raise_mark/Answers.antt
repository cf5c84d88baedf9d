-- The flag of the mark's side is set outward, and the other stays.
use Rattle.std.proofs.Common.{ap, subst}
use Rattle.std.specs.Option.{option_map}
use Rattle.tp_decide.specs.Decided.{mark_of}
use Rattle.tp_scene.specs.Scene.{other_side}
use Rattle.tp_slots.specs.Flags.{FlagsAreRight, FlagsFollow, flags_in}
use Rattle.tp_slots.specs.Looks.{IsAfterMark}
use Rattle.tp_slots.specs.Read.{flags_of, holders_of, slots_of}
use Rattle.tp_slots.specs.declared.scene.Scene.{Scene}
use Rattle.tp_slots.proofs.Looking.{marked_looks}
use Rattle.tp_slots.proofs.Changing.{threads_moved, follow_pending, follow_other, raised_kept, unmarked_kept}
use Rattle.tp_slots.proofs.leaves.raise_mark.Goals as goal

pub raise-top-requires-clause-pending : goal.raise-top-requires-clause-pending
raise-top-requires-clause-pending c =
    let z = mark_of c.in-Some.side in
    follow_pending (slots_of c.args.scene.now) z c.args.region (flags_in (flags_of z c.args.scene.now))
    (subst (λ m. FlagsFollow (slots_of c.args.scene.now) m c.args.region z (flags_in (flags_of z c.args.scene.now))) (ap (option_map mark_of) c.in-Some.is) (c.requires.flags z))

right_other : (c : goal.After-pass_mark) → FlagsAreRight (slots_of c.args.scene.now) (other_side (mark_of c.in-Some.side)) (flags_in (flags_of (other_side (mark_of c.in-Some.side)) c.args.scene.now))
right_other c =
    let z = mark_of c.in-Some.side in
    follow_other (slots_of c.args.scene.now) z c.args.region (flags_in (flags_of (other_side z) c.args.scene.now))
    (subst (λ m. FlagsFollow (slots_of c.args.scene.now) m c.args.region (other_side z) (flags_in (flags_of (other_side z) c.args.scene.now))) (ap (option_map mark_of) c.in-Some.is) (c.requires.flags (other_side z)))

pub returns-in-Some-clause-kept : goal.returns-in-Some-clause-kept
returns-in-Some-clause-kept c =
    let z = mark_of c.in-Some.side in
    let s : Scene = record { slots = c.raise-top.new.scene.slots; regions = c.raise-top.new.scene.regions; looks = c.pass_mark.new.looks } in
    raised_kept c.args.scene.now s z c.requires.shape c.raise-top.ensures.slots c.raise-top.ensures.holders c.raise-top.ensures.other c.raise-top.ensures.right c.raise-top.ensures.quiet
    (right_other c)
    (c.requires.quiet (other_side z))
    (marked_looks (slots_of c.args.scene.now) (holders_of c.args.scene.now) c.requires.shape.ordered c.requires.shape.held z c.raise-top.result (λ y. flags_in (flags_of y c.args.scene.now)) (flags_in (flags_of z c.raise-top.new.scene)) c.args.scene.now.looks c.pass_mark.new.looks c.requires.looks
    (subst (λ k. IsAfterMark z c.raise-top.result k c.pass_mark.new.looks) c.raise-top.ensures.looks c.pass_mark.ensures)
    c.raise-top.ensures.right c.raise-top.ensures.below (right_other c))
    (threads_moved c.args.scene.now s c.raise-top.ensures.slots c.raise-top.ensures.afters c.requires.threads)

pub returns-in-None-clause-kept : goal.returns-in-None-clause-kept
returns-in-None-clause-kept c =
    unmarked_kept c.args.scene.now c.args.region c.requires.shape
    (λ z. subst (λ m. FlagsFollow (slots_of c.args.scene.now) m c.args.region z (flags_in (flags_of z c.args.scene.now))) (ap (option_map mark_of) c.in-None.is) (c.requires.flags z)) c.requires.quiet
    c.requires.looks c.requires.threads

pub raise-top-requires-clause-quiet : goal.raise-top-requires-clause-quiet
raise-top-requires-clause-quiet c = c.requires.quiet (mark_of c.in-Some.side)
