-- What is left of each region is carried over, item by item.
use Rattle.std.proofs.Common.{◌≡◌, ◌<◌, ◌++◌, ◌∷◌, [], Some, None, length, map, take, ap, sym, ◌∙◌, subst, rules, arith}
use Rattle.std.specs.Prelude.{slice_set}
use Rattle.std.proofs.lemmas.List.{take_more}
use Rattle.std.proofs.Math.Seq.{take-length}
use Rattle.tp_slots.specs.Plain.{holds, head_at}
use Rattle.tp_slots.specs.Read.{slot_of, slots_of}
use Rattle.tp_step.specs.Successors.{left_by, successor_of, one_holder_of, two_holder_of, inside_ids, region_left, full_regions, refilled, all_items, IsExtended, HasRegion, next_ids}
use Rattle.tp_step.proofs.Carried.{item_carried, region_carried}
use Rattle.tp_step.proofs.CarriedRegions.{region_filled, one_added, one_id, two_added, two_id}
use Rattle.tp_step.proofs.Succeeding.{item_is_left}
use Rattle.tp_slots.proofs.OwnItems.{item_of_region}
use Rattle.tp_step.proofs.next_scene.+carrying.Goals as goal

pub carry-loop-i-preserved : goal.carry-loop-i-preserved
carry-loop-i-preserved t c =
    let ids = c.in_ok-ids.ids.items in
    let l : c.loop-i.i < length ids = search rules in
    let x = item_carried c.args.old.now c.args.extent c.len-home.result ids c.push_region.new.scene c.loop-i.i c.index.result.now c.loop-i.new c.carry_item.new.new c.loop-i.roots.items c.push_number.new.list.items _
    (ap (λ y. take c.loop-i.i ids ++ y ∷ []) c.index.ensures ∙ sym (take_more ids c.loop-i.i c.index.result.now l)) c.loop-i.invariant.0 c.loop-i.invariant.1 c.in_ok-number.ensures.added c.in_ok-number.ensures.number c.in_ok-push_number.ensures in
    (x.0, x.1, c.in_ok-number.ensures.looks ∙ c.loop-i.invariant.2, λ h. c.in_ok-number.ensures.unlinked (c.loop-i.invariant.3 h))

pub carry-carry_item-requires : goal.carry-carry_item-requires
carry-carry_item-requires t c =
    let l : c.loop-i.i < length c.in_ok-ids.ids.items = search rules in
    let x = item_of_region c.args.old.now c.args.region c.loop-i.i c.in_ok-ids.ids.items c.index.result.now c.requires.sound c.requires.region c.in_ok-ids.ensures l c.index.ensures in
    let a = x.0 in
    let b = x.1 in
    let r = c.requires.region in
    (omega (arith, b, r), (c.requires.sound, a))

pub carry-returns : goal.carry-returns
carry-returns t c =
    let ids = c.in_ok-ids.ids.items in
    let n : c.loop-i.i ≡ length ids = search rules in
    let all = ap (λ i. take i ids) n ∙ take-length ids in
    let s = slots_of c.args.old.now in
    let x = subst (λ ns. IsExtended c.len-home.result (left_by c.args.extent (all_items s ns)) c.push_region.new.scene c.loop-i.new) all c.loop-i.invariant.0 in
    let y = c.loop-i.invariant.1 ∙ ap (λ ns. next_ids c.push_region.new.scene (left_by c.args.extent (all_items s ns))) all in
    let done = region_carried c.args.old.now c.args.extent c.args.region c.len-home.result ids c.loop-i.roots.items c.args.new.now c.push_region.new.scene c.loop-i.new c.requires.sound c.requires.region c.in_ok-ids.ensures (search rules)
    c.in_ok-push_region.ensures.slots c.in_ok-push_region.ensures.regions x y in
    record { added = done.added; roots = done.listed; looks = c.loop-i.invariant.2 ∙ c.in_ok-push_region.ensures.looks; unlinked = λ h. c.loop-i.invariant.3 (c.in_ok-push_region.ensures.unlinked h) }

pub carry_held-returns-clause-added : goal.carry_held-returns-clause-added
carry_held-returns-clause-added t c =
    let fs = region_left c.args.old.now c.args.extent c.args.region in
    let at : c.len-number.result ≡ length c.args.new.now.regions.items = search rules in
    let same = c.fill_region.ensures.slots in
    let holder : c.len-holder.result ≡ length c.carry.new.new.slots.items = search rules in
    let roots = c.in_ok-roots.ensures.roots in
    let list = full_regions c.carry.new.new.regions.items in
    region_filled fs (length c.fill_region.new.scene.slots.items) (inside_ids c.args.new.now fs) c.args.new.now c.carry.new.new c.fill_region.new.scene c.in_ok-roots.ensures.added same
    (c.fill_region.ensures.regions ∙ (λ i. slice_set list (at i) (refilled list (at i) ((holder ∙ sym (ap length same)) i) (roots i))))

pub carry_second-returns-clause-added : goal.carry_second-returns-clause-added
carry_second-returns-clause-added t c =
    let fs = region_left c.args.old.now c.args.extent c.args.region in
    let at : c.len-number.result ≡ length c.args.new.now.regions.items = search rules in
    let roots = c.in_ok-roots.ensures.roots in
    let list = full_regions c.carry.new.new.regions.items in
    region_filled fs c.args.holder (inside_ids c.args.new.now fs) c.args.new.now c.carry.new.new c.fill_region.new.scene c.in_ok-roots.ensures.added c.fill_region.ensures.slots
    (c.fill_region.ensures.regions ∙ (λ i. slice_set list (at i) (refilled list (at i) c.args.holder (roots i))))

pub carry_item-returns-in_ok-id-in-One : goal.carry_item-returns-in_ok-id-in-One
carry_item-returns-in_ok-id-in-One t c =
    let old = c.args.old.now in
    let k = one_holder_of c.in-One.kind in
    let h = head_at (slots_of old) c.in-One.held in
    let fs = region_left old c.args.extent c.in-One.held in
    let a = c.args.new.now in
    let b = c.carry_held.new.new in
    let new = c.push_item-in-One.new.scene in
    let kept = item_is_left old c.args.extent c.args.item c.index.result.now _ c.requires.sound c.requires.item c.index.ensures (sym (ap successor_of c.in-One.is) ∙ c.in_ok-next.ensures) c.args.home a new in
    let what = c.holding.ensures ∙ ap (λ n. holds k n None) c.in_ok-region-in-One.ensures.number in
    let pushed = c.in_ok-id-in-One.ensures.slots ∙ (λ i. map slot_of b.slots.items ++ record { home = c.args.home; what = what i } ∷ []) in
    record {
      added = kept.1.added (one_added c.args.home k h fs a b new kept.0.0 c.in_ok-region-in-One.ensures.added pushed c.in_ok-id-in-One.ensures.regions);
      number = ap (λ n. n ∷ []) c.in_ok-id-in-One.ensures.number ∙ (one_id c.args.home k h fs a b new kept.0.0 c.in_ok-region-in-One.ensures.added pushed c.in_ok-id-in-One.ensures.regions ∙ kept.1.ids);
      looks = c.in_ok-id-in-One.ensures.looks ∙ c.in_ok-region-in-One.ensures.looks;
      unlinked = λ h. c.in_ok-id-in-One.ensures.unlinked (c.in_ok-region-in-One.ensures.unlinked h);
    }

pub carry_item-returns-in_ok-carry_second-in-Two : goal.carry_item-returns-in_ok-carry_second-in-Two
carry_item-returns-in_ok-carry_second-in-Two t c =
    let old = c.args.old.now in
    let k = two_holder_of c.in-Two.kind in
    let h = head_at (slots_of old) c.in-Two.held in
    let g = head_at (slots_of old) c.in-Two.second in
    let fs = region_left old c.args.extent c.in-Two.held in
    let gs = region_left old c.in-Two.rest c.in-Two.second in
    let a = c.args.new.now in
    let b = c.carry_held-in-Two.new.new in
    let d = c.push_item-in-Two.new.scene in
    let new = c.carry_second.new.new in
    let kept = item_is_left old c.args.extent c.args.item c.index.result.now _ c.requires.sound c.requires.item c.index.ensures (sym (ap successor_of c.in-Two.is) ∙ c.in_ok-next.ensures) c.args.home a new in
    let e = c.in_ok-region-in-Two.ensures.number in
    let outer : c.len-outer.result ≡ length b.regions.items = search rules in
    let what = c.holding_both.ensures ∙ (λ j. holds k (e j) (Some (outer j))) in
    let pushed = c.in_ok-id-in-Two.ensures.slots ∙ (λ i. map slot_of b.slots.items ++ record { home = c.args.home; what = what i } ∷ []) in
    let then = subst (λ n. HasRegion n (inside_ids d gs) gs d new) c.in_ok-id-in-Two.ensures.number c.in_ok-carry_second-in-Two.ensures.added in
    record {
      added = kept.1.added (two_added c.args.home k h g fs gs a b d new kept.0.0 c.in_ok-region-in-Two.ensures.added pushed c.in_ok-id-in-Two.ensures.regions then);
      number = ap (λ n. n ∷ []) c.in_ok-id-in-Two.ensures.number ∙ (two_id c.args.home k h g fs gs a b d new kept.0.0 c.in_ok-region-in-Two.ensures.added pushed c.in_ok-id-in-Two.ensures.regions then ∙ kept.1.ids);
      looks = c.in_ok-carry_second-in-Two.ensures.looks ∙ (c.in_ok-id-in-Two.ensures.looks ∙ c.in_ok-region-in-Two.ensures.looks);
      unlinked = λ h. c.in_ok-carry_second-in-Two.ensures.unlinked (c.in_ok-id-in-Two.ensures.unlinked (c.in_ok-region-in-Two.ensures.unlinked h));
    }
