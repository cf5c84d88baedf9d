-- Each turn sets one flag, and goes on outward or is done.
use Rattle.std.proofs.Common.{◌≡◌, ℕ, ◌<◌, true, length, get_or, ap, sym, ◌∙◌, subst, arith, rules}
use Rattle.std.proofs.lemmas.List.{length-map}
use Rattle.tp_scene.specs.Scene.{Side}
use Rattle.tp_decide.specs.Decided.{mark_of}
use Rattle.tp_slots.specs.Plain as plain
use Rattle.tp_slots.specs.Plain.{slot_at}
use Rattle.tp_slots.specs.Places.{holder_at}
use Rattle.tp_slots.specs.Kept.{IsShaped}
use Rattle.tp_slots.specs.Read.{flag_of, flags_of, holders_of, region_slot_of, slot_of, slots_of}
use Rattle.tp_slots.specs.declared.scene.Scene.{Scene}
use Rattle.tp_slots.specs.declared.scene.Slot.{Slot}
use Rattle.tp_slots.specs.declared.scene.Region.{Region}
use Rattle.tp_slots.proofs.Seeing.{set_below, flag_read, found, around_less, holder_within, holder_read, right_already, quiet_new, right_root, right_last, pending_next, lives_next}
use Rattle.tp_slots.proofs.flags.raise.Goals.{After-index-slot}
use Rattle.tp_slots.proofs.flags.raise.Goals as goal

same_count : (s s0 : Scene) → slots_of s ≡ slots_of s0 → length s.regions.items ≡ length s0.regions.items
same_count s s0 e = sym (length-map s.regions.items region_slot_of) ∙ (ap (λ (x : plain.Slots). length x.regions) e ∙ length-map s0.regions.items region_slot_of)

within_same : (s s0 : Scene) → slots_of s ≡ slots_of s0 → (r : ℕ) → r < length s.regions.items → r < length s0.regions.items
within_same s s0 e r w = let n = same_count s s0 e in omega (arith, n, w)

flags_count : (s s0 : Scene) → slots_of s ≡ slots_of s0 → (z : Side) → length (flags_of z s) ≡ length s0.regions.items
flags_count s s0 e z = length-map s.regions.items (flag_of z) ∙ same_count s s0 e

same_shape : (s s0 : Scene) → slots_of s ≡ slots_of s0 → holders_of s ≡ holders_of s0 → IsShaped (slots_of s0) (holders_of s0) → IsShaped (slots_of s) (holders_of s)
same_shape s s0 e h p = subst (λ x. IsShaped x (holders_of s)) (sym e) (subst (IsShaped (slots_of s0)) (sym h) p)

-- What holds the region, in the scene whose flag was set, is found as in the first one.
module _ (first mid s : Scene) (shape : IsShaped (slots_of first) (holders_of first)) (slots0 : slots_of mid ≡ slots_of first) (holders0 : holders_of mid ≡ holders_of first) (slots : slots_of s ≡ slots_of mid) (holders : holders_of s ≡ holders_of mid)
    (r : ℕ) (w : r < length mid.regions.items) (a : 0 < r) (x : Region) (ex : x ≡ get_or s.regions.items r x) where
  within : r < length s.regions.items
  within = within_same mid s (sym slots) r w

  shaped : IsShaped (slots_of s) (holders_of s)
  shaped = same_shape s first (slots ∙ slots0) (holders ∙ holders0) shape

  holder_there : x.holder < length s.slots.items
  holder_there =
      let b = holder_within s shaped r within a in
      let h = ap (λ (y : Region). y.holder) ex ∙ holder_read s r within x in
      omega (arith, b, h)

  held_by : (y : Slot) → y ≡ get_or s.slots.items x.holder y → slot_of y ≡ slot_at (slots_of first) (holder_at (holders_of first) r)
  held_by y ey = found s shaped r within a x y ex ey ∙ (λ i. slot_at ((slots ∙ slots0) i) (holder_at ((holders ∙ holders0) i) r))

pub returns-then-is_so-clause-right : goal.returns-then-is_so-clause-right
returns-then-is_so-clause-right c =
    let z = mark_of c.args.side in
    let so : flag_of z c.index.result.now ≡ true = sym c.is_so.ensures ∙ c.if-is_so.true in
    right_already c.args.scene.now z c.requires.shape c.outward.at (within_same c.outward.scene c.args.scene.now c.outward.invariant.slots c.outward.at c.outward.invariant.within) (flags_of z c.outward.scene) c.outward.invariant.pending
    (sym (flag_read c.outward.scene c.outward.at c.outward.invariant.within c.index.result.now z) ∙ (ap (flag_of z) (sym c.index.ensures) ∙ so))

pub returns-then-at-eq0-clause-right : goal.returns-then-at-eq0-clause-right
returns-then-at-eq0-clause-right c =
    let z = mark_of c.args.side in
    right_root c.args.scene.now z c.requires.shape c.outward.at (within_same c.outward.scene c.args.scene.now c.outward.invariant.slots c.outward.at c.outward.invariant.within) (flags_of z c.outward.scene) c.outward.invariant.pending
    (flags_of z c.set_at.new.scene) c.set_at.ensures.set (flags_count c.outward.scene c.args.scene.now c.outward.invariant.slots z) c.if-at-eq0.true

pub index-slot-requires : goal.index-slot-requires
index-slot-requires c =
    let b = holder_there c.args.scene.now c.outward.scene c.set_at.new.scene c.requires.shape c.outward.invariant.slots c.outward.invariant.holders c.set_at.ensures.slots c.set_at.ensures.holders c.outward.at c.outward.invariant.within (search rules) c.index-in-outward.result.now c.index-in-outward.ensures in
    omega (arith, b)

held : (c : After-index-slot) → slot_of c.index-slot.result.now ≡ slot_at (slots_of c.args.scene.now) (holder_at (holders_of c.args.scene.now) c.outward.at)
held c = held_by c.args.scene.now c.outward.scene c.set_at.new.scene c.requires.shape c.outward.invariant.slots c.outward.invariant.holders c.set_at.ensures.slots c.set_at.ensures.holders c.outward.at c.outward.invariant.within (search rules) c.index-in-outward.result.now c.index-in-outward.ensures c.index-slot.result.now c.index-slot.ensures

pub returns-then-not-rises-clause-right : goal.returns-then-not-rises-clause-right
returns-then-not-rises-clause-right c =
    let z = mark_of c.args.side in
    right_last c.args.scene.now z c.requires.shape c.outward.at (within_same c.outward.scene c.args.scene.now c.outward.invariant.slots c.outward.at c.outward.invariant.within) (flags_of z c.outward.scene) c.outward.invariant.pending
    (flags_of z c.set_at.new.scene) c.set_at.ensures.set (flags_count c.outward.scene c.args.scene.now c.outward.invariant.slots z) (slot_of c.index-slot.result.now) (held (goal.at.returns-then-not-rises-clause-right c).After-index-slot) (sym c.rises.ensures ∙ c.if-not-rises.true)

pub outward-smaller : goal.outward-smaller
outward-smaller c =
    subst (λ (x : plain.Slot). x.home < c.outward.at) (sym (held (goal.at.outward-smaller c).After-index-slot)) (around_less c.args.scene.now c.requires.shape c.outward.at (within_same c.outward.scene c.args.scene.now c.outward.invariant.slots c.outward.at c.outward.invariant.within) (search rules))

pub outward-preserved : goal.outward-preserved
outward-preserved c =
    let s = c.set_at.new.scene in
    let z = mark_of c.args.side in
    let m = same_count s c.outward.scene c.set_at.ensures.slots in
    let w = c.outward.invariant.within in
    let u = outward-smaller c in
    let l : c.outward.at < length c.args.scene.now.regions.items = within_same c.outward.scene c.args.scene.now c.outward.invariant.slots c.outward.at c.outward.invariant.within in
    let at = held (goal.at.outward-preserved c).After-index-slot in
    let k = flags_count c.outward.scene c.args.scene.now c.outward.invariant.slots z in
    record {
      within = omega (arith, m, w, u);
      slots = c.set_at.ensures.slots ∙ c.outward.invariant.slots;
      holders = c.set_at.ensures.holders ∙ c.outward.invariant.holders;
      other = c.set_at.ensures.other ∙ c.outward.invariant.other;
      afters = c.set_at.ensures.afters ∙ c.outward.invariant.afters;
      looks = c.set_at.ensures.looks ∙ c.outward.invariant.looks;
      lives = lives_next c.args.scene.now z c.requires.shape c.outward.at l (flags_of z c.outward.scene) c.outward.invariant.pending (flags_of z s) c.set_at.ensures.set k (slot_of c.index-slot.result.now) at (search rules) c.outward.invariant.lives;
      pending = pending_next c.args.scene.now z c.requires.shape c.outward.at l (flags_of z c.outward.scene) c.outward.invariant.pending (flags_of z s) c.set_at.ensures.set k (slot_of c.index-slot.result.now) at (sym c.rises.ensures ∙ c.if-not-rises.false);
      most = omega (arith, u);
      below = λ q b. let o = c.outward.invariant.most in set_below (flags_of z c.outward.scene) (flags_of z s) c.outward.at q c.set_at.ensures.set b ∙ c.outward.invariant.below q (omega (arith, b, o));
      quiet = quiet_new c.args.scene.now z c.requires.shape c.outward.at l (flags_of z c.outward.scene) c.outward.invariant.pending (flags_of z s) c.set_at.ensures.set k c.outward.invariant.lives c.outward.invariant.quiet;
    }

pub returns-then-at-eq0-clause-below : goal.returns-then-at-eq0-clause-below
returns-then-at-eq0-clause-below c = λ q b. let o = c.outward.invariant.most in set_below (flags_of (mark_of c.args.side) c.outward.scene) (flags_of (mark_of c.args.side) c.set_at.new.scene) c.outward.at q c.set_at.ensures.set b ∙ c.outward.invariant.below q (omega (arith, b, o))

pub returns-then-not-rises-clause-below : goal.returns-then-not-rises-clause-below
returns-then-not-rises-clause-below c = λ q b. let o = c.outward.invariant.most in set_below (flags_of (mark_of c.args.side) c.outward.scene) (flags_of (mark_of c.args.side) c.set_at.new.scene) c.outward.at q c.set_at.ensures.set b ∙ c.outward.invariant.below q (omega (arith, b, o))
