-- The walk outward tells what the region is.
use Rattle.std.proofs.Common.{◌≡◌, ℕ, ◌<◌, ◌||◌, ◌&&◌, Bool, true, false, length, get_or, ap, sym, ◌∙◌, arith, rules}
use Rattle.std.proofs.lemmas.Bool.{or_left}
use Rattle.tp_scene.specs.Scene.{Side}
use Rattle.tp_decide.specs.Decided.{mark_of}
use Rattle.tp_slots.specs.Flags.{forced_in, sinks_in}
use Rattle.tp_slots.specs.Kept.{IsWellKept}
use Rattle.tp_slots.specs.Read.{flag_of, what_of}
use Rattle.tp_slots.specs.declared.scene.Scene.{Scene}
use Rattle.tp_slots.specs.declared.scene.Slot.{Slot}
use Rattle.tp_slots.specs.declared.scene.Region.{Region}
use Rattle.tp_slots.proofs.Seeing.{flag_read, holder_read, holder_within, home_less, next_seen, sees_at, sees_set}
use Rattle.tp_slots.proofs.flags.sees.Goals as goal

-- What a region sees that isn't so and is not forced, by whether it sinks.
by_sinks : (s : Scene) (kept : IsWellKept s) (z : Side) (r : ℕ) → r < length s.regions.items → 0 < r → (x : Region) (y : Slot) → x ≡ get_or s.regions.items r x → y ≡ get_or s.slots.items x.holder y
    → (b : Bool) → flag_of z x ≡ false → forced_in (what_of y.what) r z ≡ false → sinks_in (what_of y.what) r z ≡ b → sees_at s kept z r ≡ (b && sees_at s kept z y.home)
by_sinks s kept z r l a x y ex ey b f g k = next_seen s kept.shape r l a x y ex ey kept z ∙ (λ i. f i || (g i || (k i && sees_at s kept z y.home)))

pub returns-then-is_so : goal.returns-then-is_so
returns-then-is_so c =
    sym (sees_set c.args.scene.now c.requires.kept (mark_of c.args.side) c.outward.at c.outward.invariant.0 (sym (ap (flag_of (mark_of c.args.side)) c.index-here.ensures ∙ flag_read c.args.scene.now c.outward.at c.outward.invariant.0 c.index-here.result.now (mark_of c.args.side)) ∙ (sym c.is_so.ensures ∙ c.if-is_so.true)))
    ∙ c.outward.invariant.1

pub index-slot-requires : goal.index-slot-requires
index-slot-requires c =
    let a : 0 < c.outward.at = search rules in
    let w = holder_within c.args.scene.now c.requires.kept.shape c.outward.at c.outward.invariant.0 a in
    let h = ap (λ x. x.holder) c.index-here.ensures ∙ holder_read c.args.scene.now c.outward.at c.outward.invariant.0 c.index-here.result.now in
    omega (arith, w, h)

pub returns-then-forces : goal.returns-then-forces
returns-then-forces c =
    let a : 0 < c.outward.at = search rules in
    let z = mark_of c.args.side in
    let n = next_seen c.args.scene.now c.requires.kept.shape c.outward.at c.outward.invariant.0 a c.index-here.result.now c.index-slot.result.now c.index-here.ensures c.index-slot.ensures c.requires.kept z in
    let f = sym c.is_so.ensures ∙ c.if-is_so.false in
    sym (n ∙ (ap (λ b. b || (forced_in (what_of c.index-slot.result.now.what) c.outward.at z || (sinks_in (what_of c.index-slot.result.now.what) c.outward.at z && sees_at c.args.scene.now c.requires.kept z c.index-slot.result.now.home))) f
    ∙ or_left (forced_in (what_of c.index-slot.result.now.what) c.outward.at z) _ (sym c.forces.ensures ∙ c.if-forces.true)))
    ∙ c.outward.invariant.1

pub returns-then-not-sinks : goal.returns-then-not-sinks
returns-then-not-sinks c =
    sym (by_sinks c.args.scene.now c.requires.kept (mark_of c.args.side) c.outward.at c.outward.invariant.0 (search rules) c.index-here.result.now c.index-slot.result.now c.index-here.ensures c.index-slot.ensures
    false (sym c.is_so.ensures ∙ c.if-is_so.false) (sym c.forces.ensures ∙ c.if-forces.false) (sym c.sinks.ensures ∙ c.if-not-sinks.true))
    ∙ c.outward.invariant.1

less : (c : goal.Else-not-sinks) → c.index-slot.result.now.home < c.outward.at
less c =
    let a : 0 < c.outward.at = search rules in
    home_less c.args.scene.now c.requires.kept.shape c.outward.at c.outward.invariant.0 a c.index-here.result.now c.index-slot.result.now c.index-here.ensures c.index-slot.ensures

pub outward-smaller : goal.outward-smaller
outward-smaller c = less c

pub outward-preserved : goal.outward-preserved
outward-preserved c =
    let u = less c in
    let i = c.outward.invariant.0 in (
      omega (arith, u, i),
      sym (by_sinks c.args.scene.now c.requires.kept (mark_of c.args.side) c.outward.at i (search rules) c.index-here.result.now c.index-slot.result.now c.index-here.ensures c.index-slot.ensures
          true (sym c.is_so.ensures ∙ c.if-is_so.false) (sym c.forces.ensures ∙ c.if-forces.false) (sym c.sinks.ensures ∙ c.if-not-sinks.false))
          ∙ c.outward.invariant.1,
    )
