-- What is kept of the region at which a try looks.
use Rattle.std.proofs.Common.{◌≡◌, ℕ, ◌+◌, ◌<◌, ◌||◌, ◌&&◌, ◌∙◌, true, length, get_or, refl, ap, sym, subst, arith}
use Rattle.std.specs.Prelude.{vec_len}
use Rattle.std.proofs.lemmas.List.{length-map}
use Rattle.tp_scene.specs.Scene.{Side, has}
use Rattle.tp_slots.specs.Plain.{What, bare, holds, gone, slot_at, WhatFits}
use Rattle.tp_slots.specs.Places.{place_outward}
use Rattle.tp_slots.specs.Flags.{forced_in, sinks_in}
use Rattle.tp_slots.specs.Lives.{leads_to, lives_in}
use Rattle.tp_slots.specs.Kept.{IsShaped, IsWellKept}
use Rattle.tp_slots.specs.Looks.{LooksAreRight, looked_at, looked_into}
use Rattle.tp_slots.specs.Read.{slot_of, region_slot_of, what_of, flag_of, slots_of, scene_of, holders_of}
use Rattle.tp_slots.specs.declared.scene.Region.{Region}
use Rattle.tp_slots.specs.declared.scene.Scene.{Scene}
use Rattle.tp_slots.specs.declared.scene.Slot.{Slot}
use Rattle.tp_slots.proofs.Changing.{lives_within}
use Rattle.tp_slots.proofs.Living.{home_lives, first_lives}
use Rattle.tp_slots.proofs.Seeing.{holder_read, holder_within, home_less, next_depth, next_lives, next_seen, sees_at, slot_read}

module _ (s : Scene) (t : ℕ) (kept : IsWellKept s) (lives : has t (scene_of s).root.entries ≡ true) where
  within : t < length (slots_of s).slots
  within = let a = lives_within s t kept.shape.ordered lives in let e = length-map s.slots.items slot_of in omega (arith, a, e)

  around_lives : lives_in (slots_of s) (holders_of s) (slot_at (slots_of s) t).home ≡ true
  around_lives = home_lives (slots_of s) (holders_of s) kept.shape.ordered kept.shape.held t lives

  around_within : (slot_at (slots_of s) t).home < length s.regions.items
  around_within = let a = (kept.shape.ordered.items t within).0 in let e = length-map s.regions.items region_slot_of in omega (arith, a, e)

  -- it is live
  tried : (v : What) → (slot_at (slots_of s) t).what ≡ v → (looked_into (slot_at (slots_of s) t).home v < length s.regions.items) × (lives_in (slots_of s) (holders_of s) (looked_into (slot_at (slots_of s) t).home v) ≡ true)
  tried (bare l) is = (around_within, around_lives)
  tried (gone by) is = (around_within, around_lives)
  tried (holds k r q) is =
      let fit = subst (λ v. WhatFits (slots_of s) (slot_at (slots_of s) t).home t v) is (kept.shape.ordered.items t within).1 in
      let a = fit.0.1 in
      let e = length-map s.regions.items region_slot_of in (
        omega (arith, a, e),
        first_lives (slots_of s) (holders_of s) kept.shape.ordered kept.shape.held t (slot_at (slots_of s) t).home r k q within (λ i. record { home = (slot_at (slots_of s) t).home; what = is i }) around_lives,
      )

  module _ (x : Slot) (r : ℕ) (at : x ≡ get_or s.slots.items t x) (is : r ≡ looked_at (slot_of x)) where
    looked : r ≡ looked_at (slot_at (slots_of s) t)
    looked = is ∙ ap looked_at (ap slot_of at ∙ slot_read s t x (lives_within s t kept.shape.ordered lives))

    pub tried_within : r < length s.regions.items
    tried_within = subst (λ n. n < length s.regions.items) (sym looked) (tried (slot_at (slots_of s) t).what refl).0

    pub tried_lives : lives_in (slots_of s) (holders_of s) r ≡ true
    tried_lives = ap (lives_in (slots_of s) (holders_of s)) looked ∙ (tried (slot_at (slots_of s) t).what refl).1

-- The scene with other looks, which are right.
module _ (s now : Scene) (slots : now.slots ≡ s.slots) (regions : now.regions ≡ s.regions) where
  same_scene : now ≡ record { slots = s.slots; regions = s.regions; looks = now.looks }
  same_scene = λ i. record { slots = slots i; regions = regions i; looks = now.looks }

  pub remembered : IsWellKept s → LooksAreRight (slots_of s) (holders_of s) now.looks → IsWellKept now
  remembered kept right = subst IsWellKept (sym same_scene) (record {
    shape = kept.shape;
    threads = kept.threads;
    ending = kept.ending;
    going = kept.going;
    quiet_ends = kept.quiet_ends;
    quiet_goes = kept.quiet_goes;
    looks = right;
  })

  -- what stands in the other one is in the scene
  pub region_same : (r : ℕ) (x : Region) → x ≡ get_or now.regions.items r x → x ≡ get_or s.regions.items r x
  region_same r x e = e ∙ (λ i. get_or ((regions i).items) r x)

  pub slot_same : (t : ℕ) (y : Slot) → y ≡ get_or now.slots.items t y → y ≡ get_or s.slots.items t y
  slot_same t y e = e ∙ (λ i. get_or ((slots i).items) t y)

  -- what holds a region there, and where that stands
  module _ (shape : IsShaped (slots_of s) (holders_of s)) (r : ℕ) (l : r < length s.regions.items) (a : 0 < r) (x : Region) (ex : x ≡ get_or now.regions.items r x) where
    pub holder_inside : x.holder < vec_len now.slots
    holder_inside =
        let w = holder_within s shape r l a in
        let h = ap (λ (x : Region). x.holder) (region_same r x ex) ∙ holder_read s r l x in
        let n : length now.slots.items ≡ length s.slots.items = λ i. length ((slots i).items) in
        omega (arith, w, h, n)

    module _ (y : Slot) (ey : y ≡ get_or now.slots.items x.holder y) where
      pub holder_outward : y.home < r
      holder_outward = home_less s shape r l a x y (region_same r x ex) (slot_same x.holder y ey)

      pub outward_lives : lives_in (slots_of s) (holders_of s) r ≡ (leads_to (what_of y.what) r && lives_in (slots_of s) (holders_of s) y.home)
      outward_lives = next_lives s shape r l a x y (region_same r x ex) (slot_same x.holder y ey)

      pub outward_depth : (place_outward (slots_of s) (holders_of s) r).depth ≡ (place_outward (slots_of s) (holders_of s) y.home).depth + 1
      outward_depth = next_depth s shape r l a x y (region_same r x ex) (slot_same x.holder y ey)

      pub outward_seen : (kept : IsWellKept s) (z : Side) → sees_at s kept z r ≡ (flag_of z x || (forced_in (what_of y.what) r z || (sinks_in (what_of y.what) r z && sees_at s kept z y.home)))
      outward_seen = next_seen s shape r l a x y (region_same r x ex) (slot_same x.holder y ey)
