-- A scene with one item is well kept.
use Rattle.std.proofs.Common.{◌≡◌, ℕ, zero, suc, ◌<◌, false, [], ◌∷◌, length, refl, subst, arith}
use Rattle.tp_meaning.specs.Syntax.{FormulaTree}
use Rattle.tp_scene.specs.Scene as S
use Rattle.tp_scene.specs.Scene.{Bindings, Side, Ending, Going}
use Rattle.tp_slots.specs.Plain.{bare, Slots, slot_at, region_slot, AreIn, WhatFits, scene_in, IsOrdered}
use Rattle.tp_slots.specs.Places.{HeldBy, AreHeld}
use Rattle.tp_slots.specs.Lives.{HasOwn}
use Rattle.tp_slots.specs.Flags.{FlagsAreRight, flags_in}
use Rattle.tp_slots.specs.Kept.{IsNumberedOnce, IsShaped, IsQuiet}
use Rattle.tp_slots.specs.Reductions.{begins_with}

module _ (f : FormulaTree) (env : Bindings) where
  abbrev pub first : Slots
  first = record { slots = record { home = 0; what = bare (S.Do f env) } ∷ []; regions = record { ends = false; goes = false; roots = 0 ∷ [] } ∷ [] }

  pub start_scene : scene_in first ≡ begins_with f env
  start_scene = refl

  ordered : IsOrdered first
  ordered = record {
    items = λ t l. at t (let e : t ≡ 0 = omega (arith, l) in e);
    regions = λ r l. subst (λ r. AreIn first 0 r (region_slot first r).roots) (let e : 0 ≡ r = omega (arith, l) in e) (omega arith, omega arith, refl, tt);
    root = omega arith;
  }
    where
      at : (t : ℕ) → t ≡ 0 → ((slot_at first t).home < length first.regions) × WhatFits first (slot_at first t).home t (slot_at first t).what
      at zero e = (omega arith, tt)
      at (suc n) e = absurd (omega (arith, e))

  numbers : IsNumberedOnce first
  numbers = record { items = (omega arith, tt, tt); regions = (omega arith, tt, tt) }

  own : HasOwn first
  own zero l h = refl
  own (suc n) l h = absurd (omega (arith, l))

  held : AreHeld first (0 ∷ [])
  held = record {
    count = refl;
    by = λ t l. subst (λ t. HeldBy (0 ∷ []) t (slot_at first t).what) (let e : 0 ≡ t = omega (arith, l) in e) tt;
    holders = λ r a l. absurd (omega (arith, a, l));
  }

  pub start_shape : IsShaped first (0 ∷ [])
  start_shape = record { ordered = ordered; numbers = numbers; own = own; held = held }

  pub start_flags : (z : Side) → FlagsAreRight first z (flags_in (false ∷ []))
  start_flags Ending zero l = refl
  start_flags Going zero l = refl
  start_flags z (suc n) l = absurd (omega (arith, l))

  pub start_quiet : IsQuiet first (0 ∷ []) (flags_in (false ∷ []))
  start_quiet zero l e = refl
  start_quiet (suc n) l e = absurd (omega (arith, l))
