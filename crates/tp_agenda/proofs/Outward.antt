-- Regions that lead outward through due ones, and what is taken inside of these.
use Rattle.std.proofs.Common.{◌≡◌, ◌⊎◌, ℕ, ◌<◌, Bool, true, false, List, refl, inl, inr}
use Rattle.std.specs.Prelude.{not}
use Rattle.std.proofs.lemmas.Bool.{and_parts, false≢true}
use Rattle.tp_slots.specs.Read.{scene_of}
use Rattle.tp_slots.specs.declared.scene.Scene.{Scene}
use Rattle.tp_lanes.specs.Planes.{flag}
use Rattle.tp_agenda.specs.Marks.{has_known_end}
use Rattle.tp_agenda.specs.Outward.{region_around, is_due, LeadsThrough, is_there, goes_out}

is_not : (b : Bool) → not b ≡ true → b ≡ false
is_not true e = absurd (false≢true e)
is_not false e = refl

module _ (s : Scene) (taken : List Bool) where
  -- a region that is due isn't taken, and its end is known
  pub due_parts : (r : ℕ) → is_due s taken r ≡ true → (flag taken r ≡ false) × (has_known_end (scene_of s) r ≡ true)
  due_parts r e = let p = and_parts (not (flag taken r)) (has_known_end (scene_of s) r) e in (is_not (flag taken r) p.0, p.1)

  pub first_due : (r top : ℕ) → LeadsThrough s taken r top → is_due s taken r ≡ true
  first_due r _ (is_there e) = e
  first_due r top (goes_out e above x) = e

  pub leads_on : (r q top : ℕ) → LeadsThrough s taken r q → LeadsThrough s taken q top → LeadsThrough s taken r top
  leads_on r _ top (is_there e) y = y
  leads_on r q top (goes_out e above x) y = goes_out e above (leads_on (region_around s r) q top x y)

  -- One region leads to the other, or the other way round.
  abbrev pub AreInLine : ℕ → ℕ → Type 0
  AreInLine top at = LeadsThrough s taken top at ⊎ LeadsThrough s taken at top

  pub line_out : (top at : ℕ) → 0 < at → is_due s taken (region_around s at) ≡ true → AreInLine top at → AreInLine top (region_around s at)
  line_out top at above due (inl x) = inl (leads_on top at (region_around s at) x (goes_out (last_due top at x) above (is_there due)))
    where
      last_due : (r q : ℕ) → LeadsThrough s taken r q → is_due s taken q ≡ true
      last_due r _ (is_there e) = e
      last_due r q (goes_out e a x) = last_due (region_around s r) q x
  line_out top at above due (inr (is_there e)) = inl (goes_out e above (is_there due))
  line_out top at above due (inr (goes_out e a x)) = inr x

  -- where the region around isn't due, or there is none, it is the outermost one
  pub line_ends : (top at : ℕ) → (0 < at → is_due s taken (region_around s at) ≡ true → ⊥) → AreInLine top at → LeadsThrough s taken top at
  line_ends top at last (inl x) = x
  line_ends top at last (inr (is_there e)) = is_there e
  line_ends top at last (inr (goes_out e above x)) = absurd (last above (first_due (region_around s at) top x))
