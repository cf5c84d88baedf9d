-- The status of a region by its number.
use Rattle.std.proofs.Common.{◌≡◌, ℕ, zero, suc, ◌≤◌, ◌<◌, true, false, Some, None, length, ap, sym, refl, arith}
use Rattle.std.specs.Option.{option_map}
use Rattle.std.proofs.lemmas.Bool.{false≢true}
use Rattle.std.proofs.lemmas.List.{length-map}
use Rattle.tp_scene.specs.Scene.{Ending, Going, Place}
use Rattle.tp_slots.specs.Kept.{IsWellKept}
use Rattle.tp_slots.specs.Lives.{lives_in}
use Rattle.tp_slots.specs.Places.{place_outward}
use Rattle.tp_slots.specs.Read.{holders_of, region_slot_of, scene_of, slots_of}
use Rattle.tp_slots.specs.Status.{region_mark, status}
use Rattle.tp_slots.specs.declared.scene.Mark.TheVariants.{Ends, Goes, Open}
use Rattle.tp_slots.specs.declared.scene.Scene.{Scene}
use Rattle.tp_slots.proofs.Finding.{found_live, found_none}
use Rattle.tp_slots.proofs.Seeing.{inside}

-- each status, where a place ends, goes or neither
pub status_ends : (p : Place) → p.is Ending ≡ true → Ends ≡ status p
status_ends p e = rw e refl

pub status_goes : (p : Place) → p.is Ending ≡ false → p.is Going ≡ true → Goes ≡ status p
status_goes p e g = rw (e, g) refl

pub status_open : (p : Place) → p.is Ending ≡ false → p.is Going ≡ false → Open ≡ status p
status_open p e g = rw (e, g) refl

module _ (s : Scene) (kept : IsWellKept s) (r : ℕ) where
  -- beyond the regions there is none
  pub mark_beyond : length s.regions.items ≤ r → None ≡ region_mark r (scene_of s)
  mark_beyond past =
      let n = length-map s.regions.items region_slot_of in
      let some = kept.shape.ordered.root in
      ap (option_map status) (sym (found_none (slots_of s) (holders_of s) kept.shape.ordered kept.shape.held kept.shape.own r (omega (arith, past, n, some)) (λ l. absurd (omega (arith, past, n, l)))))

  -- nor where the region isn't live
  pub mark_asleep : lives_in (slots_of s) (holders_of s) r ≡ false → None ≡ region_mark r (scene_of s)
  mark_asleep asleep = ap (option_map status) (sym (found_none (slots_of s) (holders_of s) kept.shape.ordered kept.shape.held kept.shape.own r (positive r asleep) (λ l. asleep)))
    where
      positive : (r : ℕ) → lives_in (slots_of s) (holders_of s) r ≡ false → 0 < r
      positive zero e = absurd (false≢true (sym e))
      positive (suc r) e = omega arith

  -- and else it is that of its place
  pub mark_live : r < length s.regions.items → lives_in (slots_of s) (holders_of s) r ≡ true → Some (status (place_outward (slots_of s) (holders_of s) r)) ≡ region_mark r (scene_of s)
  mark_live l lives = ap (option_map status) (sym (found_live (slots_of s) (holders_of s) kept.shape.ordered kept.shape.held kept.shape.own r (inside s r l) lives))
