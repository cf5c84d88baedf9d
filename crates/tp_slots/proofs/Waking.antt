-- Which items of a region are live in the scene.
use Rattle.std.proofs.Common.{◌≡◌, ℕ, ◌≤◌, ◌<◌, ◌&&◌, true, false, List, length, ap, sym, ◌∙◌, arith}
use Rattle.std.proofs.lemmas.Bool.{and_from, and_right, false_from_ne_true}
use Rattle.tp_scene.specs.Scene.{Entries, has}
use Rattle.tp_slots.specs.Plain.{What, Slot, Slots, slot_at, entries_at, IsOrdered}
use Rattle.tp_slots.specs.Shown.{AreShown}
use Rattle.tp_slots.specs.Places.{holder_at, AreHeld}
use Rattle.tp_slots.specs.Lives.{is_item, leads_to, lives_in, HasOwn}
use Rattle.tp_slots.proofs.Showing.{all_shown, has_shown}
use Rattle.tp_slots.proofs.Living.{has_is, live_item, lives_outward, shown_lives, shown_so}

-- an item has a number below the next one
pub has_no_next : (s : Slots) → IsOrdered s → (u : ℕ) → length s.slots ≤ u → has u (entries_at s 0) ≡ false
has_no_next s sound u l = false_from_ne_true (has u (entries_at s 0)) (λ e. let a = (has_shown s sound u 0 (entries_at s 0) (all_shown s sound 0 sound.root) e).0 in omega (arith, a, l))

module _ (s : Slots) (hs : List ℕ) (sound : IsOrdered s) (known : AreHeld s hs) where
  held_sleeps : (id r p : ℕ) (w : What) → id < length s.slots → slot_at s id ≡ record { home = r; what = w } → holder_at hs p ≡ id → 0 < p → p < length s.regions → leads_to w p ≡ true → lives_in s hs r ≡ false → lives_in s hs p ≡ false
  held_sleeps id r p w l e h a b u v =
      lives_outward s hs sound known p a b
      ∙ (ap (λ i. leads_to (slot_at s i).what p && lives_in s hs (slot_at s i).home) h
      ∙ (ap (λ (x : Slot). leads_to x.what p && lives_in s hs x.home) e ∙ and_right (leads_to w p) (lives_in s hs r) v))

  -- what a region that isn't live has stands in regions that aren't live
  shown_sleeps : (t r : ℕ) (es : Entries) → AreShown s r es → lives_in s hs r ≡ false → has t es ≡ true → lives_in s hs (slot_at s t).home ≡ false
  shown_sleeps = shown_so s hs sound known (λ q. lives_in s hs q ≡ false) held_sleeps

  module _ (own : HasOwn s) (r : ℕ) (within : r < length s.regions) (u : ℕ) (there : has u (entries_at s r) ≡ true) where
    -- None of what a dormant region has is live.
    pub dormant : lives_in s hs r ≡ false → has u (entries_at s 0) ≡ false
    dormant v = sym (has_is s hs sound known own u) ∙ and_right (is_item (slot_at s u).what) (lives_in s hs (slot_at s u).home) (shown_sleeps u r (entries_at s r) (all_shown s sound r within) v there)

    -- Of a live region each is.
    pub awake : lives_in s hs r ≡ true → has u (entries_at s 0) ≡ true
    awake v =
        let a = has_shown s sound u r (entries_at s r) (all_shown s sound r within) there in
        sym (has_is s hs sound known own u)
        ∙ and_from (is_item (slot_at s u).what) (lives_in s hs (slot_at s u).home) (live_item (slot_at s u).what a.2) (shown_lives s hs sound known u r (entries_at s r) (all_shown s sound r within) v there)
