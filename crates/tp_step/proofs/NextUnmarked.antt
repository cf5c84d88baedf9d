-- What is due carries no marks, since what is dormant carries none.
use Rattle.std.proofs.Common.{◌≡◌, ℕ, ◌<◌, ◌||◌, ◌&&◌, Bool, true, false, eqb, List, length, Option, Some, None, refl, ap, sym, ◌∙◌, subst, arith}
use Rattle.std.proofs.lemmas.Bool.{both_ways, or_parts}
use Rattle.tp_scene.specs.Scene.{Ending, Going, Head, new_head, risen, Holder, Split, SplitProject, Closed, Opened, Running, Do, Later, Shown, Entries, none, leaf, node, no_region}
use Rattle.tp_scene.specs.Advance.{due}
use Rattle.tp_slots.specs.Plain.{What, holds, Slot, Slots, slot_at, head_at, other_head, second_of, entries_at, has_second, SecondFits, WhatFits, IsOrdered}
use Rattle.tp_slots.specs.Places.{holder_at, HeldBy, AreHeld}
use Rattle.tp_slots.specs.Lives.{leads_to, lives_in}
use Rattle.tp_slots.specs.Flags.{Flags, FlagsAreRight}
use Rattle.tp_slots.specs.Kept.{IsQuiet}
use Rattle.tp_slots.specs.Shown.{AreShown}
use Rattle.tp_slots.proofs.Living.{lives_outward}
use Rattle.tp_step.proofs.NextShape.{SecondIsPlain, AreUnmarked}

module _ (s : Slots) (hs : List ℕ) (sound : IsOrdered s) (known : AreHeld s hs) (ends goes : Flags) (right_ends : FlagsAreRight s Ending ends) (right_goes : FlagsAreRight s Going goes) (quiet_ends : IsQuiet s hs ends) (quiet_goes : IsQuiet s hs goes) where
  -- a region that isn't live has no marks
  plain_head : (r : ℕ) → r < length s.regions → lives_in s hs r ≡ false → head_at s r ≡ new_head r
  plain_head r l d =
      let a = or_parts (head_at s r).ends (risen Ending (entries_at s r)) (sym (right_ends r l) ∙ quiet_ends r l d) in
      let b = or_parts (head_at s r).goes (risen Going (entries_at s r)) (sym (right_goes r l) ∙ quiet_goes r l d) in
      let x = a.0 in
      let y = b.0 in
      λ i. record { number = r; ends = x i; goes = y i }

  no_way : (a b : Bool) → b ≡ false → (a && b) ≡ false
  no_way true b e = e
  no_way false b e = refl

  -- what an item holds that stands in such a region isn't live
  dormant_inside : (id r p : ℕ) (w : What) → slot_at s id ≡ record { home = r; what = w } → holder_at hs p ≡ id → r < p → p < length s.regions → lives_in s hs r ≡ false → lives_in s hs p ≡ false
  dormant_inside id r p w e h a l d =
      lives_outward s hs sound known p (omega (arith, a)) l
      ∙ no_way (leads_to (slot_at s (holder_at hs p)).what p) (lives_in s hs (slot_at s (holder_at hs p)).home) (ap (λ i. lives_in s hs (slot_at s i).home) h ∙ (ap (λ (x : Slot). lives_in s hs x.home) e ∙ d))

  -- and a region to which its item doesn't lead isn't
  dormant_second : (id r p : ℕ) (w : What) → slot_at s id ≡ record { home = r; what = w } → holder_at hs p ≡ id → r < p → p < length s.regions → leads_to w p ≡ false → lives_in s hs p ≡ false
  dormant_second id r p w e h a l d =
      lives_outward s hs sound known p (omega (arith, a)) l
      ∙ ap (λ x. x && lives_in s hs (slot_at s (holder_at hs p)).home) (ap (λ i. leads_to (slot_at s i).what p) h ∙ (ap (λ (x : Slot). leads_to x.what p) e ∙ d))

  what_fits : (id r : ℕ) (w : What) → id < length s.slots → slot_at s id ≡ record { home = r; what = w } → WhatFits s r id w
  what_fits id r w l e = subst (λ (x : Slot). WhatFits s x.home id x.what) e (sound.items id l).1

  what_held : (id r : ℕ) (w : What) → id < length s.slots → slot_at s id ≡ record { home = r; what = w } → HeldBy hs id w
  what_held id r w l e = subst (λ (x : Slot). HeldBy hs id x.what) e (known.by id l)

  -- the second region of an item in a dormant region
  second_whole : (r id : ℕ) (k : Holder) (p : ℕ) (q : Option ℕ) (g : Head) (second : Entries) → slot_at s id ≡ record { home = r; what = holds k p q } → SecondFits s r k q → HeldBy hs id (holds k p q) → g ≡ other_head s q → second ≡ second_of (entries_at s) q
      → lives_in s hs r ≡ false → (b : Bool) → has_second k ≡ b → SecondIsPlain b g second
  second_whole r id k p None g second e f h x y d true o = absurd (both_ways (has_second k) f o)
  second_whole r id k p None g second e f h x y d false o = (x, y)
  second_whole r id k p (Some n) g second e f h x y d false o = absurd (both_ways (has_second k) o f.0)
  second_whole r id k p (Some n) g second e f h x y d true o =
      let u = plain_head n f.1.1 (dormant_inside id r n (holds k p (Some n)) e h.1.0 f.1.0 f.1.1 d) in
      x ∙ (u ∙ ap new_head (sym (ap (λ (c : Head). c.number) x)))

  -- where it is no holder's, it has no entries
  unmarked_second : (r id : ℕ) (k : Holder) (p : ℕ) (q : Option ℕ) (g : Head) (second : Entries) → slot_at s id ≡ record { home = r; what = holds k p q } → SecondFits s r k q → HeldBy hs id (holds k p q) → g ≡ other_head s q → second ≡ second_of (entries_at s) q
      → lives_in s hs r ≡ false → (lives_in s hs g.number ≡ false → AreUnmarked second) → AreUnmarked second
  unmarked_second r id k p None g second e f h x y d z = subst AreUnmarked (sym y) tt
  unmarked_second r id k p (Some n) g second e f h x y d z =
      z (ap (λ (c : Head). lives_in s hs c.number) x ∙ dormant_inside id r n (holds k p (Some n)) e h.1.0 f.1.0 f.1.1 d)

  whole_unmarked : (r : ℕ) (es : Entries) → AreShown s r es → lives_in s hs r ≡ false → AreUnmarked es
  whole_unmarked r none a d = tt
  whole_unmarked r (leaf id l rest) a d = whole_unmarked r rest a.2 d
  whole_unmarked r (node id k h held g second rest) a d =
      let w = holds k h.number a.1 in
      let f = what_fits id r w a.0 a.2 in
      let b = what_held id r w a.0 a.2 in
      let inside = dormant_inside id r h.number w a.2 b.0 f.0.0 f.0.1 d in (
        a.3 ∙ plain_head h.number f.0.1 inside,
        second_whole r id k h.number a.1 g second a.2 f.1 b a.5 a.6 d (has_second k) refl,
        whole_unmarked h.number held a.7 inside,
        unmarked_second r id k h.number a.1 g second a.2 f.1 b a.5 a.6 d (λ e. whole_unmarked g.number second a.8 e),
        whole_unmarked r rest a.9 d,
      )

  -- the second region of a `SplitProject` is dormant
  project_second : (r id : ℕ) (k : Holder) (p : ℕ) (q : Option ℕ) (g : Head) (second : Entries) → slot_at s id ≡ record { home = r; what = holds k p q } → SecondFits s r k q → HeldBy hs id (holds k p q) → g ≡ other_head s q → has_second k ≡ true
      → ((n : ℕ) → eqb p n ≡ false → leads_to (holds k p (Some n)) n ≡ false) → (lives_in s hs g.number ≡ false → AreUnmarked second) → (g ≡ new_head g.number) × AreUnmarked second
  project_second r id k p None g second e f h x o c z = absurd (both_ways (has_second k) f o)
  project_second r id k p (Some n) g second e f h x o c z =
      let d = dormant_second id r n (holds k p (Some n)) e h.1.0 f.1.0 f.1.1 (c n h.1.1) in
      (x ∙ (plain_head n f.1.1 d ∙ ap new_head (sym (ap (λ (c : Head). c.number) x))), z (ap (λ (c : Head). lives_in s hs c.number) x ∙ d))

  single_second : (r : ℕ) (k : Holder) (q : Option ℕ) (g : Head) (second : Entries) → SecondFits s r k q → has_second k ≡ false → g ≡ other_head s q → second ≡ second_of (entries_at s) q → (g ≡ no_region) × (second ≡ none)
  single_second r k None g second f o x y = (x, y)
  single_second r k (Some n) g second f o x y = absurd (both_ways (has_second k) o f.0)

  pub due_unmarked : (r : ℕ) (es : Entries) → AreShown s r es → AreUnmarked (due es)
  due_unmarked r none a = tt
  due_unmarked r (leaf id (Do f env) rest) a = due_unmarked r rest a.2
  due_unmarked r (leaf id (Later f env) rest) a = due_unmarked r rest a.2
  due_unmarked r (leaf id (Shown vs) rest) a = due_unmarked r rest a.2
  due_unmarked r (node id (Split f env) h held g second rest) a =
      let w = holds (Split f env) h.number a.1 in
      let y = single_second r (Split f env) a.1 g second (what_fits id r w a.0 a.2).1 refl a.5 a.6 in
      (refl, y, due_unmarked h.number held a.7, subst AreUnmarked (sym y.1) tt, due_unmarked r rest a.9)
  due_unmarked r (node id (SplitProject f env) h held g second rest) a =
      let w = holds (SplitProject f env) h.number a.1 in
      let y = project_second r id (SplitProject f env) h.number a.1 g second a.2 (what_fits id r w a.0 a.2).1 (what_held id r w a.0 a.2) a.5 refl (λ n e. ap (λ b. b || false) e) (λ d. whole_unmarked g.number second a.8 d) in
      (refl, y.0, due_unmarked h.number held a.7, y.1, due_unmarked r rest a.9)
  due_unmarked r (node id Closed h held g second rest) a = due_unmarked r rest a.9
  due_unmarked r (node id (Opened f env) h held g second rest) a = due_unmarked r rest a.9
  due_unmarked r (node id (Running f env) h held g second rest) a = (refl, refl, due_unmarked h.number held a.7, due_unmarked g.number second a.8, due_unmarked r rest a.9)
