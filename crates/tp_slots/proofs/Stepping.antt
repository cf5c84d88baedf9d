-- One step, whatever it makes: what the slots stand for after it, and that they stay well kept.
use Rattle.std.proofs.Common.{◌≡◌, ℕ, zero, suc, ◌+◌, ◌≤◌, ◌<◌, true, false, List, [], ◌∷◌, ◌++◌, length, get_or, Option, Some, None, refl, ap, sym, ◌∙◌, subst, arith}
use Rattle.std.specs.Prelude.{slice_set, ◌⊎◌}
use Rattle.std.specs.List.{range_with_len}
use Rattle.std.proofs.lemmas.List.{get_or-append-add, length-set, length-append, append_assoc, append-nil}
use Rattle.tp_scene.specs.Scene.{Side, Ending, Going, marked, new_head, Entries, none, leaf, node, append}
use Rattle.tp_scene.proofs.PutNumbers.{between}
use Rattle.tp_slots.specs.Plain.{What, bare, holds, gone, Slot, RegionSlot, Slots, slot_at, region_slot, slot_head, head_at, in_order, item_entries, region_entries, entries_at, IsLive, AreIn, IsOrdered}
use Rattle.tp_slots.specs.Edit.{one_place, one_mark, Follows}
use Rattle.tp_slots.specs.Places.{HeldBy, HoldsByNumber}
use Rattle.tp_slots.specs.Flags.{Flags, risen_by}
use Rattle.tp_slots.specs.Reductions.{AreBare}
use Rattle.tp_slots.specs.Replace.{marked_slot, replaced, NewFit, NewRegionsFit}
use Rattle.tp_slots.specs.Row.{slots_in, begun, stepped, AllBelow}
use Rattle.tp_slots.proofs.Same.{region_enough}
use Rattle.tp_slots.proofs.Replacing.{item_count, region_count, sound_after, follows_after}
use Rattle.tp_slots.proofs.Told.{told, ItemsFit, told_order, slots_fit, slots_are_in, inner_items, inner_regions, all_of}
use Rattle.tp_slots.proofs.Hold.{one_holds, AreApart, AreOpen}

pub region_new : (s : Slots) (t : ℕ) (by : List ℕ) (m : Option Side) (news : List Slot) (more : List RegionSlot) (i u : ℕ) → u ≡ length s.regions + i → region_slot (replaced s t by m news more) u ≡ get_or more i (record { ends = false; goes = false; roots = [] })
region_new s t by m news more i u e =
    let x : RegionSlot = marked_slot m (region_slot s (slot_at s t).home) in
    let old : List RegionSlot = slice_set s.regions (slot_at s t).home x in
    let c : length old ≡ length s.regions = length-set s.regions (slot_at s t).home x in
    let f : u ≡ length old + i = omega (arith, e, c) in
    ap (λ n. get_or (old ++ more) n (record { ends = false; goes = false; roots = [] })) f ∙ get_or-append-add old more i (record { ends = false; goes = false; roots = [] })

slots_count : (home : ℕ) (ws : List What) → length (slots_in home ws) ≡ length ws
slots_count home [] = refl
slots_count home (w ∷ ws) = ap suc (slots_count home ws)

append_none : (es : Entries) → append es none ≡ es
append_none none = refl
append_none (leaf id l rest) = ap (leaf id l) (append_none rest)
append_none (node id k h held g second rest) = ap (node id k h held g second) (append_none rest)

pub bare_fit : (z : Slots) (home : ℕ) (ws : List What) → AreBare ws → ItemsFit z home ws
bare_fit z home [] b = tt
bare_fit z home (bare l ∷ ws) b = (tt, bare_fit z home ws b.1)
bare_fit z home (holds k p o ∷ ws) b = absurd b.0
bare_fit z home (gone by ∷ ws) b = absurd b.0

pub bare_rises : (y : Side) (f : Flags) (z : Slots) (n : ℕ) (ws : List What) → AreBare ws → risen_by y f (told z n ws) ≡ false
bare_rises y f z n [] b = refl
bare_rises y f z n (bare l ∷ ws) b = bare_rises y f z (n + 1) ws b.1
bare_rises y f z n (holds k p o ∷ ws) b = absurd b.0
bare_rises y f z n (gone by ∷ ws) b = absurd b.0

pub bare_held : (hs : List ℕ) (u i : ℕ) (ws : List What) → AreBare ws → HeldBy hs u (get_or ws i (gone []))
bare_held hs u i [] b = tt
bare_held hs u zero (bare l ∷ ws) b = tt
bare_held hs u zero (holds k p o ∷ ws) b = absurd b.0
bare_held hs u zero (gone by ∷ ws) b = tt
bare_held hs u (suc i) (w ∷ ws) b = bare_held hs u i ws b.1

pub fits_below : (z : Slots) (home c : ℕ) (ws : List What) → length z.regions ≡ c → ItemsFit z home ws → AllBelow c ws
fits_below z home c [] e f = tt
fits_below z home c (bare l ∷ ws) e f = (tt, fits_below z home c ws e f.1)
fits_below z home c (holds k p None ∷ ws) e f = ((let a = f.0.0.1 in omega (arith, a, e)), fits_below z home c ws e f.1)
fits_below z home c (holds k p (Some q) ∷ ws) e f = ((let a = f.0.0.1 in omega (arith, a, e), let b = f.0.1.1.1 in omega (arith, b, e)), fits_below z home c ws e f.1)
fits_below z home c (gone by ∷ ws) e f = absurd f.0

pub new_marked : (y : Side) (r : ℕ) → marked y (new_head r) ≡ false
new_marked Ending r = refl
new_marked Going r = refl

-- What the step of an item owes: what it makes fits, holds what the item held and the new region, and nothing twice.
pub record IsStep (s : Slots) (t : ℕ) (m : Option Side) (inner outs : List What) : Type 0 where
  pub bare : AreBare inner
  pub fits : ItemsFit (stepped s t m inner outs) (slot_at s t).home outs
  pub apart : AreApart outs
  pub open_ones : AreOpen outs
  pub taken : (r : ℕ) → one_holds outs r ≡ true → (length s.regions ≤ r) ⊎ HoldsByNumber (slot_at s t).what r
  pub begins : (r : ℕ) → length s.regions ≤ r → r < length (stepped s t m inner outs).regions → one_holds outs r ≡ true
  pub keeps : (r : ℕ) → HoldsByNumber (slot_at s t).what r → one_holds outs r ≡ true
  pub items : (x : ℕ) → all_of (inner_items (stepped s t m inner outs) x) outs ≤ inner_items s x (slot_at s t).what + between (length s.slots) (length s.slots + length inner) x
  pub regions : (x : ℕ) → all_of (inner_regions (stepped s t m inner outs) x) outs ≤ inner_regions s x (slot_at s t).what + between (length s.regions) (length s.regions + length (begun (length s.slots) (length inner))) x

module _ (s : Slots) (t : ℕ) (m : Option Side) (inner outs : List What) (sound : IsOrdered s) (within : t < length s.slots) where
  abbrev z : Slots
  z = stepped s t m inner outs

  abbrev home : ℕ
  home = (slot_at s t).home

  abbrev n : ℕ
  n = length s.slots

  abbrev by : List ℕ
  by = range_with_len (n + length inner) (length outs)

  abbrev news : List Slot
  news = slots_in (length s.regions) inner ++ slots_in home outs

  abbrev old : List Slot
  old = slice_set s.slots t (record { home = home; what = gone by })

  pub old_count : length old ≡ n
  old_count = length-set s.slots t (record { home = home; what = gone by })

  news_count : length news ≡ length inner + length outs
  news_count = length-append (slots_in (length s.regions) inner) (slots_in home outs) ∙ (let a = slots_count (length s.regions) inner in let b = slots_count home outs in λ i. a i + b i)

  pub slot_count : length z.slots ≡ n + (length inner + length outs)
  slot_count = item_count s t by m news (begun n (length inner)) sound within ∙ ap (λ i. n + i) news_count

  pub stepped_regions : length z.regions ≡ length s.regions + length (begun n (length inner))
  stepped_regions = region_count s t by m news (begun n (length inner)) sound within

  in_home : home < length s.regions
  in_home = (sound.items t within).0

  -- where the items stand
  pub inner_at : old ++ (slots_in (length s.regions) inner ++ slots_in home outs) ≡ z.slots
  inner_at = refl

  pub outs_at : (old ++ slots_in (length s.regions) inner) ++ (slots_in home outs ++ []) ≡ z.slots
  outs_at = ap (λ l. (old ++ slots_in (length s.regions) inner) ++ l) (append-nil (slots_in home outs)) ∙ append_assoc old (slots_in (length s.regions) inner) (slots_in home outs)

  pub outs_from : n + length inner ≡ length (old ++ slots_in (length s.regions) inner)
  outs_from = let a = length-append old (slots_in (length s.regions) inner) in let b = old_count in let c = slots_count (length s.regions) inner in omega (arith, a, b, c)

  region_fits : (ws : List What) → AreIn z 0 (length s.regions) (range_with_len n (length ws)) → NewRegionsFit z (length s.regions) (begun n (length ws))
  region_fits [] a = tt
  region_fits (w ∷ ws) a = (a, tt)

  inner_fit : (ws : List What) → length z.regions ≡ length s.regions + length (begun n (length ws)) → AreBare ws → (ys : List Slot) → NewFit z (n + length ws) ys → NewFit z n (slots_in (length s.regions) ws ++ ys)
  inner_fit [] e b ys f = subst (λ i. NewFit z i ys) (let g : n + 0 ≡ n = omega arith in g) f
  inner_fit (w ∷ ws) e b ys f = slots_fit z (length s.regions) n (w ∷ ws) ys (omega (arith, e)) (bare_fit z (length s.regions) (w ∷ ws) b) f

  module _ (b : AreBare inner) (fits : ItemsFit z home outs) where
    pub ordered : IsOrdered z
    ordered =
        let c = old_count in
        let r = stepped_regions in
        let l = in_home in
        sound_after s t by m news (begun n (length inner)) sound within
        (slots_are_in z home (suc t) (n + length inner) (old ++ slots_in (length s.regions) inner) [] outs outs_at outs_from (omega (arith, within)))
        (inner_fit inner r b (slots_in home outs)
        (subst (λ (ys : List Slot). NewFit z (n + length inner) ys) (append-nil (slots_in home outs)) (slots_fit z home (n + length inner) outs [] (omega (arith, r, l)) fits tt)))
        (region_fits inner (slots_are_in z (length s.regions) 0 n old (slots_in home outs) inner inner_at (sym c) (omega arith)))

    -- the news
    abbrev pub news_in : Entries
    news_in = told z (n + length inner) outs

    pub follows : IsLive (slot_at s t).what → Follows 0 s z (one_place t news_in) (one_mark home m)
    follows live = follows_after s t by m news (begun n (length inner)) sound within news_in live
        (λ d k a c rest. told_order z home (region_entries z d) k (n + length inner) (old ++ slots_in (length s.regions) inner) [] outs rest outs_at outs_from (omega (arith, c, within)) fits
        (λ p i l. region_enough z ordered (length z.regions) d p (omega arith) (omega (arith, a, i)) l))

    -- what stands in the new region
    region_told : (ws : List What) → inner ≡ ws → 0 < length ws → entries_at z (length s.regions) ≡ told z n inner
    region_told [] e l = absurd (omega (arith, l))
    region_told (w ∷ ws) e l = by_length (length z.regions) refl
      where
        more : begun n (length inner) ≡ record { ends = false; goes = false; roots = range_with_len n (length (w ∷ ws)) } ∷ []
        more = ap (λ (l : List What). begun n (length l)) e

        there : region_slot z (length s.regions) ≡ record { ends = false; goes = false; roots = range_with_len n (length (w ∷ ws)) }
        there = region_new s t by m news (begun n (length inner)) 0 (length s.regions) (omega arith) ∙ ap (λ (l : List RegionSlot). get_or l 0 (record { ends = false; goes = false; roots = [] })) more

        by_length : (d : ℕ) → length z.regions ≡ d → entries_at z (length s.regions) ≡ told z n inner
        by_length zero c = absurd (let a = stepped_regions in let x = ap length more in omega (arith, a, c, x))
        by_length (suc d) c =
            ap (λ i. region_entries z i (length s.regions)) c
            ∙ (ap (λ (x : RegionSlot). in_order (item_entries z (region_entries z d) (length z.slots)) x.roots none) there
            ∙ (ap (λ (l : List What). in_order (item_entries z (region_entries z d) (length z.slots)) (range_with_len n (length l)) none) (sym e)
            ∙ (told_order z (length s.regions) (region_entries z d) (length z.slots) n old (slots_in home outs) inner none inner_at (sym old_count) (omega arith) (bare_fit z (length s.regions) inner b)
            (λ p i l. absurd (let a = stepped_regions in let x = ap length more in omega (arith, a, x, i, l)))
            ∙ append_none (told z n inner))))

    pub new_region : 0 < length inner → entries_at z (length s.regions) ≡ told z n inner
    new_region l = region_told inner refl l

    begun_head : (ws : List What) → slot_head (length s.regions) (get_or (begun n (length ws)) 0 (record { ends = false; goes = false; roots = [] })) ≡ new_head (length s.regions)
    begun_head [] = refl
    begun_head (w ∷ ws) = refl

    pub new_region_head : head_at z (length s.regions) ≡ new_head (length s.regions)
    new_region_head = ap (slot_head (length s.regions)) (region_new s t by m news (begun n (length inner)) 0 (length s.regions) (omega arith)) ∙ begun_head inner
