-- What holds of a live region that stands in entries.
use Rattle.std.proofs.Common.{◌≡◌, ◌⊎◌, ℕ, ◌≤◌, true, [], refl, sym, arith, inl, inr}
use Rattle.std.proofs.lemmas.Bool.{false≢true}
use Rattle.tp_scene.specs.Scene.{Head, Holder, Split, SplitProject, Closed, Opened, Running, Entries, none, leaf, node, Scene, second_lives, Place, root_place, held_place, second_place}
use Rattle.tp_scene.specs.Regions.{Role, HoldsRegion, by_split, by_split_project, by_closed, by_opened, by_running, by_running_second, past_leaf, past_node, LiveRegion, the_root, the_held}
use Rattle.tp_scene.specs.RegionLaws.{place_through, computed_place}
use Rattle.tp_scene.specs.Fits.{second_number}
use Rattle.tp_scene.proofs.Count.{one_if, count, count_none, count_first, one_there}
use Rattle.tp_scene.proofs.PutNumbers.{regions, regions_node}

pub live_number : (r : ℕ) (k : Holder) (g : Head) → second_lives k ≡ true → count r (second_number k g) ≡ one_if r g.number
live_number r (Split f env) g e = absurd (false≢true e)
live_number r (SplitProject f env) g e = absurd (false≢true e)
live_number r Closed g e = absurd (false≢true e)
live_number r (Opened f env) g e = absurd (false≢true e)
live_number r (Running f env) g e = let f = count_first r g.number [] in let n = count_none r in omega (arith, f, n)

-- Said of a property of the place of a region around, and of that of a region held in it.
module _ (P : Place → Place → Type 0) where
  -- such a live region stands in entries of a region of that place
  abbrev pub HeldIn : Entries → Place → Type 0
  HeldIn none p = ⊥
  HeldIn (leaf id l rest) p = HeldIn rest p
  HeldIn (node id k h held g second rest) p =
      (P p (held_place k h held p) ⊎ HeldIn held (held_place k h held p))
      ⊎ (((second_lives k ≡ true) × (P p (second_place g second p) ⊎ HeldIn second (second_place g second p))) ⊎ HeldIn rest p)

  -- where it is of held regions of one number, that is counted
  pub held_counted : (r : ℕ) → ((a q : Place) → P a q → q.region ≡ r) → (es : Entries) (p : Place) → HeldIn es p → 1 ≤ regions r es
  held_counted r of none p x = absurd x
  held_counted r of (leaf id l rest) p x = held_counted r of rest p x
  held_counted r of (node id k h held g second rest) p x =
      let n = regions_node r id k h held g second rest in
      elim x [
        | inl y ↦ elim y [
          | inl u ↦ (let o = one_there r h.number (sym (of _ _ u)) in omega (arith, n, o))
          | inr u ↦ (let i = held_counted r of held _ u in omega (arith, n, i))
        ]
        | inr y ↦ elim y [
          | inl v ↦ (let live = live_number r k g v.0 in elim (v.1) [
            | inl u ↦ (let o = one_there r g.number (sym (of _ _ u)) in omega (arith, n, live, o))
            | inr u ↦ (let i = held_counted r of second _ u in omega (arith, n, i))
          ])
          | inr v ↦ (let i = held_counted r of rest p v in omega (arith, n, i))
        ]
      ]

  -- what is so of a region that an item holds, or in it, is so around it
  pub held_around : (p : Place) (es : Entries) (role : Role) (i : Head) (held : Entries) (in_it : HoldsRegion es role i held) → P p (place_through in_it p) ⊎ HeldIn held (place_through in_it p) → HeldIn es p
  held_around p _ _ _ _ by_split x = inl x
  held_around p _ _ _ _ by_split_project x = inl x
  held_around p _ _ _ _ by_closed x = inl x
  held_around p _ _ _ _ by_opened x = inl x
  held_around p _ _ _ _ by_running x = inl x
  held_around p _ _ _ _ by_running_second x = inr (inl (refl, x))
  held_around p _ role i held (past_leaf in_it) x = held_around p _ role i held in_it x
  held_around p _ role i held (past_node in_it) x = inr (inr (held_around p _ role i held in_it x))

-- Said of a property of a region's own place.
module _ (P : Place → Type 0) where
  -- a live region that has it stands in entries of a region of that place
  abbrev pub StandsIn : Entries → Place → Type 0
  StandsIn = HeldIn (λ a. P)

  -- where it is of regions of one number, that is counted
  pub standing_counted : (r : ℕ) → ((q : Place) → P q → q.region ≡ r) → (es : Entries) (p : Place) → StandsIn es p → 1 ≤ regions r es
  standing_counted r of = held_counted (λ a. P) r (λ a. of)

  -- what stands in a region that an item holds stands around it, and so in the scene
  pub standing_from_root : (s : Scene) (h : Head) (es : Entries) (x : LiveRegion s h es) → P (computed_place x) ⊎ StandsIn es (computed_place x) → P (root_place s.root) ⊎ StandsIn s.root.entries (root_place s.root)
  standing_from_root s _ _ the_root y = y
  standing_from_root s _ _ (the_held {h = h} {es = es} {role = role} {i = i} {held = held} x in_it) y = standing_from_root s h es x (inr (held_around (λ a. P) (computed_place x) es role i held in_it y))
