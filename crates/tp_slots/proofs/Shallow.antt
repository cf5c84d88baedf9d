-- Where the entries of a scene fit, no region in which a live item stands, or which it holds, is too deep.
use Rattle.std.proofs.Common.{◌≡◌, ℕ, ◌+◌, ◌≤◌, ◌&&◌, Bool, true, false, eqb, List, refl, sym, subst, inl, inr}
use Rattle.std.proofs.lemmas.Bool.{cases_Bool, eqb-true, both_ways}
use Rattle.tp_meaning.specs.Syntax.{Definition}
use Rattle.tp_store.specs.Known.{Variable}
use Rattle.tp_scene.specs.Scene.{Holder, Split, SplitProject, Closed, Opened, Running, Head, Entries, none, leaf, node, has, second_lives, Place, root_place, held_place, second_place}
use Rattle.tp_scene.specs.Step.{region_limit}
use Rattle.tp_scene.specs.Fits.{EntriesFit}
use Rattle.tp_slots.specs.Plain.{What, bare, holds, gone, Slot, Slots, slot_at, entries_at, scene_in, IsOrdered}
use Rattle.tp_slots.specs.Shown.{AreShown}
use Rattle.tp_slots.specs.Picked.{item_place, IsHolding, first_held}
use Rattle.tp_slots.specs.Places.{place_outward, AreHeld}
use Rattle.tp_slots.proofs.PutEdits.{both_so}
use Rattle.tp_slots.proofs.Showing.{all_shown, has_shown}
use Rattle.tp_slots.proofs.PlaceLemmas.{held_is, place_shown}

module _ (defs : List Definition) (kinds : List Bool) (variables : List Variable) where
  own_shallow : (es : Entries) (p : Place) → EntriesFit defs kinds variables es p → p.depth ≤ region_limit
  own_shallow none p f = f.1
  own_shallow (leaf id l rest) p f = own_shallow rest p f.1
  own_shallow (node id k h held g second rest) p f = own_shallow rest p f.2

  pub second_fits : (k : Holder) (h : Head) (held : Entries) (g : Head) (second : Entries) (id : ℕ) (rest : Entries) (p : Place) → EntriesFit defs kinds variables (node id k h held g second rest) p → second_lives k ≡ true
      → EntriesFit defs kinds variables second (second_place g second p)
  second_fits (Split f env) h held g second id rest p x l = absurd (both_ways false refl l)
  second_fits (SplitProject f env) h held g second id rest p x l = absurd (both_ways false refl l)
  second_fits Closed h held g second id rest p x l = absurd (both_ways false refl l)
  second_fits (Opened f env) h held g second id rest p x l = absurd (both_ways false refl l)
  second_fits (Running f env) h held g second id rest p x l = x.0.1

  item_shallow : (t : ℕ) (es : Entries) (p : Place) → EntriesFit defs kinds variables es p → has t es ≡ true → (item_place t p es).depth ≤ region_limit
  item_shallow t none p f h = absurd (both_ways false refl h)
  item_shallow t (leaf id l rest) p f h = elim (cases_Bool (eqb id t)) [
    | inl e ↦ rw e (own_shallow rest p f.1)
    | inr e ↦ rw e (item_shallow t rest p f.1 (rw e at h))
  ]
  item_shallow t (node id k h held g second rest) p f y = elim (cases_Bool (eqb id t)) [
    | inl e ↦ rw e (own_shallow rest p f.2)
    | inr e ↦ elim (cases_Bool (second_lives k && has t second)) [
      | inl b ↦ (let c = both_so (second_lives k) (has t second) b in rw (e, b) (item_shallow t second (second_place g second p) (second_fits k h held g second id rest p f c.0) c.1))
      | inr b ↦ elim (cases_Bool (has t held)) [
        | inl d ↦ rw (e, b, d) (item_shallow t held (held_place k h held p) f.1 d)
        | inr d ↦ rw (e, b, d) (item_shallow t rest p f.2 (rw (e, b, d) at y))
      ]
    ]
  ]

  module _ (s : Slots) (hs : List ℕ) (sound : IsOrdered s) (known : AreHeld s hs) (t : ℕ) where
    inner_shallow : (r : ℕ) (es : Entries) (p : Place) → AreShown s r es → EntriesFit defs kinds variables es p → has t es ≡ true → IsHolding (slot_at s t).what → (item_place t p es).depth + 1 ≤ region_limit
    inner_shallow r none p a f h i = absurd (both_ways false refl h)
    inner_shallow r (leaf id l rest) p a f h i = elim (cases_Bool (eqb id t)) [
      | inl e ↦ absurd (subst (λ (x : Slot). IsHolding x.what) a.1 (subst (λ n. IsHolding (slot_at s n).what) (sym (eqb-true id t e)) i))
      | inr e ↦ rw e (inner_shallow r rest p a.2 f.1 (rw e at h) i)
    ]
    inner_shallow r (node id k h held g second rest) p a f y i = elim (cases_Bool (eqb id t)) [
      | inl e ↦ rw e (own_shallow held (held_place k h held p) f.1)
      | inr e ↦ elim (cases_Bool (second_lives k && has t second)) [
        | inl b ↦ (let c = both_so (second_lives k) (has t second) b in rw (e, b) (inner_shallow g.number second (second_place g second p) a.8 (second_fits k h held g second id rest p f c.0) c.1 i))
        | inr b ↦ elim (cases_Bool (has t held)) [
          | inl d ↦ rw (e, b, d) (inner_shallow h.number held (held_place k h held p) a.7 f.1 d i)
          | inr d ↦ rw (e, b, d) (inner_shallow r rest p a.9 f.2 (rw (e, b, d) at y) i)
        ]
      ]
    ]

    module _ (fits : EntriesFit defs kinds variables (entries_at s 0) (root_place (scene_in s).root)) (lives : has t (entries_at s 0) ≡ true) where
      is_there : item_place t (place_outward s hs 0) (entries_at s 0) ≡ place_outward s hs (slot_at s t).home
      is_there = place_shown s hs sound known t 0 (entries_at s 0) (all_shown s sound 0 sound.root) lives

      pub stands_shallow : (place_outward s hs (slot_at s t).home).depth ≤ region_limit
      stands_shallow = subst (λ (p : Place). p.depth ≤ region_limit) is_there (item_shallow t (entries_at s 0) (place_outward s hs 0) fits lives)

      pub holds_shallow : (w : What) → (slot_at s t).what ≡ w → IsHolding w → (place_outward s hs (first_held w)).depth ≤ region_limit
      holds_shallow (bare l) is i = absurd i
      holds_shallow (gone by) is i = absurd i
      holds_shallow (holds k r o) is i =
          let a = inner_shallow 0 (entries_at s 0) (place_outward s hs 0) (all_shown s sound 0 sound.root) fits lives (subst IsHolding (sym is) tt) in
          let b = subst (λ (p : Place). p.depth + 1 ≤ region_limit) is_there a in
          let there = has_shown s sound t 0 (entries_at s 0) (all_shown s sound 0 sound.root) lives in
          subst (λ (p : Place). p.depth ≤ region_limit) (sym (held_is s hs sound known t (slot_at s t).home r k o there.0 (λ j. record { home = (slot_at s t).home; what = is j }))) b
