-- The live items of a scene are those that stand in its live regions.
use Rattle.std.proofs.Common.{◌≡◌, ℕ, true, ◌&&◌, eqb, inl, inr}
use Rattle.std.proofs.lemmas.Bool.{or_cases, or_left, and_parts, eqb-true, eq-eqb, false≢true}
use Rattle.tp_scene.specs.Scene.{Head, Entries, none, leaf, node, Scene, second_lives, has}
use Rattle.tp_scene.specs.Regions.{LiveRegion, the_root, the_held, IsTail, all_entries, after_leaf, after_node}
use Rattle.tp_scene.specs.RegionLaws.{StartsWith, StandsLive, LiveItemsStandInLiveRegions}
use Rattle.tp_scene.proofs.StatusRules.{held_by}
use Rattle.tp_scene.proofs.KnownStays.{holding, holding_second}
use Rattle.tp_scene.proofs.Seen.{lives_around, lives_whole}

module _ (s : Scene) (t : ℕ) where
  stands : (left : Entries) (h : Head) (es : Entries) (x : LiveRegion s h es) → IsTail left es → has t left ≡ true → StandsLive s t
  stands none h es x tail e = absurd (false≢true e)
  stands (leaf id l rest) h es x tail e = elim (or_cases (eqb id t) (has t rest) e) [
    | inl u ↦ record { head = h; entries = es; region = x; tail = leaf id l rest; is_tail = tail; first = eqb-true id t u }
    | inr u ↦ stands rest h es x (after_leaf tail) u
  ]
  stands (node id k i held g second rest) h es x tail e = elim (or_cases (eqb id t) _ e) [
    | inl u ↦ record { head = h; entries = es; region = x; tail = node id k i held g second rest; is_tail = tail; first = eqb-true id t u }
    | inr u ↦ elim (or_cases (second_lives k && has t second) _ u) [
      | inl v ↦ (let w = and_parts (second_lives k) (has t second) v in
          stands second g second (the_held x (held_by tail (holding_second k id i held g second rest w.0).in_it)) all_entries w.1)
      | inr v ↦ elim (or_cases (has t held) (has t rest) v) [
        | inl w ↦ stands held i held (the_held x (held_by tail (holding k id i held g second rest).in_it)) all_entries w
        | inr w ↦ stands rest h es x (after_node tail) w
      ]
    ]
  ]

  first_lives : (tail : Entries) → StartsWith t tail → has t tail ≡ true
  first_lives none e = absurd e
  first_lives (leaf id l rest) e = or_left (eqb id t) (has t rest) (eq-eqb id t e)
  first_lives (node id k h held g second rest) e = or_left (eqb id t) _ (eq-eqb id t e)

  lives_from : (h : Head) (es : Entries) → LiveRegion s h es → has t es ≡ true → has t s.root.entries ≡ true
  lives_from _ _ the_root e = e
  lives_from _ _ (the_held {h = h} {es = es} {role = role} {i = i} {held = held} x in_it) e = lives_from h es x (lives_around t es role i held in_it e)

pub live_items_stand : LiveItemsStandInLiveRegions
live_items_stand s t = (
  (λ e. stands s t s.root.entries s.root.head s.root.entries the_root all_entries e),
  (λ x. lives_from s t x.head x.entries x.region (lives_whole t x.tail x.entries x.is_tail (first_lives s t x.tail x.first))),
)
