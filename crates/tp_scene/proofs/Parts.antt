-- A property of what a step gives, by the parts that its rows are made of, and of what a pick gives, by the rows of the items on the way.
use Rattle.std.proofs.Common.{◌≡◌, ℕ, Bool, true, false, ◌&&◌, eqb, List, if◌then◌else◌}
use Rattle.std.specs.Prelude.{None}
use Rattle.std.proofs.lemmas.Bool.{cond_both, and_parts}
use Rattle.tp_value.specs.declared.path.Fact.{Fact}
use Rattle.tp_eval.specs.Outcome as found
use Rattle.tp_scene.specs.declared.answer.Cell.TheVariants.{End}
use Rattle.tp_scene.specs.Scene.{Ending, Going, Head, Leaf, Holder, Entries, none, leaf, node, second_lives, has, Place, held_place, second_place}
use Rattle.tp_scene.specs.Step.{PickOutcome, waits, rests, Numbers, by_status, leaf_step, holder_step}
use Rattle.tp_scene.specs.Pick.{Setting, pick}
use Rattle.tp_scene.proofs.Frame.{region}

-- nothing is known of an expression's outcome
abbrev pub Whatever : found.Outcome → Type 0
Whatever o = Unit {0}

module _ (P : PickOutcome → Type 0) where
  pub if_has : (b : Bool) (o o' : PickOutcome) → P o → P o' → P (if b then o else o')
  if_has true o o' h h' = h
  if_has false o o' h h' = h'

  pub status_has : (p : Place) (o o' : PickOutcome) → (p.is Going ≡ true → P o) → (p.is Going ≡ false → p.is Ending ≡ true → P o')
      → (p.is Going ≡ false → p.is Ending ≡ false → P (waits (End p.region p.depth) None)) → P (by_status p o o')
  status_has p o o' h h' w = cond_both (p.is Going) _ _ P h (λ g. cond_both (p.is Ending) _ _ P (h' g) (w g))

  -- A pick walks down through entries of which something holds that gives each row the property.
  module _ (w : Setting) (facts : List Fact) (t : ℕ) (n : Numbers) (Holds : Entries → Place → Type 0) (resting : P rests)
      (leaves : (id : ℕ) (l : Leaf) (rest : Entries) (p : Place) → Holds (leaf id l rest) p → P (leaf_step w.defs w.inputs w.state facts l p n) × Holds rest p)
      (holders : (id : ℕ) (k : Holder) (h : Head) (held : Entries) (g : Head) (second rest : Entries) (p : Place) → Holds (node id k h held g second rest) p
      → P (holder_step w.defs w.inputs w.state facts k (region h held) (region g second) (held_place k h held p) n)
      × (second_lives k ≡ true → Holds second (second_place g second p)) × Holds held (held_place k h held p) × Holds rest p) where
    pub picked_has : (es : Entries) (p : Place) → Holds es p → P (pick w facts t es p n)
    picked_has none p x = resting
    picked_has (leaf id l rest) p x = let y = leaves id l rest p x in if_has (eqb id t) _ _ y.0 (picked_has rest p y.1)
    picked_has (node id k h held g second rest) p x =
        let y = holders id k h held g second rest p x in
        if_has (eqb id t) _ _ y.0
        (cond_both (second_lives k && has t second) _ _ P (λ e. picked_has second (second_place g second p) (y.1 (and_parts (second_lives k) (has t second) e).0))
        (λ _. if_has (has t held) _ _ (picked_has held (held_place k h held p) y.2) (picked_has rest p y.3)))
