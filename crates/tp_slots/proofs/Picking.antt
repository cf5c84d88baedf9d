-- Picking an item by its slot.
use Rattle.std.proofs.Common.{◌≡◌, ℕ, ◌&&◌, true, false, eqb, List, refl, ap, sym, ◌∙◌, subst, inl, inr}
use Rattle.std.proofs.lemmas.Bool.{cases_Bool, eqb-true, both_ways}
use Rattle.tp_value.specs.declared.path.Fact.{Fact}
use Rattle.tp_scene.specs.Scene.{Entries, none, leaf, node, has, second_lives, Place, held_place, second_place}
use Rattle.tp_scene.specs.Step.{Numbers, holder_step}
use Rattle.tp_scene.specs.Pick.{Setting, pick}
use Rattle.tp_slots.specs.Plain.{bare, holds, Slot, Slots, slot_at}
use Rattle.tp_slots.specs.Shown.{AreShown}
use Rattle.tp_slots.specs.Picked.{item_place, what_step}
use Rattle.tp_slots.proofs.PutEdits.{both_so}

module _ (w : Setting) (facts : List Fact) (s : Slots) (n : Numbers) where
  pub pick_shown : (t r : ℕ) (es : Entries) (p : Place) → AreShown s r es → has t es ≡ true → pick w facts t es p n ≡ what_step w facts s (slot_at s t).what (item_place t p es) n
  pick_shown t r none p a h = absurd (both_ways false refl h)
  pick_shown t r (leaf id l rest) p a h = elim (cases_Bool (eqb id t)) [
    | inl e ↦ (let at : slot_at s t ≡ record { home = r; what = bare l } = subst (λ x. slot_at s x ≡ record { home = r; what = bare l }) (eqb-true id t e) a.1 in
        rw e (ap (λ (x : Slot). what_step w facts s x.what p n) (sym at)))
    | inr e ↦ rw e (pick_shown t r rest p a.2 (rw e at h))
  ]
  pick_shown t r (node id k h held g second rest) p a y = elim (cases_Bool (eqb id t)) [
    | inl e ↦ (let at : slot_at s t ≡ record { home = r; what = holds k h.number a.1 } = subst (λ x. slot_at s x ≡ record { home = r; what = holds k h.number a.1 }) (eqb-true id t e) a.2 in
        let x = a.3 in
        let i = a.4 in
        let u = a.5 in
        let v = a.6 in
        rw e ((λ j. holder_step w.defs w.inputs w.state facts k (record { head = x j; entries = i j }) (record { head = u j; entries = v j }) (held_place k (x j) (i j) p) n)
        ∙ ap (λ (x : Slot). what_step w facts s x.what p n) (sym at)))
    | inr e ↦ elim (cases_Bool (second_lives k && has t second)) [
      | inl b ↦ rw (e, b) (pick_shown t g.number second (second_place g second p) a.8 (both_so (second_lives k) (has t second) b).1)
      | inr b ↦ elim (cases_Bool (has t held)) [
        | inl d ↦ rw (e, b, d) (pick_shown t h.number held (held_place k h held p) a.7 d)
        | inr d ↦ rw (e, b, d) (pick_shown t r rest p a.9 (rw (e, b, d) at y))
      ]
    ]
  ]
