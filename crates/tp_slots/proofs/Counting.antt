-- How often numbers stand after a step.
use Rattle.std.proofs.Common.{◌≡◌, ℕ, ◌+◌, ◌≤◌, ◌&&◌, eqb, [], ◌∷◌, Option, refl, ap, sym, ◌∙◌, arith, inl, inr}
use Rattle.std.proofs.lemmas.Bool.{cases_Bool, eqb-true}
use Rattle.tp_scene.specs.Scene.{Side, Head, Holder, Split, SplitProject, Closed, Opened, Running, Entries, none, leaf, node, append, has, second_lives}
use Rattle.tp_scene.specs.Pick.{mark_at, put}
use Rattle.tp_scene.specs.Fits.{second_number}
use Rattle.tp_scene.proofs.Count.{one_if, count}
use Rattle.tp_scene.proofs.PutNumbers.{items, regions, items_leaf, items_node, regions_node, marked_number}
use Rattle.tp_slots.specs.Plain.{bare, holds, Slot, Slots, slot_at}
use Rattle.tp_slots.specs.Shown.{AreShown}
use Rattle.tp_slots.proofs.Told.{inner_items, inner_regions}

second_marked : (x t : ℕ) (m : Option Side) (k : Holder) (g : Head) (es : Entries) → count x (second_number k (mark_at t m g es)) ≡ count x (second_number k g)
second_marked x t m (Split f env) g es = refl
second_marked x t m (SplitProject f env) g es = ap (λ (i : ℕ). count x (i ∷ [])) (marked_number t m g es)
second_marked x t m Closed g es = refl
second_marked x t m (Opened f env) g es = refl
second_marked x t m (Running f env) g es = ap (λ (i : ℕ). count x (i ∷ [])) (marked_number t m g es)

module _ (s : Slots) (t x : ℕ) (m : Option Side) (news : Entries) (a b : ℕ) (more_items : (rest : Entries) → items x (append news rest) ≤ inner_items s x (slot_at s t).what + a + items x rest)
    (more_regions : (rest : Entries) → regions x (append news rest) ≤ inner_regions s x (slot_at s t).what + b + regions x rest) where
  pub record Adds (new old : Entries) : Type 0 where
    pub items_then : items x new ≤ items x old + a
    pub regions_then : regions x new ≤ regions x old + b

  pub put_adds : (r : ℕ) (es : Entries) → AreShown s r es → Adds (put t m news es) es
  put_adds r none shown = record { items_then = omega arith; regions_then = omega arith }
  put_adds r (leaf id l rest) shown = elim (cases_Bool (eqb id t)) [
    | inl e ↦ (let at : (slot_at s t).what ≡ bare l = ap (λ i. (slot_at s i).what) (sym (eqb-true id t e)) ∙ ap (λ (y : Slot). y.what) shown.1 in
        let c = items_leaf x id l rest in
        let p = more_items rest in
        let q = more_regions rest in
        let u = ap (inner_items s x) at in
        let v = ap (inner_regions s x) at in
        let both : Adds (append news rest) (leaf id l rest) = record { items_then = omega (arith, c, p, u); regions_then = omega (arith, q, v) } in
        rw e both)
    | inr e ↦ (let ih = put_adds r rest shown.2 in
        let c = items_leaf x id l rest in
        let d = items_leaf x id l (put t m news rest) in
        let u = ih.items_then in
        let v = ih.regions_then in
        let both : Adds (leaf id l (put t m news rest)) (leaf id l rest) = record { items_then = omega (arith, c, d, u); regions_then = v } in
        rw e both)
  ]
  put_adds r (node id k h held g second rest) shown =
      let c = items_node x id k h held g second rest in
      let d = regions_node x id k h held g second rest in
      elim (cases_Bool (eqb id t)) [
        | inl e ↦ (let at : (slot_at s t).what ≡ holds k h.number shown.1 = ap (λ i. (slot_at s i).what) (sym (eqb-true id t e)) ∙ ap (λ (y : Slot). y.what) shown.2 in
            let p = more_items rest in
            let q = more_regions rest in
            let i = ap (items x) shown.4 in
            let i2 = ap (items x) shown.6 in
            let j = ap (regions x) shown.4 in
            let j2 = ap (regions x) shown.6 in
            let n = ap (λ (y : Head). count x (second_number k y)) shown.5 in
            let u = ap (inner_items s x) at in
            let v = ap (inner_regions s x) at in
            let both : Adds (append news rest) (node id k h held g second rest) = record { items_then = omega (arith, c, p, u, i, i2); regions_then = omega (arith, d, q, v, j, j2, n) } in
            rw e both)
        | inr e ↦ elim (cases_Bool (second_lives k && has t second)) [
          | inl l ↦ (let ih = put_adds g.number second shown.8 in
              let g' = mark_at t m g second in
              let p = items_node x id k h held g' (put t m news second) rest in
              let q = regions_node x id k h held g' (put t m news second) rest in
              let n = second_marked x t m k g second in
              let u = ih.items_then in
              let v = ih.regions_then in
              let both : Adds (node id k h held g' (put t m news second) rest) (node id k h held g second rest) = record { items_then = omega (arith, c, p, u); regions_then = omega (arith, d, q, n, v) } in
              rw (e, l) both)
          | inr l ↦ elim (cases_Bool (has t held)) [
            | inl o ↦ (let ih = put_adds h.number held shown.7 in
                let h' = mark_at t m h held in
                let p = items_node x id k h' (put t m news held) g second rest in
                let q = regions_node x id k h' (put t m news held) g second rest in
                let n = ap (one_if x) (marked_number t m h held) in
                let u = ih.items_then in
                let v = ih.regions_then in
                let both : Adds (node id k h' (put t m news held) g second rest) (node id k h held g second rest) = record { items_then = omega (arith, c, p, u); regions_then = omega (arith, d, q, n, v) } in
                rw (e, l, o) both)
            | inr o ↦ (let ih = put_adds r rest shown.9 in
                let p = items_node x id k h held g second (put t m news rest) in
                let q = regions_node x id k h held g second (put t m news rest) in
                let u = ih.items_then in
                let v = ih.regions_then in
                let both : Adds (node id k h held g second (put t m news rest)) (node id k h held g second rest) = record { items_then = omega (arith, c, p, u); regions_then = omega (arith, d, q, v) } in
                rw (e, l, o) both)
          ]
        ]
      ]
