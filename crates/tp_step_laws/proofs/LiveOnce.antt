-- The item that is picked is gone, and no number that was live becomes so again.
use Rattle.std.proofs.Common.{◌≡◌, inl, inr, ℕ, ◌+◌, ◌<◌, Bool, true, false, eqb, List, refl, ap, ◌∙◌, subst, arith}
use Rattle.std.proofs.lemmas.Bool.{cases_Bool, both_ways, eqb-true, eq-eqb, false_from_ne_true}
use Rattle.tp_scene.specs.Scene.{Entries, none, leaf, node, new_head, has, Scene, Region, Place, root_place}
use Rattle.tp_scene.specs.Step.{Reduction}
use Rattle.tp_scene.specs.Pick.{Setting, Moment, Reduces, numbers_of, pick}
use Rattle.tp_scene.specs.Laws.{IsSound}
use Rattle.tp_step_laws.specs.Edits.{Edit, edited, single, Thing, occurs, At, this_leaf, past_leaf, this_node, in_first, in_second, past_node, New, edit_of}
use Rattle.tp_step_laws.specs.LiveOnce.{WasLive, ItemsLiveOnce}
use Rattle.tp_step_laws.proofs.Stay.{absent_head, absent, occurs_append, occurs_edited}
use Rattle.tp_step_laws.proofs.Bridge.{not_live, at_live}
use Rattle.tp_step_laws.proofs.Where.{item_below, picked, owed}
use Rattle.tp_step_laws.proofs.PickedItem.{PickedItem, picked_item}
use Rattle.tp_step_laws.proofs.Again.{moves}

-- an edit that makes nothing of the item's own number takes it away
module _ (t : ℕ) (e : Edit) (new : New t e) where
  gone_after : (es : Entries) (x : Thing) (q p : Place) → At t x q es p → occurs t (edited (single t e) es) ≡ false
  gone_after none x q p at = elim at [ ]
  gone_after (leaf id l rest) x q p (this_leaf a b) =
      rw (a, absent t e rest b) (occurs_append t (e.make (new_head 0) none (new_head 0) none) rest (new (new_head 0) none (new_head 0) none refl refl) b)
  gone_after (leaf id l rest) x q p (past_leaf a at) = rw (a, a) (gone_after rest x q p at)
  gone_after (node id k h i g s rest) x q p (this_node a b c d) =
      rw (a, absent_head t e i h b, absent t e i b, absent_head t e s g c, absent t e s c, absent t e rest d) (occurs_append t (e.make h i g s) rest (new h i g s b c) d)
  gone_after (node id k h i g s rest) x q p (in_first a at c d) = simp (a, gone_after i x q _ at, absent t e s c, absent t e rest d, c, d) refl
  gone_after (node id k h i g s rest) x q p (in_second a l b at d) = simp (a, absent t e i b, gone_after s x q _ at, absent t e rest d, b, d) refl
  gone_after (node id k h i g s rest) x q p (past_node a b c at) = simp (a, absent t e i b, absent t e s c, gone_after rest x q p at, b, c) refl

module _ (w : Setting) (kinds : List Bool) (m : Moment) (t : ℕ) (r : Reduction) (next : Moment) (sound : IsSound w kinds m) (step : Reduces w m t r next) where
  -- a number that is taken is none of the next ones
  taken : (u : ℕ) → u < m.scene.next_item → (i : ℕ) → eqb ((numbers_of m.scene m.store.variables).item i) u ≡ false
  taken u below i = false_from_ne_true (eqb ((numbers_of m.scene m.store.variables).item i) u) (λ e. let q : i + m.scene.next_item ≡ u = eqb-true ((numbers_of m.scene m.store.variables).item i) u e in absurd (omega arith))

  abbrev here : PickedItem w m t r next
  here = picked_item w kinds m t r next sound step

  abbrev edit : Edit
  edit = edit_of here.thing (numbers_of m.scene m.store.variables) r

  makes_new : (u : ℕ) → u < m.scene.next_item → New u edit
  makes_new u below = (owed w m.store.facts (numbers_of m.scene m.store.variables) u (taken u below) here.thing here.place (pick w m.store.facts t m.scene.root.entries (root_place m.scene.root) (numbers_of m.scene m.store.variables)) r (picked w m.store.facts (numbers_of m.scene m.store.variables) t m.scene.root.entries here.thing here.place (root_place m.scene.root) here.at) step.outcome).new

  entries_after : next.scene.root.entries ≡ edited (single t edit) m.scene.root.entries
  entries_after = ap (λ (x : Region). x.entries) here.root_after

  gone : occurs t next.scene.root.entries ≡ false
  gone = ap (occurs t) entries_after ∙ gone_after t edit (makes_new t (item_below m.scene.next_item t m.scene.root.entries sound.moment.items step.lives)) m.scene.root.entries here.thing here.place (root_place m.scene.root) here.at

  -- what stands nowhere comes back nowhere
  absent_after : (u : ℕ) → u < m.scene.next_item → occurs u m.scene.root.entries ≡ false → occurs u next.scene.root.entries ≡ false
  absent_after u below a = ap (occurs u) entries_after ∙ occurs_edited t u edit (makes_new u below) m.scene.root.entries a

  still_below : (u : ℕ) → u < m.scene.next_item → u < next.scene.next_item
  still_below u below = let e = ap (λ (s : Scene). s.next_item) step.scene in omega (arith, e)

  was_live : (u : ℕ) → WasLive m u → WasLive next u
  was_live u h = (
    still_below u h.0,
    elim (h.1) [
      | inl live ↦ elim (cases_Bool (eqb t u)) [
        | inl same ↦ inr (subst (λ (y : ℕ). occurs y next.scene.root.entries ≡ false) (eqb-true t u same) gone)
        | inr other ↦ inl (stays_live u live other)
      ]
      | inr a ↦ inr (absent_after u h.0 a)
    ],
  )
    where
      stays_live : (u : ℕ) → has u m.scene.root.entries ≡ true → eqb t u ≡ false → has u next.scene.root.entries ≡ true
      stays_live u live other =
          let v = moves w kinds m sound t u (λ e. both_ways (eqb t u) other (eq-eqb t u e)) r next step live in
          at_live u next.scene.root.entries v.there.thing v.there.place (root_place next.scene.root) v.there.at

  not_again : (u : ℕ) → has u next.scene.root.entries ≡ true → has u m.scene.root.entries ≡ false → WasLive m u → ⊥
  not_again u live before h = elim (h.1) [
    | inl y ↦ both_ways (has u m.scene.root.entries) before y
    | inr a ↦ both_ways (has u next.scene.root.entries) (not_live u next.scene.root.entries (absent_after u h.0 a)) live
  ]

pub items_live_once : ItemsLiveOnce
items_live_once w kinds m t r next sound step = record {
  gone = gone w kinds m t r next sound step;
  was = was_live w kinds m t r next sound step;
  new = not_again w kinds m t r next sound step;
}
