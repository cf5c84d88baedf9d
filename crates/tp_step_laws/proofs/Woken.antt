-- An item goes on waiting where another one is picked, or the step decides one of its cells.
use Rattle.std.proofs.Common.{◌≡◌, ◌⊎◌, inl, inr, ℕ, Bool, true, false, eqb, List, Option, Some, None, refl, subst}
use Rattle.std.proofs.lemmas.Bool.{cases_Bool, both_ways, eqb-true, eq-eqb}
use Rattle.tp_value.specs.declared.value.Shape.{Shape}
use Rattle.tp_store.specs.Facts.{kept_shape, is_excluded}
use Rattle.tp_scene.specs.declared.answer.Cell.{Cell}
use Rattle.tp_scene.specs.declared.answer.Cell.TheVariants.{Part, End}
use Rattle.tp_scene.specs.Scene.{Side, Ending, Going, Place, root_place}
use Rattle.tp_scene.specs.Step.{Reduction, PickOutcome}
use Rattle.tp_scene.specs.Pick.{Setting, Moment, Reduces, outcome_of}
use Rattle.tp_scene.specs.Cells.{IsDecided}
use Rattle.tp_scene.specs.Seen.{NamesCell}
use Rattle.tp_scene.specs.Laws.{IsSound}
use Rattle.tp_scene.proofs.KnownEnds.{KnownAt, waits_are_for_undecided}
use Rattle.tp_scene.proofs.KnownStays.{known_end}
use Rattle.tp_scene.proofs.Seen.{waited_ends_are_live}
use Rattle.tp_scene.proofs.Decided.{facts_decide_paths}
use Rattle.tp_step_laws.specs.WaitingRows.{IsUndecidedAt, StaysIdle}
use Rattle.tp_step_laws.specs.Edits.{Thing, At}
use Rattle.tp_step_laws.specs.Waiting.{IsDecidedBy, WaitsStayUntilWoken}
use Rattle.tp_step_laws.proofs.Bridge.{at_live}
use Rattle.tp_step_laws.proofs.Waiting.{seen_from, seen_known, idle_after}
use Rattle.tp_step_laws.proofs.Unmarked.{unmarked_steps_end_nothing}

-- Said of the place where an item stands: what isn't undecided as seen there is decided.
module _ (m : Moment) (u : ℕ) (x : Thing) (q : Place) (at : At u x q m.scene.root.entries (root_place m.scene.root)) where
  abbrev seen : Place
  seen = seen_from x q

  end_decided : (r depth : ℕ) (z : Side) → seen.region ≡ r → seen.is z ≡ true → IsDecided m (End r depth)
  end_decided r depth z same e = known_end m.scene r z (subst (λ (y : ℕ). KnownAt y z m.scene.root.entries (root_place m.scene.root)) same (seen_known u z x q m.scene.root.entries (root_place m.scene.root) at e))

  cell_or : (c : Cell) → IsUndecidedAt m.store.facts seen c ⊎ IsDecided m c
  cell_or (Part p) = go (kept_shape m.store.facts p) (is_excluded m.store.facts p) refl refl
    where
      go : (o : Option Shape) (b : Bool) → kept_shape m.store.facts p ≡ o → is_excluded m.store.facts p ≡ b → IsUndecidedAt m.store.facts seen (Part p) ⊎ IsDecided m (Part p)
      go (Some sh) b e f = inr (inl (sh, e))
      go None true e f = inr (inr f)
      go None false e f = inl (e, f)
  cell_or (End r depth) = elim (cases_Bool (eqb seen.region r)) [
    | inl same ↦ elim (cases_Bool (seen.is Ending)) [
      | inl e ↦ inr (end_decided r depth Ending (eqb-true seen.region r same) e)
      | inr e ↦ elim (cases_Bool (seen.is Going)) [
        | inl g ↦ inr (end_decided r depth Going (eqb-true seen.region r same) g)
        | inr g ↦ inl (λ same z. neither z e g)
      ]
    ]
    | inr other ↦ inl (λ same z. absurd (both_ways (eqb seen.region r) other (eq-eqb seen.region r same)))
  ]
    where
      neither : (z : Side) → seen.is Ending ≡ false → seen.is Going ≡ false → seen.is z ≡ false
      neither Ending e g = e
      neither Going e g = g

  other_or : (o : Option Cell) → ((c : Cell) → o ≡ Some c → IsUndecidedAt m.store.facts seen c) ⊎ ((c : Cell) × (o ≡ Some c) × IsDecided m c)
  other_or None = inl (λ c e. absurd (cc e))
  other_or (Some d) = elim (cell_or d) [
    | inl a ↦ inl (λ c e. (let same : d ≡ c = cc e in subst (λ (y : Cell). IsUndecidedAt m.store.facts seen y) same a))
    | inr a ↦ inr (d, refl, a)
  ]

-- what a step decides, a fact or a mark of it decides
decided_by : (w : Setting) (kinds : List Bool) (m : Moment) (t : ℕ) (r : Reduction) (next : Moment) → IsSound w kinds m → Reduces w m t r next
    → (c : Cell) → (IsDecided m c → ⊥) → NamesCell m.scene c → IsDecided next c → IsDecidedBy r c
decided_by w kinds m t r next sound step (Part p) before named after = elim (facts_decide_paths w m t r next step p after) [ inl y ↦ absurd (before y) | inr y ↦ y ]
decided_by w kinds m t r next sound step (End region depth) before named after = go (r.mark) refl
  where
    go : (o : Option Side) → r.mark ≡ o → (z : Side) × (r.mark ≡ Some z)
    go None e = absurd (before (unmarked_steps_end_nothing w kinds m t r next sound step e region depth named after))
    go (Some z) e = (z, e)

pub waits_stay_until_woken : WaitsStayUntilWoken
waits_stay_until_woken w kinds m t u r next first other ne sound step gives =
    let i = idle_after w kinds m next t u ne sound r step gives.0 in
    let before = waits_are_for_undecided w kinds m u first other sound gives.1 in
    let named = waited_ends_are_live w kinds m u first other sound gives.1 in
    let stays = subst (λ (y : PickOutcome). StaysIdle next.store.facts (seen_from i.thing i.place) y (outcome_of w next.store next.scene u)) gives.1 i.stays in
    elim (cell_or next u i.thing i.place i.at first) [
      | inl a ↦ elim (other_or next u i.thing i.place i.at other) [
        | inl b ↦ inl (at_live u next.scene.root.entries i.thing i.place (root_place next.scene.root) i.at, stays (a, b))
        | inr b ↦ inr (record {
          cell = b.0;
          is_one = inr b.1;
          decided = b.2;
          by = decided_by w kinds m t r next sound step b.0 (before.not_other b.0 b.1) (named.names_other b.0 b.1) b.2;
        })
      ]
      | inr a ↦ inr (record {
        cell = first;
        is_one = inl refl;
        decided = a;
        by = decided_by w kinds m t r next sound step first before.not_first named.names_first a;
      })
    ]
