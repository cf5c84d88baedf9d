-- What is idle stays so where another item is picked, as long as what it waits for isn't decided.
use Rattle.std.proofs.Common.{◌≡◌, ◌≢◌, inl, inr, ℕ, Bool, true, List, Option, Some, None, refl, ap, sym, ◌∙◌, subst}
use Rattle.std.proofs.lemmas.Bool.{false_from_ne_true}
use Rattle.tp_value.specs.declared.value.Shape.{Shape}
use Rattle.tp_value.specs.declared.path.Fact.{Fact}
use Rattle.tp_store.specs.Facts.{kept_shape, is_excluded}
use Rattle.tp_store.specs.Known.{NoClash}
use Rattle.tp_scene.specs.declared.answer.Cell.{Cell}
use Rattle.tp_scene.specs.declared.answer.Cell.TheVariants.{Part, End}
use Rattle.tp_scene.specs.Scene.{Side, Leaf, Holder, Entries, none, leaf, node, has, Place, root_place}
use Rattle.tp_scene.specs.Step.{Reduction, PickOutcome, Numbers, leaf_step, holder_step}
use Rattle.tp_scene.specs.Pick.{Setting, Moment, Reduces, numbers_of, outcome_of}
use Rattle.tp_scene.specs.Cells.{IsDecided}
use Rattle.tp_scene.specs.CellLaws.{AreUndecided}
use Rattle.tp_scene.specs.Laws.{IsSound}
use Rattle.tp_scene.proofs.Frame.{region}
use Rattle.tp_scene.proofs.KnownEnds.{KnownAt}
use Rattle.tp_scene.proofs.KnownStays.{known_end}
use Rattle.tp_scene.proofs.StepsFit.{steps_fit}
use Rattle.tp_step_laws.specs.Outcomes.{KnowsMore}
use Rattle.tp_step_laws.specs.Rows.{Grows}
use Rattle.tp_step_laws.specs.WaitingRows.{IsUndecidedAt, AreUndecidedAt, StaysIdle}
use Rattle.tp_step_laws.proofs.RowsWait.{leaf_rows_wait, holder_rows_wait}
use Rattle.tp_step_laws.specs.Edits.{Thing, of_leaf, of_holder, GrowsThing, At, this_leaf, past_leaf, this_node, in_first, in_second, past_node}
use Rattle.tp_step_laws.specs.Waiting.{WaitsStay, RestsStay}
use Rattle.tp_step_laws.proofs.Bridge.{at_live}
use Rattle.tp_step_laws.proofs.Where.{CalmThing, at_calm, Picked, picked}
use Rattle.tp_step_laws.proofs.Again.{moves, knows_after}

-- the place whose status decides what the thing becomes
abbrev pub seen_from : Thing → Place → Place
seen_from (of_leaf l) q = q
seen_from (of_holder k held) q = held

-- a region whose status is seen is one that stands there
pub seen_known : (u : ℕ) (z : Side) (x : Thing) (q : Place) (es : Entries) (p : Place) → At u x q es p → (seen_from x q).is z ≡ true → KnownAt (seen_from x q).region z es p
seen_known u z x q none p at e = elim at [ ]
seen_known u z x q (leaf id l rest) p (this_leaf a b) e = inl (refl, e)
seen_known u z x q (leaf id l rest) p (past_leaf a at) e = seen_known u z x q rest p at e
seen_known u z x q (node id k h i g s rest) p (this_node a b c d) e = inr (inl (inl (refl, e)))
seen_known u z x q (node id k h i g s rest) p (in_first a at c d) e = inr (inl (seen_known u z x q i _ at e))
seen_known u z x q (node id k h i g s rest) p (in_second a l b at d) e = inr (inr (inl (l, seen_known u z x q s _ at e)))
seen_known u z x q (node id k h i g s rest) p (past_node a b c at) e = elim (seen_known u z x q rest p at e) [ inl y ↦ inl y | inr y ↦ inr (inr (inr y)) ]

module _ (m : Moment) (u : ℕ) (x : Thing) (q : Place) (at : At u x q m.scene.root.entries (root_place m.scene.root)) where
  undecided_seen : (c : Cell) → (IsDecided m c → ⊥) → IsUndecidedAt m.store.facts (seen_from x q) c
  undecided_seen (Part p) h = (no_shape (kept_shape m.store.facts p) refl, false_from_ne_true (is_excluded m.store.facts p) (λ e. h (inr e)))
    where
      no_shape : (o : Option Shape) → kept_shape m.store.facts p ≡ o → kept_shape m.store.facts p ≡ None
      no_shape None e = e
      no_shape (Some sh) e = absurd (h (inl (sh, e)))
  undecided_seen (End r depth) h = λ same z. false_from_ne_true ((seen_from x q).is z) (λ e.
      h (known_end m.scene r z (subst (λ (y : ℕ). KnownAt y z m.scene.root.entries (root_place m.scene.root)) same (seen_known u z x q m.scene.root.entries (root_place m.scene.root) at e))))

  all_undecided : (c : Cell) (o : Option Cell) → AreUndecided m c o → AreUndecidedAt m.store.facts (seen_from x q) c o
  all_undecided c o h = (undecided_seen c h.not_first, λ d e. undecided_seen d (h.not_other d e))

-- where a thing knows as much or more
thing_idle : (w : Setting) (fs gs : List Fact) → NoClash fs → NoClash gs → KnowsMore fs gs → (n n' : Numbers) (x y : Thing) (p q : Place) → GrowsThing x y → Grows p q → CalmThing y
    → (o u : PickOutcome) → Picked w fs n x p o → Picked w gs n' y q u → StaysIdle gs (seen_from y q) o u
thing_idle w fs gs fc gc knows n n' (of_leaf l) (of_leaf m) p q like up calm o u a b =
    let e : leaf_step w.defs w.inputs w.state gs l q n' ≡ u = ap (λ (x : Leaf). leaf_step w.defs w.inputs w.state gs x q n') (sym like) ∙ sym b in
    subst (λ (y : PickOutcome). StaysIdle gs q o y) e (subst (λ (x : PickOutcome). StaysIdle gs q x (leaf_step w.defs w.inputs w.state gs l q n')) (sym a) (leaf_rows_wait w fs gs fc gc knows l p q n n' up))
thing_idle w fs gs fc gc knows n n' (of_leaf l) (of_holder k held) p q like up calm o u a b = absurd like
thing_idle w fs gs fc gc knows n n' (of_holder k held) (of_leaf m) p q like up calm o u a b = absurd like
thing_idle w fs gs fc gc knows n n' (of_holder k held) (of_holder k' held') p q like up calm o u a b =
    let there : Holder → PickOutcome = λ x. holder_step w.defs w.inputs w.state gs x (region b.0 b.1) (region b.2 b.3) held' n' in
    let e : there k ≡ u = ap there (sym like.0) ∙ sym b.4 in
    subst (λ (y : PickOutcome). StaysIdle gs held' o y) e (subst (λ (x : PickOutcome). StaysIdle gs held' x (there k)) (sym a.4) (holder_rows_wait w fs gs k held held' n n' like.1 calm (region a.0 a.1) (region a.2 a.3) (region b.0 b.1) (region b.2 b.3)))

-- The other item after a step: it is live, stands at one place, and is idle there if it was before.
pub record Idle (w : Setting) (m next : Moment) (u : ℕ) : Type 0 where
  pub thing : Thing
  pub place : Place
  pub at : At u thing place next.scene.root.entries (root_place next.scene.root)
  pub stays : StaysIdle next.store.facts (seen_from thing place) (outcome_of w m.store m.scene u) (outcome_of w next.store next.scene u)

pub idle_after : (w : Setting) (kinds : List Bool) (m next : Moment) (t u : ℕ) → t ≢ u → IsSound w kinds m → (r : Reduction) → Reduces w m t r next → has u m.scene.root.entries ≡ true → Idle w m next u
idle_after w kinds m next t u ne sound r step live =
    let after = steps_fit w kinds m t r next sound step in
    let v = moves w kinds m sound t u ne r next step live in
    let calm = at_calm w.defs kinds next.store.variables u next.scene.root.entries v.there.thing v.there.place (root_place next.scene.root) v.there.at after.moment.entries in
    let n = numbers_of m.scene m.store.variables in
    let n' = numbers_of next.scene next.store.variables in
    record {
      thing = v.there.thing;
      place = v.there.place;
      at = v.there.at;
      stays = thing_idle w m.store.facts next.store.facts sound.store.no_clash after.store.no_clash (knows_after w kinds m sound r next step.store) n n' v.other v.there.thing v.other_place v.there.place v.there.like v.there.more calm.1 _ _
          (picked w m.store.facts n u m.scene.root.entries v.other v.other_place (root_place m.scene.root) v.other_at)
          (picked w next.store.facts n' u next.scene.root.entries v.there.thing v.there.place (root_place next.scene.root) v.there.at);
    }

pub waits_stay : WaitsStay
waits_stay w kinds m next t u c o ne sound step gives undecided =
    let i = idle_after w kinds m next t u ne sound step.0 step.1 gives.0 in (
      at_live u next.scene.root.entries i.thing i.place (root_place next.scene.root) i.at,
      subst (λ (y : PickOutcome). StaysIdle next.store.facts (seen_from i.thing i.place) y (outcome_of w next.store next.scene u)) gives.1 i.stays (all_undecided next u i.thing i.place i.at c o undecided),
    )

pub rests_stay : RestsStay
rests_stay w kinds m next t u ne sound step gives =
    let i = idle_after w kinds m next t u ne sound step.0 step.1 gives.0 in (
      at_live u next.scene.root.entries i.thing i.place (root_place next.scene.root) i.at,
      subst (λ (y : PickOutcome). StaysIdle next.store.facts (seen_from i.thing i.place) y (outcome_of w next.store next.scene u)) gives.1 i.stays,
    )
