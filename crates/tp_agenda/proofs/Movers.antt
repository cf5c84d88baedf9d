-- What an item is decides whether it may move, so other items' steps leave that; and a live item that may not move rests.
use Rattle.std.proofs.Common.{◌≡◌, ◌≢◌, inl, inr, ℕ, ◌||◌, ◌&&◌, Bool, true, false, eqb, List, refl, ap, sym, ◌∙◌}
use Rattle.std.proofs.lemmas.Bool.{both_ways, or_cases, or_left, or_right, and_parts, and_from, false≢true, false_from_ne_true}
use Rattle.tp_value.specs.declared.path.Fact.{Fact}
use Rattle.tp_scene.specs.Scene.{Leaf, Do, Later, Shown, Holder, Split, SplitProject, Closed, Opened, Running, Entries, none, leaf, node, Region, second_lives, has, Place, root_place}
use Rattle.tp_scene.specs.Step.{Reduction, PickOutcome, rests, Numbers, leaf_step, holder_step}
use Rattle.tp_scene.specs.Pick.{Setting, Moment, Reduces, outcome_of, numbers_of}
use Rattle.tp_scene.specs.Rest.{is_unsettled}
use Rattle.tp_scene.specs.Laws.{IsSound}
use Rattle.tp_step_laws.specs.Edits.{Thing, of_leaf, of_holder, occurs, At, this_leaf, past_leaf, this_node, in_first, in_second, past_node, GrowsThing}
use Rattle.tp_step_laws.specs.LiveOnce.{WasLive}
use Rattle.tp_step_laws.proofs.Bridge.{not_live}
use Rattle.tp_step_laws.proofs.Where.{at_of, item_below, Picked, picked}
use Rattle.tp_step_laws.proofs.Again.{others_stand_as_before}
use Rattle.tp_agenda.specs.Ready.{holder_moves, may_move}

or_none : (b : Bool) → (b || false) ≡ b
or_none true = refl
or_none false = refl

and_none : (b : Bool) → (b && false) ≡ false
and_none true = refl
and_none false = refl

-- what may move is live
pub mover_lives : (t : ℕ) (es : Entries) → may_move t es ≡ true → has t es ≡ true
mover_lives t none e = absurd (false≢true e)
mover_lives t (leaf id l rest) e = elim (or_cases (eqb id t && is_unsettled l) (may_move t rest) e) [
  | inl x ↦ or_left (eqb id t) (has t rest) (and_parts (eqb id t) (is_unsettled l) x).0
  | inr x ↦ or_right (eqb id t) (has t rest) (mover_lives t rest x)
]
mover_lives t (node id k h held g second rest) e = elim (or_cases (eqb id t && holder_moves k) _ e) [
  | inl x ↦ or_left (eqb id t) _ (and_parts (eqb id t) (holder_moves k) x).0
  | inr x ↦ or_right (eqb id t) _ (elim (or_cases (second_lives k && may_move t second) _ x) [
    | inl y ↦ (let a = and_parts (second_lives k) (may_move t second) y in
        or_left (second_lives k && has t second) _ (and_from (second_lives k) (has t second) a.0 (mover_lives t second a.1)))
    | inr y ↦ or_right (second_lives k && has t second) _ (elim (or_cases (may_move t held) (may_move t rest) y) [
      | inl z ↦ or_left (has t held) (has t rest) (mover_lives t held z)
      | inr z ↦ or_right (has t held) (has t rest) (mover_lives t rest z)
    ])
  ])
]

-- what stands nowhere doesn't move
never_moves : (t : ℕ) (es : Entries) → occurs t es ≡ false → may_move t es ≡ false
never_moves t es a = false_from_ne_true (may_move t es) (λ e. both_ways (has t es) (not_live t es a) (mover_lives t es e))

abbrev thing_moves : Thing → Bool
thing_moves (of_leaf l) = is_unsettled l
thing_moves (of_holder k held) = holder_moves k

moves_by_thing : (t : ℕ) (es : Entries) (x : Thing) (q p : Place) → At t x q es p → may_move t es ≡ thing_moves x
moves_by_thing t none x q p at = elim at [ ]
moves_by_thing t (leaf id l rest) x q p (this_leaf a b) = rw (a, never_moves t rest b) (or_none (is_unsettled l))
moves_by_thing t (leaf id l rest) x q p (past_leaf a at) = rw a (moves_by_thing t rest x q p at)
moves_by_thing t (node id k h i g s rest) x q p (this_node a b c d) =
    rw (a, never_moves t i b, never_moves t s c, and_none (second_lives k), never_moves t rest d) (or_none (holder_moves k))
moves_by_thing t (node id k h i g s rest) x q p (in_first a at c d) =
    rw (a, never_moves t s c, and_none (second_lives k), never_moves t rest d) (or_none (may_move t i) ∙ moves_by_thing t i x q _ at)
moves_by_thing t (node id k h i g s rest) x q p (in_second a l b at d) = rw (a, l, never_moves t i b, never_moves t rest d) (or_none (may_move t s) ∙ moves_by_thing t s x q _ at)
moves_by_thing t (node id k h i g s rest) x q p (past_node a b c at) = rw (a, never_moves t s c, and_none (second_lives k), never_moves t i b) (moves_by_thing t rest x q p at)

like_moves : (x y : Thing) → GrowsThing x y → thing_moves y ≡ thing_moves x
like_moves (of_leaf l) (of_leaf m) e = ap is_unsettled e
like_moves (of_leaf l) (of_holder k held) e = absurd e
like_moves (of_holder k held) (of_leaf m) e = absurd e
like_moves (of_holder k held) (of_holder k' held') e = ap holder_moves e.0

-- An item that may not move rests, whatever is known.
module _ (w : Setting) (facts : List Fact) (n : Numbers) where
  leaf_rests : (l : Leaf) (q : Place) → is_unsettled l ≡ false → leaf_step w.defs w.inputs w.state facts l q n ≡ rests
  leaf_rests (Do f env) q e = absurd (false≢true (sym e))
  leaf_rests (Later f env) q e = refl
  leaf_rests (Shown vs) q e = refl

  holder_rests : (k : Holder) (held second : Region) (q : Place) → holder_moves k ≡ false → holder_step w.defs w.inputs w.state facts k held second q n ≡ rests
  holder_rests (Split f env) held second q e = absurd (false≢true (sym e))
  holder_rests (SplitProject f env) held second q e = absurd (false≢true (sym e))
  holder_rests Closed held second q e = refl
  holder_rests (Opened f env) held second q e = absurd (false≢true (sym e))
  holder_rests (Running f env) held second q e = refl

  thing_rests : (x : Thing) (q : Place) (o : PickOutcome) → thing_moves x ≡ false → Picked w facts n x q o → o ≡ rests
  thing_rests (of_leaf l) q o e h = h ∙ leaf_rests l q e
  thing_rests (of_holder k held) q o e h = h.4 ∙ holder_rests k (record { head = h.0; entries = h.1 }) (record { head = h.2; entries = h.3 }) held e

module _ (w : Setting) (kinds : List Bool) (m : Moment) (sound : IsSound w kinds m) where
  pub live_was : (u : ℕ) → has u m.scene.root.entries ≡ true → WasLive m u
  live_was u live = (item_below m.scene.next_item u m.scene.root.entries sound.moment.items live, inl live)

  pub stays_at_rest : (t : ℕ) → has t m.scene.root.entries ≡ true → may_move t m.scene.root.entries ≡ false → outcome_of w m.store m.scene t ≡ rests
  stays_at_rest t live still =
      let es = m.scene.root.entries in
      let p = root_place m.scene.root in
      let n = numbers_of m.scene m.store.variables in
      let a = at_of m.scene.next_item t es p sound.moment.items live in
      thing_rests w m.store.facts n a.0 a.1 _ (sym (moves_by_thing t es a.0 a.1 p a.2) ∙ still) (picked w m.store.facts n t es a.0 a.1 p a.2)

  -- after the step of another item a live one may move exactly where it could before
  pub moves_as_before : (t u : ℕ) → t ≢ u → (r : Reduction) (next : Moment) → Reduces w m t r next → has u m.scene.root.entries ≡ true
      → may_move u next.scene.root.entries ≡ may_move u m.scene.root.entries
  moves_as_before t u ne r next step live =
      let v = others_stand_as_before w kinds m next t u ne sound (r, step) live in
      moves_by_thing u next.scene.root.entries v.after.thing v.after.place (root_place next.scene.root) v.after.at ∙ like_moves v.thing v.after.thing v.after.like
      ∙ sym (moves_by_thing u m.scene.root.entries v.thing v.place (root_place m.scene.root) v.before)
