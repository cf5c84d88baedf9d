-- Picks one after the other, in a pass.
use Rattle.std.proofs.Common.{◌≡◌, ℕ, ◌<◌, Bool, true, false, List, refl, sym, ◌∙◌, subst, arith, inl, inr, Option, Some, None, ◌⊎◌}
use Rattle.std.proofs.lemmas.Bool.{both_ways}
use Rattle.tp_scene.specs.Scene.{has}
use Rattle.tp_scene.specs.Pick.{Setting, Moment, outcome_of, IsIdle}
use Rattle.tp_scene.specs.Laws.{IsSound}
use Rattle.tp_step.specs.declared.ending.Ending.{Ending}
use Rattle.tp_step.specs.declared.answer.Tried.{Tried}
use Rattle.tp_step.specs.declared.answer.Tried.TheVariants as tried
use Rattle.tp_step.specs.declared.order.Order.{Order}
use Rattle.tp_pass.specs.declared.sweep.Sweep.{Sweep}
use Rattle.tp_pass.specs.Sweeps.{BeginsSweep, TakesTurn}
use Rattle.tp_pass.proofs.Sweeping.{IsToCome, begins_with_each, one_turn, no_turn}
use Rattle.tp_step.specs.Closes.{LedByPicks, LooksAt, WasLookedAt, Counts, ClosureEnds, ending_of, is_pick}
use Rattle.tp_pass.specs.Passes.{Passes}
use Rattle.tp_step.proofs.Picks.{made_none, made_more}

-- what a look at an item and its record make of a closure
pub looked : (w : Setting) (t : ℕ) (m next : Moment) (l l' : ℕ) (b a : List ℕ) (o : Option Tried) → LooksAt w l m t next o → Counts (is_pick o) t l l' b a → WasLookedAt w t m next l l' b a (ending_of o)
looked w t m next l l' b a None h c = inr (λ lives. absurd (both_ways (has t m.scene.root.entries) h.0 lives), h.1, c.0, c.1)
looked w t m next l l' b a (Some (tried.Reduced news)) h c = inl (h.1.0, h.1.2, c.0, c.1)
looked w t m next l l' b a (Some (tried.Waits first other)) h c = inr (λ lives. subst IsIdle (sym h.1.1) tt, h.1.0, c.0, c.1)
looked w t m next l l' b a (Some tried.Rests) h c = inr (λ lives. subst IsIdle (sym h.1.1) tt, h.1.0, c.0, c.1)
looked w t m next l l' b a (Some (tried.Clash clash)) h c = ((t, h.0, h.1.1), h.1.0, c.0, c.1)
looked w t m next l l' b a (Some (tried.Missing port)) h c = ((t, h.0, h.1.1), h.1.0, c.0, c.1)
looked w t m next l l' b a (Some (tried.Over limit)) h c =
    (elim (h.1.1) [ inl x ↦ inl (t, h.0, x) | inr x ↦ inr (x.1, x.2, (x.0, (t, h.0, x.3))) ], h.1.0, c.0, c.1)

-- it takes a reduction only where one is left
pub picks_have_room : (w : Setting) (t room : ℕ) (m next : Moment) (o : Option Tried) → LooksAt w room m t next o → is_pick o ≡ true → 0 < room
picks_have_room w t room m next None h p = absurd (both_ways false refl p)
picks_have_room w t room m next (Some (tried.Reduced news)) h p = h.1.1
picks_have_room w t room m next (Some (tried.Waits first other)) h p = absurd (both_ways false refl p)
picks_have_room w t room m next (Some tried.Rests) h p = absurd (both_ways false refl p)
picks_have_room w t room m next (Some (tried.Clash clash)) h p = absurd (both_ways false refl p)
picks_have_room w t room m next (Some (tried.Missing port)) h p = absurd (both_ways false refl p)
picks_have_room w t room m next (Some (tried.Over limit)) h p = absurd (both_ways false refl p)

-- So far in a pass: what was picked; soundness is kept; and where nothing was reduced, nothing comes of a live item whose turn isn't still to come.
pub record Passing (w : Setting) (m here : Moment) (l0 l1 : ℕ) (b0 b1 : List ℕ) (sweep : Sweep) : Type 0 where
  pub made : LedByPicks w m here l0 l1 b0 b1
  pub sound : (kinds : List Bool) → IsSound w kinds m → IsSound w kinds here
  pub idle : l1 ≡ l0 → (t : ℕ) → has t here.scene.root.entries ≡ true → IsToCome sweep t ⊎ IsIdle (outcome_of w here.store here.scene t)

pub passing_first : (w : Setting) (m : Moment) (left : ℕ) (before : List ℕ) (order after : Order) (sweep : Sweep)
    → BeginsSweep m.scene.root.entries order after sweep → Passing w m m left left before before sweep
passing_first w m left before order after sweep h = record {
  made = made_none w m left before;
  sound = λ kinds k. k;
  idle = λ e t lives. inl (begins_with_each m.scene.root.entries order after sweep h t lives);
}

-- one item more
pub passing_more : (w : Setting) (m here next : Moment) (l0 l1 l2 : ℕ) (b0 b1 b2 : List ℕ) (sweep after : Sweep) (n item : ℕ) → Passing w m here l0 l1 b0 b1 sweep
    → TakesTurn n sweep after (Some item) → ((kinds : List Bool) → IsSound w kinds here → IsSound w kinds next) → WasLookedAt w item here next l1 l2 b1 b2 None → Passing w m next l0 l2 b0 b2 after
passing_more w m here next l0 l1 l2 b0 b1 b2 sweep after n item h turn sound (inl x) = record {
  made = made_more w m here next l0 l1 l2 b0 b1 b2 item x.0 h.made x.1 x.2 x.3;
  sound = λ kinds k. sound kinds (h.sound kinds k);
  idle = λ e. absurd (omega (arith, e, x.2, h.made.spent));
}
passing_more w m here next l0 l1 l2 b0 b1 b2 sweep after n item h turn sound (inr x) =
    let same : l2 ≡ l1 = x.2 in
    let made : LedByPicks w m here l0 l2 b0 b2 = subst (λ k. LedByPicks w m here l0 k b0 b2) (sym same) (subst (λ bs. LedByPicks w m here l0 l1 b0 bs) (sym x.3) h.made) in
    let IsDone : Moment → ℕ → Type 0 = λ z t. IsIdle (outcome_of w z.store z.scene t) in
    let still : l2 ≡ l0 → (t : ℕ) → has t here.scene.root.entries ≡ true → IsToCome after t ⊎ IsDone here t =
    λ e t lives. elim (h.idle (sym same ∙ e) t lives) [
      | inl to_come ↦ elim (one_turn n sweep after item turn t to_come) [
        | inl it ↦ inr (subst (IsDone here) (sym it) (x.0 (subst (λ u. has u here.scene.root.entries ≡ true) it lives)))
        | inr later ↦ inl later
      ]
      | inr idle ↦ inr idle
    ] in
    record {
      made = subst (λ (z : Moment). LedByPicks w m z l0 l2 b0 b2) (sym x.1) made;
      sound = λ kinds k. sound kinds (h.sound kinds k);
      idle = λ e. subst (λ (z : Moment). (t : ℕ) → has t z.scene.root.entries ≡ true → IsToCome after t ⊎ IsDone z t) (sym x.1) (still e);
    }

-- a pass that has no turn left
pub passing_last : (w : Setting) (m here : Moment) (l0 l1 : ℕ) (b0 b1 : List ℕ) (sweep after : Sweep) (n : ℕ) → Passing w m here l0 l1 b0 b1 sweep
    → TakesTurn n sweep after None → ((t : ℕ) → has t here.scene.root.entries ≡ true → t < n) → Passes w m here l0 l1 b0 b1 None
passing_last w m here l0 l1 b0 b1 sweep after n h turn below =
    (h.made, λ e t lives. elim (h.idle e t lives) [ inl to_come ↦ absurd (no_turn n sweep after turn t to_come (below t lives)) | inr idle ↦ idle ])

-- one that ends before
pub passing_ends : (w : Setting) (m here next : Moment) (l0 l1 l2 : ℕ) (b0 b1 b2 : List ℕ) (sweep : Sweep) (item : ℕ) (ending : Ending) → Passing w m here l0 l1 b0 b1 sweep → WasLookedAt w item here next l1 l2 b1 b2 (Some ending) → Passes w m next l0 l2 b0 b2 (Some ending)
passing_ends w m here next l0 l1 l2 b0 b1 b2 sweep item ending h x =
    let same : l2 ≡ l1 = x.2 in
    let made : LedByPicks w m here l0 l2 b0 b2 = subst (λ k. LedByPicks w m here l0 k b0 b2) (sym same) (subst (λ bs. LedByPicks w m here l0 l1 b0 bs) (sym x.3) h.made) in
    let ends : ClosureEnds w l2 here ending = subst (λ k. ClosureEnds w k here ending) (sym same) x.0 in
    (subst (λ (z : Moment). LedByPicks w m z l0 l2 b0 b2) (sym x.1) made, subst (λ (z : Moment). ClosureEnds w l2 z ending) (sym x.1) ends)
