-- What a step's mark makes known is near it, and what was known stays so.
use Rattle.std.proofs.Common.{◌≡◌, ℕ, Bool, true, List, Option, Some, None, refl, ap, sym, ◌∙◌, subst, inl, inr}
use Rattle.std.specs.Prelude.{not}
use Rattle.std.specs.Option.{is_some, option_map}
use Rattle.std.proofs.lemmas.Bool.{cases_Bool, and_from, not_from_false, false≢true}
use Rattle.tp_store.specs.Known.{Contents}
use Rattle.tp_scene.specs.declared.answer.Cell.TheVariants.{End}
use Rattle.tp_scene.specs.Scene.{Side, has}
use Rattle.tp_scene.specs.RegionLaws.{StandsLive}
use Rattle.tp_scene.specs.Step.{Reduction}
use Rattle.tp_scene.specs.Pick.{Setting, Moment, Reduces}
use Rattle.tp_scene.specs.Cells.{IsKnownEnd}
use Rattle.tp_scene.specs.Laws.{IsSound}
use Rattle.tp_scene.proofs.KnownStays.{decided_stays}
use Rattle.tp_scene.proofs.LiveItems.{live_items_stand}
use Rattle.tp_scene.proofs.StepsFit.{steps_fit}
use Rattle.tp_step_laws.specs.Near.{IsNewlyKnown, LeadsOutward, arrived, outward}
use Rattle.tp_step_laws.proofs.Near.{marked_steps_end_near}
use Rattle.tp_slots.specs.Edit.{stands_in}
use Rattle.tp_slots.specs.Kept.{IsWellKept}
use Rattle.tp_slots.specs.Read.{holders_of, scene_of, slots_of}
use Rattle.tp_slots.specs.declared.scene.Scene.{Scene}
use Rattle.tp_slots.proofs.Showing.{all_shown, has_shown}
use Rattle.tp_step.specs.Answers.{Tries, moment_of}
use Rattle.tp_step.specs.declared.answer.Tried.{Tried}
use Rattle.tp_step.specs.declared.answer.Tried.TheVariants as tried
use Rattle.tp_step.specs.declared.tally.Wait.{Wait}
use Rattle.tp_lanes.specs.Planes.{flag}
use Rattle.tp_agenda.specs.declared.board.Board.{Board}
use Rattle.tp_agenda.specs.Board.{NewsAreNear, TakenAreKnown}
use Rattle.tp_agenda.specs.Held.{IsHeld, nothing_due}
use Rattle.tp_agenda.specs.Marks.{has_known_end}
use Rattle.tp_agenda.specs.Outward.{is_due, LeadsThrough, is_there, goes_out, MeetOutward}
use Rattle.tp_agenda.proofs.Around.{stands_inside, stands_home}
use Rattle.tp_agenda.proofs.Deciding.{told_end, end_told}

pub known_stays : (w : Setting) (kinds : List Bool) (m next : Moment) (t : ℕ) (r : Reduction) → IsSound w kinds m → Reduces w m t r next → (q : ℕ) → has_known_end m.scene q ≡ true → has_known_end next.scene q ≡ true
known_stays w kinds m next t r sound step q e =
    end_told w kinds next (steps_fit w kinds m t r next sound step) q (decided_stays w kinds m t r next sound step (End q 0) (told_end w kinds m sound q e))

some_mapped : {A B : Type 0} (f : A → B) (o : Option A) (y : B) → option_map f o ≡ Some y → (x : A) × (o ≡ Some x) × (f x ≡ y)
some_mapped f None y e = absurd (cc)
some_mapped f (Some x) y e = (x, refl, cc)

module _ (w : Setting) (kinds : List Bool) (before after : Scene) (k k' : Contents) (t : ℕ) (sound : IsSound w kinds (moment_of before k)) (kept : IsWellKept before) (kept' : IsWellKept after) (lives : has t (scene_of before).root.entries ≡ true) where
  -- the region that a step of the item marks
  home_is : (x : StandsLive (scene_of before) t) → stands_in t 0 (scene_of before).root.entries ≡ x.head.number
  home_is x =
      let s = slots_of before in
      let shape = kept.shape in
      (has_shown s shape.ordered t 0 (scene_of before).root.entries (all_shown s shape.ordered 0 shape.ordered.root) lives).1 ∙ stands_home s (holders_of before) shape.ordered shape.held t x

  module _ (taken : List Bool) (known : (q : ℕ) → flag taken q ≡ true → has_known_end (scene_of before) q ≡ true) (r : Reduction) (step : Reduces w (moment_of before k) t r (moment_of after k')) where
    sound' : IsSound w kinds (moment_of after k')
    sound' = steps_fit w kinds (moment_of before k) t r (moment_of after k') sound step

    newly_due : (q : ℕ) → IsNewlyKnown (scene_of before) (scene_of after) q → is_due after taken q ≡ true
    newly_due q n = elim (cases_Bool (flag taken q)) [
      | inl e ↦ absurd (n.not_before (told_end w kinds (moment_of before k) sound q (known q e)))
      | inr e ↦ and_from (not (flag taken q)) (has_known_end (scene_of after) q) (not_from_false (flag taken q) e) (end_told w kinds (moment_of after k') sound' q n.now)
    ]

    leads_through : (q top : ℕ) → LeadsOutward (scene_of before) (scene_of after) q top → LeadsThrough after taken q top
    leads_through q _ (arrived n) = is_there (newly_due q n)
    leads_through q top (outward {r = q'} {p = p} n x l) =
        let around = stands_inside (slots_of after) (holders_of after) kept'.shape.ordered kept'.shape.held q p x in
        goes_out (newly_due q n) around.0 (subst (λ i. LeadsThrough after taken i top) (sym around.1) (leads_through p top l))

    meets : (marked : ℕ) → option_map (λ z. stands_in t 0 (scene_of before).root.entries) r.mark ≡ Some marked → (q : ℕ) → has_known_end (scene_of after) q ≡ true → (IsKnownEnd (scene_of before) q → ⊥) → MeetOutward after taken marked q
    meets marked is q now never =
        let home = (live_items_stand (scene_of before) t).0 lives in
        let mark = some_mapped (λ (z : Side). stands_in t 0 (scene_of before).root.entries) r.mark marked is in
        let near = marked_steps_end_near w kinds (moment_of before k) t r (moment_of after k') sound step (ap is_some mark.1) home q (record { now = told_end w kinds (moment_of after k') sound' q now; not_before = never }) in
        record {
          top = near.0;
          first = subst (λ i. LeadsThrough after taken i near.0) (sym (home_is home) ∙ mark.2) (leads_through home.head.number near.0 near.1);
          second = leads_through q near.0 near.2;
        }

  -- so it is of what was tried
  module _ (left : ℕ) (ws : List Wait) (rs : List ℕ) (board without : Board) (held : IsHeld w (moment_of before k) ws rs board.over.items board.ready nothing_due) (known : TakenAreKnown (scene_of before) board)
      (over : without.over ≡ board.over) (taken : without.taken ≡ board.taken) where
    pub news_near : (o : Tried) → Tries w left (moment_of before k) t (moment_of after k') o → NewsAreNear after o without ws
    news_near (tried.Reduced news) x = λ region is i y q d at lasts has now.
        meets without.taken.items (λ p e. known p (sym (ap (λ v. flag v.items p) taken) ∙ e)) x.0 x.2 region (sym x.3.marked ∙ is) q now
        (λ before. false≢true (held.only_due i y at (sym (ap (λ v. flag v.items i) over) ∙ lasts) (End q d) has before))
    news_near (tried.Waits f o) x = tt
    news_near tried.Rests x = tt
    news_near (tried.Clash e) x = tt
    news_near (tried.Missing e) x = tt
    news_near (tried.Over e) x = tt
