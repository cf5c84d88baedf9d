-- A step leaves what a closure by an agenda holds of the other items, and what it decides is decided; where none is ready the scene is at rest.
use Rattle.std.proofs.Common.{◌≡◌, ◌≢◌, inl, inr, ℕ, zero, suc, Bool, true, false, cond, List, [], ◌∷◌, refl, ap, sym, ◌∙◌, subst, arith}
use Rattle.std.specs.Prelude.{not}
use Rattle.std.specs.List.{Contains, filter}
use Rattle.std.proofs.lemmas.Bool.{both_ways, cases_Bool, not_from_true, not_from_false, false_from_ne_true}
use Rattle.std.proofs.lemmas.List.Elements.{All-contains, All-filter, All-contains_itself, filter_passes}
use Rattle.tp_scene.specs.declared.answer.Cell.{Cell}
use Rattle.tp_scene.specs.Scene.{has}
use Rattle.tp_scene.specs.LiveItems.{live_items}
use Rattle.tp_scene.specs.Step.{PickOutcome, rests}
use Rattle.tp_scene.specs.Pick.{Moment, outcome_of, IsIdle}
use Rattle.tp_scene.specs.Seen.{NamesCell, AreNamed}
use Rattle.tp_scene.proofs.KnownStays.{decided_stays}
use Rattle.tp_scene.proofs.Seen.{waited_ends_are_live}
use Rattle.tp_scene.proofs.Listed.{first_in, later_in, live_items_are_listed}
use Rattle.tp_step_laws.proofs.Bridge.{not_live}
use Rattle.tp_step_laws.proofs.LiveOnce.{items_live_once}
use Rattle.tp_step_laws.proofs.Waiting.{waits_stay, rests_stay}
use Rattle.tp_slots.specs.News.{new_items}
use Rattle.tp_step.specs.declared.tally.Wait.{Wait}
use Rattle.tp_lanes.specs.Planes.{flag}
use Rattle.tp_agenda.specs.Ready.{WaitsFor, may_move}
use Rattle.tp_agenda.specs.Held.{MayMove, HasOpenWait}
use Rattle.tp_agenda.specs.Leaves.{StepsLeaveOthers, StepsDecide, HeldComesToRest}
use Rattle.tp_agenda.proofs.Keeping.{open_undecided}
use Rattle.tp_agenda.proofs.Movers.{mover_lives, live_was, stays_at_rest, moves_as_before}
use Rattle.tp_agenda.proofs.Deciding.{decided_after, decided_newly}

-- what a test lets through of a list
module _ (test : ℕ → Bool) where
  filtered_has : (xs : List ℕ) (u : ℕ) → test u ≡ true → Contains xs u → Contains (filter test xs) u
  filtered_has [] u e (k, l, is) = absurd (omega (arith, l))
  filtered_has (x ∷ xs) u e (zero, l, is) = let here : test x ≡ true = ap test is ∙ e in rw here (first_in x u (filter test xs) is)
  filtered_has (x ∷ xs) u e (suc k, l, is) = by_first (filtered_has xs u e (k, omega (arith, l), is)) (test x)
    where
      by_first : Contains (filter test xs) u → (b : Bool) → Contains (cond b (x ∷ filter test xs) (filter test xs)) u
      by_first there true = later_in x u (filter test xs) there
      by_first there false = there

  filtered_was : (xs : List ℕ) (u : ℕ) → Contains (filter test xs) u → Contains xs u × (test u ≡ true)
  filtered_was xs u c = (
    All-contains (Contains xs) (filter test xs) u (All-filter test (Contains xs) xs (All-contains_itself xs)) c,
    All-contains (λ x. test x ≡ true) (filter test xs) u (filter_passes test xs) c,
  )

is_not : (b : Bool) → not b ≡ true → b ≡ false
is_not b e = false_from_ne_true b (λ x. both_ways (not b) (not_from_true b x) e)

-- what is new lives, and didn't before
module _ (m next : Moment) (u : ℕ) where
  new_live : Contains (new_items m.scene next.scene) u → (has u next.scene.root.entries ≡ true) × (has u m.scene.root.entries ≡ false)
  new_live c =
      let x = filtered_was (λ v. not (has v m.scene.root.entries)) (live_items next.scene.root.entries) u c in
      ((live_items_are_listed next.scene.root.entries u).0 x.0, is_not (has u m.scene.root.entries) x.1)

  live_new : has u next.scene.root.entries ≡ true → has u m.scene.root.entries ≡ false → Contains (new_items m.scene next.scene) u
  live_new live before = filtered_has (λ v. not (has v m.scene.root.entries)) (live_items next.scene.root.entries) u (not_from_false (has u m.scene.root.entries) before)
      ((live_items_are_listed next.scene.root.entries u).1 live)

waited_is_named : (m : Moment) (x : Wait) → AreNamed m.scene x.first x.other → (c : Cell) → WaitsFor x c → NamesCell m.scene c
waited_is_named m x named c (inl e) = subst (λ (d : Cell). NamesCell m.scene d) e named.names_first
waited_is_named m x named c (inr e) = named.names_other c e

pub steps_leave_others : StepsLeaveOthers
steps_leave_others w kinds m t r next news sound step are_new =
    let once = items_live_once w kinds m t r next sound step in
    let lives : (u : ℕ) → MayMove m u → has u m.scene.root.entries ≡ true = λ u e. mover_lives u m.scene.root.entries e in
    let lives_after : (u : ℕ) → MayMove next u → has u next.scene.root.entries ≡ true = λ u e. mover_lives u next.scene.root.entries e in
    let gone : MayMove next t → ⊥ = λ e. both_ways (has t next.scene.root.entries) (not_live t next.scene.root.entries once.gone) (lives_after t e) in
    let same : (u : ℕ) → u ≢ t → has u m.scene.root.entries ≡ true → may_move u next.scene.root.entries ≡ may_move u m.scene.root.entries =
    (λ u ne live. moves_as_before w kinds m sound t u (λ q. ne (sym q)) r next step live) in
    record {
      live = λ u e. live_was w kinds m sound u (lives u e);
      was = once.was;
      gone = gone;
      kept = λ u ne e. same u ne (lives u e) ∙ e;
      new = λ u e. elim (cases_Bool (has u m.scene.root.entries)) [
        | inl before ↦ inl (sym (same u (λ q. gone (subst (MayMove next) q e)) before) ∙ e)
        | inr before ↦ inr ((are_new u).1 (live_new m next u (lives_after u e) before, e))
      ];
      fresh = λ u a. let x = (are_new u).0 a in let y = new_live m next u x.0 in (x.1, once.new u y.0 y.1);
      stays = decided_stays w kinds m t r next sound step;
      newly = λ x e o c has_it after. decided_newly w kinds m t r next sound step c (waited_is_named m x (waited_ends_are_live w kinds m x.item x.first x.other sound o) c has_it) after;
      waits_on = λ u x ne it e o undecided. (waits_stay w kinds m next t u x.first x.other (λ q. ne (sym q)) sound (r, step) (lives u e, o) undecided).1;
      rests_on = λ u ne e o. (rests_stay w kinds m next t u (λ q. ne (sym q)) sound (r, step) (lives u e, o)).1;
    }

pub steps_decide : StepsDecide
steps_decide w kinds m t r next c sound step e = decided_after w kinds m t r next sound step c e

pub held_comes_to_rest : HeldComesToRest
held_comes_to_rest w kinds m recorded resting over ready sound held none t live = by_move (may_move t m.scene.root.entries) refl
  where
    rests_so : outcome_of w m.store m.scene t ≡ rests → IsIdle (outcome_of w m.store m.scene t)
    rests_so e = subst (λ (o : PickOutcome). IsIdle o) (sym e) tt

    waits_so : HasOpenWait recorded over t → IsIdle (outcome_of w m.store m.scene t)
    waits_so x =
        let o = held.waits_on x.place x.wait x.at x.lasts (open_undecided w m recorded resting over ready held x.place x.wait x.at x.lasts) in
        subst (λ (y : PickOutcome). IsIdle y) (sym (ap (outcome_of w m.store m.scene) (sym x.of_item) ∙ o)) tt

    by_move : (b : Bool) → may_move t m.scene.root.entries ≡ b → IsIdle (outcome_of w m.store m.scene t)
    by_move false e = rests_so (stays_at_rest w kinds m sound t live e)
    by_move true e = elim (held.complete t e) [
      | inl is_ready ↦ absurd (both_ways (flag ready t) (none t) is_ready)
      | inr x ↦ elim x [ inl rested ↦ rests_so (held.rests_on t rested).1 | inr waiting ↦ waits_so waiting ]
    ]
