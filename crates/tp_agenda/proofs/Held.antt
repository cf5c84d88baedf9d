-- The laws of what a closure by an agenda holds.
use Rattle.std.proofs.Common.{◌≡◌, ℕ, zero, suc, ◌<◌, Bool, true, false, List, [], ◌∷◌, length, get_or, slice_get, refl, ap, inl, inr, arith, Some}
use Rattle.std.specs.List.{Contains}
use Rattle.std.proofs.lemmas.Bool.{both_ways}
use Rattle.tp_scene.specs.Pick.{Setting, Moment}
use Rattle.tp_step.specs.declared.tally.Wait.{Wait}
use Rattle.tp_lanes.specs.Planes.{flag}
use Rattle.tp_agenda.specs.Ready.{IsReady}
use Rattle.tp_agenda.specs.Held.{IsAmong, nothing_due, IsHeld}
use Rattle.tp_agenda.specs.Laws.{BeginsHeld, HeldTellsReady, StepsKeepHeld, WaitsKeepHeld, RestsKeepHeld, WakingKeepsHeld}
use Rattle.tp_agenda.proofs.Places.{at_less}
use Rattle.tp_agenda.proofs.Keeping.{step_keeps, wait_keeps, rest_keeps, wake_keeps}

listed : {A : Type 0} (xs : List A) (k : ℕ) (x : A) → k < length xs → get_or xs k x ≡ x → slice_get xs k ≡ Some x
listed [] k x l e = absurd (omega (arith, l))
listed (y ∷ ys) zero x l e = ap Some e
listed (y ∷ ys) (suc k) x l e = listed ys k x (omega (arith, l)) e

got : {A : Type 0} (xs : List A) (k : ℕ) (x : A) → slice_get xs k ≡ Some x → get_or xs k x ≡ x
got [] k x e = refl
got (y ∷ ys) zero x e = cc
got (y ∷ ys) (suc k) x e = got ys k x e

pub among : {A : Type 0} (xs : List A) (x : A) → Contains xs x → IsAmong xs x
among xs x c = (c.0, listed xs c.0 x c.1 c.2)

pub contains : {A : Type 0} (xs : List A) (x : A) → IsAmong xs x → Contains xs x
contains xs x a = (a.0, at_less xs a.0 x a.1, got xs a.0 x a.1)

module _ (w : Setting) (m : Moment) (ws : List Wait) (rs : List ℕ) (over ready : List Bool) (h : IsHeld w m ws rs over ready nothing_due) where
  ready_is : (t : ℕ) → flag ready t ≡ true → IsReady m ws rs t
  ready_is t e = record {
    moves = h.ready_moves t e;
    goes_on = λ c. h.ready_apart t e (among rs t c);
    over = λ x c it. let a = among ws x c in h.over_is a.0 x a.1 (h.ready_over t e a.0 x a.1 it);
  }

  is_flagged : (t : ℕ) → IsReady m ws rs t → flag ready t ≡ true
  is_flagged t r = elim (h.complete t r.moves) [
    | inl e ↦ e
    | inr x ↦ elim x [
      | inl a ↦ absurd (r.goes_on (contains rs t a))
      | inr p ↦ (let o = r.over p.wait (contains ws p.wait (p.place, p.at)) p.of_item in
          absurd (both_ways false refl (h.only_due p.place p.wait p.at p.lasts o.cell o.is_for o.decided)))
    ]
  ]

none_at : {A : Type 0} (i : ℕ) (x : A) → slice_get [] i ≡ Some x → ⊥
none_at i x e = absurd (cc)

pub begins_held : BeginsHeld
begins_held w m ready exact = record {
  sizes = refl;
  ready_moves = λ t e. (exact t).0 e;
  ready_apart = λ t e r. none_at r.0 t r.1;
  ready_over = λ t e i x at it. absurd (none_at i x at);
  over_is = λ i x at e. absurd (none_at i x at);
  complete = λ t l. inl ((exact t).1 l);
  only_due = λ i x at lasts c has dec. absurd (none_at i x at);
  waits_move = λ i x at lasts. absurd (none_at i x at);
  waits_on = λ i x at lasts und. absurd (none_at i x at);
  one_open = λ i j x y at bt oi oj same. absurd (none_at i x at);
  rests_apart = λ i x at lasts r. none_at i x at;
  rests_on = λ t r. absurd (none_at r.0 t r.1);
  was = λ i x at. absurd (none_at i x at);
  once = λ i j x a b. absurd (none_at i x a);
  rest_once = λ i j x a b. absurd (none_at i x a);
}

pub held_tells_ready : HeldTellsReady
held_tells_ready w m ws rs over ready h t = (ready_is w m ws rs over ready h t, is_flagged w m ws rs over ready h t)

pub steps_keep_held : StepsKeepHeld
steps_keep_held w m next ws rs over ready after t news decides k s a =
    step_keeps w m ws rs over t k.before ready k.held k.is_ready k.now after next news decides s (let r = a.room in omega (arith, r)) a.kept a.only a.all

pub waits_keep_held : WaitsKeepHeld
waits_keep_held w m ws rs over ready new k answer und was =
    wait_keeps w m ws rs over new.item k.before ready k.held k.is_ready k.now new refl answer und was

pub rests_keep_held : RestsKeepHeld
rests_keep_held w m ws rs over ready t k answer = rest_keeps w m ws rs over t k.before ready k.held k.is_ready k.now answer

pub waking_keeps_held : WakingKeepsHeld
waking_keeps_held w m ws rs over ready ready' over' test due left h k all decided split =
    wake_keeps w m ws rs over ready ready' over' test due left h k all decided split
