-- A pass, turn after turn.
use Rattle.std.proofs.Common.{◌≡◌, ◌∙◌, ℕ, ◌<◌, Bool, true, false, List, Option, Some, None, refl, sym, subst}
use Rattle.tp_scene.specs.Scene.{has}
use Rattle.tp_scene.specs.Pick.{Setting, Moment}
use Rattle.tp_scene.specs.Laws.{IsSound}
use Rattle.tp_step.specs.declared.ending.Ending.{Ending}
use Rattle.tp_step.specs.declared.order.Order.{Order}
use Rattle.tp_step.specs.declared.answer.Tried.{Tried}
use Rattle.tp_step.specs.Closes.{Counts, WasLookedAt, LooksAt, ending_of, is_pick}
use Rattle.tp_pass.specs.declared.sweep.Sweep.{Sweep}
use Rattle.tp_pass.specs.Passes.{MakesPass}
use Rattle.tp_pass.specs.Sweeps.{BeginsSweep, TakesTurn}
use Rattle.tp_pass.proofs.Following.{MayEndWith, TurnsSoFar, may_end, pass_of, turns_begin, turns_go_on, turns_end}
use Rattle.tp_pass.proofs.Picks.{Passing, looked, passing_first, passing_more, passing_last, passing_ends}

-- what was picked so far, and by which turns
pub record IsPassing (w : Setting) (m here : Moment) (first sweep : Sweep) (l0 l1 : ℕ) (b0 b1 : List ℕ) : Type 0 where
  pub picked : Passing w m here l0 l1 b0 b1 sweep
  pub turns : TurnsSoFar w m here first sweep l0 l1 b0 b1

pub pass_begins : (w : Setting) (m : Moment) (order after : Order) (sweep : Sweep) (left : ℕ) (before : List ℕ) → BeginsSweep m.scene.root.entries order after sweep
    → IsPassing w m m sweep sweep left left before before
pass_begins w m order after sweep left before h = record { picked = passing_first w m left before order after sweep h; turns = turns_begin w m sweep left before }

-- what holds after an item was looked at, with which the pass goes on or the closure ends
pub record ComesOfTurn (w : Setting) (m next : Moment) (first gone : Sweep) (l0 l1 : ℕ) (b0 b1 : List ℕ) (ended : Option Ending) : Type 0 where
  pub goes_on : ended ≡ None → IsPassing w m next first gone l0 l1 b0 b1
  pub ends : (order after now : Order) → BeginsSweep m.scene.root.entries order after first → now ≡ after → (ending : Ending) → ended ≡ Some ending → MakesPass w m next order now l0 l1 b0 b1 (Some ending)

module _ (w : Setting) (m here : Moment) (first sweep gone : Sweep) (l0 l1 : ℕ) (b0 b1 : List ℕ) (h : IsPassing w m here first sweep l0 l1 b0 b1) where
  -- no turn is left
  pub pass_is_whole : (order after now : Order) → BeginsSweep m.scene.root.entries order after first → now ≡ after → TakesTurn here.scene.next_item sweep gone None
      → ((t : ℕ) → has t here.scene.root.entries ≡ true → t < here.scene.next_item) → MakesPass w m here order now l0 l1 b0 b1 None
  pass_is_whole order after now begins same turn below = record {
    sound = h.picked.sound;
    passes = passing_last w m here l0 l1 b0 b1 sweep gone here.scene.next_item h.picked turn below;
    turns = (sweep, pass_of w m here order after now first sweep l0 l1 b0 b1 begins same h.turns, (gone, turn));
  }

  -- what comes of the item whose turn it is
  module _ (next : Moment) (l2 : ℕ) (b2 : List ℕ) (item : ℕ) (turn : TakesTurn here.scene.next_item sweep gone (Some item)) (sound : (kinds : List Bool) → IsSound w kinds here → IsSound w kinds next)
      (o : Option Tried) (looks : LooksAt w l1 here item next o) (counts : Counts (is_pick o) item l1 l2 b1 b2) (ended : Option Ending) (is_end : ended ≡ ending_of o) where
    leads : (e : Option Ending) → ended ≡ e → WasLookedAt w item here next l1 l2 b1 b2 e
    leads e is = subst (λ (z : Option Ending). WasLookedAt w item here next l1 l2 b1 b2 z) (sym is_end ∙ is) (looked w item here next l1 l2 b1 b2 o looks counts)

    ends_pass : (order after now : Order) → BeginsSweep m.scene.root.entries order after first → now ≡ after → (ending : Ending) → ended ≡ Some ending → MakesPass w m next order now l0 l2 b0 b2 (Some ending)
    ends_pass order after now begins same ending is =
        let met = leads (Some ending) is in
        let with_item = subst (MayEndWith w l2 here item) (sym is_end ∙ is) (may_end w item here next l1 l2 b1 b2 o looks counts) in
        let end = turns_end w m here next first sweep gone l0 l1 l2 b0 b1 b2 item ending h.turns turn met with_item in
        record {
          sound = λ kinds k. sound kinds (h.picked.sound kinds k);
          passes = passing_ends w m here next l0 l1 l2 b0 b1 b2 sweep item ending h.picked met;
          turns = (sweep, pass_of w m next order after now first sweep l0 l2 b0 b2 begins same end.0, end.1);
        }

    pub comes_of_turn : ComesOfTurn w m next first gone l0 l2 b0 b2 ended
    comes_of_turn = record {
      goes_on = λ is. record {
        picked = passing_more w m here next l0 l1 l2 b0 b1 b2 sweep gone here.scene.next_item item h.picked turn sound (leads None is);
        turns = turns_go_on w m here next first sweep gone l0 l1 l2 b0 b1 b2 item h.turns turn (leads None is);
      };
      ends = ends_pass;
    }

  -- an item that isn't live is passed over
  pub passes_over : (item : ℕ) → TakesTurn here.scene.next_item sweep gone (Some item) → has item here.scene.root.entries ≡ false → IsPassing w m here first gone l0 l1 b0 b1
  passes_over item turn isnt = (comes_of_turn here l1 b1 item turn (λ kinds k. k) None (isnt, refl) (refl, refl) None refl).goes_on refl
