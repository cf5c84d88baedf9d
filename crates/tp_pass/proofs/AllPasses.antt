-- A closure, pass after pass.
use Rattle.std.proofs.Common.{◌≡◌, ℕ, Bool, List, Option, Some, None, subst}
use Rattle.tp_scene.specs.Pick.{Setting, Moment}
use Rattle.tp_scene.specs.Laws.{IsSound}
use Rattle.tp_step.specs.declared.ending.Ending.{Ending}
use Rattle.tp_step.specs.declared.ending.Ending.TheVariants.{Rest}
use Rattle.tp_step.specs.declared.order.Order.{Order}
use Rattle.tp_step.specs.Closes.{ClosureAnswers, ClosureEnds, LedByPicks}
use Rattle.tp_step.specs.EveryRest.{ClosureCommutes}
use Rattle.tp_step.specs.Room.{ClosureKeepsRoom}
use Rattle.tp_step.proofs.Picks.{made_none, made_on}
use Rattle.tp_step.proofs.EveryRest.{closures_commute}
use Rattle.tp_step.proofs.Room.{closures_keep_room}
use Rattle.tp_pass.specs.Follows.{FollowsOrder}
use Rattle.tp_pass.specs.Passes.{MakesPass}
use Rattle.tp_pass.proofs.Following.{PassesSoFar, passes_begin, passes_go_on, closure_ends, closure_rests}

-- What was made so far, and by which passes.
pub record IsClosing (w : Setting) (m here : Moment) (order between : Order) (l0 l1 : ℕ) (b0 b1 : List ℕ) : Type 0 where
  pub made : LedByPicks w m here l0 l1 b0 b1
  pub passes : PassesSoFar w m here order between l0 l1 b0 b1
  pub sound : (kinds : List Bool) → IsSound w kinds m → IsSound w kinds here

pub closure_begins : (w : Setting) (m : Moment) (order : Order) (left : ℕ) (before : List ℕ) → IsClosing w m m order order left left before before
closure_begins w m order left before = record { made = made_none w m left before; passes = passes_begin w m order left before; sound = λ kinds k. k }

-- All that a closure promises that ends so.
pub record ClosesByPasses (w : Setting) (by : Order) (most : ℕ) (m last : Moment) (before after : List ℕ) (ending : Ending) : Type 0 where
  pub sound : (kinds : List Bool) → IsSound w kinds m → IsSound w kinds last
  pub closes : ClosureAnswers w most m last before after ending
  pub order : FollowsOrder w by most m last before after ending
  pub commutes : ClosureCommutes w most m last before after ending
  pub room : ClosureKeepsRoom w most last before after ending

module _ (w : Setting) (m here next : Moment) (order between after : Order) (l0 l1 l2 : ℕ) (b0 b1 b2 : List ℕ) (h : IsClosing w m here order between l0 l1 b0 b1)
    (ended : Option Ending) (pass : MakesPass w here next between after l1 l2 b1 b2 ended) where
  pub closure_goes_on : ended ≡ None → (l2 ≡ l1 → ⊥) → IsClosing w m next order after l0 l2 b0 b2
  closure_goes_on is some =
      let one : MakesPass w here next between after l1 l2 b1 b2 None = subst (λ e. MakesPass w here next between after l1 l2 b1 b2 e) is pass in
      record {
        made = made_on w m here next l0 l1 l2 b0 b1 b2 h.made one.passes.0;
        passes = passes_go_on w m here next order between after l0 l1 l2 b0 b1 b2 h.passes one.turns some;
        sound = λ kinds k. one.sound kinds (h.sound kinds k);
      }

  module _ (kinds : List Bool) (sound : IsSound w kinds m) where
    closes_so : (ending : Ending) → LedByPicks w here next l1 l2 b1 b2 → ClosureEnds w l2 next ending → FollowsOrder w order l0 m next b0 b2 ending → ClosesByPasses w order l0 m next b0 b2 ending
    closes_so ending made ends follows =
        let sound_then : (ks : List Bool) → IsSound w ks m → IsSound w ks next = λ ks k. pass.sound ks (h.sound ks k) in
        let closes : ClosureAnswers w l0 m next b0 b2 ending = record { left = l2; made = made_on w m here next l0 l1 l2 b0 b1 b2 h.made made; ends = ends } in
        record {
          sound = sound_then;
          closes = closes;
          order = follows;
          commutes = closures_commute w l0 m next b0 b2 ending closes;
          room = closures_keep_room w kinds l0 m next b0 b2 ending (sound_then kinds sound) closes;
        }

    pub closed_at_rest : ended ≡ None → l2 ≡ l1 → ClosesByPasses w order l0 m next b0 b2 Rest
    closed_at_rest is same =
        let one : MakesPass w here next between after l1 l2 b1 b2 None = subst (λ e. MakesPass w here next between after l1 l2 b1 b2 e) is pass in
        closes_so Rest one.passes.0 (one.passes.1 same) (closure_rests w m here next order between after l0 l1 l2 b0 b1 b2 h.passes one.turns same)

    pub closed_with : (ending : Ending) → ended ≡ Some ending → ClosesByPasses w order l0 m next b0 b2 ending
    closed_with ending is =
        let one : MakesPass w here next between after l1 l2 b1 b2 (Some ending) = subst (λ e. MakesPass w here next between after l1 l2 b1 b2 e) is pass in
        closes_so ending one.passes.0 one.passes.1 (closure_ends w m here next order between after l0 l1 l2 b0 b1 b2 ending h.passes one.turns)
