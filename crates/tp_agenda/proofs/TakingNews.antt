-- What a step brought is taken in, and what a try recorded.
use Rattle.std.proofs.Common.{◌≡◌, ℕ, ◌||◌, ◌&&◌, Bool, List, Option, Some, None, refl, ap, sym, ◌∙◌, subst, inl}
use Rattle.std.specs.List.{list_any}
use Rattle.std.specs.Option.{is_some, option_map}
use Rattle.tp_scene.specs.declared.answer.Cell.{Cell}
use Rattle.tp_scene.specs.Step.{Reduction}
use Rattle.tp_scene.specs.Pick.{Setting, Moment, Reduces}
use Rattle.tp_scene.specs.Laws.{IsSound}
use Rattle.tp_slots.specs.News.{new_items}
use Rattle.tp_step.specs.Answers.{AreNews}
use Rattle.tp_step.specs.declared.answer.News.{News}
use Rattle.tp_step.specs.declared.tally.Wait.{Wait}
use Rattle.tp_agenda.specs.declared.board.Board.{Board}
use Rattle.tp_agenda.specs.Board.{TakesNews, moving_among, news_decide}
use Rattle.tp_agenda.specs.Decides.{fact_decides, ends_decide}
use Rattle.tp_agenda.specs.Held.{IsAmong, IsHeld, IsTakenUp, nothing_due}
use Rattle.tp_agenda.specs.Leaves.{step_decides, AreNewAndMove}
use Rattle.tp_agenda.specs.Marks.{has_known_end}
use Rattle.tp_agenda.specs.Ready.{may_move}
use Rattle.tp_agenda.proofs.Adding.{filtered, passes_filter}
use Rattle.tp_agenda.proofs.Held.{among, contains, steps_keep_held, waking_keeps_held}
use Rattle.tp_agenda.proofs.Leaving.{steps_leave_others, steps_decide}

is_some_map : {A B : Type 0} (f : A → B) (o : Option A) → is_some (option_map f o) ≡ is_some o
is_some_map f None = refl
is_some_map f (Some x) = refl

module _ (w : Setting) (kinds : List Bool) (m next : Moment) (t : ℕ) (r : Reduction) (news : News) (sound : IsSound w kinds m) (reduces : Reduces w m t r next) (are : AreNews m.scene t r next.scene news) where
  same_decides : (c : Cell) → news_decide news next.scene c ≡ step_decides r next c
  same_decides c =
      let ends = ends_decide (has_known_end next.scene) c in
      ap (λ fs. list_any (λ f. fact_decides f c) fs || (is_some news.marked && ends)) are.facts
      ∙ ap (λ b. list_any (λ f. fact_decides f c) r.facts || (b && ends)) (ap is_some are.marked ∙ is_some_map _ r.mark)

  are_new : AreNewAndMove m next (moving_among next.scene.root.entries news.items)
  are_new u =
      let moves : ℕ → Bool = λ k. may_move k next.scene.root.entries in (
        λ a. (let h = filtered moves news.items u a in (contains (new_items m.scene next.scene) u (subst (λ xs. IsAmong xs u) are.items h.0), h.1)),
        λ k. passes_filter moves news.items u (subst (λ xs. IsAmong xs u) (sym are.items) (among (new_items m.scene next.scene) u k.0)) k.1,
      )

  pub news_held : (ws : List Wait) (rs : List ℕ) (old new : Board) → IsTakenUp w m ws rs old.over.items old.ready t → TakesNews next.scene news ws old new
      → IsHeld w next ws rs new.over.items new.ready nothing_due
  news_held ws rs old new taken takes =
      let items = moving_among next.scene.root.entries news.items in
      let leaves = steps_leave_others w kinds m t r next items sound reduces are_new in
      let h = steps_keep_held w m next ws rs old.over.items old.ready takes.between t items (step_decides r next) taken leaves takes.adds in
      waking_keeps_held w next ws rs old.over.items takes.between new.ready new.over.items (news_decide news next.scene) (step_decides r next) nothing_due h takes.only takes.all
      (λ c e. steps_decide w kinds m t r next c sound reduces (sym (same_decides c) ∙ e)) (λ c e. inl (same_decides c ∙ e))
