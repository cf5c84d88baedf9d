-- The item that a step picks: where it stands, what it gives there, and what its edit makes of the root.
use Rattle.std.proofs.Common.{◌≡◌, ◌∙◌, ℕ, Bool, List, ap, subst}
use Rattle.tp_scene.specs.Scene.{Scene, Place, root_place}
use Rattle.tp_scene.specs.Step.{Reduction, PickOutcome, reduces}
use Rattle.tp_scene.specs.Pick.{Setting, Moment, Reduces, numbers_of}
use Rattle.tp_scene.specs.Laws.{IsSound}
use Rattle.tp_step_laws.specs.Edits.{head_after, edited, single, Thing, At, edit_of}
use Rattle.tp_step_laws.proofs.Bridge.{put_is_edit}
use Rattle.tp_step_laws.proofs.Where.{at_of, Picked, picked}

pub record PickedItem (w : Setting) (m : Moment) (t : ℕ) (s : Reduction) (next : Moment) : Type 0 where
  pub thing : Thing
  pub place : Place
  pub at : At t thing place m.scene.root.entries (root_place m.scene.root)
  pub gives : Picked w m.store.facts (numbers_of m.scene m.store.variables) thing place (reduces s)
  pub root_after : next.scene.root ≡ record {
    head = head_after (single t (edit_of thing (numbers_of m.scene m.store.variables) s)) m.scene.root.entries m.scene.root.head;
    entries = edited (single t (edit_of thing (numbers_of m.scene m.store.variables) s)) m.scene.root.entries;
  }

pub picked_item : (w : Setting) (kinds : List Bool) (m : Moment) (t : ℕ) (s : Reduction) (next : Moment) → IsSound w kinds m → Reduces w m t s next → PickedItem w m t s next
picked_item w kinds m t s next sound step =
    let es = m.scene.root.entries in
    let p = root_place m.scene.root in
    let n = numbers_of m.scene m.store.variables in
    let here = at_of m.scene.next_item t es p sound.moment.items step.lives in
    let put = put_is_edit w m.store.facts t n s es p here.0 here.1 here.2 step.outcome in
    record {
      thing = here.0;
      place = here.1;
      at = here.2;
      gives = subst (λ (o : PickOutcome). Picked w m.store.facts n here.0 here.1 o) step.outcome (picked w m.store.facts n t es here.0 here.1 p here.2);
      root_after = ap (λ (x : Scene). x.root) step.scene ∙ (λ j. record { head = put.1 m.scene.root.head j; entries = put.0 j });
    }
