-- A new local is bound, and the body stands in the item's place.
use Rattle.std.proofs.Common.{◌≡◌, ℕ, ◌+◌, ◌<◌, [], length, refl, arith, ap, sym, ◌∙◌, subst, zero-add, Some, None}
use Rattle.tp_store.specs.Stock.{contents_in}
use Rattle.tp_scene.specs.Scene as S
use Rattle.tp_scene.specs.Pick.{scene_after}
use Rattle.tp_scene.specs.Step.{Reduction}
use Rattle.tp_decide.specs.declared.decision.Decision.TheVariants as decision
use Rattle.tp_decide.specs.Decided.{decided_outcome}
use Rattle.tp_decide.specs.ReadBound.{formula_of, env_of}
use Rattle.tp_slots.specs.Bound.{bound_last}
use Rattle.tp_slots.specs.Kept.{numbers_in}
use Rattle.tp_slots.specs.Read.{scene_of}
use Rattle.tp_step.specs.declared.answer.Tried.{Tried}
use Rattle.tp_step.specs.Answers.{moment_of}
use Rattle.tp_step.specs.Chosen.{Carries}
use Rattle.tp_step.proofs.CarryLemmas.{carried}
use Rattle.tp_step.proofs.carry.bind.Goals as goal

pub returns-clause-ok : goal.returns-clause-ok
returns-clause-ok c =
    let old = c.args.scene.now in
    let new = c.become_bound.new.scene in
    let k = contents_in c.args.store.now in
    let s = scene_of old in
    let name = c.args.local.0 in
    let lasting = c.args.local.1 in
    let body = c.args.local.2 in
    let make : ℕ → Reduction = λ n. record {
      news = S.leaf n (S.Do (formula_of body) (bound_last (env_of body) (length k.variables) lasting)) S.none;
      items = 1;
      regions = 0;
      local = Some (record { name = name; lasting = lasting });
      mark = None;
      facts = [];
    } in
    let is : scene_of new ≡ scene_after c.args.item (make (0 + s.next_item)) s =
    c.in_ok-items.ensures.scene ∙ ap (λ n. scene_after c.args.item (make n) s) (sym (zero-add s.next_item)) in
    let more : 0 < c.args.room = omega (arith, c.if-room-eq0.false) in
    let o = decided_outcome k.facts (numbers_in k old) (decision.Binds name lasting body) in
    subst (λ (a : Tried). Carries o c.args.room (moment_of old k) c.args.item (moment_of new (contents_in c.become_bound.new.store)) a) (sym c.reduced.ensures)
    (carried o c.args.room old new k (contents_in c.become_bound.new.store) c.args.item (make (0 + s.next_item)) _ more c.requires.lives refl is c.in_ok-items.ensures.local (record { items = c.in_ok-items.ensures.news; facts = refl; marked = refl }))
