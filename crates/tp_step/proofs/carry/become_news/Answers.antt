use Rattle.std.proofs.Common.{◌≡◌, ℕ, ◌+◌, ◌<◌, refl, arith, sym, ap₂, ◌∙◌, subst, length, zero-add, [], None}
use Rattle.std.proofs.lemmas.List.{length-map}
use Rattle.std.specs.Option.{option_map}
use Rattle.tp_scene.specs.Scene as S
use Rattle.tp_scene.specs.Pick.{scene_after}
use Rattle.tp_scene.specs.Step.{Reduction}
use Rattle.tp_decide.specs.declared.decision.Decision.TheVariants as decision
use Rattle.tp_decide.specs.Decided.{decided_outcome, mark_of, news_entries, plain_leaf}
use Rattle.tp_decide.specs.NewLeaves.{leaf_list}
use Rattle.tp_slots.specs.Kept.{numbers_in}
use Rattle.tp_slots.specs.Plain.{bare}
use Rattle.tp_slots.specs.Read.{scene_of}
use Rattle.tp_step.specs.declared.answer.Tried.{Tried}
use Rattle.tp_step.specs.Answers.{moment_of}
use Rattle.tp_step.specs.Chosen.{CarriesDecision}
use Rattle.tp_step.proofs.CarryLemmas.{carried, full, nothing_added, leaves_same, mark_there}
use Rattle.tp_step.proofs.carry.become_news.Goals as goal

pub returns-then-room-eq0-clause-ok : goal.returns-then-room-eq0-clause-ok
returns-then-room-eq0-clause-ok c k apart =
    let s = c.args.scene.now in
    full (decided_outcome k.facts (numbers_in k s) (decision.Becomes c.args.news c.args.mark)) c.args.room (moment_of s k) c.args.item _ c.if-room-eq0.true refl

pub returns-clause-ok : goal.returns-clause-ok
returns-clause-ok c =
    let old = c.args.scene.now in
    let new = c.become_leaves.new.scene in
    let s = scene_of old in
    let ls = leaf_list c.args.news in
    let m = option_map mark_of c.args.mark in
    let make : S.Entries → ℕ → Reduction = λ es n. record { news = es; items = n; regions = 0; local = None; mark = m; facts = [] } in
    let r = make (news_entries ls (λ i. i + s.next_item) 0) (length ls) in
    let more : 0 < c.args.room = omega (arith, c.if-room-eq0.false) in
    let d = decision.Becomes c.args.news c.args.mark in
    let is : scene_of new ≡ scene_after c.args.item r s =
    c.in_ok-items.ensures.scene ∙ ap₂ (λ es n. scene_after c.args.item (make es n) s) (leaves_same ls s.next_item 0 s.next_item (sym (zero-add s.next_item))) (length-map ls (λ l. bare (plain_leaf l))) in
    subst (λ (a : Tried). CarriesDecision d c.args.room old new c.args.item a) (sym c.reduced.ensures)
    (λ k apart. carried (decided_outcome k.facts (numbers_in k old) d) c.args.room old new k k c.args.item r _ more c.requires.lives refl is (nothing_added k apart)
    (record { items = c.in_ok-items.ensures.news; facts = refl; marked = c.if_marked.ensures ∙ mark_there mark_of c.args.mark c.home_of-home.ensures }))
