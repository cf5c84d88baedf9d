-- The length is set and the items stand in the item's place, or neither.
use Rattle.std.proofs.Common.{◌≡◌, ℕ, ◌+◌, ◌<◌, [], ◌∷◌, length, refl, arith, ap, ap₂, sym, ◌∙◌, subst, zero-add, None}
use Rattle.std.proofs.lemmas.List.{length-map}
use Rattle.std.specs.Prelude.{IfOk}
use Rattle.tp_value.specs.declared.value.Shape.TheVariants.{Items}
use Rattle.tp_store.specs.Facts.{fact}
use Rattle.tp_store.specs.Known.{addition}
use Rattle.tp_store.specs.Stock.{contents_in}
use Rattle.tp_scene.specs.Scene as S
use Rattle.tp_scene.specs.Pick.{scene_after}
use Rattle.tp_scene.specs.Step.{Reduction}
use Rattle.tp_decide.specs.Decided.{adding_items, news_entries, plain_leaf}
use Rattle.tp_slots.specs.Plain.{bare}
use Rattle.tp_slots.specs.Read.{scene_of}
use Rattle.tp_step.specs.Answers.{moment_of}
use Rattle.tp_step.specs.Chosen.{Carries}
use Rattle.tp_step.proofs.CarryLemmas.{allowed, carried, leaves_same}
use Rattle.tp_step.proofs.carry.share_length.Goals as goal

pub returns-in-Ok-clause-ok : goal.returns-in-Ok-clause-ok
returns-in-Ok-clause-ok c =
    let old = c.args.scene.now in
    let new = c.become_sharing.new.scene in
    let k = contents_in c.args.store.now in
    let s = scene_of old in
    let ls = c.args.shared.2.items in
    let entries = news_entries ls (λ i. i + s.next_item) 0 in
    let made = c.in-Ok.ensures in
    let make : S.Entries → ℕ → Reduction = λ es n. record { news = es; items = n; regions = 0; local = None; mark = None; facts = c.in-Ok.new } in
    let r = make entries (length ls) in
    let o = addition k.facts (fact c.args.shared.0 (Items c.args.shared.1) ∷ []) in
    let is : scene_of new ≡ scene_after c.args.item r s = made.scene ∙ ap₂ (λ es n. scene_after c.args.item (make es n) s) (leaves_same ls s.next_item 0 s.next_item (sym (zero-add s.next_item))) (length-map ls (λ l. bare (plain_leaf l))) in
    let more : 0 < c.args.room = omega (arith, c.if-room-eq0.false) in
    carried (adding_items entries (length ls) o) c.args.room old new k (contents_in c.become_sharing.new.store) c.args.item r _ more c.requires.lives (ap (adding_items entries (length ls)) made.facts) is made.added
    (record { items = made.news; facts = c.listed.ensures; marked = refl })

pub returns-then-room-eq0-clause-ok : goal.returns-then-room-eq0-clause-ok
returns-then-room-eq0-clause-ok c =
    let m = moment_of c.args.scene.now (contents_in c.args.store.now) in
    let ls = c.args.shared.2.items in
    let entries = news_entries ls (λ i. i + (scene_of c.args.scene.now).next_item) 0 in
    let o = addition c.args.store.now.facts (fact c.args.shared.0 (Items c.args.shared.1) ∷ []) in
    let P : ℕ → Type 0 = λ n. IfOk c.full_or_refused.result (Carries (adding_items entries (length ls) o) n m c.args.item m) in
    subst P (sym c.if-room-eq0.true) (c.full_or_refused.ensures entries (length ls) o m c.args.item (allowed o c.check_length.result c.check_length.ensures.ok c.check_length.ensures.refused))
