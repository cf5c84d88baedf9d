-- What the items before show.
use Rattle.std.proofs.Common.{◌≡◌, ◌<◌, ◌++◌, ◌∷◌, [], map, take, length, ap, sym, ◌∙◌, subst, rules}
use Rattle.std.proofs.lemmas.List.{append-nil, map-append, take_more}
use Rattle.std.proofs.Math.Seq.{take-length}
use Rattle.std.specs.List.{All}
use Rattle.tp_scene.specs.LiveItems.{live_items}
use Rattle.tp_decide.specs.Read.{shows_of, values_of}
use Rattle.tp_slots.specs.Plain.{entries_at, slot_at}
use Rattle.tp_slots.specs.Read.{slots_of, what_of}
use Rattle.tp_slots.specs.Settled.{shows_at, what_shows}
use Rattle.tp_slots.proofs.Showing.{all_shown}
use Rattle.tp_slots.specs.declared.scene.Slot.{Slot}
use Rattle.tp_slots.proofs.Settling.{nothing_shown, shows_append, shown_is}
use Rattle.tp_slots.proofs.values.shown.Goals as goal

pub loop-i-preserved : goal.loop-i-preserved
loop-i-preserved c =
    let s = slots_of c.args.scene.now in
    let x = c.index.result.now in
    let ids = c.in_ok-ids.ids.items in
    let l : c.loop-i.i < length ids = search rules in
    c.in_ok-add_shown_at.ensures
    ∙ (ap (λ xs. xs ++ what_shows (slot_at s x).what) c.loop-i.invariant
    ∙ (ap (λ xs. shows_at s (take c.loop-i.i ids) ++ xs) (sym (append-nil (what_shows (slot_at s x).what)))
    ∙ (sym (shows_append s (take c.loop-i.i ids) (x ∷ []))
    ∙ ap (shows_at s) (ap (λ y. take c.loop-i.i ids ++ y ∷ []) c.index.ensures ∙ sym (take_more ids c.loop-i.i x l)))))

pub returns-clause-ok : goal.returns-clause-ok
returns-clause-ok c =
    let s = slots_of c.args.scene.now in
    let ids = c.in_ok-ids.ids.items in
    let n : c.loop-i.i ≡ length ids = search rules in
    let all = ap (shows_at s) (ap (λ i. take i ids) n ∙ take-length ids) in
    ap (map values_of) c.in_ok-append.ensures.items
    ∙ (map-append values_of c.args.out.now.items.items c.loop-i.all.items
    ∙ ap (λ xs. map values_of c.args.out.now.items.items ++ xs)
    (c.loop-i.invariant ∙ (all ∙ (ap (shows_at s) c.in_ok-ids.ensures ∙ sym (shown_is s 0 (entries_at s 0) (all_shown s c.requires.shape.ordered 0 c.requires.shape.ordered.root))))))

pub returns-then-not-shows_any-clause-ok : goal.returns-then-not-shows_any-clause-ok
returns-then-not-shows_any-clause-ok c =
    let s = slots_of c.args.scene.now in
    let none = subst (All (λ (x : Slot). what_shows (what_of x.what) ≡ [])) c.as_slice.ensures.value (c.shows_any.ensures c.if-not-shows_any.true) in
    sym (ap (λ xs. shows_of c.args.out.now ++ xs)
    (shown_is s 0 (entries_at s 0) (all_shown s c.requires.shape.ordered 0 c.requires.shape.ordered.root) ∙ nothing_shown c.args.scene.now none (live_items (entries_at s 0)))
    ∙ append-nil (shows_of c.args.out.now))
