-- The slot is linked to the one after it.
use Rattle.std.proofs.Common.{◌≡◌, ℕ, ◌-◌, Option, ◌∷◌, ◌++◌, [], map, ap, ◌∙◌}
use Rattle.std.proofs.lemmas.List.{map-append, append_assoc}
use Rattle.tp_slots.specs.Read.{slot_of}
use Rattle.tp_slots.specs.Threads.{links}
use Rattle.tp_slots.specs.declared.scene.Slot.{Slot}
use Rattle.tp_slots.proofs.Threading.{links_more}
use Rattle.tp_slots.proofs.leaves.push_link.Goals.{then-behind-eq0, else-behind-eq0}
use Rattle.tp_slots.proofs.leaves.push_link.Goals as goal

pub returns-clause-slots : goal.returns-clause-slots
returns-clause-slots c =
    let x : Slot = record { home = c.args.home; after = c.if-behind-eq0.after; what = c.args.what } in
    ap (map slot_of) c.in_ok-push.ensures.items ∙ map-append slot_of c.args.list.now.items (x ∷ [])

pub returns-clause-afters : goal.returns-clause-afters
returns-clause-afters c =
    let after : Slot → Option ℕ = λ x. x.after in
    let last = c.args.last in
    let left = c.args.left in
    let x : Slot = record { home = c.args.home; after = c.if-behind-eq0.after; what = c.args.what } in
    let linked = links_more last left c.args.end c.if-behind-eq0.after c.requires.some c.requires.within in
    let more : c.if-behind-eq0.after ∷ links (last - (left - 1)) (left - 1) c.args.end ≡ links (last - left) left c.args.end = elim c.if-behind-eq0.branch [
      | then-behind-eq0 w ↦ linked (λ z. w.after-is) (λ no. absurd (no w.if-behind-eq0.true))
      | else-behind-eq0 w ↦ linked (λ z. absurd (w.if-behind-eq0.false z)) (λ no. w.after-is)
    ] in
    ap (λ l. map after l ++ links (last - (left - 1)) (left - 1) c.args.end) c.in_ok-push.ensures.items
    ∙ (ap (λ l. l ++ links (last - (left - 1)) (left - 1) c.args.end) (map-append after c.args.list.now.items (x ∷ []))
    ∙ (append_assoc (map after c.args.list.now.items) (after x ∷ []) (links (last - (left - 1)) (left - 1) c.args.end)
    ∙ ap (λ l. map after c.args.list.now.items ++ l) more))
