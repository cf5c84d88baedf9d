-- Each slot is of that region.
use Rattle.std.proofs.Common.{ℕ, Option, None, length, ◌∷◌, ◌++◌, [], map, ap, sym, ◌∙◌}
use Rattle.std.proofs.lemmas.List.{map-append, append_assoc, length-append}
use Rattle.tp_slots.specs.Row.{slots_in}
use Rattle.tp_slots.specs.Read.{slot_of, what_of}
use Rattle.tp_slots.specs.declared.scene.Slot.{Slot}
use Rattle.tp_slots.specs.Threads.{nothing_after}
use Rattle.tp_slots.proofs.Lists.{slots_then}
use Rattle.tp_slots.proofs.Threading.{nothing_more}
use Rattle.tp_slots.proofs.put.push_in.Goals as goal

abbrev after : Slot → Option ℕ
after x = x.after

pub loop-what-preserved : goal.loop-what-preserved
loop-what-preserved c =
    let x : Slot = record { home = c.args.home; after = None; what = c.in-Some.what } in
    let before = map what_of c.loop-what.yielded in (
      tt,
      tt,
      slots_then c.args.home (map slot_of c.args.list.now.items) (map slot_of c.loop-what.list.items) (map slot_of c.push.new.self.items) before (what_of c.in-Some.what)
          (ap (map slot_of) c.in_ok-push.ensures.items ∙ map-append slot_of c.loop-what.list.items (x ∷ [])) c.loop-what.invariant.2
          ∙ ap (λ l. map slot_of c.args.list.now.items ++ slots_in c.args.home l) (sym (map-append what_of c.loop-what.yielded (c.in-Some.what ∷ []))),
      ap (map after) c.in_ok-push.ensures.items
          ∙ (map-append after c.loop-what.list.items (x ∷ [])
          ∙ (ap (λ l. l ++ None ∷ []) c.loop-what.invariant.3
          ∙ (append_assoc (map after c.args.list.now.items) (nothing_after (length c.loop-what.yielded)) (None ∷ [])
          ∙ ap (λ l. map after c.args.list.now.items ++ l) (sym (nothing_more (length c.loop-what.yielded)) ∙ ap nothing_after (sym (length-append c.loop-what.yielded (c.in-Some.what ∷ []))))))),
    )
