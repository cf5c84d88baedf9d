-- Nothing is visited after the new item either.
use Rattle.std.proofs.Common.{◌≡◌, List, None, map, get_or, refl, sym, subst}
use Rattle.tp_slots.specs.declared.scene.Slot.{Slot}
use Rattle.tp_step.proofs.Unlinked.{unlinked_push}
use Rattle.tp_step.proofs.next_scene.push_item.Goals as goal

pub returns-clause-unlinked : goal.returns-clause-unlinked
returns-clause-unlinked c h t =
    let new : Slot = record { home = c.args.home; after = None; what = c.args.what } in
    subst (λ (l : List Slot). get_or (map (λ (x : Slot). x.after) l) t None ≡ None) (sym c.in_ok-push.ensures.items) (unlinked_push c.args.scene.now.slots.items new refl h t)
