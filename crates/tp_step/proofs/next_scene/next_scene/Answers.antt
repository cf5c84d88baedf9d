-- What is due of the root is the next state's scene.
use Rattle.std.proofs.Common.{List, map, get_or, None, refl, ap, ◌∙◌}
use Rattle.tp_scene.specs.Advance.{due}
use Rattle.tp_slots.specs.Plain.{entries_at}
use Rattle.tp_slots.specs.Read.{slots_of, holders_of, ends_of, goes_of, scene_of}
use Rattle.tp_slots.specs.Flags.{flags_in}
use Rattle.tp_slots.specs.declared.scene.Scene.{Scene}
use Rattle.tp_slots.specs.declared.scene.Slot.{Slot}
use Rattle.tp_slots.specs.declared.looks.Looks.{Looks}
use Rattle.tp_slots.proofs.Looking.{nothing_found}
use Rattle.tp_slots.proofs.Showing.{all_shown}
use Rattle.tp_step.proofs.NextUnmarked.{due_unmarked}
use Rattle.tp_step.proofs.NextKept.{next_kept, next_scene}
use Rattle.tp_step.proofs.next_scene.next_scene.Goals as goal

pub returns : goal.returns
returns c =
    let s = c.args.scene in
    let k = c.requires in
    let z = slots_of s in
    let shown = all_shown z k.shape.ordered 0 k.shape.ordered.root in
    let unmarked = due_unmarked z (holders_of s) k.shape.ordered k.shape.held (flags_in (ends_of s)) (flags_in (goes_of s)) k.ending k.going k.quiet_ends k.quiet_goes 0 (entries_at z 0) shown in
    let next = c.carry_second.new.new in
    let first : Scene = record { slots = c.new.result; regions = c.new-2.result; looks = c.in_ok-looks.looks } in
    record {
      scene = next_scene (due (entries_at z 0)) unmarked first next c.new.ensures.items c.new-2.ensures.items c.in_ok-carry_second.ensures.added (scene_of s) refl;
      kept = next_kept (due (entries_at z 0)) unmarked first next c.new.ensures.items c.new-2.ensures.items c.in_ok-carry_second.ensures.added
          (nothing_found (slots_of next) (holders_of next) next.looks (ap (λ (k : Looks). k.depths.items) c.in_ok-carry_second.ensures.looks ∙ c.in_ok-looks.ensures.depths) (ap (λ (k : Looks). k.not_ending) c.in_ok-carry_second.ensures.looks ∙ c.in_ok-looks.ensures.not_ending)
          (ap (λ (k : Looks). k.not_going) c.in_ok-carry_second.ensures.looks ∙ c.in_ok-looks.ensures.not_going))
          (c.in_ok-carry_second.ensures.unlinked (λ t. ap (λ (l : List Slot). get_or (map (λ (x : Slot). x.after) l) t None) c.new.ensures.items));
    }
