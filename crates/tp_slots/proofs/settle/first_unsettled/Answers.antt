-- The items that aren't settled are those that wait, of the root.
use Rattle.std.proofs.Common.{ap, sym, ◌∙◌}
use Rattle.tp_slots.specs.Plain.{entries_at}
use Rattle.tp_slots.specs.Read.{holders_of, slots_of}
use Rattle.tp_slots.specs.Settled.{first_in}
use Rattle.tp_slots.proofs.Showing.{all_shown}
use Rattle.tp_slots.proofs.Settling.{unsettled_is}
use Rattle.tp_slots.proofs.settle.first_unsettled.Goals as goal

pub returns : goal.returns
returns c =
    let s = c.args.scene.now in
    let shape = c.requires.shape in
    c.first_inside.ensures ∙ sym (ap first_in (unsettled_is (slots_of s) (holders_of s) shape.ordered shape.held 0 (entries_at (slots_of s) 0) (all_shown (slots_of s) shape.ordered 0 shape.ordered.root)))
