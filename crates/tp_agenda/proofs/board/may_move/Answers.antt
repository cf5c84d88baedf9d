-- A live item may move exactly where its slot says so.
use Rattle.std.proofs.Common.{◌<◌, length, ap, sym, ◌∙◌, rules}
use Rattle.tp_slots.specs.Plain.{entries_at}
use Rattle.tp_slots.specs.Read.{scene_of, slots_of}
use Rattle.tp_slots.proofs.Changing.{lives_within}
use Rattle.tp_slots.proofs.Showing.{all_shown}
use Rattle.tp_step.proofs.ChoiceLemmas.{what_read}
use Rattle.tp_agenda.specs.Ready.{what_moves}
use Rattle.tp_agenda.proofs.SlotMoves.{says_moving, gone_stays}
use Rattle.tp_agenda.proofs.board.may_move.Goals as goal

pub index-slot-requires : goal.index-slot-requires
index-slot-requires c =
    let l : c.args.item < length c.args.scene.now.slots.items = lives_within c.args.scene.now c.args.item c.requires.kept.shape.ordered (sym c.has_item.ensures ∙ c.if-has_item.true) in
    search rules

pub returns-then-has_item : goal.returns-then-has_item
returns-then-has_item c =
    let s = c.args.scene.now in
    let kept = c.requires.kept in
    let o = kept.shape.ordered in
    let lives = sym c.has_item.ensures ∙ c.if-has_item.true in
    c.what_moves.ensures ∙ ap what_moves (sym (what_read s c.args.item c.index-slot.result.now kept lives c.index-slot.ensures))
    ∙ says_moving (slots_of s) 0 c.args.item (entries_at (slots_of s) 0) (all_shown (slots_of s) o 0 o.root) lives

pub returns-else-has_item : goal.returns-else-has_item
returns-else-has_item c = sym (gone_stays c.args.item (scene_of c.args.scene.now).root.entries (sym c.has_item.ensures ∙ c.if-has_item.false))
