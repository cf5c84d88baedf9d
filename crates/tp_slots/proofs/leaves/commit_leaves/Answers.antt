-- The leaves stand in the item's place, and are visited where it was to be.
use Rattle.std.proofs.Common.{◌≡◌, ℕ, ◌+◌, ◌++◌, Option, None, map, length, ap, sym, ◌∙◌, arith, rules}
use Rattle.std.specs.List.{range_with_len}
use Rattle.std.specs.Option.{option_map}
use Rattle.std.specs.Vec.{with_items}
use Rattle.std.proofs.lemmas.List.{get_or-map, length-map, with_items_is}
use Rattle.tp_decide.specs.Decided.{mark_of, plain_leaf}
use Rattle.tp_decide.specs.NewLeaves.{leaf_list}
use Rattle.tp_decide.specs.declared.decision.Leaf.{Leaf}
use Rattle.tp_slots.specs.News.{bare_leaves}
use Rattle.tp_slots.specs.Plain as plain
use Rattle.tp_slots.specs.Read.{region_slot_of, slot_of, slots_of}
use Rattle.tp_slots.specs.Replace.{gone_at, home_in, marked_at}
use Rattle.tp_slots.specs.Row.{slots_in}
use Rattle.tp_slots.specs.Threads.{after_at, links}
use Rattle.tp_slots.specs.declared.scene.Slot.{Slot}
use Rattle.tp_slots.proofs.Placing.{leaves_stepped}
use Rattle.tp_slots.proofs.leaves.commit_leaves.Goals as goal

pub returns-clause-slots : goal.returns-clause-slots
returns-clause-slots c =
    let s = c.args.scene.now in
    let t = c.args.item in
    let mark = option_map mark_of c.args.side in
    let outs = bare_leaves (leaf_list c.args.leaves) in
    let old = c.as_mut_slice.ensures.value in
    let home = c.go-home.ensures.home ∙ ap (λ l. home_in (map slot_of l) t) old in
    let gone = c.go-home.ensures.slots ∙ ap (λ l. gone_at (map slot_of l) t (range_with_len c.len-first.result c.len-count.result)) old in
    let written = with_items_is s.slots c.go-home.new.list (let e : length c.go-home.new.list ≡ s.slots.len = search rules in e) in
    let items = c.push_leaves.ensures.slots ∙ (λ i. map slot_of (written i) ++ slots_in c.go-home.result outs) ∙ (λ i. gone i ++ slots_in (home i) outs) in
    let regions = with_items_is s.regions c.set_mark.new.list (let e : length c.set_mark.new.list ≡ s.regions.len = search rules in e) in
    let marked = ap (map region_slot_of) regions ∙ c.set_mark.ensures.slots ∙ (λ i. marked_at (map region_slot_of (c.as_mut_slice-2.ensures.value i)) (home i) mark) in
    let first : c.len-first.result ≡ length s.slots.items = search rules in
    let count : c.len-count.result ≡ length (leaf_list c.args.leaves) = search rules in
    leaves_stepped (slots_of s) t c.len-first.result c.len-count.result mark outs (map slot_of c.push_leaves.new.list.items) (map region_slot_of (with_items s.regions c.set_mark.new.list).items) items marked
    (first ∙ sym (length-map s.slots.items slot_of)) (count ∙ sym (length-map (leaf_list c.args.leaves) (λ (l : Leaf). plain.bare (plain_leaf l))))

pub returns-clause-afters : goal.returns-clause-afters
returns-clause-afters c =
    let s = c.args.scene.now in
    let t = c.args.item in
    let after : Slot → Option ℕ = λ x. x.after in
    let afters = map after s.slots.items in
    let written = with_items_is s.slots c.go-home.new.list (let e : length c.go-home.new.list ≡ s.slots.len = search rules in e) in
    let old = ap (map after) written ∙ c.go-home.ensures.afters ∙ ap (map after) c.as_mut_slice.ensures.value in
    let end : c.index.result.now.after ≡ after_at afters t = ap after c.index.ensures ∙ sym (get_or-map after s.slots.items t c.index.result.now None c.requires.item) in
    let count : c.len-first.result ≡ length s.slots.items = search rules in
    let all = length-map s.slots.items after in
    let first : c.len-first.result ≡ length afters + 0 = omega (arith, count, all) in
    c.push_leaves.ensures.afters ∙ (λ i. old i ++ links (first i) (length (leaf_list c.args.leaves)) (end i))
