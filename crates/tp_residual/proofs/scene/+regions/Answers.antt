use Rattle.std.proofs.Common.{◌≡◌, ◌<◌, ◌≤◌, ◌++◌, [], ◌∙◌, List, ℕ, length, get_or, drop, ap, sym, codes, arith, rules}
use Rattle.std.proofs.lemmas.Result.{on_ok_weaker}
use Rattle.std.proofs.lemmas.List.{append-nil}
use Rattle.std.proofs.Math.ListN.{drop_of_length-le}
use Rattle.tp_residual.specs.Seen.{item_spelling, items_spelling, region_spelling}
use Rattle.tp_residual.proofs.Standing.{own_item, only_place, no_place, as_spelled, none_written, one_written, several_written}
use Rattle.tp_residual.proofs.scene.+regions.Goals as goal

pub append_items-append_item-requires : goal.append_items-append_item-requires
append_items-append_item-requires t c =
    let l : 0 < length c.args.items.now = search rules in
    let x = own_item c.args.residue.now.scene.now c.args.region 0 c.args.items.now c.requires.sound c.requires.region c.requires.items l in
    let b = x.1 in
    let r = c.requires.region in
    (omega (arith, b, r), (c.requires.sound, x.0))

pub append_items-append_operand-requires : goal.append_items-append_operand-requires
append_items-append_operand-requires t c =
    let x = own_item c.args.residue.now.scene.now c.args.region c.loop-i.i c.args.items.now c.requires.sound c.requires.region c.requires.items c.loop-i-test.true in
    let b = x.1 in
    let r = c.requires.region in
    (omega (arith, b, r), (c.requires.sound, x.0))

pub append_items-returns-in-empty : goal.append_items-returns-in-empty
append_items-returns-in-empty t c =
    let x = c.args.residue.now in
    let e = none_written x c.args.region c.args.items.now c.requires.items (no_place c.args.items.now c.in-empty.len_below) in
    on_ok_weaker c.append.result (as_spelled c.args.out.now c.append.new.self (codes "true") (region_spelling x c.args.region) (sym e)) c.append.ensures.ok

pub append_items-returns-in-len1 : goal.append_items-returns-in-len1
append_items-returns-in-len1 t c =
    let x = c.args.residue.now in
    let ids = c.args.items.now in
    let e = one_written x c.args.region (get_or ids 0 0) ids c.requires.sound c.requires.region c.requires.items (only_place ids c.in-len1.len_at_least c.in-len1.len_below) in
    on_ok_weaker c.append_item.result (as_spelled c.args.out.now c.append_item.new.out (item_spelling x (get_or ids 0 0)) (region_spelling x c.args.region) e) c.append_item.ensures

pub append_items-returns-after-loop-i : goal.append_items-returns-after-loop-i
append_items-returns-after-loop-i t c =
    let x = c.args.residue.now in
    let ids = c.args.items.now in
    let l : length ids ≤ c.loop-i.i = search rules in
    let d : drop c.loop-i.i ids ≡ [] = drop_of_length-le ids l in
    let out = c.loop-i.out in
    let e = several_written x c.args.region ids c.requires.sound c.requires.region c.requires.items c.in_default.len_at_least in
    as_spelled c.args.out.now out (items_spelling x [] ids) (region_spelling x c.args.region) e
    (sym (append-nil out) ∙ (ap (λ (ns : List ℕ). out ++ items_spelling x c.loop-i.opening.now ns) (sym d) ∙ c.loop-i.invariant))
