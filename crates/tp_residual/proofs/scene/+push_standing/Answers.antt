use Rattle.std.proofs.Common.{◌≡◌, ◌<◌, ◌^◌, ◌+◌, ◌-◌, ◌++◌, ◌∙◌, ap, length, arith, rules}
use Rattle.std.specs.List.{range_with_len}
use Rattle.tp_slots.specs.Own.{own_in}
use Rattle.tp_slots.specs.Plain.{gone}
use Rattle.tp_slots.specs.Read.{slots_of, what_of}
use Rattle.tp_residual.proofs.Standing.{gone_own, gone_item, one_of_gone}
use Rattle.tp_residual.proofs.scene.+push_standing.Goals as goal

pub loop-i-init : goal.loop-i-init
loop-i-init t c =
    let s = c.args.scene.now in
    let out = c.args.out.now.items in
    let first = c.in-Gone.first in
    let count = c.in-Gone.count in
    let n : first + 0 ≡ first = omega arith in
    let m : count - 0 ≡ count = omega arith in
    let e : what_of c.index.result.now.what ≡ gone (range_with_len first count) = ap what_of c.in-Gone.is in
    ap (λ j. out ++ own_in (slots_of s) (range_with_len j (count - 0))) n
    ∙ (ap (λ j. out ++ own_in (slots_of s) (range_with_len first j)) m ∙ ap (λ ns. out ++ ns) (gone_own s c.requires.sound c.args.item c.index.result.now c.requires.item c.index.ensures first count e))

pub overflow_add-first : goal.overflow_add-first
overflow_add-first t c =
    let e : what_of c.index.result.now.what ≡ gone (range_with_len c.in-Gone.first c.in-Gone.count) = ap what_of c.in-Gone.is in
    let l = (gone_item c.args.scene.now c.requires.sound c.args.item c.index.result.now c.requires.item c.index.ensures c.in-Gone.first c.in-Gone.count c.loop-i.i e c.loop-i-test.true).1 in
    let n : length c.args.scene.now.slots.items < 2 ^ 64 = search rules in
    omega (arith, l, n)

pub push_standing-requires : goal.push_standing-requires
push_standing-requires t c =
    let e : what_of c.index.result.now.what ≡ gone (range_with_len c.in-Gone.first c.in-Gone.count) = ap what_of c.in-Gone.is in
    let x = gone_item c.args.scene.now c.requires.sound c.args.item c.index.result.now c.requires.item c.index.ensures c.in-Gone.first c.in-Gone.count c.loop-i.i e c.loop-i-test.true in
    let a = x.0 in
    let b = x.1 in
    let l = c.requires.item in
    (omega (arith, a, b, l), (c.requires.sound, x.1))

pub loop-i-preserved : goal.loop-i-preserved
loop-i-preserved t c =
    one_of_gone (slots_of c.args.scene.now) c.in-Gone.first c.in-Gone.count c.loop-i.i c.loop-i.out.items c.push_standing.new.out.items _ c.loop-i-test.true c.loop-i.invariant c.in_ok-push_standing-in-Gone.ensures
