-- The items in an item's place are put on the stack.
use Rattle.std.proofs.Common.{◌<◌, ◌^◌, ◌++◌, length, ap, inl, inr, arith, rules}
use Rattle.std.proofs.lemmas.Bool.{cases_lt}
use Rattle.std.specs.List.{range_with_len}
use Rattle.tp_slots.specs.Read.{what_of}
use Rattle.tp_slots.proofs.WalkLemmas.{gone_within}
use Rattle.tp_step.proofs.Listing.{gone_listed}
use Rattle.tp_step.proofs.own.list_what.Goals as goal

pub returns-in_ok-push_numbers-in-Gone-clause-listed : goal.returns-in_ok-push_numbers-in-Gone-clause-listed
returns-in_ok-push_numbers-in-Gone-clause-listed c =
    ap (λ ns. c.args.out.now.items ++ ns)
    (gone_listed c.args.scene.now c.args.item (range_with_len c.in-Gone.first c.in-Gone.count) (what_of c.args.what.now) c.args.stack.now.items c.push_numbers.new.stack.items c.requires.sound c.requires.within c.requires.slot (ap what_of c.in-Gone.is) c.requires.items
    c.in_ok-push_numbers-in-Gone.ensures).0

pub returns-in_ok-push_numbers-in-Gone-clause-items : goal.returns-in_ok-push_numbers-in-Gone-clause-items
returns-in_ok-push_numbers-in-Gone-clause-items c =
    (gone_listed c.args.scene.now c.args.item (range_with_len c.in-Gone.first c.in-Gone.count) (what_of c.args.what.now) c.args.stack.now.items c.push_numbers.new.stack.items c.requires.sound c.requires.within c.requires.slot (ap what_of c.in-Gone.is) c.requires.items
    c.in_ok-push_numbers-in-Gone.ensures).1

pub returns-in_ok-push_numbers-in-Gone-clause-cost : goal.returns-in_ok-push_numbers-in-Gone-clause-cost
returns-in_ok-push_numbers-in-Gone-clause-cost c =
    (gone_listed c.args.scene.now c.args.item (range_with_len c.in-Gone.first c.in-Gone.count) (what_of c.args.what.now) c.args.stack.now.items c.push_numbers.new.stack.items c.requires.sound c.requires.within c.requires.slot (ap what_of c.in-Gone.is) c.requires.items
    c.in_ok-push_numbers-in-Gone.ensures).2

pub push_numbers-requires : goal.push_numbers-requires
push_numbers-requires c =
    let small : length c.args.scene.now.slots.items < 2 ^ 63 = search rules in
    let fits : c.in-Gone.first < 2 ^ 64 = search rules in
    elim (cases_lt 0 c.in-Gone.count) [
      | inl l ↦ (let a = gone_within c.args.scene.now c.args.item c.in-Gone.first c.in-Gone.count (what_of c.args.what.now) c.requires.sound c.requires.within c.requires.slot (ap what_of c.in-Gone.is) l in omega (arith, a, small))
      | inr l ↦ omega (arith, l, fits)
    ]
