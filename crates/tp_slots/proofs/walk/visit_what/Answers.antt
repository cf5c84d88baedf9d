-- The items in an item's place are to be visited.
use Rattle.std.proofs.Common.{◌++◌, ap, rules}
use Rattle.std.specs.List.{range_with_len}
use Rattle.tp_slots.specs.Read.{what_of}
use Rattle.tp_slots.proofs.CostLemmas.{gone_less}
use Rattle.tp_slots.proofs.WalkLemmas.{gone_fits, gone_told}
use Rattle.tp_slots.proofs.walk.visit_what.Goals as goal

pub returns-in_ok-push_range-in-Gone : goal.returns-in_ok-push_range-in-Gone
returns-in_ok-push_range-in-Gone c =
    let by = range_with_len c.in-Gone.first c.in-Gone.count in
    let is = ap what_of c.in-Gone.is in
    let told = gone_told c.args.scene.now c.args.item by (what_of c.args.what.now) c.args.stack.now.items c.push_range.new.stack.items c.requires.sound c.requires.within c.requires.slot is c.requires.tasks c.in_ok-push_range-in-Gone.ensures in
    record {
      cost = gone_less c.args.scene.now c.args.item by (what_of c.args.what.now) c.args.stack.now.items c.push_range.new.stack.items c.requires.sound c.requires.within c.requires.slot is c.in_ok-push_range-in-Gone.ensures;
      told = ap (λ ns. c.args.out.now.items ++ ns) told.0;
      tasks = told.1;
    }

pub push_range-requires : goal.push_range-requires
push_range-requires c = gone_fits c.args.scene.now c.args.item c.in-Gone.first c.in-Gone.count (what_of c.args.what.now) c.requires.sound c.requires.within c.requires.slot (ap what_of c.in-Gone.is) (search rules) (search rules)
