-- Each slot is of that region, and linked to the one after it.
use Rattle.std.proofs.Common.{◌∷◌, ◌++◌, [], map, ap, sym, ◌∙◌, arith, rules}
use Rattle.std.proofs.lemmas.List.{map-append}
use Rattle.tp_slots.specs.Row.{slots_in}
use Rattle.tp_slots.specs.Read.{slot_of, what_of}
use Rattle.tp_slots.proofs.Lists.{slots_then}
use Rattle.tp_slots.proofs.put.push_linked.Goals as goal

pub loop-what-preserved : goal.loop-what-preserved
loop-what-preserved c =
    let before = map what_of c.loop-what.yielded in
    let i = c.loop-what.invariant in
    let small = i.4 in (
      tt,
      tt,
      slots_then c.args.home (map slot_of c.args.list.now.items) (map slot_of c.loop-what.list.items) (map slot_of c.push_link.new.list.items) before (what_of c.in-Some.what) c.in_ok-push_link.ensures.slots i.2
          ∙ ap (λ l. map slot_of c.args.list.now.items ++ slots_in c.args.home l) (sym (map-append what_of c.loop-what.yielded (c.in-Some.what ∷ []))),
      search rules,
      omega (arith, small),
      c.in_ok-push_link.ensures.afters ∙ i.5,
    )
