-- Each leaf stands as it is, linked to the one after it.
use Rattle.std.proofs.Common.{◌∷◌, ◌++◌, [], map, ap, sym, ◌∙◌, arith, rules}
use Rattle.std.proofs.lemmas.List.{map-append}
use Rattle.tp_decide.specs.Decided.{plain_leaf}
use Rattle.tp_decide.specs.declared.decision.Leaf.{Leaf}
use Rattle.tp_slots.specs.News.{bare_leaves}
use Rattle.tp_slots.specs.Plain as plain
use Rattle.tp_slots.specs.Row.{slots_in}
use Rattle.tp_slots.specs.Read.{slot_of}
use Rattle.tp_slots.proofs.Lists.{slots_then}
use Rattle.tp_slots.proofs.leaves.push_list.Goals as goal

pub loop-leaf-preserved : goal.loop-leaf-preserved
loop-leaf-preserved c =
    let home = c.args.home in
    let before = bare_leaves c.loop-leaf.yielded in
    let i = c.loop-leaf.invariant in
    let small = i.4 in
    let w = plain.bare (plain_leaf c.in-Some.leaf) in (
      tt,
      tt,
      slots_then home (map slot_of c.args.list.now.items) (map slot_of c.loop-leaf.list.items) (map slot_of c.push_leaf.new.list.items) before w
          c.push_leaf.ensures.slots i.2
          ∙ ap (λ l. map slot_of c.args.list.now.items ++ slots_in home l) (sym (map-append (λ (l : Leaf). plain.bare (plain_leaf l)) c.loop-leaf.yielded (c.in-Some.leaf ∷ []))),
      search rules,
      omega (arith, small),
      c.push_leaf.ensures.afters ∙ i.5,
      search rules,
    )
