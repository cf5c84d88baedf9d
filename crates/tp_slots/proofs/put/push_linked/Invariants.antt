use Rattle.std.proofs.Common.{◌≡◌, ◌-◌, ◌≤◌, ◌++◌, map, length}
use Rattle.tp_slots.specs.Row.{slots_in}
use Rattle.tp_slots.specs.Read.{slot_of, what_of}
use Rattle.tp_slots.specs.Threads.{links}
use Rattle.tp_slots.proofs.put.push_linked.Given as goal

abbrev pub invariant-loop-what : goal.invariant-loop-what
invariant-loop-what l =
    (goal.iterator-loop-what).can_next l.what-iterator ×
    (goal.iterator-loop-what).is_finite l.what-iterator ×
    (map slot_of l.list.items ≡ map slot_of l.fn.list.items ++ slots_in l.home (map what_of l.yielded)) ×
    ((goal.iterator-loop-what).remaining l.what-iterator ≡ l.left) ×
    (l.left ≤ l.last) ×
    (map (λ x. x.after) l.list.items ++ links (l.last - l.left) l.left l.end ≡ map (λ x. x.after) l.fn.list.items ++ links l.first (length l.fn.whats.items) l.end)
