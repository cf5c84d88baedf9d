use Rattle.std.proofs.Common.{◌≡◌, ◌+◌, ◌-◌, ◌≤◌, ◌++◌, map, length, vec_len, vec_capacity}
use Rattle.tp_slots.specs.Row.{slots_in}
use Rattle.tp_slots.specs.News.{bare_leaves}
use Rattle.tp_slots.specs.Read.{slot_of}
use Rattle.tp_slots.specs.Threads.{links}
use Rattle.tp_slots.proofs.leaves.push_list.Given as goal

abbrev pub invariant-loop-leaf : goal.invariant-loop-leaf
invariant-loop-leaf l =
    (goal.iterator-loop-leaf).can_next l.leaf-iterator ×
    (goal.iterator-loop-leaf).is_finite l.leaf-iterator ×
    (map slot_of l.list.items ≡ map slot_of l.fn.list.items ++ slots_in l.home (bare_leaves l.yielded)) ×
    ((goal.iterator-loop-leaf).remaining l.leaf-iterator ≡ l.left) ×
    (l.left ≤ l.last) ×
    (map (λ x. x.after) l.list.items ++ links (l.last - l.left) l.left l.end ≡ map (λ x. x.after) l.fn.list.items ++ links l.first (length l.fn.leaves.items) l.end) ×
    (vec_len l.list + l.left ≤ vec_capacity l.list)
