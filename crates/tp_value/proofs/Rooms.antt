-- The room that a list's items leave, item by item.
use Rattle.std.proofs.Common.{◌≡◌, ℕ, ◌-◌, ◌<◌, Some, None, arith}
use Rattle.std.proofs.lemmas.Bool.Decides.{nat_tests}
use Rattle.tp_value.specs.Tree.{Tree, Trees, list, nil, cons}
use Rattle.tp_value.specs.Room.{room_left}

pub no_depth : (ts : Trees) (room : ℕ) → None ≡ room_left 0 room (list ts)
no_depth ts room = grind (arith, nat_tests)

pub no_room : (depth : ℕ) (t : Tree) (ts : Trees) → None ≡ room_left depth 0 (list (cons t ts))
no_room depth t ts = grind (arith, nat_tests)

pub no_items : (depth room : ℕ) → 0 < depth → Some room ≡ room_left depth room (list nil)
no_items depth room h = grind (arith, nat_tests)

pub too_much : (depth room : ℕ) (t : Tree) (ts : Trees) → 0 < depth → 0 < room → room_left (depth - 1) (room - 1) t ≡ None → None ≡ room_left depth room (list (cons t ts))
too_much depth room t ts h r e = grind (arith, nat_tests)

pub one_less : (depth room left : ℕ) (t : Tree) (ts : Trees) → 0 < depth → 0 < room → room_left (depth - 1) (room - 1) t ≡ Some left → room_left depth left (list ts) ≡ room_left depth room (list (cons t ts))
one_less depth room left t ts h r e = grind (arith, nat_tests)
