-- Values whose lists are short.
use Rattle.std.specs.Prelude.{◌<◌, ◌^◌, length}
use Rattle.tp_value.specs.Tree.{Tree, Trees, num, truth, list, nil, cons, items_of}

-- each list has fewer than 2^32 items
abbrev mutual
  pub HasShortLists : Tree → Type 0
  HasShortLists (num n) = Unit {0}
  HasShortLists (truth b) = Unit {0}
  HasShortLists (list ts) = (length (items_of ts) < 2 ^ 32) × HaveShortLists ts

  pub HaveShortLists : Trees → Type 0
  HaveShortLists nil = Unit {0}
  HaveShortLists (cons t ts) = HasShortLists t × HaveShortLists ts
