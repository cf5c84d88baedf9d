-- Which numbers the machine's types have.
use Rattle.std.specs.Prelude.{FitsSigned}
use Rattle.tp_value.specs.Number.{number_width}
use Rattle.tp_value.specs.Tree.{Tree, Trees, num, truth, list, nil, cons}

-- each number in the value is one of the machine's
abbrev mutual
  pub HasMachineNumbers : Tree → Type 0
  HasMachineNumbers (num n) = FitsSigned number_width n
  HasMachineNumbers (truth b) = Unit {0}
  HasMachineNumbers (list ts) = HaveMachineNumbers ts

  pub HaveMachineNumbers : Trees → Type 0
  HaveMachineNumbers nil = Unit {0}
  HaveMachineNumbers (cons t ts) = HasMachineNumbers t × HaveMachineNumbers ts
