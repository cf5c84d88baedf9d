-- The intervals of a program, and those that satisfy it.
use Rattle.std.specs.Prelude.{◌≡◌, ℕ, ◌+◌, ◌≤◌, Bool, List, [], slice_get, Some, map, true}
use Rattle.tp_value.specs.Globals.{is_lower}
use Rattle.tp_meaning.specs.Syntax.{FormulaTree, Definition}
use Rattle.tp_meaning.specs.Course.{Course, Shows}
use Rattle.tp_meaning.specs.Inputs.{InputTable}
use Rattle.tp_meaning.specs.Holds.{Holds}

-- a program: its definitions, its main formula, and the names of its global variables, of which the
-- i-th, from 0, is that of variable number i
pub record ProgramTree : Type 0 where
  pub defs : List Definition
  pub main : FormulaTree
  pub globals : List (List ℕ)

-- for each variable number whether that variable is static
abbrev pub kinds_of : List (List ℕ) → List Bool
kinds_of = map is_lower

-- the states have the numbers n, n + 1, .. in order
abbrev pub IsNumberedFrom : ℕ → Course → ℕ → ℕ → Type 0
IsNumberedFrom n s a b = (j : ℕ) → j + a ≤ b → (s (j + a)).own ≡ j + n

-- each static variable keeps one value
abbrev pub KeepsLasting : List Bool → Course → ℕ → ℕ → Type 0
KeepsLasting kinds s a b =
    (x : ℕ) → slice_get kinds x ≡ Some true → (i j : ℕ) → a ≤ i → i ≤ b → a ≤ j → j ≤ b
    → (s i).values x ≡ (s j).values x

-- An interval with these variables, whose first state has the number n and the others the numbers
-- after it.
pub record IsIntervalFrom (n : ℕ) (kinds : List Bool) (s : Course) (a b : ℕ) : Type 0 where
  pub nonempty : a ≤ b
  pub numbered : IsNumberedFrom n s a b
  pub lasting : KeepsLasting kinds s a b

-- An interval of the program has the state numbers 0, 1, .. and the globals as its variables.
abbrev pub IsInterval : ProgramTree → Course → ℕ → ℕ → Type 0
IsInterval p = IsIntervalFrom 0 (kinds_of p.globals)

-- The interval from a to b satisfies the program and shows S: it is one of the program, and the
-- main formula holds on it at some depth, with no bindings.
abbrev pub Satisfies : ProgramTree → InputTable → Course → ℕ → ℕ → Shows → Type 0
Satisfies p inputs s a b S =
    IsInterval p s a b × ((d : ℕ)
    × Holds (record { defs = p.defs; inputs = inputs }) d p.main [] s a b S)
