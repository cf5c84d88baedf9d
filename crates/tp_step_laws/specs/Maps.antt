-- One-to-one maps of the numbers of items, regions and locals, and cells with their numbers mapped.
use Rattle.std.specs.Prelude.{◌≡◌, ℕ, ◌<◌}
use Rattle.tp_value.specs.declared.path.VarId.{VarId}
use Rattle.tp_value.specs.declared.path.Path.{Path}
use Rattle.tp_scene.specs.declared.answer.Cell.{Cell}
use Rattle.tp_scene.specs.declared.answer.Cell.TheVariants.{Part, End}

-- a one-to-one map of the numbers
pub record Permutation : Type 0 where
  pub to : ℕ → ℕ
  pub back : ℕ → ℕ
  pub undone : (n : ℕ) → back (to n) ≡ n
  pub redone : (n : ℕ) → to (back n) ≡ n

-- one for the numbers of items, of regions and of variables each
pub record Renaming : Type 0 where
  pub item : Permutation
  pub region : Permutation
  pub local : Permutation

-- each number below this one is its own
abbrev pub FixesBelow : ℕ → Permutation → Type 0
FixesBelow n π = (i : ℕ) → i < n → π.to i ≡ i

-- Each number in a variable, a path or a cell is replaced by the one that it is mapped to.
module _ (ρ : Renaming) where
  abbrev pub renamed_variable : VarId → VarId
  renamed_variable x = record { number = ρ.local.to x.number; lasting = x.lasting }

  abbrev pub renamed_path : Path → Path
  renamed_path p = record { var = renamed_variable p.var; at = p.at }

  abbrev pub renamed_cell : Cell → Cell
  renamed_cell (Part p) = Part (renamed_path p)
  renamed_cell (End r d) = End (ρ.region.to r) d
