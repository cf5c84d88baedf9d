-- The facts of a line, kept in a store by the variables of their names.
use Rattle.std.specs.Prelude.{ℕ, List, [], ◌∷◌}
use Rattle.tp_value.specs.declared.path.VarId.{VarId}
use Rattle.tp_value.specs.declared.path.Fact.{Fact}
use Rattle.tp_value.specs.declared.value.Shape.TheVariants.{Items}
use Rattle.tp_store.specs.Facts.{fact, facts_at}
use Rattle.tp_show.specs.Trace.{TracePart, has_value, has_length, path_in}

abbrev pub part_name : TracePart → List ℕ
part_name (has_value name at t) = name
part_name (has_length name at n) = name

-- the facts of a part, as facts of this variable
abbrev pub variable_facts : VarId → TracePart → List Fact
variable_facts x (has_value name at t) = facts_at (path_in x at) t
variable_facts x (has_length name at n) = fact (path_in x at) (Items n) ∷ []
