-- What is seen of a store by the contracts of its calls.
use Rattle.std.specs.Prelude.{ℕ, List}
use Rattle.tp_value.specs.declared.path.Fact.{Fact}
use Rattle.tp_store.specs.Known.{Contents, Variable}

-- What a store holds, and for how many more facts and names it has room: these come without memory.
-- A fact takes one more of it than its path has indices.
pub record Stock : Type 0 where
  pub facts : List Fact
  pub variables : List Variable
  pub spare_facts : ℕ
  pub spare_names : ℕ

abbrev pub contents_in : Stock → Contents
contents_in s = record { facts = s.facts; variables = s.variables }
