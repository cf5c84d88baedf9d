-- What a store is made of: its variables, and the facts of state variables and of static ones.
use Rattle.std.specs.Prelude.{◌≡◌, ◌≤◌, [], ◌∷◌, ℕ, Bool, true, false, List, ◌++◌, length, map, min, if◌then◌else◌}
use Rattle.tp_store.specs.Known.{Contents, Variable, NoClash, AreOfVariables}
use Rattle.tp_store.specs.Stock.{Stock}
use Rattle.tp_store.specs.FactMap.{AreOfKind, FactsOfKind}
use Rattle.tp_value.specs.declared.path.Fact.{Fact}
use Rattle.tp_store.specs.Changes.{HaveSameShapes}
use Rattle.tp_store.specs.declared.entry.Entry.{Entry}

abbrev pub variable_in : Entry → Variable
variable_in e = record { name = e.name; lasting = e.lasting }

abbrev pub variables_in : List Entry → List Variable
variables_in es = map variable_in es

abbrev pub contents_of : List Entry → (state static : FactsOfKind) → Contents
contents_of es m n = record { facts = m.facts ++ n.facts; variables = variables_in es }

-- the same, with the room that there is: for so many more names, and for facts of either kind
abbrev pub stock_of : List Entry → (names : ℕ) → (state static : FactsOfKind) → Stock
stock_of es names m n = record {
  facts = m.facts ++ n.facts;
  variables = variables_in es;
  spare_facts = min m.spare n.spare;
  spare_names = names;
}

-- Facts of variables of this kind, without a clash.
pub record IsPart (lasting : Bool) (m : FactsOfKind) : Type 0 where
  pub kind : m.lasting ≡ lasting
  pub of_kind : AreOfKind lasting m.facts
  pub apart : NoClash m.facts

-- The facts of a store are those of its state variables and of its static ones, and each variable
-- has a place.
pub record AreParts (es : List Entry) (state static : FactsOfKind) : Type 0 where
  pub state_facts : IsPart false state
  pub static_facts : IsPart true static
  pub state_placed : length es ≤ state.placed
  pub static_placed : length es ≤ static.placed
  pub of_variables : AreOfVariables (variables_in es) (state.facts ++ static.facts)

-- A new fact of variables of this kind came.
pub record TakesFact (old : FactsOfKind) (f : Fact) (new : FactsOfKind) : Type 0 where
  pub kind : new.lasting ≡ old.lasting
  pub placed : new.placed ≡ old.placed
  pub of_kind : AreOfKind new.lasting new.facts
  pub apart : NoClash new.facts
  pub shapes : HaveSameShapes new.facts (old.facts ++ f ∷ [])

abbrev pub part_by_kind : (lasting : Bool) → (state static : FactsOfKind) → FactsOfKind
part_by_kind b m n = if b then n else m
