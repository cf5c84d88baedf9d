-- The outcomes of expressions in states, by the facts of each.
use Rattle.std.specs.Prelude.{ℕ, List, [], Option, Some, None, slice_get}
use Rattle.tp_value.specs.declared.path.Fact.{Fact}
use Rattle.tp_meaning.specs.Syntax.{ExprTree}
use Rattle.tp_store.specs.Stock.{Stock}
use Rattle.tp_eval.specs.Outcome.{Outcome, outcome}

-- the facts of a state, none where there is no such state
abbrev pub facts_of_state : Option Stock → List Fact
facts_of_state None = []
facts_of_state (Some state) = state.facts

-- the outcome of an expression in a state, with no definitions and no bindings
abbrev pub found_in : List Stock → ℕ → ExprTree → Outcome
found_in states i e = outcome (facts_of_state (slice_get states i)) [] e []
