-- What a trace tells of variables.
use Rattle.std.specs.Prelude.{ℕ, List, [], ◌∷◌, map, Option, Some, None}
use Rattle.std.specs.List.{flat_map}
use Rattle.tp_value.specs.declared.path.VarId.{VarId}
use Rattle.tp_value.specs.declared.path.Fact.{Fact}
use Rattle.tp_value.specs.Globals.{variable_of}
use Rattle.tp_store.specs.Facts.{fact}
use Rattle.tp_show.specs.declared.named_fact.NamedFact.{NamedFact}
use Rattle.tp_scope.specs.Scope.{Names}
use Rattle.tp_verdict.specs.Trace.{FactsOfStates, whole_verdict}
use Rattle.tp_verdict.specs.Verdict.{Verdict}
use Rattle.tp_monitor.specs.WideOf.{NamedWide}

-- The greatest number of states that a trace may have, to be judged.
abbrev pub state_limit : ℕ
state_limit = 400

-- a fact of the variable with its name, where one of these has the name; others are passed over
abbrev pub fact_of : Option VarId → NamedFact → List Fact
fact_of None f = []
fact_of (Some x) f = fact (record { var = x; at = f.at }) f.shape ∷ []

abbrev pub facts_among : Names → List NamedFact → List Fact
facts_among globals facts = flat_map (λ f. fact_of (variable_of globals f.name) f) facts

-- what a trace tells of these variables in each state
abbrev pub told_by_trace : Names → (trace : List (List NamedFact)) → FactsOfStates
told_by_trace globals trace = map (facts_among globals) trace

-- the verdict on a formula by what a trace tells of its variables
abbrev pub verdict_by : NamedWide → (trace : List (List NamedFact)) → Verdict
verdict_by wide trace = whole_verdict wide.formula (told_by_trace wide.globals trace)
