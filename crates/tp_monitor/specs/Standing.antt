-- Facts that stand for others.
use Rattle.std.specs.Prelude.{◌≡◌, false, List, ◌++◌}
use Rattle.std.specs.List.{AllZip}
use Rattle.tp_value.specs.declared.path.Fact.{Fact}
use Rattle.tp_store.specs.Known.{NoClash}
use Rattle.tp_store.specs.Stock.{Stock}
use Rattle.tp_store.specs.Changes.{HaveSameShapes}
use Rattle.tp_verdict.specs.Trace.{clash_somewhere}

-- Of all of these facts no two clash, and the others give each path the shape that one of these
-- gives it, and are of no path twice.
pub record StandFor (facts all : List Fact) : Type 0 where
  pub apart : clash_somewhere all ≡ false
  pub no_clash : NoClash facts
  pub shapes : HaveSameShapes facts all

-- For each state the facts of a store stand for those of the state and for the lasting ones.
abbrev pub EachStandsFor : List Stock → (states : List (List Fact)) → (lasting : List Fact)
    → Type 0
EachStandsFor stores states lasting =
    AllZip (λ (store : Stock) (own : List Fact). StandFor store.facts (own ++ lasting)) stores
    states
