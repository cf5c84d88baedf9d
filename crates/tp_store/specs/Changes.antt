-- What a change of a store leaves.
use Rattle.std.specs.Prelude.{◌≡◌, List, ◌++◌}
use Rattle.tp_value.specs.declared.path.Path.{Path}
use Rattle.tp_value.specs.declared.path.Fact.{Fact}
use Rattle.tp_store.specs.Facts.{kept_shape}
use Rattle.tp_store.specs.Known.{Contents, NoClash, AreOfVariables}

-- Both give each path the same shape, or none.
abbrev pub HaveSameShapes : List Fact → List Fact → Type 0
HaveSameShapes fs gs = (p : Path) → kept_shape fs p ≡ kept_shape gs p

-- What holds of each store: its facts don't clash, and are of its variables.
pub record IsSoundStore (s : Contents) : Type 0 where
  pub no_clash : NoClash s.facts
  pub of_variables : AreOfVariables s.variables s.facts

-- The facts are added to what is kept, and the variables stay.
pub record AddsFacts (old : Contents) (news : List Fact) (new : Contents) : Type 0 where
  pub shapes : HaveSameShapes new.facts (old.facts ++ news)
  pub variables : new.variables ≡ old.variables

-- Facts without a clash that give each path the shape that `all` gives it were appended.
pub record HasAppended (all old new : List Fact) : Type 0 where
  pub appended : List Fact
  pub list : new ≡ old ++ appended
  pub no_clash : NoClash appended
  pub shapes : HaveSameShapes appended all
