-- A formula that fits reads the states' own numbers and its variables alone.
use Rattle.std.specs.Prelude.{◌≡◌, ℕ, ◌≤◌, ◌<◌, Bool, List, length}
use Rattle.tp_meaning.specs.Syntax.{FormulaTree}
use Rattle.tp_meaning.specs.Course.{State, Course, Shows}
use Rattle.tp_meaning.specs.Value.{Env}
use Rattle.tp_meaning.specs.Holds.{Context, Holds}
use Rattle.tp_meaning.specs.Interval.{ProgramTree, Satisfies}
use Rattle.tp_meaning.specs.Inputs.{InputTable}
use Rattle.tp_meaning.specs.Moving.{InStep, ShowsMoved}
use Rattle.tp_meaning.specs.Fits.{FormulaFits, DefinitionsFit, ProgramFits}

-- the two states have one number, and the same values of the first n variables
pub record ReadTheSame (n : ℕ) (x y : State) : Type 0 where
  pub own : x.own ≡ y.own
  pub values : (v : ℕ) → v < n → x.values v ≡ y.values v

abbrev pub MeaningsReadVariables : Type 0
MeaningsReadVariables =
    (w : Context) (kinds : List Bool) → DefinitionsFit w.defs kinds
    → (d : ℕ) (f : FormulaTree) (n : ℕ) → FormulaFits w.defs kinds f n →
    (env : Env) (s s' : Course) (a b : ℕ) (S : Shows) → a ≤ b
    → ((j : ℕ) → a ≤ j → j ≤ b → ReadTheSame (length kinds) (s j) (s' j)) →
    Holds w d f env s a b S → Holds w d f env s' a b S

-- Whether an interval satisfies a program that fits depends on its states' numbers and globals
-- alone, wherever it lies on a course.
abbrev pub SatisfyingReadsStates : Type 0
SatisfyingReadsStates =
    (p : ProgramTree) → ProgramFits p
    → (inputs : InputTable) (at : ℕ → ℕ) (s s' : Course) (a b : ℕ) (S S' : Shows) →
    InStep at a b → ((j : ℕ) → a ≤ j → j ≤ b → ReadTheSame (length p.globals) (s j) (s' (at j)))
    → ShowsMoved at a b S S' →
    Satisfies p inputs s a b S → Satisfies p inputs s' (at a) (at b) S'
