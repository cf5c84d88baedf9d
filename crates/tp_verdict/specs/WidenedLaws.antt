-- The formulas that can be run hold as wider ones where they hold.
use Rattle.std.specs.Prelude.{◌≡◌, ◌↔◌, ℕ, [], Some}
use Rattle.tp_meaning.specs.Syntax.{FormulaTree}
use Rattle.tp_meaning.specs.Course.{Course, Shows}
use Rattle.tp_meaning.specs.Inputs.{InputTable}
use Rattle.tp_meaning.specs.Holds.{Holds}
use Rattle.tp_verdict.specs.Wide.{WideTree, WideHolds}
use Rattle.tp_verdict.specs.Widened.{widened}

-- Where a formula is one of the wider ones, it holds as such exactly where it holds, and shows the
-- same: in a program without definitions, with any inputs, at any depth.
abbrev pub WideHoldsAsHolds : Type 0
WideHoldsAsHolds =
    (f : FormulaTree) (w : WideTree) → widened f ≡ Some w
    → (inputs : InputTable) (d : ℕ) (s : Course) (a b : ℕ) (S : Shows) →
    Holds (record { defs = []; inputs = inputs }) d f [] s a b S ↔ WideHolds w s a b S
