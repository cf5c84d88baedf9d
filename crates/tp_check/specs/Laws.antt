-- A law of what becomes of sources.
use Rattle.std.specs.Prelude.{◌≡◌}
use Rattle.tp_tree.specs.Tree.{SourceTree}
use Rattle.tp_meaning.specs.Interval.{ProgramTree}
use Rattle.tp_check.specs.Outcome.{CheckOutcome}
use Rattle.tp_check.specs.Program.{ChecksTo}

-- one thing becomes of a source: one program, or one refusal
abbrev pub CheckedOnce : Type 0
CheckedOnce =
    (source : SourceTree) (o o' : CheckOutcome ProgramTree) → ChecksTo source o → ChecksTo source o'
    → o ≡ o'
