-- Laws of the names of a program's variables.
use Rattle.std.specs.Prelude.{◌≡◌, Bool, List, ◌++◌, Ok, All, Contains}
use Rattle.tp_tree.specs.Tree.{SourceTree}
use Rattle.tp_tree.specs.Names.{source_names}
use Rattle.tp_meaning.specs.Interval.{ProgramTree}
use Rattle.tp_scope.specs.Scope.{Names}
use Rattle.tp_scope.specs.Names.{AreApart, names_of}
use Rattle.tp_check.specs.Outcome.{mapped}
use Rattle.tp_check.specs.Program.{ChecksTo, program_over}

-- each of them stands in the source
abbrev pub GlobalsStandInSource : Type 0
GlobalsStandInSource =
    (source : SourceTree) (program : ProgramTree) → ChecksTo source (Ok program)
    → All (Contains (source_names source)) program.globals

-- none of them is that of another
abbrev pub GlobalsAreApart : Type 0
GlobalsAreApart =
    (source : SourceTree) (program : ProgramTree) → ChecksTo source (Ok program)
    → AreApart program.globals

-- No name is missing among the source's names: with others behind them it becomes the same, but for
-- these.
abbrev pub NamesSuffice : SourceTree → Type 0
NamesSuffice source =
    (more : Names) (states : List Bool) → let names = names_of source ++ more in
    program_over names states source
    ≡ mapped (λ p. record { defs = p.defs; main = p.main; globals = names })
    (program_over (names_of source) states source)
