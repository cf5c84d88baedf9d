-- The plain tree of a program.
use Rattle.tp_kernel.specs.Read.{formula_tree, definitions_of}
use Rattle.tp_meaning.specs.Interval.{ProgramTree}
use Rattle.tp_check.specs.declared.program.Program.{Program}

abbrev pub program_tree : Program → ProgramTree
program_tree p =
    record { defs = definitions_of p.defs; main = formula_tree p.main.value; globals = p.globals }
