use Rattle.tp_run_laws.proofs.Checked.{checked_programs_are_printable}
use Rattle.tp_run_laws.proofs.Tables.{tables_are_printable}
use Rattle.tp_run_laws.proofs.Tokens.{token_names_are_of_variables}
use Rattle.tp_run_laws.proofs.printable.sources_are_printable.Goals as goal

pub returns : goal.returns
returns c = record { names = token_names_are_of_variables; programs = checked_programs_are_printable; tables = tables_are_printable }
