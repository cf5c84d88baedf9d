-- The values of a table of inputs are within the limits on numbers, items and depth.
use Rattle.tp_value.specs.Limits.{IsWithinLimits}
use Rattle.tp_inputs.proofs.WithinLemmas.{tables_have}
use Rattle.tp_run_laws.specs.PrintableRuns.{TablesArePrintable}

pub tables_are_printable : TablesArePrintable
tables_are_printable = tables_have IsWithinLimits (λ t h. h)
