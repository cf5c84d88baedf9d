-- Verdicts as the code has them.
use Rattle.std.specs.Prelude.{Bool, true, false}
use Rattle.tp_verdict.specs.Verdict as told
use Rattle.tp_verdict.specs.declared.verdict.Verdict.{Verdict}
use Rattle.tp_verdict.specs.declared.verdict.Verdict.TheVariants.{Yes, No, Open}

abbrev pub verdict_of : Verdict → told.Verdict
verdict_of Yes = told.yes
verdict_of No = told.no
verdict_of Open = told.undecided

-- the verdict by whether it is yes, and whether it isn't no
abbrev pub by_bits : (sure may : Bool) → told.Verdict
by_bits true may = told.yes
by_bits false true = told.undecided
by_bits false false = told.no
