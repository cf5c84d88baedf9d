use Rattle.std.proofs.Common.{◌∙◌, ap, subst, Bool, List, length, IfOk, Result, Ok, Err}
use Rattle.tp_tree.specs.Read.{source_tree}
use Rattle.tp_meaning.specs.Fits.{ProgramFits}
use Rattle.tp_meaning.specs.Interval.{ProgramTree}
use Rattle.tp_check.specs.declared.program.Program.{Program}
use Rattle.tp_check.specs.declared.refusal.CheckRefusal.{CheckRefusal}
use Rattle.tp_scope.specs.Names.{names_of}
use Rattle.tp_check.specs.Outcome.{CheckOutcome}
use Rattle.tp_check.specs.Answers.{AnswersCheck}
use Rattle.tp_check.specs.Program.{program_over}
use Rattle.tp_check.specs.Read.{program_tree}
use Rattle.tp_check.proofs.Fitting.{program_fits}
use Rattle.tp_check.proofs.Known.{own_names_suffice}
use Rattle.tp_check.proofs.program.check.Goals as goal

-- what was made is what fits
made_fits : (o : CheckOutcome ProgramTree) (r : Result Program CheckRefusal) → AnswersCheck program_tree o r → IfOk o ProgramFits → IfOk r (λ p. ProgramFits (program_tree p))
made_fits o (Ok p) made fits = subst (λ (o : CheckOutcome ProgramTree). IfOk o ProgramFits) made fits
made_fits o (Err e) made fits = tt

pub returns-in_err-headings-clause-named : goal.returns-in_err-headings-clause-named
returns-in_err-headings-clause-named c = own_names_suffice (source_tree c.args.source.now)

pub returns-in_err-states-clause-named : goal.returns-in_err-states-clause-named
returns-in_err-states-clause-named c = own_names_suffice (source_tree c.args.source.now)

pub returns-clause-named : goal.returns-clause-named
returns-clause-named c = own_names_suffice (source_tree c.args.source.now)

pub returns-clause-fits : goal.returns-clause-fits
returns-clause-fits c =
    let source = source_tree c.args.source.now in
    let states : List Bool = c.deref-2.result.now in
    let globals = names_of source in
    made_fits (program_over globals states source) c.program_where.result c.program_where.ensures (program_fits globals states source (ap length c.deref-2.ensures.value ∙ c.in_ok-states.ensures.each))
