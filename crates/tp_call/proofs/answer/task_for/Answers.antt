use Rattle.std.proofs.Common.{refl, sym}
use Rattle.std.specs.Prelude.{string_bytes}
use Rattle.std.proofs.lemmas.Result.{err_from_is_err_and}
use Rattle.tp_check.specs.Read.{program_tree}
use Rattle.tp_words.specs.Command.{wanted_by}
use Rattle.tp_words.specs.declared.mode.Mode.TheVariants.{Run}
use Rattle.tp_call.specs.declared.status.Which.TheVariants.{Source}
use Rattle.tp_call.specs.declared.status.Status.TheVariants.{ReadFault}
use Rattle.tp_call.proofs.AskedLemmas.{program_serves, first_asked, table_asked, same_error, beside_asked, order_asked}
use Rattle.tp_call.proofs.SourceLemmas.{no_source, no_table, inputs_held, lent_name}
use Rattle.tp_call.proofs.answer.task_for.Goals as goal

pub returns-in_err-program-clause-refused : goal.returns-in_err-program-clause-refused
returns-in_err-program-clause-refused g c =
    let p = err_from_is_err_and c.from_residual.result c.from_residual.ensures.1 in
    rw (p.1, p.2) (λ words is. no_source _ _ (wanted_by c.args.command.now) is Run _ _ c.requires refl (rw c.as_str.ensures.value at c.in_err-program.ensures.refused))

pub returns-in_err-program-clause-asked : goal.returns-in_err-program-clause-asked
returns-in_err-program-clause-asked g c =
    let p = err_from_is_err_and c.from_residual.result c.from_residual.ensures.1 in
    rw (p.1, p.2) (λ words is. first_asked _ _ (wanted_by c.args.command.now) is Run Source _ _ c.requires refl _ _ _ _ (rw c.as_str.ensures.value at c.in_err-program.ensures.asked)
    (λ which e. same_error _ _ _ (ReadFault which) refl refl e) (λ which e. (c.in_err-program.ensures.read_fault which e).0))

pub returns-in_err-inputs-clause-refused : goal.returns-in_err-inputs-clause-refused
returns-in_err-inputs-clause-refused g c =
    let p = err_from_is_err_and c.from_residual-in_err-inputs.result c.from_residual-in_err-inputs.ensures.1 in
    let name = lent_name (λ t. t.now) string_bytes c.as_deref.result c.args.command.now.inputs c.as_deref.ensures.cases in
    rw (p.1, p.2) (λ words is. no_table _ _ (wanted_by c.args.command.now) is c.requires (program_tree c.in_ok-program.program) (rw c.as_str.ensures.value at c.in_ok-program.ensures.program) _ _ _ c.in_ok-program.ensures.held (sym name) c.in_err-inputs.ensures.refused)

pub returns-in_err-inputs-clause-asked : goal.returns-in_err-inputs-clause-asked
returns-in_err-inputs-clause-asked g c =
    let p = err_from_is_err_and c.from_residual-in_err-inputs.result c.from_residual-in_err-inputs.ensures.1 in
    let name = lent_name (λ t. t.now) string_bytes c.as_deref.result c.args.command.now.inputs c.as_deref.ensures.cases in
    rw (p.1, p.2) (λ words is. table_asked _ _ (wanted_by c.args.command.now) is c.requires _ (program_serves _ _ c.requires (program_tree c.in_ok-program.program) _ (rw c.as_str.ensures.value at c.in_ok-program.ensures.program)) _ _ _ _ (sym name) _ _ refl (rw c.as_str.ensures.value at c.in_ok-program.ensures.asked) _
    c.in_err-inputs.ensures.asked c.in_err-inputs.ensures.refused _ (λ which e. same_error _ _ _ (ReadFault which) refl refl e) (λ which e. (c.in_err-inputs.ensures.read_fault which e).0))

pub returns-clause-asked_for : goal.returns-clause-asked_for
returns-clause-asked_for g c = λ words is.
    let name = lent_name (λ t. t.now) string_bytes c.as_deref.result c.args.command.now.inputs c.as_deref.ensures.cases in
    record {
      wanted = wanted_by c.args.command.now;
      accepted = is;
      mode = c.requires;
      source = rw c.as_str.ensures.value at c.in_ok-program.ensures.program;
      inputs = inputs_held _ _ _ _ _ c.in_ok-program.ensures.held name c.in_ok-inputs.ensures.table;
      states = c.limits_of.ensures.states;
      reductions = c.limits_of.ensures.reductions;
    }

pub returns-clause-beside : goal.returns-clause-beside
returns-clause-beside g c = λ words is wanted asks. beside_asked words (wanted_by c.args.command.now) wanted is asks

pub returns-clause-order : goal.returns-clause-order
returns-clause-order g c = λ words is wanted asks. order_asked words (wanted_by c.args.command.now) wanted is asks

pub returns-clause-asked : goal.returns-clause-asked
returns-clause-asked g c = λ words is.
    let name = lent_name (λ t. t.now) string_bytes c.as_deref.result c.args.command.now.inputs c.as_deref.ensures.cases in
    table_asked _ _ (wanted_by c.args.command.now) is c.requires (g.F.Files.held c.args.files.now) (program_serves _ _ c.requires (program_tree c.in_ok-program.program) _ (rw c.as_str.ensures.value at c.in_ok-program.ensures.program)) _ _ _ _ (sym name) _ _ refl (rw c.as_str.ensures.value at c.in_ok-program.ensures.asked) _ c.in_ok-inputs.ensures.asked c.in_ok-inputs.ensures.refused _
    (λ which e. cc) (λ which e. (c.in_ok-inputs.ensures.read_fault which e).0)
