use Rattle.std.proofs.Common.{refl}
use Rattle.std.proofs.lemmas.Result.{err_from_is_err_and}
use Rattle.tp_words.specs.Command.{wanted_by}
use Rattle.tp_words.specs.declared.mode.Mode.TheVariants.{Print, Convert}
use Rattle.tp_call.specs.declared.status.Which.TheVariants.{Source, Inputs}
use Rattle.tp_call.specs.declared.status.Status.TheVariants.{ReadFault}
use Rattle.tp_call.proofs.AskedLemmas.{words_asked, first_asked, same_error, asks_none}
use Rattle.tp_call.proofs.SourceLemmas.{no_command, no_source, no_inputs}
use Rattle.tp_call.proofs.answer.job_for.Goals as goal

pub returns-in_err-command-clause-refused : goal.returns-in_err-command-clause-refused
returns-in_err-command-clause-refused g c =
    let p = err_from_is_err_and c.from_residual.result c.from_residual.ensures.1 in
    rw (p.1, p.2) (no_command _ _ _ c.in_err-command.ensures.refused)

pub returns-in_err-command-clause-asked : goal.returns-in_err-command-clause-asked
returns-in_err-command-clause-asked g c =
    let p = err_from_is_err_and c.from_residual.result c.from_residual.ensures.1 in
    rw (p.1, p.2) (words_asked _ _ _ _ _ refl c.in_err-command.ensures.refused)

pub returns-in_err-read_tree-in-Print-clause-refused : goal.returns-in_err-read_tree-in-Print-clause-refused
returns-in_err-read_tree-in-Print-clause-refused g c =
    let p = err_from_is_err_and c.from_residual-in_err-read_tree-in-Print.result c.from_residual-in_err-read_tree-in-Print.ensures.1 in
    rw (p.1, p.2) (no_source _ _ (wanted_by c.in_ok-command.command) c.in_ok-command.ensures.accepted Print _ _ c.in-Print.is refl (rw c.as_str.ensures.value at c.in_err-read_tree-in-Print.ensures.refused))

pub returns-in_err-read_tree-in-Print-clause-asked : goal.returns-in_err-read_tree-in-Print-clause-asked
returns-in_err-read_tree-in-Print-clause-asked g c =
    let p = err_from_is_err_and c.from_residual-in_err-read_tree-in-Print.result c.from_residual-in_err-read_tree-in-Print.ensures.1 in
    rw (p.1, p.2) (first_asked _ _ (wanted_by c.in_ok-command.command) c.in_ok-command.ensures.accepted Print Source _ _ c.in-Print.is refl _ _ _ _ (rw c.as_str.ensures.value at c.in_err-read_tree-in-Print.ensures.asked)
    (λ which e. same_error _ _ _ (ReadFault which) refl refl e) (λ which e. (c.in_err-read_tree-in-Print.ensures.read_fault which e).0))

pub returns-in-Print-clause-asked : goal.returns-in-Print-clause-asked
returns-in-Print-clause-asked g c =
    first_asked _ _ (wanted_by c.in_ok-command.command) c.in_ok-command.ensures.accepted Print Source _ _ c.in-Print.is refl _ _ _ _ (rw c.as_str.ensures.value at c.in_ok-read_tree-in-Print.ensures.asked)
    (λ which e. cc) (λ which e. (c.in_ok-read_tree-in-Print.ensures.read_fault which e).0)

pub returns-in_err-read_table-in-Convert-clause-refused : goal.returns-in_err-read_table-in-Convert-clause-refused
returns-in_err-read_table-in-Convert-clause-refused g c =
    let p = err_from_is_err_and c.from_residual-in_err-read_table-in-Convert.result c.from_residual-in_err-read_table-in-Convert.ensures.1 in
    rw (p.1, p.2) (no_inputs _ _ (wanted_by c.in_ok-command.command) c.in_ok-command.ensures.accepted _ c.in-Convert.is (rw c.as_str-in-Convert.ensures.value at c.in_err-read_table-in-Convert.ensures.refused))

pub returns-in_err-read_table-in-Convert-clause-asked : goal.returns-in_err-read_table-in-Convert-clause-asked
returns-in_err-read_table-in-Convert-clause-asked g c =
    let p = err_from_is_err_and c.from_residual-in_err-read_table-in-Convert.result c.from_residual-in_err-read_table-in-Convert.ensures.1 in
    rw (p.1, p.2) (first_asked _ _ (wanted_by c.in_ok-command.command) c.in_ok-command.ensures.accepted Convert Inputs _ _ c.in-Convert.is refl _ _ _ _ (rw c.as_str-in-Convert.ensures.value at c.in_err-read_table-in-Convert.ensures.asked)
    (λ which e. same_error _ _ _ (ReadFault which) refl refl e) (λ which e. (c.in_err-read_table-in-Convert.ensures.read_fault which e).0))

pub returns-in-Convert-clause-job : goal.returns-in-Convert-clause-job
returns-in-Convert-clause-job g c = (
  record { wanted = wanted_by c.in_ok-command.command; accepted = c.in_ok-command.ensures.accepted; mode = c.in-Convert.is; inputs = rw c.as_str-in-Convert.ensures.value at c.in_ok-read_table-in-Convert.ensures.table },
  c.in_ok-read_table-in-Convert.ensures.read_back,
)

pub returns-in-Convert-clause-asked : goal.returns-in-Convert-clause-asked
returns-in-Convert-clause-asked g c =
    first_asked _ _ (wanted_by c.in_ok-command.command) c.in_ok-command.ensures.accepted Convert Inputs _ _ c.in-Convert.is refl _ _ _ _ (rw c.as_str-in-Convert.ensures.value at c.in_ok-read_table-in-Convert.ensures.asked)
    (λ which e. cc) (λ which e. (c.in_ok-read_table-in-Convert.ensures.read_fault which e).0)

pub returns-in-Run-clause-job : goal.returns-in-Run-clause-job
returns-in-Run-clause-job g c =
    let asks = c.in_ok-command.ensures.accepted in
    let task = c.in_ok-task_for-in-Run.ensures in
    record { asked_for = task.asked_for _ asks; fits = task.fits; names = task.names; states = task.states; beside = task.beside _ asks; order = task.order _ asks }

pub returns-in-Check-clause-job : goal.returns-in-Check-clause-job
returns-in-Check-clause-job g c = c.in_ok-verdict_for-in-Check.ensures.judged _ c.in_ok-command.ensures.accepted

pub returns-clause-job : goal.returns-clause-job
returns-clause-job g c =
    let range = c.in_ok-command.ensures.size c.in-Drill.size c.in-Drill.is in
    let drill = c.drill_for.ensures in
    record {
      asks = rw drill.size (record { wanted = wanted_by c.in_ok-command.command; accepted = c.in_ok-command.ensures.accepted; mode = c.in-Drill.is });
      states = drill.states;
      reductions = drill.reductions;
      order = drill.order;
      some = rw drill.size range.0;
      few = rw drill.size range.1;
    }

pub returns-clause-asked : goal.returns-clause-asked
returns-clause-asked g c = asks_none _ _ _ _ _ refl (λ which e. cc)
