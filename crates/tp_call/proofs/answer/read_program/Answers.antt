use Rattle.std.proofs.Common.{inr, sym, ◌∙◌}
use Rattle.std.proofs.lemmas.Result.{err_from_is_err_and}
use Rattle.tp_words.specs.declared.mode.Mode.TheVariants.{Run}
use Rattle.tp_call.proofs.SourceLemmas.{read_refused, not_parsed, not_run}
use Rattle.tp_call.proofs.NamesLemmas.{names_are}
use Rattle.tp_call.proofs.answer.read_program.Goals as goal

pub returns-in_err-tree-clause-refused : goal.returns-in_err-tree-clause-refused
returns-in_err-tree-clause-refused c =
    let p = err_from_is_err_and c.from_residual.result c.from_residual.ensures.1 in
    rw (p.1, p.2) (not_parsed _ _ c.in_err-tree.ensures.refused)

pub returns-in-Ok-clause-program : goal.returns-in-Ok-clause-program
returns-in-Ok-clause-program c =
    let text = c.in_ok-tree.ensures.text in
    record { tokens = text.tokens; tree = _; are_tokens = text.are_tokens; accepted = text.accepted; checked = c.in-Ok.ensures.accepted }

pub returns-in-Ok-clause-names : goal.returns-in-Ok-clause-names
returns-in-Ok-clause-names c =
    let text = c.in_ok-tree.ensures.text in
    names_are c.args.source.now _ (record { tokens = text.tokens; tree = _; are_tokens = text.are_tokens; accepted = text.accepted; checked = c.in-Ok.ensures.accepted })

pub returns-clause-refused : goal.returns-clause-refused
returns-clause-refused c =
    let text = c.in_ok-tree.ensures.text in
    read_refused Run c.args.source.now _ c.by_checker.result c.refusal_status.ensures
    (λ r is. inr (not_run c.args.source.now text.tokens _ c.in-Err.refusal text.are_tokens text.accepted c.in-Err.ensures.refused r (sym c.by_checker.ensures ∙ is)))
