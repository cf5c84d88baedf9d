use Rattle.std.proofs.Common.{inr, sym, ◌∙◌}
use Rattle.std.proofs.lemmas.Result.{err_from_is_err_and}
use Rattle.tp_words.specs.declared.mode.Mode.TheVariants.{Check}
use Rattle.tp_call.proofs.SourceLemmas.{read_refused, not_parsed_wide}
use Rattle.tp_call.proofs.CheckingLemmas.{not_wide}
use Rattle.tp_call.proofs.checking.wide_of.Goals as goal

pub returns-in_err-tree-clause-refused : goal.returns-in_err-tree-clause-refused
returns-in_err-tree-clause-refused c =
    let p = err_from_is_err_and c.from_residual.result c.from_residual.ensures.1 in
    rw (p.1, p.2) (not_parsed_wide _ _ c.in_err-tree.ensures.refused)

pub returns-in-Ok-clause-wide : goal.returns-in-Ok-clause-wide
returns-in-Ok-clause-wide c = record { tree = _; is_source = c.in_ok-tree.ensures.text; wide_is = c.in-Ok.ensures.formula }

pub returns-clause-refused : goal.returns-clause-refused
returns-clause-refused c =
    read_refused Check c.args.source.now _ c.by_checker.result c.refusal_status.ensures
    (λ r is. inr (not_wide c.args.source.now _ c.in-Err.refusal c.in_ok-tree.ensures.text c.in-Err.ensures.formula r (sym c.by_checker.ensures ∙ is)))
