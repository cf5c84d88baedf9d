use Rattle.std.proofs.Common.{◌≡◌, ◌++◌, ◌∷◌, [], ◌≤◌, ◌∙◌, List, length, ap, sym, rules}
use Rattle.std.proofs.lemmas.Result.{on_ok_weaker}
use Rattle.tp_kernel.specs.declared.formula.Expr.{Expr}
use Rattle.tp_residual.specs.Read.{vocabulary_of}
use Rattle.tp_residual.proofs.Conjunctions.{only_item, one_expr, several_exprs}
use Rattle.tp_residual.proofs.expr.+exprs.Goals as goal

pub append_all-returns-in-len1 : goal.append_all-returns-in-len1
append_all-returns-in-len1 t c =
    let v = vocabulary_of c.args.words.now in
    let xs : List Expr = c.as_slice.result.now in
    let one : xs ≡ c.operand-item.result ∷ [] = only_item xs c.operand-item.result c.in-len1.len_at_least c.in-len1.len_below c.operand-item.is in
    on_ok_weaker c.append_expr.result (λ e. e ∙ ap (λ text. c.args.out.now ++ text) (sym (one_expr v c.args.operands.now xs c.operand-item.result c.as_slice.ensures.value one))) c.append_expr.ensures

pub append_all-returns-in_default : goal.append_all-returns-in_default
append_all-returns-in_default t c =
    let v = vocabulary_of c.args.words.now in
    let n : 2 ≤ length c.args.operands.now.items.items = search rules in
    on_ok_weaker c.append_exprs.result (λ e. e ∙ ap (λ text. c.args.out.now ++ text) (several_exprs v c.args.operands.now n)) c.append_exprs.ensures
