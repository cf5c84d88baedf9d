use Rattle.std.proofs.Common.{◌≡◌, true, ap, sym, ◌∙◌, rules, to_z, of_z}
use Rattle.tp_value.specs.Number.{is_within_limit, number_width}
use Rattle.tp_meaning.specs.Syntax.{numeral}
use Rattle.tp_value.specs.declared.path.Path.{Path}
use Rattle.tp_kernel.specs.Read.{expr_tree, bindings_of}
use Rattle.tp_kernel.specs.Equations.{expr_index, expr_number}
use Rattle.tp_eval.specs.Reached.{reaches}
use Rattle.tp_eval.specs.Evaluate.{at_path}
use Rattle.tp_eval.specs.Operand.{named_path}
use Rattle.tp_eval.proofs.WrittenItems.{written_found}
use Rattle.tp_eval.proofs.written.written_item.Goals as goal

pub returns-in-Ok-farther_path : goal.returns-in-Ok-farther_path
returns-in-Ok-farther_path c = λ p levels calls e.
    let l = c.args.lookup.now in
    let is = ap expr_tree c.in-Index.is ∙ expr_index c.in-Index.inner c.in-Index.index in
    let n = to_z number_width (of_z number_width c.in-Number.n) in
    let plain : n ≡ c.in-Number.n = search rules in
    let number = ap expr_tree (sym c.deref.ensures ∙ c.in-Number.is) ∙ expr_number c.in-Number.n ∙ ap numeral (sym plain) in
    let named = ap (λ x. named_path (expr_tree x) (bindings_of l.env.now)) (sym c.deref-2.ensures) ∙ sym c.in_ok-path.ensures ∙ c.in-Some.is in
    let small : is_within_limit n ≡ true = search rules in
    let path = c.in-Ok-farther_path.path in
    let same : path ≡ p = cc e in
    written_found l levels calls (expr_tree c.args.expr.now) (expr_tree c.in-Index.inner.value) (expr_tree c.in-Index.index.value) c.in-Some.path path n c.in-Ok.k is number named small
    c.in-Ok.ensures c.in-Ok-farther_path.ensures
    ∙ ap (λ (x : Path). reaches (at_path x) calls) same
