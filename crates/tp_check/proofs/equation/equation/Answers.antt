use Rattle.std.proofs.Common.{◌≡◌, Err, ◌⊎◌, ◌∙◌, sym, ap, ap₂, rules, arith}
use Rattle.std.proofs.lemmas.Grind.{common_steps}
use Rattle.std.proofs.lemmas.Result.{err_from_is_err_and}
use Rattle.tp_tree.specs.Read.{phrase_tree}
use Rattle.tp_tree.specs.Tree.{PhraseTree}
use Rattle.tp_check.specs.declared.refusal.CheckRefusal.{CheckRefusal}
use Rattle.tp_scope.specs.Scope.{VisibleNames}
use Rattle.tp_scope.specs.Seen.{names_seen}
use Rattle.tp_check.specs.Outcome.{not_expression}
use Rattle.tp_scope.specs.Phrases.{nexts_of, behind_nexts, at_of}
use Rattle.tp_check.specs.Positions.{equation_of, equation_in, expr_of}
use Rattle.tp_check.proofs.Sides.{at_is, left_refused, right_refused, both_later}
use Rattle.tp_check.proofs.equation.equation.Goals as goal

left_err : (names : VisibleNames) (l r : PhraseTree) (e : CheckRefusal) → expr_of names (behind_nexts l) ≡ Err e → equation_in names l r ≡ Err e
left_err names l r e is = ap (λ o. equation_of (nexts_of l) (nexts_of r) (at_of r) o (expr_of names (behind_nexts r))) is ∙ left_refused (nexts_of l) (nexts_of r) (at_of r) e _

pub returns-in_err-left_expr : goal.returns-in_err-left_expr
returns-in_err-left_expr c =
    let p = err_from_is_err_and c.from_residual-in_err-left_expr.result c.from_residual-in_err-left_expr.ensures.1 in
    let names = names_seen c.args.names.now in
    rw (p.1, p.2) (λ q. left_err names (phrase_tree c.args.left.now) (phrase_tree c.args.right.now) _ (ap (expr_of names) (sym c.in_ok-left_nexts.ensures.behind) ∙ c.in_err-left_expr.ensures q))

pub returns-then-right_nexts-gt0 : goal.returns-then-right_nexts-gt0
returns-then-right_nexts-gt0 c = λ q.
    let names = names_seen c.args.names.now in
    let l = phrase_tree c.args.left.now in
    let r = phrase_tree c.args.right.now in
    ap (λ o. equation_of (nexts_of l) (nexts_of r) (at_of r) o (expr_of names (behind_nexts r))) (ap (expr_of names) (sym c.in_ok-left_nexts.ensures.behind) ∙ c.in_ok-left_expr.ensures)
    ∙ (both_later (nexts_of l) (nexts_of r) (at_of r) _ _ (omega (arith, c.in_ok-left_nexts.ensures.count, c.if-left_nexts-gt0.true)) (omega (arith, c.in_ok-right_nexts.ensures.count, c.if-right_nexts-gt0.true))
    ∙ ap not_expression (at_is c.args.right.now))

pub returns-in_err-right_expr : goal.returns-in_err-right_expr
returns-in_err-right_expr c =
    let p = err_from_is_err_and c.from_residual-in_err-right_expr.result c.from_residual-in_err-right_expr.ensures.1 in
    let names = names_seen c.args.names.now in
    let l = phrase_tree c.args.left.now in
    let r = phrase_tree c.args.right.now in
    let one : (c.in_ok-left_nexts.left_nexts ≡ 0) ⊎ (c.in_ok-right_nexts.right_nexts ≡ 0) = first_of (search rules, grind (arith, common_steps)) in
    let none : (nexts_of l ≡ 0) ⊎ (nexts_of r ≡ 0) = rw (sym c.in_ok-left_nexts.ensures.count, sym c.in_ok-right_nexts.ensures.count) one in
    rw (p.1, p.2) (λ q. ap₂ (equation_of (nexts_of l) (nexts_of r) (at_of r))
    (ap (expr_of names) (sym c.in_ok-left_nexts.ensures.behind) ∙ c.in_ok-left_expr.ensures)
    (ap (expr_of names) (sym c.in_ok-right_nexts.ensures.behind) ∙ c.in_err-right_expr.ensures q)
    ∙ right_refused (nexts_of l) (nexts_of r) (at_of r) _ _ none)
