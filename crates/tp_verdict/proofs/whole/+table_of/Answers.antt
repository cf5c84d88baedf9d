use Rattle.std.proofs.Common.{◌≡◌, ◌∙◌, ap, ap₂, sym, subst, arith}
use Rattle.std.proofs.lemmas.Result.{IfOk-weaker}
use Rattle.tp_kernel.specs.Read.{expr_tree}
use Rattle.tp_kernel.specs.declared.formula.Expr.{Expr}
use Rattle.tp_verdict.specs.Wide.{WideTree, chop, while, sometimes}
use Rattle.tp_verdict.specs.Trace.{verdict}
use Rattle.tp_verdict.specs.Found.{found_in}
use Rattle.tp_verdict.specs.Stored.{HaveVerdicts}
use Rattle.tp_verdict.specs.Read.{wide_tree}
use Rattle.tp_verdict.specs.declared.wide_formula.WideFormula.{WideFormula}
use Rattle.tp_verdict.proofs.WholeLemmas.{first_verdicts, none_first, first_more, all_first}
use Rattle.tp_verdict.proofs.WideTrees.{wide_chop, wide_sometimes, wide_repeat}
use Rattle.tp_verdict.proofs.whole.+table_of.Goals as goal

pub table_of-returns-in_ok-table_of-in-Chop-clause-verdicts : goal.table_of-returns-in_ok-table_of-in-Chop-clause-verdicts
table_of-returns-in_ok-table_of-in-Chop-clause-verdicts t c =
    let found = found_in c.args.states.now in
    let w = c.deref-in-Chop.result.now in
    let v = c.deref-in-Chop-2.result.now in
    let is : chop (wide_tree w) (wide_tree v) ≡ wide_tree c.args.formula.now =
    sym (ap wide_tree c.in-Chop.is ∙ (wide_chop c.in-Chop.w c.in-Chop.v
    ∙ ap₂ (λ (x y : WideFormula). chop (wide_tree x) (wide_tree y)) (sym c.deref-in-Chop.ensures) (sym c.deref-in-Chop-2.ensures))) in
    IfOk-weaker c.chopped_table.result _ (λ table. HaveVerdicts (verdict found (wide_tree c.args.formula.now)) table.rows.items)
    (λ table h. subst (λ (x : WideTree). HaveVerdicts (verdict found x) table.rows.items) is
    (h (verdict found (wide_tree w)) (verdict found (wide_tree v)) c.in_ok-first-in-Chop.ensures.verdicts c.in_ok-table_of-in-Chop.ensures.verdicts))
    c.chopped_table.ensures.verdicts

pub table_of-returns-in_ok-table_of-in-Sometimes-clause-verdicts : goal.table_of-returns-in_ok-table_of-in-Sometimes-clause-verdicts
table_of-returns-in_ok-table_of-in-Sometimes-clause-verdicts t c =
    let found = found_in c.args.states.now in
    let w = c.deref-in-Sometimes.result.now in
    let is : sometimes (wide_tree w) ≡ wide_tree c.args.formula.now =
    sym (ap wide_tree c.in-Sometimes.is ∙ (wide_sometimes c.in-Sometimes.w ∙ ap (λ (x : WideFormula). sometimes (wide_tree x)) (sym c.deref-in-Sometimes.ensures))) in
    IfOk-weaker c.suffix_table.result _ (λ table. HaveVerdicts (verdict found (wide_tree c.args.formula.now)) table.rows.items)
    (λ table h. subst (λ (x : WideTree). HaveVerdicts (verdict found x) table.rows.items) is
    (h (verdict found (wide_tree w)) c.in_ok-table_of-in-Sometimes.ensures.verdicts))
    c.suffix_table.ensures.verdicts

pub table_of-returns-in_ok-again-in-Repeat-clause-verdicts : goal.table_of-returns-in_ok-again-in-Repeat-clause-verdicts
table_of-returns-in_ok-again-in-Repeat-clause-verdicts t c =
    let found = found_in c.args.states.now in
    let w = wide_tree c.deref-in-Repeat.result.now in
    let again = while (expr_tree c.deref-in-Repeat-2.result.now) w in
    let body = c.in_ok-body-in-Repeat.ensures.verdicts in
    let is : chop w again ≡ wide_tree c.args.formula.now =
    sym (ap wide_tree c.in-Repeat.is ∙ (wide_repeat c.in-Repeat.w c.in-Repeat.b
    ∙ ap₂ (λ (x : WideFormula) (y : Expr). chop (wide_tree x) (while (expr_tree y) (wide_tree x))) (sym c.deref-in-Repeat.ensures) (sym c.deref-in-Repeat-2.ensures))) in
    IfOk-weaker c.chopped_table-in-Repeat.result _ (λ table. HaveVerdicts (verdict found (wide_tree c.args.formula.now)) table.rows.items)
    (λ table h. subst (λ (x : WideTree). HaveVerdicts (verdict found x) table.rows.items) is
    (h (verdict found w) (verdict found again) body (c.in_ok-again-in-Repeat.ensures.verdicts w body)))
    c.chopped_table-in-Repeat.ensures.verdicts

pub table_of_all-loop-formula-init : goal.table_of_all-loop-formula-init
table_of_all-loop-formula-init t c =
    let found = found_in c.args.states.now in
    let m = c.in_ok-all.ensures.many in
    record {
      many = omega (arith, m);
      items = c.deref-formula-items.ensures.value;
      verdicts = none_first found c.deref-formula-items.result.now c.in_ok-all.all.rows.items (c.in_ok-all.ensures.verdicts found);
    }

pub table_of_all-loop-formula-preserved : goal.table_of_all-loop-formula-preserved
table_of_all-loop-formula-preserved t c =
    let found = found_in c.args.states.now in
    let before = c.loop-formula.invariant in
    let xs = c.deref-formula-items.result.now in
    let i = c.loop-formula.formula-index in
    let x = c.formula-item.result in
    let m = c.in_ok-more.ensures.many in
    record {
      many = m ∙ before.many;
      items = before.items;
      verdicts = first_more found xs i x c.in_ok-more.more.rows.items c.loop-formula-test.true c.formula-item.is
          (c.in_ok-more.ensures.verdicts (first_verdicts found xs i) (verdict found (wide_tree x)) before.verdicts c.in_ok-one.ensures.verdicts);
    }

pub table_of_all-returns-clause-verdicts : goal.table_of_all-returns-clause-verdicts
table_of_all-returns-clause-verdicts t c =
    let before = c.loop-formula.invariant in
    all_first (found_in c.args.states.now) c.args.formulas.now c.deref-formula-items.result.now c.loop-formula.formula-index c.loop-formula.all.rows.items
    before.items (omega (arith, c.loop-formula-test.false)) before.verdicts
