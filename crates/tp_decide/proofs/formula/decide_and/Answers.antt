use Rattle.std.proofs.Common.{◌∙◌, length, get_or, ap, ap₂, sym, arith}
use Rattle.tp_kernel.specs.Read.{formula_tree, bindings_of}
use Rattle.tp_kernel.specs.Equations.{formula_trees_is}
use Rattle.tp_scene.specs.Scene.{Do}
use Rattle.tp_scene.specs.Step.{all_do, becomes, count_of}
use Rattle.tp_decide.specs.Decided.{plain_leaf}
use Rattle.tp_decide.specs.NewLeaves.{leaf_list}
use Rattle.tp_decide.proofs.ListLemmas.{one_more, all_made}
use Rattle.tp_decide.proofs.RowLemmas.{due_of, operands_are, count_is}
use Rattle.tp_decide.proofs.formula.decide_and.Goals as goal

pub loop-operand-preserved : goal.loop-operand-preserved
loop-operand-preserved c =
    let env = bindings_of c.args.env.now.value in
    one_more plain_leaf (due_of env) c.args.operands.now.items.items (leaf_list c.loop-operand.news) (leaf_list c.in_ok-news.news) c.loop-operand.operand-index c.operand-item.result c.in_ok-leaf.leaf
    (omega (arith, ap length c.deref-operand-items.ensures.value, c.loop-operand-test.true))
    (c.operand-item.is ∙ ap (λ ws. get_or ws c.loop-operand.operand-index c.operand-item.result) c.deref-operand-items.ensures.value)
    (c.in_ok-leaf.ensures ∙ ap (λ f. Do f env) (ap formula_tree c.in_ok-clone.ensures.cases))
    c.in_ok-news.ensures c.loop-operand.invariant

pub returns-clause-outcome : goal.returns-clause-outcome
returns-clause-outcome c = λ facts n.
    let env = bindings_of c.args.env.now.value in
    let ws = c.args.operands.now.items.items in
    let made = all_made plain_leaf (due_of env) ws (leaf_list c.loop-operand.news) c.loop-operand.operand-index (omega arith) c.loop-operand.invariant in
    c.becomes.ensures.outcome facts n
    ∙ ap₂ becomes (operands_are env (leaf_list c.loop-operand.news) ws n.item 0 made ∙ sym (ap (λ fs. all_do fs env n.item 0) (formula_trees_is c.args.operands.now)))
    (count_is env (leaf_list c.loop-operand.news) ws made ∙ sym (ap count_of (formula_trees_is c.args.operands.now)))
