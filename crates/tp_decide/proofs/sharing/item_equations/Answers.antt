use Rattle.std.proofs.Common.{◌≡◌, ◌∙◌, pos, ap, ap₂, arith}
use Rattle.tp_meaning.specs.Syntax.{equation, index, numeral}
use Rattle.tp_kernel.specs.Read.{expr_tree, bindings_of}
use Rattle.tp_kernel.specs.Equations.{expr_bound}
use Rattle.tp_scene.specs.Scene.{Do}
use Rattle.tp_scene.specs.Step as row
use Rattle.tp_decide.proofs.SharingLemmas.{leaves, entries_are, count_is, one_more_item}
use Rattle.tp_decide.proofs.sharing.item_equations.Goals as goal

pub loop-i-preserved : goal.loop-i-preserved
loop-i-preserved c =
    let env = bindings_of c.args.env.now.value in
    let number = numeral (pos c.loop-i.i) in
    let places = ap₂ (λ x y. equation (index x number) (index y number)) (ap expr_tree c.in_ok-left.ensures.ok ∙ expr_bound 0) (ap expr_tree c.in_ok-right.ensures.ok ∙ expr_bound 1) in
    one_more_item env c.loop-i.news.items c.push.new.self.items c.in_ok-leaf.leaf c.loop-i.i c.in_ok-push.ensures.items (c.in_ok-leaf.ensures ∙ ap (λ f. Do f env) (c.in_ok-equation.ensures ∙ places)) c.loop-i.invariant

pub returns-clause-entries : goal.returns-clause-entries
returns-clause-entries c = λ number.
    let all : c.loop-i.i ≡ c.args.count = omega (arith, c.loop-i-test.false, c.loop-i.auto.i-end) in
    let env = bindings_of c.args.env.now.value in
    entries_are env c.loop-i.news.items (row.item_equations c.args.count 0) number 0 (c.loop-i.invariant ∙ ap (λ k. leaves env (row.item_equations k 0)) all)

pub returns-clause-count : goal.returns-clause-count
returns-clause-count c =
    let all : c.loop-i.i ≡ c.args.count = omega (arith, c.loop-i-test.false, c.loop-i.auto.i-end) in
    let env = bindings_of c.args.env.now.value in
    count_is env c.loop-i.news.items (row.item_equations c.args.count 0) (c.loop-i.invariant ∙ ap (λ k. leaves env (row.item_equations k 0)) all)
