use Rattle.std.proofs.Common.{◌∙◌, ◌∷◌, [], List, ℕ, Result, map, length, ap, ap₂, sym, subst, arith}
use Rattle.std.proofs.lemmas.List.{map-append}
use Rattle.std.proofs.lemmas.Slice.Zip.{Zip-more, either_empty_from_Zip}
use Rattle.std.specs.Iterator.Adapters.{zip_first, zip_second}
use Rattle.std.specs.Slice.Iter.{iter_rest}
use Rattle.tp_meaning.specs.Syntax.{BindingTree, exprs_of}
use Rattle.tp_kernel.specs.declared.formula.Binding.{Binding}
use Rattle.tp_kernel.specs.declared.formula.Expr.{Expr}
use Rattle.tp_kernel.specs.Read.{expr_tree, binding_of, bindings_of, definitions_of}
use Rattle.tp_scene.specs.Step as row
use Rattle.tp_decide.specs.declared.decision.Decision.{Decision}
use Rattle.tp_decide.specs.Fits.{ArePlaces}
use Rattle.tp_decide.specs.Found.{BoundIn}
use Rattle.tp_decide.proofs.CallLemmas.{arguments_after, argument_next, one_too_few}
use Rattle.tp_decide.proofs.calls.find_bindings.Goals as goal

pub loop-expr-preserved : goal.loop-expr-preserved
loop-expr-preserved c =
    let facts = c.args.store.now.facts in
    let defs = definitions_of c.args.setting.now.defs.now in
    let env = bindings_of c.args.env.now in
    let e = c.in-Some.expr.now in
    let x = c.in-Some.parameter.now in
    let b = c.in-Ok.binding in
    let done = map binding_of c.loop-expr.items.items in
    let es = iter_rest (zip_first c.next.new.self) in
    let xs = iter_rest (zip_second c.next.new.self) in
    let left = Zip-more c.loop-expr.expr-iterator c.next.new.self c.next.result (c.in-Some.expr, c.in-Some.parameter) c.in-Some.is c.next.ensures.steps in
    let places = subst (λ (us : List Expr). ArePlaces (exprs_of (map expr_tree us)) (iter_rest (zip_second c.loop-expr.expr-iterator))) left.0 c.loop-expr.invariant.places in
    let bound = subst (λ (r : Result Binding Decision). BoundIn (λ f. row.with_argument defs facts x (expr_tree e) env f) r) c.in-Ok.is c.in_ok-binding.ensures.bound in
    let pushed = ap (map binding_of) c.in_ok-push-in-Ok.ensures.items ∙ map-append binding_of c.loop-expr.items.items (b ∷ []) in
    record {
      bound = λ f.
          ap (λ (bs : List BindingTree). arguments_after facts defs env bs (exprs_of (map expr_tree es)) xs f) pushed
          ∙ argument_next facts defs env done (binding_of b) x xs (expr_tree e) (exprs_of (map expr_tree es)) bound f
          ∙ sym (ap₂ (λ (us : List Expr) (ys : List (List ℕ)). arguments_after facts defs env done (exprs_of (map expr_tree us)) ys f) left.0 left.1)
          ∙ c.loop-expr.invariant.bound f;
      places = (subst (λ (ys : List (List ℕ)). ArePlaces (exprs_of (map expr_tree (e ∷ es))) ys) left.1 places).1;
      lengths = omega (arith, ap length left.0, ap length left.1, c.loop-expr.invariant.lengths);
    }

pub returns-else-len-clause-bound : goal.returns-else-len-clause-bound
returns-else-len-clause-bound c = λ f facts n.
    let ended = either_empty_from_Zip c.loop-expr.expr-iterator c.next.new.self c.next.result c.in-None.is c.next.ensures.steps in
    c.no_element.ensures.outcome facts n
    ∙ one_too_few c.args.store.now.facts (definitions_of c.args.setting.now.defs.now) (bindings_of c.args.env.now) (map binding_of c.loop-expr.items.items) (iter_rest (zip_first c.loop-expr.expr-iterator)) (iter_rest (zip_second c.loop-expr.expr-iterator)) ended
    (λ q. omega (arith, q, c.if-len.false, c.loop-expr.invariant.lengths, c.len.ensures, c.len-2.ensures, ap length c.parameters.view_is)) f
    ∙ c.loop-expr.invariant.bound f
