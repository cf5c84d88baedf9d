use Rattle.std.proofs.Common.{◌≡◌, ◌+◌, length, map}
use Rattle.std.specs.Iterator.Adapters.{zip_first, zip_second}
use Rattle.std.specs.Slice.Iter.{iter_rest}
use Rattle.tp_meaning.specs.Syntax.{exprs_of}
use Rattle.tp_kernel.specs.Read.{expr_tree, expr_trees, binding_of, definitions_of, bindings_of}
use Rattle.tp_scene.specs.Scene.{Bindings}
use Rattle.tp_scene.specs.Step.{PickOutcome}
use Rattle.tp_decide.specs.Fits.{ArePlaces}
use Rattle.tp_decide.proofs.CallLemmas.{arguments_then, arguments_after}
use Rattle.tp_decide.proofs.calls.find_bindings.Given as goal

abbrev pub invariant-loop-expr : goal.invariant-loop-expr
invariant-loop-expr l =
    let defs = definitions_of l.setting.defs.now in
    let env = bindings_of l.env in
    let es = iter_rest (zip_first l.expr-iterator) in
    let xs = iter_rest (zip_second l.expr-iterator) in
    record {
      bound : (f : Bindings → PickOutcome)
          → arguments_after l.store.facts defs env (map binding_of l.items.items) (exprs_of (map expr_tree es)) xs f ≡ arguments_then l.store.facts defs env (expr_trees l.exprs) l.parameters f;
      places : ArePlaces (exprs_of (map expr_tree es)) xs;
      lengths : length es + length l.parameters ≡ length xs + length l.exprs.items.items;
    }
