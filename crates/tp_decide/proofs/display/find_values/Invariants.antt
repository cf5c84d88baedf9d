use Rattle.std.proofs.Common.{◌≡◌, List, map}
use Rattle.tp_value.specs.Tree.{Tree}
use Rattle.tp_value.specs.Read.{tree}
use Rattle.tp_kernel.specs.Read.{expr_trees, definitions_of, bindings_of}
use Rattle.tp_eval.proofs.Levels.{rest}
use Rattle.tp_scene.specs.Step.{PickOutcome}
use Rattle.tp_decide.proofs.DisplayLemmas.{values_then, values_after}
use Rattle.tp_decide.proofs.display.find_values.Given as goal

abbrev pub invariant-loop-expr : goal.invariant-loop-expr
invariant-loop-expr l =
    let defs = definitions_of l.setting.defs.now in
    let env = bindings_of l.env in
    (f : List Tree → PickOutcome) → values_after l.store.facts defs env (map tree l.items.items) (rest l.exprs.items.items l.expr-index) f ≡ values_then l.store.facts defs env (expr_trees l.exprs) f
