use Rattle.std.proofs.Common.{◌≡◌, ◌+◌, ◌++◌, ◌∷◌, [], ◌∙◌, ℕ, List, sym, ap, map, drop, Option, Some, Global}
use Rattle.std.specs.Option.{option_map}
use Rattle.std.specs.declared.rc.Rc.{Rc}
use Rattle.std.proofs.lemmas.List.{map-append}
use Rattle.tp_meaning.specs.Syntax.{formulas_of}
use Rattle.tp_kernel.specs.declared.formula.Formula.{Formula}
use Rattle.tp_kernel.specs.Read.{formula_tree, formula_trees}
use Rattle.tp_kernel.specs.Equations.{formula_trees_is}
use Rattle.tp_check.specs.Building.{formula_seen}
use Rattle.tp_verdict.specs.Wide.{WideTree, WideTrees, conjunction, wide_formulas_of}
use Rattle.tp_verdict.specs.Widened.{widened, all_widened}
use Rattle.tp_verdict.specs.declared.wide_formula.WideFormula.{WideFormula}
use Rattle.tp_verdict.specs.declared.wide_formula.WideFormulas.{roll-WideFormulas}
use Rattle.tp_verdict.specs.Read.{wide_tree}
use Rattle.tp_verdict.proofs.WideTrees.{wide_and}
use Rattle.tp_meaning.specs.Value.{◌>>=◌}
use Rattle.tp_monitor.proofs.InOrder.{behind, none_behind, one_widened, all_behind, seen_from, seen_all}
use Rattle.tp_monitor.proofs.widening.+widen.Goals as goal

pub widen_all-loop-formula-init : goal.widen_all-loop-formula-init
widen_all-loop-formula-init t c =
    let xs : List (Rc Formula Global) = c.deref-formula-items.result.now in
    let seen : formula_trees c.args.formulas.now ≡ formulas_of (map formula_seen xs) =
    formula_trees_is c.args.formulas.now ∙ ap (λ (ys : List (Rc Formula Global)). formulas_of (map formula_seen ys)) (sym c.deref-formula-items.ensures.value) in
    ap all_widened seen ∙ none_behind (map wide_tree c.new-items.result.items) _ (ap (map wide_tree) c.new-items.ensures.items)

pub widen_all-loop-formula-preserved : goal.widen_all-loop-formula-preserved
widen_all-loop-formula-preserved t c =
    let xs : List (Rc Formula Global) = c.deref-formula-items.result.now in
    let i : ℕ = c.loop-formula.formula-index in
    let x : Rc Formula Global = c.formula-item.result in
    let made : List WideTree = map wide_tree c.loop-formula.items.items in
    let rest : Option WideTrees = all_widened (formulas_of (map formula_seen (drop (i + 1) xs))) in
    let w : WideFormula = c.in-Some.w in
    let pushed : map wide_tree c.push.new.self.items ≡ made ++ wide_tree w ∷ [] =
    ap (map wide_tree) c.in_ok-push.ensures.items ∙ map-append wide_tree c.loop-formula.items.items (w ∷ []) in
    let one : widened (formula_seen x) ≡ Some (wide_tree w) =
    sym (ap (λ (y : Formula). widened (formula_tree y)) c.deref.ensures) ∙ (sym c.in_ok-found.ensures ∙ ap (option_map wide_tree) c.in-Some.is) in
    c.loop-formula.invariant
    ∙ (ap (λ ts. behind made (all_widened (formulas_of ts))) (seen_from formula_seen xs i x c.loop-formula-test.true c.formula-item.is)
    ∙ (one_widened made (wide_tree w) (widened (formula_seen x)) rest one
    ∙ ap (λ (ys : List WideTree). behind ys rest) (sym pushed)))

pub widen_all-returns : goal.widen_all-returns
widen_all-returns t c =
    let xs : List (Rc Formula Global) = c.deref-formula-items.result.now in
    let made : List WideTree = map wide_tree c.loop-formula.items.items in
    let all : all_widened (formula_trees c.args.formulas.now) ≡ Some (wide_formulas_of made) =
    c.loop-formula.invariant
    ∙ (ap (λ ts. behind made (all_widened (formulas_of ts))) (seen_all formula_seen xs c.loop-formula.formula-index c.loop-formula-test.false) ∙ all_behind made) in
    ap Some (wide_and (roll-WideFormulas (record { items = c.loop-formula.items })))
    ∙ sym (ap (λ (o : Option WideTrees). o >>= (λ ws. Some (conjunction ws))) all)
