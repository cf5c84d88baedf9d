-- The step of each kind of item keeps what it says.
use Rattle.std.proofs.Common.{ℕ, ◌≤◌, Bool, List, length, sym, subst}
use Rattle.tp_meaning.specs.Syntax.{FormulaTree, trivial, test, equation, next_equation, empty, more, next, weak_next, if_more, if_empty, always, conjunction, branch, len, assign, chop, while, for_from, forall_from, project, exists, call, input, display}
use Rattle.tp_meaning.specs.Course.{Course}
use Rattle.tp_store.specs.Known.{Contents}
use Rattle.tp_scene.specs.Scene.{Bindings, Do, Place}
use Rattle.tp_scene.specs.Step.{Numbers}
use Rattle.tp_scene.specs.Pick.{Setting}
use Rattle.tp_scene.specs.StandsFor.{context_of}
use Rattle.tp_scene.specs.Fits.{PhraseFits}
use Rattle.tp_scene.proofs.Below.{AllBelow, bindings_below}
use Rattle.tp_scene.proofs.Frame.{IsOf}
use Rattle.tp_scene.proofs.Asked.{Given, LeavesKeep, HoldersKeep}
use Rattle.tp_scene.proofs.Values.{AreRight}
use Rattle.tp_scene.proofs.SimpleRows.{FormulaKeeps, trivial_row, test_row, empty_row, more_row, next_row, weak_next_row, if_more_row, if_empty_row, always_row, conjunction_row, branch_row, while_row, len_row, assign_row, next_equation_row}
use Rattle.tp_scene.proofs.Adding.{adding_is_right}
use Rattle.tp_scene.proofs.EquationRows.{equation_row, input_row}
use Rattle.tp_scene.proofs.RegionRows.{chop_row, project_row, for_row, forall_row, exists_row}
use Rattle.tp_scene.proofs.CallRows.{PlacesAreRight, call_row, display_row}
use Rattle.tp_scene.proofs.HolderRows.{holder_row}

module _ (w : Setting) (kinds : List Bool) (store : Contents) (n : Numbers) (e : ℕ) (given : Given w kinds store n e) where
  right : AreRight (context_of w) kinds store.facts
  right σ s a x env fit ag = given.outcomes store.facts w.defs kinds s σ a x env given.no_clash given.definitions fit ag

  placed : PlacesAreRight (context_of w) kinds store.facts
  placed σ s a x env fit ag = given.places store.facts w.defs kinds s σ a x env given.no_clash given.definitions fit ag

  among : length kinds ≤ n.local
  among = subst (λ (i : ℕ). length kinds ≤ i) (sym given.local) given.globals_among

  below : (env : Bindings) (f : FormulaTree) → PhraseFits w.defs kinds store.variables f env → AllBelow n.local env
  below env f fits = subst (λ (i : ℕ). AllBelow i env) (sym given.local) (bindings_below store.variables env fits.1)

  formula_row : (f : FormulaTree) (env : Bindings) → PhraseFits w.defs kinds store.variables f env → (p : Place) (s : Course) (a b : ℕ) → IsOf w.state p s a b
      → FormulaKeeps (context_of w) w.state kinds store.facts n e given.deep right f env p s a b
  formula_row trivial env fits p s a b is = trivial_row (context_of w) w.state kinds store.facts n e given.deep right env p s a b is.order is.known
  formula_row (test x) env fits p s a b is = test_row (context_of w) w.state kinds store.facts n e given.deep right env p s a b is.order is.known x fits.0
  formula_row (equation l r) env fits p s a b is = equation_row (context_of w) w.state kinds store.facts n e given.deep right (adding_is_right store.facts) l r env fits.0.0 fits.0.1 p s a b
  formula_row (next_equation k t x) env fits p s a b is = next_equation_row (context_of w) w.state kinds store.facts n e given.deep right env p s a b is.order is.known x fits.0.1 k t fits.0.2
  formula_row empty env fits p s a b is = empty_row (context_of w) w.state kinds store.facts n e given.deep right env p s a b is.order is.known
  formula_row more env fits p s a b is = more_row (context_of w) w.state kinds store.facts n e given.deep right env p s a b is.order is.known
  formula_row (next f) env fits p s a b is = next_row (context_of w) w.state kinds store.facts n e given.deep right env p s a b is.order is.known f
  formula_row (weak_next f) env fits p s a b is = weak_next_row (context_of w) w.state kinds store.facts n e given.deep right env p s a b is.order is.known f
  formula_row (if_more f) env fits p s a b is = if_more_row (context_of w) w.state kinds store.facts n e given.deep right env p s a b is.order is.known f
  formula_row (if_empty f) env fits p s a b is = if_empty_row (context_of w) w.state kinds store.facts n e given.deep right env p s a b is.order is.known f
  formula_row (always f) env fits p s a b is = always_row (context_of w) w.state kinds store.facts n e given.deep right env p s a b is.order is.known f
  formula_row (conjunction fs) env fits p s a b is = conjunction_row (context_of w) w.state kinds store.facts n e given.deep right env p s a b is.order is.known fs
  formula_row (branch x f g) env fits p s a b is = branch_row (context_of w) w.state kinds store.facts n e given.deep right env p s a b is.order is.known x f g fits.0.0
  formula_row (len x) env fits p s a b is = len_row (context_of w) w.state kinds store.facts n e given.deep right env p s a b is.order is.known x fits.0
  formula_row (assign t x) env fits p s a b is = assign_row (context_of w) w.state kinds store.facts n e given.deep right env p s a b is.order is.known x fits.0.1 t
  formula_row (chop f g) env fits p s a b is = chop_row (context_of w) w.state kinds store.facts n e given.deep right env p s a b is.order f g
  formula_row (while x f) env fits p s a b is = while_row (context_of w) w.state kinds store.facts n e given.deep right env p s a b is.order is.known x f
  formula_row (for_from name k x f) env fits p s a b is = for_row (context_of w) w.state kinds store.facts n e given.deep right env p s a b is.order name k x f fits.0.0
  formula_row (forall_from name k x f) env fits p s a b is = forall_row (context_of w) w.state kinds store.facts n e given.deep right env p s a b is.order name k x f fits.0.0
  formula_row (project f g) env fits p s a b is = project_row (context_of w) w.state kinds store.facts n e given.deep right env p s a b is.order f g
  formula_row (exists name lasting f) env fits p s a b is =
      exists_row (context_of w) w.state kinds store.facts n e given.deep right env p s a b is.order among (below env (exists name lasting f) fits) lasting name f
  formula_row (call i xs) env fits p s a b is = call_row (context_of w) w.state kinds store.facts n e given.deep right placed env s a b i xs fits.0.3 p
  formula_row (input x port) env fits p s a b is = input_row (context_of w) w.state kinds store.facts n e given.deep right (adding_is_right store.facts) x port env fits.0 p s a b is.own
  formula_row (display xs) env fits p s a b is = display_row (context_of w) w.state kinds store.facts n e given.deep right placed env s a b xs fits.0 p

  pub leaves_keep : LeavesKeep w kinds store n e
  leaves_keep (Do f env) p fits s a b is = formula_row f env fits p s a b is
  leaves_keep l p fits s a b is = tt

  pub holders_keep : HoldersKeep w kinds store n e
  holders_keep k h held g second bk bh bs p s a b is = holder_row (context_of w) w.state (length kinds) store.facts n e k h held g second bk bh bs p s a b is
