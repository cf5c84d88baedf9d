-- What the row of a formula that fits gives, by parts that fit.
use Rattle.std.proofs.Common.{◌≡◌, ℕ, zero, suc, ◌-◌, Bool, List, [], ◌∷◌, length, slice_get, Option, Some, None, arith}
use Rattle.std.proofs.lemmas.Bool.{ltb-true}
use Rattle.std.proofs.lemmas.List.{length-append}
use Rattle.tp_value.specs.Tree.{Tree, num, truth, list, of_items}
use Rattle.tp_value.specs.Limits.{path_limit}
use Rattle.tp_value.specs.declared.path.Path.{Path}
use Rattle.tp_value.specs.declared.path.Fact.{Fact}
use Rattle.tp_value.specs.declared.path.VarId.{VarId}
use Rattle.tp_kernel.specs.declared.fault.FaultKind.{FaultKind}
use Rattle.tp_kernel.specs.declared.fault.LimitKind.TheVariants as limit
use Rattle.tp_meaning.specs.Syntax.{ExprTree, known, bound, global, invoke, FormulaTree, equation, next_equation, always, len, assign, while, for_from, forall_from, exists, call, input, Definition}
use Rattle.tp_meaning.specs.Nexts.{nexts}
use Rattle.tp_meaning.specs.Inputs.{InputTable}
use Rattle.tp_meaning.specs.Fits.{ExprFits, ExprsFit, FormulaFits, FormulasFit, DefinitionsFit, IsVariable}
use Rattle.tp_meaning.specs.BindingsFit.{BindingFits}
use Rattle.tp_store.specs.Known as store
use Rattle.tp_store.specs.Known.{Variable, IsVariableOf, AreOfVariables, full}
use Rattle.tp_eval.specs.Outcome as found
use Rattle.tp_scene.specs.Scene.{Bindings, Place}
use Rattle.tp_scene.specs.Step.{Numbers, formula_step}
use Rattle.tp_scene.specs.Fits.{kinds_in, PhraseFits}
use Rattle.tp_scene.proofs.Parts.{Whatever}
use Rattle.tp_scene.proofs.Globals.{facts_of_value}
use Rattle.tp_scene.proofs.Evaluated.{ExprPartsOf, Evaluates, outcome_told, place_outcome_told}
use Rattle.tp_scene.proofs.Told.{Bundle, Lists, PartsOf, RowsKeep, Told, formula_told}

-- a new local is one of the variables
abbrev pub LocalIn : Option Variable → List Variable → ℕ → Type 0
LocalIn None xs n = Unit {0}
LocalIn (Some x) xs n = slice_get (kinds_in xs) n ≡ Some x.lasting

-- what is asked of a property of outcomes: values, faults and limits have it, and so has a wait for a path of the variables, or for what is open there
pub record Sees (facts : List Fact) (variables : List Variable) (Q : found.Outcome → Type 0) : Type 0 where
  pub value : (v : Tree) → Q (found.value v)
  pub waiting : (q : Path) → IsVariableOf variables q.var → Q (found.wait q)
  pub undecided : (q p : Path) → IsVariableOf variables q.var → full facts q ≡ store.undecided p → Q (found.wait p)
  pub fault : (k : FaultKind) → Q (found.fault k)
  pub limits : Q (found.over limit.Number) × Q (found.over limit.List) × Q (found.over limit.Calls)

pub whatever_seen : (facts : List Fact) (variables : List Variable) → Sees facts variables Whatever
whatever_seen facts variables = record { value = λ v. tt; waiting = λ q h. tt; undecided = λ q p h e. tt; fault = λ k. tt; limits = (tt, tt, tt) }

-- `kinds` says of each of the program's variables whether it is static; all of them are among
-- `variables`, the store's before a step or after it. Q, of outcomes, is for the table to choose.
abbrev pub fitting : List Definition → List Bool → List Variable → Numbers → (found.Outcome → Type 0) → Bundle
fitting defs kinds variables n Q = record {
  formula = FormulaFits defs kinds;
  formulas = FormulasFit defs kinds;
  expr = ExprFits defs kinds;
  exprs = ExprsFit defs kinds;
  binding = BindingFits (kinds_in variables);
  evaluated = Q;
  new_facts = AreOfVariables variables;
  name = λ x. Unit {0};
  local = λ x. LocalIn x variables n.local;
}

module _ (defs : List Definition) (kinds : List Bool) (variables : List Variable) (n : Numbers) (Q : found.Outcome → Type 0) where
  nexts_fit : (j : ℕ) (f : FormulaTree) (m : ℕ) → FormulaFits defs kinds f m → FormulaFits defs kinds (nexts j f) m
  nexts_fit zero f m h = h
  nexts_fit (suc j) f m h = nexts_fit j f m h

  -- the last line is for each kind whose row of `FormulaFits` is that of `PartsOf`
  fit_parts : (f : FormulaTree) (m : ℕ) → FormulaFits defs kinds f m → PartsOf (fitting defs kinds variables n Q) f m
  fit_parts (next_equation k t e) m h = (h.1, λ v u. nexts_fit (k - 1) (equation t (known v)) m (h.0, tt))
  fit_parts (always f) m h = (h, h)
  fit_parts (len e) m h = (h, tt, λ k. tt)
  fit_parts (assign t e) m h = (h.1, λ v u. (h.0, tt))
  fit_parts (while e f) m h = (h.0, ((h.1, (tt, tt)), h), tt)
  fit_parts (for_from x k e f) m h = (tt, record { last = h.0; number = tt; turn = h.1; left = λ j u l. (tt, h.1) })
  fit_parts (forall_from x k e f) m h = record { last = h.0; number = tt; turn = h.1; left = λ j u l. (tt, h.1) }
  fit_parts (exists x lasting f) m h = (tt, h)
  fit_parts (call i es) m h = h.3
  fit_parts (input x port) m h = (h, tt)
  fit_parts f m h = h

  fit_exprs : ((v : Tree) → Q (found.value v)) → ((x : VarId) → IsVariable kinds x → IsVariable (kinds_in variables) x) → (e : ExprTree) (m : ℕ) → ExprFits defs kinds e m → ExprPartsOf (fitting defs kinds variables n Q) e m
  fit_exprs values among (known t) m h = λ e. values t
  fit_exprs values among (bound i) m h = tt
  fit_exprs values among (global x) m h = (among x h, omega arith)
  fit_exprs values among (invoke i es) m h = h.5
  fit_exprs values among e m h = h

  module _ (definitions : DefinitionsFit defs kinds) (among : (x : VarId) → IsVariable kinds x → IsVariable (kinds_in variables) x) (inputs : InputTable) (state : ℕ) (facts : List Fact) (sees : Sees facts variables Q) where
    lists_fit : Lists (fitting defs kinds variables n Q)
    lists_fit = record {
      first_formula = λ g gs m h. h.0;
      other_formulas = λ g gs m h. h.1;
      first_expr = λ e es m h. h.0;
      other_exprs = λ e es m h. h.1;
      sized = λ e m h. h;
    }

    evaluates : Evaluates (fitting defs kinds variables n Q) defs facts
    evaluates = record {
      lists = lists_fit;
      parts = fit_exprs sees.value among;
      body = λ i d e is q. definitions.expr i d is e q;
      number = λ k e. sees.value (num k);
      truths = λ c. sees.value (truth c);
      listed = λ ts h e. sees.value (list (of_items ts));
      item = λ ts k t h e. sees.value t;
      sized = λ ts h. sees.value _;
      kept_size = λ q k e. sees.value _;
      kept = λ q t e. sees.value t;
      value_bound = λ t h. tt;
      bound_value = λ t h. sees.value t;
      farther = λ q k h i l. (h.0, let e = length-append q.at (k ∷ []) in let m = ltb-true (length q.at) path_limit l in omega (arith, e, m));
      waiting = λ q h. sees.waiting q h.0;
      undecided = λ q p h e. sees.undecided q p h.0 e;
      fault = sees.fault;
      limits = sees.limits;
    }

    known_parts : RowsKeep (fitting defs kinds variables n Q) defs inputs state facts n
    known_parts = record {
      lists = lists_fit;
      parts = fit_parts;
      body = definitions.formula;
      value = λ e xs h k. outcome_told (fitting defs kinds variables n Q) facts defs evaluates e (length xs) xs h k;
      place = λ e xs h k. place_outcome_told (fitting defs kinds variables n Q) facts defs evaluates e (length xs) xs h k;
      read = λ port v e. sees.value v;
      value_bound = λ v u. tt;
      local_bound = λ x l. (l, omega arith);
      sets = λ q v h u. facts_of_value variables q v h.0;
      lengthens = λ q k h l. (h.0, tt);
      shared = λ q k i h e l. ((omega arith, tt), (omega arith, tt));
      shapes = λ x q sh h k e. (h.0, tt);
      open_path = λ q h u v. sees.waiting q h.0;
    }

    pub fits_told : (f : FormulaTree) (env : Bindings) (p : Place) → PhraseFits defs kinds variables f env → Told (fitting defs kinds variables n Q) facts p n (formula_step defs inputs state facts f env p n)
    fits_told f env p fit = formula_told (fitting defs kinds variables n Q) defs inputs state facts n known_parts p f env fit
