-- Which expressions, formulas, definitions, programs and bindings fit each other and their
-- variables.
use Rattle.std.specs.Prelude.{◌≡◌, ℕ, suc, ◌<◌, ◌≤◌, Bool, List, [], ◌∷◌, Some, slice_get, IsTrue, length}
use Rattle.tp_value.specs.declared.path.VarId.{VarId}
use Rattle.tp_meaning.specs.Syntax.{ExprTree, ExprTrees, bound, global, listing, size, index, minus, negation, both, either, binary, choice, invoke, no_expr, expr_then, FormulaTree, FormulaTrees, test, equation, next_equation, next, weak_next, if_more, if_empty, always, conjunction, branch, len, assign, chop, while, for_from, forall_from, project, exists, call, input, display, no_formula, formula_then, Definition}
use Rattle.tp_meaning.specs.Value.{is_upper}
use Rattle.tp_meaning.specs.Interval.{ProgramTree, kinds_of}

-- a name followed by indices
abbrev pub IsPlace : ExprTree → Type 0
IsPlace (bound i) = Unit {0}
IsPlace (global x) = Unit {0}
IsPlace (index e i) = IsPlace e
IsPlace _ = ⊥

-- as many arguments as parameters, and a place for each upper-case parameter
abbrev pub AreArguments : ExprTrees → List (List ℕ) → Type 0
AreArguments no_expr [] = Unit {0}
AreArguments (expr_then e es) (x ∷ xs) = (IsTrue (is_upper x) → IsPlace e) × AreArguments es xs
AreArguments _ _ = ⊥

-- one of the variables, of which `kinds` says which are static
abbrev pub IsVariable : List Bool → VarId → Type 0
IsVariable kinds x = slice_get kinds x.number ≡ Some x.lasting

-- `n` is the number of bindings
module _ (defs : List Definition) (kinds : List Bool) where
  abbrev mutual
    pub ExprFits : ExprTree → (n : ℕ) → Type 0
    ExprFits (bound i) n = i < n
    ExprFits (global x) n = IsVariable kinds x
    ExprFits (listing es) n = ExprsFit es n
    ExprFits (size e) n = ExprFits e n
    ExprFits (index e i) n = ExprFits e n × ExprFits i n
    ExprFits (minus e) n = ExprFits e n
    ExprFits (negation e) n = ExprFits e n
    ExprFits (both es) n = ExprsFit es n
    ExprFits (either a b) n = ExprFits a n × ExprFits b n
    ExprFits (binary o a b) n = ExprFits a n × ExprFits b n
    ExprFits (choice b x y) n = ExprFits b n × ExprFits x n × ExprFits y n
    ExprFits (invoke p es) n =
        (f : Definition) × (e : ExprTree) × (slice_get defs p ≡ Some f) × (f.expr ≡ Some e)
        × AreArguments es f.parameters × ExprsFit es n
    ExprFits _ n = Unit {0}

    pub ExprsFit : ExprTrees → (n : ℕ) → Type 0
    ExprsFit no_expr n = Unit {0}
    ExprsFit (expr_then e es) n = ExprFits e n × ExprsFit es n

  abbrev mutual
    pub FormulaFits : FormulaTree → (n : ℕ) → Type 0
    FormulaFits (test e) n = ExprFits e n
    FormulaFits (equation l r) n = ExprFits l n × ExprFits r n
    FormulaFits (next_equation k t e) n = ExprFits t n × ExprFits e n × (1 ≤ k)
    FormulaFits (next f) n = FormulaFits f n
    FormulaFits (weak_next f) n = FormulaFits f n
    FormulaFits (if_more f) n = FormulaFits f n
    FormulaFits (if_empty f) n = FormulaFits f n
    FormulaFits (always f) n = FormulaFits f n
    FormulaFits (conjunction fs) n = FormulasFit fs n
    FormulaFits (branch e f g) n = ExprFits e n × FormulaFits f n × FormulaFits g n
    FormulaFits (len e) n = ExprFits e n
    FormulaFits (assign t e) n = ExprFits t n × ExprFits e n
    FormulaFits (chop f g) n = FormulaFits f n × FormulaFits g n
    FormulaFits (while e f) n = ExprFits e n × FormulaFits f n
    FormulaFits (for_from name k e f) n = ExprFits e n × FormulaFits f (suc n)
    FormulaFits (forall_from name k e f) n = ExprFits e n × FormulaFits f (suc n)
    FormulaFits (project f g) n = FormulaFits f n × FormulaFits g n
    FormulaFits (exists name lasting f) n = FormulaFits f (suc n)
    FormulaFits (call p es) n =
        (f : Definition) × (slice_get defs p ≡ Some f) × AreArguments es f.parameters
        × ExprsFit es n
    FormulaFits (input e port) n = ExprFits e n
    FormulaFits (display es) n = ExprsFit es n
    FormulaFits _ n = Unit {0}

    pub FormulasFit : FormulaTrees → (n : ℕ) → Type 0
    FormulasFit no_formula n = Unit {0}
    FormulasFit (formula_then f fs) n = FormulaFits f n × FormulasFit fs n

  -- each body fits the number of its parameters
  pub record DefinitionsFit : Type 0 where
    pub formula : (p : ℕ) (f : Definition) → slice_get defs p ≡ Some f
        → FormulaFits f.formula (length f.parameters)
    pub expr : (p : ℕ) (f : Definition) → slice_get defs p ≡ Some f → (e : ExprTree)
        → f.expr ≡ Some e → ExprFits e (length f.parameters)

pub record ProgramFits (p : ProgramTree) : Type 0 where
  pub defs : DefinitionsFit p.defs (kinds_of p.globals)
  pub main : FormulaFits p.defs (kinds_of p.globals) p.main 0
