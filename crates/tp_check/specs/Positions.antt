-- From phrases to formulas and expressions, by the position in which a phrase stands.
use Rattle.std.specs.Prelude.{pos, ℕ, zero, suc, ◌&&◌, nat_eq, Bool, true, false, List, [], ◌∷◌, length, if◌then◌else◌, Option, Some, None, Ok, Err}
use Rattle.tp_tree.specs.declared.operator.Op.{Op}
use Rattle.tp_tree.specs.declared.operator.Op.TheVariants as op
use Rattle.tp_tree.specs.declared.operator.Bare.{Bare}
use Rattle.tp_tree.specs.declared.operator.Bare.TheVariants.{Empty, More, Skip}
use Rattle.tp_tree.specs.declared.operator.Form.TheVariants as f
use Rattle.tp_tree.specs.Tree.{PhraseTree, phrase, KindTree, PhraseTrees, no_phrase, phrase_then}
use Rattle.tp_tree.specs.Tree as k
use Rattle.tp_meaning.specs.Syntax.{Equal, Differs, Less, LessEqual, Greater, GreaterEqual, Plus, Minus, Times, Div, Mod, ExprTree, numeral, boolean, listing, size, index, minus, negation, either, binary, choice, invoke, exprs_of, FormulaTree, trivial, test, equation, empty, more, next, always, conjunction, branch, len, assign, chop, while, for_from, forall_from, project, input, display, formulas_of}
use Rattle.tp_meaning.specs.Syntax as m
use Rattle.tp_meaning.specs.Value.{is_upper}
use Rattle.tp_meaning.specs.Derived.{skip_of, halt_of, keep_of, fin_of, gets_of, stable_of, becomes_of, list_of_length, next_equals_of, repeat_of}
use Rattle.tp_check.specs.declared.refusal.CheckRefusal.{CheckRefusal}
use Rattle.tp_check.specs.declared.refusal.CheckRefusal.TheVariants.{Twice, Unknown, NotExecutable, NotExpression, NotPlace, NotPort, WrongCount}
use Rattle.tp_value.specs.Globals.{is_lower}
use Rattle.tp_scope.specs.Scope.{Names, Called, VisibleNames, with_binder, with_binders, referent_of, called_of}
use Rattle.tp_scope.specs.Names.{has_repeat, calls_state}
use Rattle.tp_check.specs.Outcome.{CheckOutcome, not_run, not_expression, mapped, both, three}
use Rattle.tp_scope.specs.Phrases.{is_state_phrase, is_place_phrase, is_place_kind, takes, phrase_count, nexts_of, behind_nexts, at_of}

-- ---- expressions

-- what a name at this place stands for; no name of a program is missing among its names, so none is
-- refused there
abbrev pub named_expr : ℕ → Option ExprTree → CheckOutcome ExprTree
named_expr at (Some e) = Ok e
named_expr at None = not_run at

-- what an operator makes of two expressions; `;`, `proj`, `gets`, `<-` and `:=` make no expression
abbrev pub operation_of : Op → Option (ExprTree → ExprTree → ExprTree)
operation_of op.Or = Some either
operation_of op.Equal = Some (binary Equal)
operation_of op.Differs = Some (binary Differs)
operation_of op.Less = Some (binary Less)
operation_of op.LessEqual = Some (binary LessEqual)
operation_of op.Greater = Some (binary Greater)
operation_of op.GreaterEqual = Some (binary GreaterEqual)
operation_of op.Plus = Some (binary Plus)
operation_of op.Minus = Some (binary Minus)
operation_of op.Times = Some (binary Times)
operation_of op.Div = Some (binary Div)
operation_of op.Mod = Some (binary Mod)
operation_of op.Chop = None
operation_of op.Proj = None
operation_of op.Gets = None
operation_of op.Arrow = None
operation_of op.Becomes = None

-- two expressions with an operator between them, whose phrase stands at this place
abbrev pub operation_at : ℕ → Option (ExprTree → ExprTree → ExprTree)
    → (l r : CheckOutcome ExprTree) → CheckOutcome ExprTree
operation_at at (Some make) l r = both make l r
operation_at at None l r = not_expression at

-- the refusal of a call at this place, of what is called with so many operands, where another one
-- stands after its own
abbrev pub call_refusal : (at : ℕ) → Option Called → (count : ℕ) → CheckRefusal → CheckRefusal
call_refusal at None n other = Unknown at
call_refusal at (Some c) n other =
    if nat_eq n (length c.signature.parameters) then other else WrongCount at

-- Why a phrase at this place is refused that isn't taken in its position, where `other` is that
-- position's own refusal. Before it come, in any position: a call of an unknown definition; a call
-- or a form with a wrong number of operands; an `exists` that binds a name twice.
abbrev pub refusal_of : VisibleNames → (at : ℕ) → KindTree → (other : CheckRefusal) → CheckRefusal
refusal_of names at (k.call x ps) other =
    call_refusal at (called_of names.definitions x) (phrase_count ps) other
refusal_of names at (k.form form ps) other =
    if takes form (phrase_count ps) then other else WrongCount at
refusal_of names at (k.exists xs p) other = if has_repeat xs then Twice at else other
refusal_of names at (k.number n) other = other
refusal_of names at (k.truth b) other = other
refusal_of names at (k.name x) other = other
refusal_of names at (k.list ps) other = other
refusal_of names at (k.size p) other = other
refusal_of names at (k.index p i) other = other
refusal_of names at (k.minus p) other = other
refusal_of names at (k.next p) other = other
refusal_of names at (k.negation p) other = other
refusal_of names at (k.binary o l r) other = other
refusal_of names at (k.conjunction ps) other = other
refusal_of names at (k.choice b p) other = other
refusal_of names at (k.choice_else b p q) other = other
refusal_of names at (k.while b p) other = other
refusal_of names at (k.repeat p b) other = other
refusal_of names at (k.for x e p) other = other
refusal_of names at (k.forall x e p) other = other
refusal_of names at (k.bare word) other = other

-- A call at this place as an expression, with so many operands, which by the parameters are these
-- arguments: it calls a state definition.
abbrev pub called_expr : (at : ℕ) → Option Called → (count : ℕ)
    → (arguments : Names → CheckOutcome (List ExprTree)) → CheckOutcome ExprTree
called_expr at None n arguments = Err (Unknown at)
called_expr at (Some c) n arguments =
    if nat_eq n (length c.signature.parameters)
    then (if c.signature.is_state
    then mapped (λ es. invoke c.number (exprs_of es)) (arguments c.signature.parameters)
    else not_expression at)
    else Err (WrongCount at)

-- Expressions, where these names can be read.
abbrev mutual
  pub expr_of : VisibleNames → PhraseTree → CheckOutcome ExprTree
  expr_of names (phrase at kind) = expr_of_kind names at kind

  pub expr_of_kind : VisibleNames → (at : ℕ) → KindTree → CheckOutcome ExprTree
  expr_of_kind names at (k.number n) = Ok (numeral n)
  expr_of_kind names at (k.truth b) = Ok (boolean b)
  expr_of_kind names at (k.name x) = named_expr at (referent_of names x)
  expr_of_kind names at (k.list ps) = mapped (λ es. listing (exprs_of es)) (exprs_in names ps)
  expr_of_kind names at (k.size p) = mapped size (expr_of names p)
  expr_of_kind names at (k.index p i) = both index (expr_of names p) (expr_of names i)
  expr_of_kind names at (k.minus p) = mapped minus (expr_of names p)
  expr_of_kind names at (k.negation p) = mapped negation (expr_of names p)
  expr_of_kind names at (k.binary o l r) =
      operation_at at (operation_of o) (expr_of names l) (expr_of names r)
  expr_of_kind names at (k.conjunction ps) = mapped (λ es. m.both (exprs_of es)) (exprs_in names ps)
  expr_of_kind names at (k.choice_else b p q) =
      three choice (expr_of names b) (expr_of names p) (expr_of names q)
  expr_of_kind names at (k.call x ps) =
      called_expr at (called_of names.definitions x) (phrase_count ps)
      (λ parameters. arguments_in names ps parameters)
  -- no expressions
  expr_of_kind names at (k.next p) = not_expression at
  expr_of_kind names at (k.choice b p) = not_expression at
  expr_of_kind names at (k.while b p) = not_expression at
  expr_of_kind names at (k.repeat p b) = not_expression at
  expr_of_kind names at (k.for x e p) = not_expression at
  expr_of_kind names at (k.forall x e p) = not_expression at
  expr_of_kind names at (k.bare word) = not_expression at
  expr_of_kind names at (k.exists xs p) =
      Err (refusal_of names at (k.exists xs p) (NotExpression at))
  expr_of_kind names at (k.form word ps) =
      Err (refusal_of names at (k.form word ps) (NotExpression at))

  -- of each of the phrases
  pub exprs_in : VisibleNames → PhraseTrees → CheckOutcome (List ExprTree)
  exprs_in names no_phrase = Ok []
  exprs_in names (phrase_then p ps) = both (λ e es. e ∷ es) (expr_of names p) (exprs_in names ps)

  -- a place phrase as an expression; any other is refused
  pub place_phrase : VisibleNames → PhraseTree → CheckOutcome ExprTree
  place_phrase names (phrase at kind) =
      if is_place_kind kind then expr_of_kind names at kind
      else Err (refusal_of names at kind (NotPlace at))

  -- the operands of a call: a place for each upper-case parameter, an expression for each
  -- lower-case one
  pub arguments_in : VisibleNames → PhraseTrees → (parameters : Names)
      → CheckOutcome (List ExprTree)
  arguments_in names (phrase_then p ps) (x ∷ xs) =
      both (λ e es. e ∷ es) (if is_upper x then place_phrase names p else expr_of names p)
      (arguments_in names ps xs)
  arguments_in names no_phrase xs = Ok []
  arguments_in names (phrase_then p ps) [] = Ok []

-- the operand for a parameter: a place where the parameter is upper-case, an expression else
abbrev pub argument_in : (upper : Bool) → VisibleNames → PhraseTree → CheckOutcome ExprTree
argument_in upper names p = if upper then place_phrase names p else expr_of names p

-- a port is its name as it is written, whatever that name is bound to; any other phrase is refused
abbrev pub port_of_kind : VisibleNames → (at : ℕ) → KindTree → CheckOutcome (List ℕ)
port_of_kind names at (k.name x) = if is_lower x then Ok x else Err (NotPort at)
port_of_kind names at (k.number n) = Err (NotPort at)
port_of_kind names at (k.truth b) = Err (NotPort at)
port_of_kind names at (k.list ps) = Err (NotPort at)
port_of_kind names at (k.size p) = Err (NotPort at)
port_of_kind names at (k.index p i) = Err (NotPort at)
port_of_kind names at (k.minus p) = Err (NotPort at)
port_of_kind names at (k.next p) = Err (NotPort at)
port_of_kind names at (k.negation p) = Err (NotPort at)
port_of_kind names at (k.binary o l r) = Err (NotPort at)
port_of_kind names at (k.conjunction ps) = Err (NotPort at)
port_of_kind names at (k.choice b p) = Err (NotPort at)
port_of_kind names at (k.choice_else b p q) = Err (NotPort at)
port_of_kind names at (k.while b p) = Err (NotPort at)
port_of_kind names at (k.repeat p b) = Err (NotPort at)
port_of_kind names at (k.for x e p) = Err (NotPort at)
port_of_kind names at (k.forall x e p) = Err (NotPort at)
port_of_kind names at (k.bare word) = Err (NotPort at)
port_of_kind names at (k.exists xs p) = Err (refusal_of names at (k.exists xs p) (NotPort at))
port_of_kind names at (k.form word ps) = Err (refusal_of names at (k.form word ps) (NotPort at))
port_of_kind names at (k.call x ps) = Err (refusal_of names at (k.call x ps) (NotPort at))

abbrev pub port_phrase : VisibleNames → PhraseTree → CheckOutcome (List ℕ)
port_phrase names (phrase at kind) = port_of_kind names at kind

-- ---- formulas

-- `l = r`, where l and r are the sides without the `next` in front of them, and that many stand in
-- front of either. With `next` on both sides the left one is taken whole, and the right one, which
-- is at this place, is refused.
abbrev pub equation_of : (left_nexts right_nexts right_at : ℕ) → (l r : CheckOutcome ExprTree)
    → CheckOutcome FormulaTree
equation_of zero zero at l r = both equation l r
equation_of (suc n) zero at l r = both (λ t e. next_equals_of (suc n) t e) l r
equation_of zero (suc n) at l r = both (λ e t. next_equals_of (suc n) t e) l r
equation_of (suc n) (suc m) at l r = both equation l (not_expression at)

abbrev pub equation_in : VisibleNames → (l r : PhraseTree) → CheckOutcome FormulaTree
equation_in names l r =
    equation_of (nexts_of l) (nexts_of r) (at_of r) (expr_of names (behind_nexts l))
    (expr_of names (behind_nexts r))

-- the place has this truth value
abbrev pub place_is : Bool → ExprTree → FormulaTree
place_is b p = equation p (boolean b)

-- a phrase that is an expression: a place is true, anything else is tested
abbrev pub state_in : VisibleNames → (at : ℕ) → KindTree → CheckOutcome FormulaTree
state_in names at kind =
    if is_place_kind kind then mapped (place_is true) (expr_of_kind names at kind)
    else mapped test (expr_of_kind names at kind)

-- whether a phrase says something of one state, and calls state definitions alone
abbrev pub is_state_in : VisibleNames → PhraseTree → Bool
is_state_in names p = is_state_phrase (calls_state names.definitions) p

-- `not p`: a place is false; else p is a state phrase
abbrev pub negation_in : VisibleNames → (at : ℕ) → PhraseTree → CheckOutcome FormulaTree
negation_in names at p =
    if is_place_phrase p then mapped (place_is false) (expr_of names p)
    else if is_state_in names p then state_in names at (k.negation p)
    else not_run at

-- two phrases with an operator between them that composes no formulas
abbrev pub binary_in : VisibleNames → (at : ℕ) → Op → (l r : PhraseTree) → CheckOutcome FormulaTree
binary_in names at op.Equal l r = equation_in names l r
binary_in names at op.Gets l r = both gets_of (place_phrase names l) (expr_of names r)
binary_in names at op.Arrow l r = both assign (place_phrase names l) (expr_of names r)
binary_in names at op.Becomes l r = both becomes_of (place_phrase names l) (expr_of names r)
binary_in names at op.Or l r =
    if is_state_in names l && is_state_in names r then state_in names at (k.binary op.Or l r)
    else not_run at
binary_in names at op.Differs l r = state_in names at (k.binary op.Differs l r)
binary_in names at op.Less l r = state_in names at (k.binary op.Less l r)
binary_in names at op.LessEqual l r = state_in names at (k.binary op.LessEqual l r)
binary_in names at op.Greater l r = state_in names at (k.binary op.Greater l r)
binary_in names at op.GreaterEqual l r = state_in names at (k.binary op.GreaterEqual l r)
binary_in names at op.Plus l r = state_in names at (k.binary op.Plus l r)
binary_in names at op.Minus l r = state_in names at (k.binary op.Minus l r)
binary_in names at op.Times l r = state_in names at (k.binary op.Times l r)
binary_in names at op.Div l r = state_in names at (k.binary op.Div l r)
binary_in names at op.Mod l r = state_in names at (k.binary op.Mod l r)
-- these two compose formulas, so they don't come here
binary_in names at op.Chop l r = state_in names at (k.binary op.Chop l r)
binary_in names at op.Proj l r = state_in names at (k.binary op.Proj l r)

abbrev pub bare_of : Bare → FormulaTree
bare_of Empty = empty
bare_of More = more
bare_of Skip = skip_of

-- a call at this place as a formula
abbrev pub called_formula : VisibleNames → (at : ℕ) → Option Called → PhraseTrees
    → CheckOutcome FormulaTree
called_formula names at None ps = Err (Unknown at)
called_formula names at (Some c) ps =
    if nat_eq (phrase_count ps) (length c.signature.parameters)
    then mapped (λ es. m.call c.number (exprs_of es)) (arguments_in names ps c.signature.parameters)
    else Err (WrongCount at)

-- a formula with a variable of its own for each of these names, which lasts where the name is
-- lower-case; the first is the outermost
abbrev pub exists_of : Names → FormulaTree → FormulaTree
exists_of [] w = w
exists_of (x ∷ xs) w = m.exists x (is_lower x) (exists_of xs w)

-- Formulas, where these names can be read.
abbrev mutual
  pub formula_of : VisibleNames → PhraseTree → CheckOutcome FormulaTree
  formula_of names (phrase at kind) = formula_of_kind names at kind

  pub formula_of_kind : VisibleNames → (at : ℕ) → KindTree → CheckOutcome FormulaTree
  formula_of_kind names at (k.conjunction ps) =
      mapped (λ ws. conjunction (formulas_of ws)) (formulas_in names ps)
  formula_of_kind names at (k.truth true) = Ok trivial
  formula_of_kind names at (k.negation p) = negation_in names at p
  formula_of_kind names at (k.binary op.Chop l r) =
      both chop (formula_of names l) (formula_of names r)
  formula_of_kind names at (k.binary op.Proj l r) =
      both project (formula_of names l) (formula_of names r)
  formula_of_kind names at (k.binary o l r) = binary_in names at o l r
  formula_of_kind names at (k.bare word) = Ok (bare_of word)
  formula_of_kind names at (k.next w) = mapped next (formula_of names w)
  formula_of_kind names at (k.form f.Always (phrase_then w no_phrase)) =
      mapped always (formula_of names w)
  formula_of_kind names at (k.form f.Keep (phrase_then w no_phrase)) =
      mapped keep_of (formula_of names w)
  formula_of_kind names at (k.form f.Fin (phrase_then w no_phrase)) =
      mapped fin_of (formula_of names w)
  formula_of_kind names at (k.form f.Halt (phrase_then b no_phrase)) =
      mapped halt_of (expr_of names b)
  formula_of_kind names at (k.form f.Stable (phrase_then p no_phrase)) =
      mapped stable_of (place_phrase names p)
  formula_of_kind names at (k.form f.Len (phrase_then e no_phrase)) = mapped len (expr_of names e)
  formula_of_kind names at (k.form f.List (phrase_then l (phrase_then e no_phrase))) =
      both list_of_length (place_phrase names l) (expr_of names e)
  formula_of_kind names at (k.form f.Input (phrase_then x (phrase_then p no_phrase))) =
      both input (place_phrase names x) (port_phrase names p)
  formula_of_kind names at (k.form f.Display (phrase_then e es)) =
      mapped (λ xs. display (exprs_of xs)) (exprs_in names (phrase_then e es))
  -- `sometimes` is never run
  formula_of_kind names at (k.form f.Sometimes ps) =
      Err (refusal_of names at (k.form f.Sometimes ps) (NotExecutable at))
  -- and these have a wrong number of operands
  formula_of_kind names at (k.form f.Always ps) =
      Err (refusal_of names at (k.form f.Always ps) (NotExecutable at))
  formula_of_kind names at (k.form f.Keep ps) =
      Err (refusal_of names at (k.form f.Keep ps) (NotExecutable at))
  formula_of_kind names at (k.form f.Fin ps) =
      Err (refusal_of names at (k.form f.Fin ps) (NotExecutable at))
  formula_of_kind names at (k.form f.Halt ps) =
      Err (refusal_of names at (k.form f.Halt ps) (NotExecutable at))
  formula_of_kind names at (k.form f.Stable ps) =
      Err (refusal_of names at (k.form f.Stable ps) (NotExecutable at))
  formula_of_kind names at (k.form f.Len ps) =
      Err (refusal_of names at (k.form f.Len ps) (NotExecutable at))
  formula_of_kind names at (k.form f.List ps) =
      Err (refusal_of names at (k.form f.List ps) (NotExecutable at))
  formula_of_kind names at (k.form f.Input ps) =
      Err (refusal_of names at (k.form f.Input ps) (NotExecutable at))
  formula_of_kind names at (k.form f.Display ps) =
      Err (refusal_of names at (k.form f.Display ps) (NotExecutable at))
  formula_of_kind names at (k.choice b w) =
      both (λ c x. branch c x trivial) (expr_of names b) (formula_of names w)
  formula_of_kind names at (k.choice_else b w v) =
      three branch (expr_of names b) (formula_of names w) (formula_of names v)
  formula_of_kind names at (k.while b w) = both while (expr_of names b) (formula_of names w)
  formula_of_kind names at (k.repeat w b) = both repeat_of (formula_of names w) (expr_of names b)
  formula_of_kind names at (k.for x e w) =
      both (for_from x (pos 0)) (expr_of names e) (formula_of (with_binder x names) w)
  formula_of_kind names at (k.forall x e w) =
      both (forall_from x (pos 0)) (expr_of names e) (formula_of (with_binder x names) w)
  formula_of_kind names at (k.exists xs w) =
      if has_repeat xs then Err (Twice at)
      else mapped (exists_of xs) (formula_of (with_binders xs names) w)
  formula_of_kind names at (k.call x ps) =
      called_formula names at (called_of names.definitions x) ps
  -- expressions
  formula_of_kind names at (k.truth false) = state_in names at (k.truth false)
  formula_of_kind names at (k.number n) = state_in names at (k.number n)
  formula_of_kind names at (k.name x) = state_in names at (k.name x)
  formula_of_kind names at (k.list ps) = state_in names at (k.list ps)
  formula_of_kind names at (k.size p) = state_in names at (k.size p)
  formula_of_kind names at (k.index p i) = state_in names at (k.index p i)
  formula_of_kind names at (k.minus p) = state_in names at (k.minus p)

  -- of each of the phrases
  pub formulas_in : VisibleNames → PhraseTrees → CheckOutcome (List FormulaTree)
  formulas_in names no_phrase = Ok []
  formulas_in names (phrase_then w ws) =
      both (λ x xs. x ∷ xs) (formula_of names w) (formulas_in names ws)
