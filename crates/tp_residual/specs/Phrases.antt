-- The phrases that expressions and formulas are in a residual, where their canonical spelling is
-- written.
use Rattle.std.specs.Prelude.{ℕ, true, List, [], ◌∷◌, ◌++◌, Option, Some, None, slice_get, unwrap_or, zero, suc, ℤ, pos, if◌then◌else◌, codes}
use Rattle.std.specs.List.{flat_map}
use Rattle.std.specs.Option.{option_map}
use Rattle.std.specs.Ordering.{int_eq}
use Rattle.std.specs.Fmt.{signed_decimal}
use Rattle.tp_value.specs.declared.path.VarId.{VarId}
use Rattle.tp_value.specs.declared.path.Path.{Path}
use Rattle.tp_value.specs.Written.{text_of}
use Rattle.tp_meaning.specs.Syntax.{Definition, BindingTree, place_binding, known_binding, Operator, Equal, Differs, Less, LessEqual, Greater, GreaterEqual, Plus, Minus, Times, Div, Mod, ExprTree, ExprTrees, no_expr, expr_then, numeral, boolean, known, bound, global, listing, size, index, minus, negation, both, either, binary, choice, invoke, FormulaTree, FormulaTrees, no_formula, formula_then, trivial, test, equation, next_equation, empty, more, next, weak_next, if_more, if_empty, always, conjunction, branch, len, assign, chop, while, for_from, forall_from, project, exists, call, input, display}
use Rattle.tp_store.specs.Known.{Variable, name_of}
use Rattle.tp_show.specs.Texts.{index_text}
use Rattle.tp_tree.specs.declared.operator.Op.{Op}
use Rattle.tp_tree.specs.declared.operator.Op.TheVariants as op
use Rattle.tp_tree.specs.declared.operator.Form.TheVariants as f
use Rattle.tp_tree.specs.declared.operator.Bare.TheVariants as b
use Rattle.tp_tree.specs.Tree.{PhraseTree, phrase, KindTree, PhraseTrees, no_phrase, phrase_then}
use Rattle.tp_tree.specs.Tree as tree
use Rattle.tp_tree.specs.Levels.{prefix_level}
use Rattle.tp_tree.specs.Spelling.{operand_spelling}

-- ---- by what the names of a phrase are spelled

-- a name that is bound: around the phrase, where it stands for a place or a value, or in the phrase
-- itself
pub data BoundName : Type 0 where
  stands_for : BindingTree → BoundName
  named : List ℕ → BoundName

-- the variables of a store, the definitions, and the names that are bound, the outermost first
pub record Vocabulary : Type 0 where
  pub variables : List Variable
  pub definitions : List Definition
  pub bound : List BoundName

-- with a name that the phrase itself binds
abbrev pub naming : Vocabulary → List ℕ → Vocabulary
naming v name =
    record {
      variables = v.variables;
      definitions = v.definitions;
      bound = v.bound ++ named name ∷ [];
    }

-- A variable is spelled by its source name, a local too. What is no variable of the store's isn't
-- spelled.
abbrev pub variable_spelling : List Variable → VarId → List ℕ
variable_spelling xs x = unwrap_or (name_of xs x) []

-- as L[1]
abbrev pub path_spelling : List Variable → Path → List ℕ
path_spelling xs p = variable_spelling xs p.var ++ flat_map index_text p.at

abbrev pub binding_spelling : List Variable → BindingTree → List ℕ
binding_spelling xs (place_binding p) = path_spelling xs p
binding_spelling xs (known_binding t) = text_of t

-- a bound name by what it stands for, or within the phrase by itself
abbrev pub bound_spelling : List Variable → Option BoundName → List ℕ
bound_spelling xs None = []
bound_spelling xs (Some (stands_for x)) = binding_spelling xs x
bound_spelling xs (Some (named name)) = name

-- the name of the definition with this number
abbrev pub definition_name : List Definition → ℕ → List ℕ
definition_name ds i = unwrap_or (option_map (λ d. d.name) (slice_get ds i)) []

-- ---- phrases, made of such operands; a phrase of a residual has no place

abbrev pub placeless : KindTree → PhraseTree
placeless k = phrase 0 k

abbrev pub sole : KindTree → PhraseTrees
sole k = phrase_then (placeless k) no_phrase

abbrev pub infix_kind : Op → (left right : KindTree) → KindTree
infix_kind o l r = tree.binary o (placeless l) (placeless r)

-- A conjunction of one operand is that operand, and one of none is `true`.
abbrev pub all_kind : PhraseTrees → KindTree
all_kind no_phrase = tree.truth true
all_kind (phrase_then (phrase at k) no_phrase) = k
all_kind (phrase_then p (phrase_then q ps)) = tree.conjunction (phrase_then p (phrase_then q ps))

-- under so many `next`
abbrev pub nexts_kind : ℕ → KindTree → KindTree
nexts_kind zero k = k
nexts_kind (suc n) k = tree.next (placeless (nexts_kind n k))

-- The number from which a loop counts, where that isn't 0.
abbrev pub from_spelling : ℤ → List ℕ
from_spelling k = if int_eq k (pos 0) then [] else codes " from " ++ signed_decimal k

-- ---- expressions and formulas. What no source has is a name with the text that is written: a
-- known value, and what a bound name stands for.

-- the operator of phrases that stands for this one
abbrev pub phrase_operator : Operator → Op
phrase_operator Equal = op.Equal
phrase_operator Differs = op.Differs
phrase_operator Less = op.Less
phrase_operator LessEqual = op.LessEqual
phrase_operator Greater = op.Greater
phrase_operator GreaterEqual = op.GreaterEqual
phrase_operator Plus = op.Plus
phrase_operator Minus = op.Minus
phrase_operator Times = op.Times
phrase_operator Div = op.Div
phrase_operator Mod = op.Mod

abbrev mutual
  pub expr_kind : Vocabulary → ExprTree → KindTree
  expr_kind v (numeral k) = tree.number k
  expr_kind v (boolean c) = tree.truth c
  expr_kind v (known t) = tree.name (text_of t)
  expr_kind v (bound i) = tree.name (bound_spelling v.variables (slice_get v.bound i))
  expr_kind v (global x) = tree.name (variable_spelling v.variables x)
  expr_kind v (listing es) = tree.list (exprs_phrases v es)
  expr_kind v (size e) = tree.size (placeless (expr_kind v e))
  expr_kind v (index e i) = tree.index (placeless (expr_kind v e)) (placeless (expr_kind v i))
  expr_kind v (minus e) = tree.minus (placeless (expr_kind v e))
  expr_kind v (negation e) = tree.negation (placeless (expr_kind v e))
  expr_kind v (both es) = all_kind (exprs_phrases v es)
  expr_kind v (either x y) = infix_kind op.Or (expr_kind v x) (expr_kind v y)
  expr_kind v (binary o x y) = infix_kind (phrase_operator o) (expr_kind v x) (expr_kind v y)
  expr_kind v (choice c x y) =
      tree.choice_else (placeless (expr_kind v c)) (placeless (expr_kind v x))
      (placeless (expr_kind v y))
  expr_kind v (invoke p es) = tree.call (definition_name v.definitions p) (exprs_phrases v es)

  pub exprs_phrases : Vocabulary → ExprTrees → PhraseTrees
  exprs_phrases v no_expr = no_phrase
  exprs_phrases v (expr_then e es) = phrase_then (placeless (expr_kind v e)) (exprs_phrases v es)

-- Of derived operators only `keep` and `fin` are written. No source has the words `weak next`,
-- `ifmore` and `ifempty`, or a loop that counts from a number.
abbrev mutual
  pub formula_kind : Vocabulary → FormulaTree → KindTree
  formula_kind v trivial = tree.truth true
  formula_kind v (test e) = expr_kind v e
  formula_kind v (equation l r) = infix_kind op.Equal (expr_kind v l) (expr_kind v r)
  formula_kind v (next_equation n t e) =
      infix_kind op.Equal (nexts_kind n (expr_kind v t)) (expr_kind v e)
  formula_kind v empty = tree.bare b.Empty
  formula_kind v more = tree.bare b.More
  formula_kind v (next w) = tree.next (placeless (formula_kind v w))
  formula_kind v (weak_next w) =
      tree.name (codes "weak next " ++ operand_spelling prefix_level (placeless (formula_kind v w)))
  formula_kind v (if_more w) = tree.call (codes "ifmore") (sole (formula_kind v w))
  formula_kind v (if_empty w) = tree.call (codes "ifempty") (sole (formula_kind v w))
  formula_kind v (always (if_more w)) = tree.form f.Keep (sole (formula_kind v w))
  formula_kind v (always (if_empty w)) = tree.form f.Fin (sole (formula_kind v w))
  formula_kind v (always w) = tree.form f.Always (sole (formula_kind v w))
  formula_kind v (conjunction ws) = all_kind (formulas_phrases v ws)
  formula_kind v (branch c w w') =
      tree.choice_else (placeless (expr_kind v c)) (placeless (formula_kind v w))
      (placeless (formula_kind v w'))
  formula_kind v (len e) = tree.form f.Len (sole (expr_kind v e))
  formula_kind v (assign t e) = infix_kind op.Arrow (expr_kind v t) (expr_kind v e)
  formula_kind v (chop w w') = infix_kind op.Chop (formula_kind v w) (formula_kind v w')
  formula_kind v (while c w) = tree.while (placeless (expr_kind v c)) (placeless (formula_kind v w))
  formula_kind v (for_from x k e w) =
      tree.for (x ++ from_spelling k) (placeless (expr_kind v e))
      (placeless (formula_kind (naming v x) w))
  formula_kind v (forall_from x k e w) =
      tree.forall (x ++ from_spelling k) (placeless (expr_kind v e))
      (placeless (formula_kind (naming v x) w))
  formula_kind v (project w w') = infix_kind op.Proj (formula_kind v w) (formula_kind v w')
  formula_kind v (exists x lasting w) =
      tree.exists (x ∷ []) (placeless (formula_kind (naming v x) w))
  formula_kind v (call p es) = tree.call (definition_name v.definitions p) (exprs_phrases v es)
  formula_kind v (input x port) =
      tree.form f.Input (phrase_then (placeless (expr_kind v x)) (sole (tree.name port)))
  formula_kind v (display es) = tree.form f.Display (exprs_phrases v es)

  pub formulas_phrases : Vocabulary → FormulaTrees → PhraseTrees
  formulas_phrases v no_formula = no_phrase
  formulas_phrases v (formula_then w ws) =
      phrase_then (placeless (formula_kind v w)) (formulas_phrases v ws)
