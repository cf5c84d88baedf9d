-- The residual phrase of a printable scene stands on one line.
use Rattle.std.proofs.Common.{◌≡◌, ◌≢◌, ℕ, ℤ, pos, zero, suc, nat_le, Bool, true, false, cond, not, ◌==◌, ◌&&◌, List, [], ◌∷◌, ◌++◌, map, slice_get, unwrap_or, All, Some, None, codes, refl, sym, ◌∙◌, subst}
use Rattle.std.specs.List.{flat_map}
use Rattle.std.specs.Ordering.{int_eq}
use Rattle.std.specs.Fmt.{decimal, signed_decimal}
use Rattle.std.proofs.lemmas.Bool.{and_parts, cond_both}
use Rattle.std.proofs.lemmas.List.Elements.{All-nil, All-cons, All-head, All-tail, All-append}
use Rattle.tp_value.specs.Tree.{same_truth}
use Rattle.tp_value.specs.Written.{text_of}
use Rattle.tp_value.specs.declared.path.VarId.{VarId}
use Rattle.tp_value.specs.declared.path.Path.{Path}
use Rattle.tp_tree.specs.declared.operator.Op.{Op}
use Rattle.tp_tree.specs.declared.operator.Op.TheVariants as op
use Rattle.tp_tree.specs.declared.operator.Form.{Form}
use Rattle.tp_tree.specs.declared.operator.Form.TheVariants as f
use Rattle.tp_tree.specs.Tree.{KindTree, PhraseTrees, phrase, no_phrase, phrase_then}
use Rattle.tp_tree.specs.Tree as tree
use Rattle.tp_tree.specs.Levels.{index_level, prefix_level, sum_level, not_level, chop_level, proj_level, any_level, left_level, right_level, kind_level}
use Rattle.tp_tree.specs.Spelling.{op_spelling, form_spelling, kind_spelling, operands_spelling}
use Rattle.tp_meaning.specs.Syntax.{ExprTree, ExprTrees, no_expr, expr_then, numeral, boolean, known, bound, global, listing, size, index, minus, negation, both, either, binary, choice, invoke, FormulaTree, FormulaTrees, no_formula, formula_then, trivial, test, equation, next_equation, empty, more, next, weak_next, if_more, if_empty, always, conjunction, branch, len, assign, chop, while, for_from, forall_from, project, exists, call, input, display, Definition, BindingTree, place_binding, known_binding}
use Rattle.tp_store.specs.Known.{Variable, name_where}
use Rattle.tp_scene.specs.Scene.{Bindings, Leaf, Do, Holder, Split, SplitProject, Entries, none, leaf, node}
use Rattle.tp_show.specs.Texts.{index_text}
use Rattle.tp_show.specs.TraceOfRun.{HasNameOnOneLine}
use Rattle.tp_show.specs.Line.{IsOneLine}
use Rattle.tp_show.proofs.PrintedBytes.{decimal_plain, signed_plain, text_plain, indices_plain}
use Rattle.tp_show.proofs.PrintedLines.{plain_one}
use Rattle.tp_residual.specs.Phrases.{BoundName, stands_for, named, Vocabulary, naming, variable_spelling, path_spelling, binding_spelling, bound_spelling, definition_name, phrase_operator, placeless, sole, all_kind, nexts_kind, from_spelling, expr_kind, exprs_phrases, formula_kind, formulas_phrases}
use Rattle.tp_residual.specs.Parts.{enclosed, operation_spelling, called_with, expr_level, expr_spelling, exprs_spelling, operand_expr, counted_spelling, formula_level, formula_spelling}
use Rattle.tp_residual.specs.Residual.{words_with, due_kind, split_kind, entries_phrases}
use Rattle.tp_run_laws.specs.Printable.{FormulaIsPrintable, FormulasArePrintable, DefinitionIsPrintable, LeafIsPrintable, HolderIsPrintable, EntriesArePrintable}

-- ---- pieces

abbrev pub lacks_feed : List ℕ → Bool
lacks_feed [] = true
lacks_feed (b ∷ z) = not (b == 10) && lacks_feed z

-- words that are written out
pub written_out : (z : List ℕ) → lacks_feed z ≡ true → IsOneLine z
written_out [] h = All-nil (λ b. b ≢ 10)
written_out (b ∷ z) h =
    let both = and_parts (not (b == 10)) (lacks_feed z) h in
    All-cons (λ c. c ≢ 10) b z (λ e. let bad : not (b == 10) ≡ false = subst (λ (x : ℕ). not (x == 10) ≡ false) (sym e) refl in absurd (cc (sym both.0 ∙ bad))) (written_out z both.1)

nothing : IsOneLine []
nothing = All-nil (λ b. b ≢ 10)

pub joined : (xs ys : List ℕ) → IsOneLine xs → IsOneLine ys → IsOneLine (xs ++ ys)
joined xs ys h k = All-append (λ b. b ≢ 10) xs ys h k

-- words in front, between and behind
before : (word ys : List ℕ) → lacks_feed word ≡ true → IsOneLine ys → IsOneLine (word ++ ys)
before word ys w h = joined word ys (written_out word w) h

behind : (xs word : List ℕ) → lacks_feed word ≡ true → IsOneLine xs → IsOneLine (xs ++ word)
behind xs word w h = joined xs word h (written_out word w)

pub decimal_one : (n : ℕ) → IsOneLine (decimal n)
decimal_one n = plain_one (decimal n) (decimal_plain n)

enclosed_one : (most level : ℕ) (z : List ℕ) → IsOneLine z → IsOneLine (enclosed most level z)
enclosed_one most level z h = cond_both (nat_le level most) _ _ IsOneLine (λ _. h) (λ _. behind (codes "(" ++ z) (codes ")") refl (before (codes "(") z refl h))

operator_one : (o : Op) → lacks_feed (op_spelling o) ≡ true
operator_one op.Chop = refl
operator_one x = refl

form_one : (form : Form) → lacks_feed (form_spelling form) ≡ true
form_one f.Always = refl
form_one x = refl

operation_one : (o : Op) (l r : ℕ) (left right : List ℕ) → IsOneLine left → IsOneLine right → IsOneLine (operation_spelling o l left r right)
operation_one o l r left right h k =
    let first = enclosed (left_level o) l left in
    let spaced = behind first (codes " ") refl (enclosed_one (left_level o) l left h) in
    let operator = joined (first ++ codes " ") (op_spelling o) spaced (written_out (op_spelling o) (operator_one o)) in
    joined ((first ++ codes " ") ++ op_spelling o ++ codes " ") (enclosed (right_level o) r right) (behind ((first ++ codes " ") ++ op_spelling o) (codes " ") refl operator) (enclosed_one (right_level o) r right k)

called_one : (word operands : List ℕ) → IsOneLine word → IsOneLine operands → IsOneLine (called_with word operands)
called_one word operands h k = behind ((word ++ codes "(") ++ operands) (codes ")") refl (joined (word ++ codes "(") operands (behind word (codes "(") refl h) k)

-- ---- several phrases

abbrev AllOne : PhraseTrees → Type 0
AllOne no_phrase = Unit {0}
AllOne (phrase_then (phrase at k) ps) = IsOneLine (kind_spelling k) × AllOne ps

operands_one : (opening separator : List ℕ) (most : ℕ) → IsOneLine opening → IsOneLine separator → (ps : PhraseTrees) → AllOne ps → IsOneLine (operands_spelling opening separator most ps)
operands_one opening separator most a b no_phrase h = nothing
operands_one opening separator most a b (phrase_then (phrase at k) ps) h =
    let first = enclosed most (kind_level k) (kind_spelling k) in
    joined (opening ++ first) (operands_spelling separator separator most ps) (joined opening first a (enclosed_one most (kind_level k) (kind_spelling k) h.0)) (operands_one separator separator most b b ps h.1)

-- in parentheses, with commas between
listed_one : (most : ℕ) (ps : PhraseTrees) → AllOne ps → IsOneLine (operands_spelling [] (codes ", ") most ps)
listed_one most ps h = operands_one [] (codes ", ") most nothing (written_out (codes ", ") refl) ps h

all_one : (ps : PhraseTrees) → AllOne ps → IsOneLine (kind_spelling (all_kind ps))
all_one no_phrase h = written_out (codes "true") refl
all_one (phrase_then (phrase at k) no_phrase) h = h.0
all_one (phrase_then (phrase at k) (phrase_then (phrase at' k') ps)) h =
    operands_one [] (codes " and ") not_level nothing (written_out (codes " and ") refl) (phrase_then (phrase at k) (phrase_then (phrase at' k') ps)) h

-- ---- names

-- the names by which a phrase is spelled
pub record IsSpeakable (v : Vocabulary) : Type 0 where
  pub variables : All HasNameOnOneLine v.variables
  pub definitions : All DefinitionIsPrintable v.definitions
  pub bound : (i : ℕ) → IsOneLine (bound_spelling v.variables (slice_get v.bound i))

variable_one : (xs : List Variable) → All HasNameOnOneLine xs → (x : VarId) → IsOneLine (variable_spelling xs x)
variable_one xs h x = go xs h x.lasting x.number
  where
    go : (xs : List Variable) → All HasNameOnOneLine xs → (lasting : Bool) (i : ℕ) → IsOneLine (unwrap_or (name_where lasting (slice_get xs i)) [])
    go [] h lasting i = nothing
    go (y ∷ ys) h lasting zero = by (same_truth y.lasting lasting)
      where
        by : (c : Bool) → IsOneLine (unwrap_or (cond c (Some y.name) None) [])
        by true = All-head HasNameOnOneLine y ys h
        by false = nothing
    go (y ∷ ys) h lasting (suc i) = go ys (All-tail HasNameOnOneLine y ys h) lasting i

definition_one : (ds : List Definition) → All DefinitionIsPrintable ds → (i : ℕ) → IsOneLine (definition_name ds i)
definition_one [] h i = nothing
definition_one (d ∷ ds) h zero = (All-head DefinitionIsPrintable d ds h).name
definition_one (d ∷ ds) h (suc i) = definition_one ds (All-tail DefinitionIsPrintable d ds h) i

path_one : (xs : List Variable) → All HasNameOnOneLine xs → (p : Path) → IsOneLine (path_spelling xs p)
path_one xs h p = joined (variable_spelling xs p.var) (flat_map index_text p.at) (variable_one xs h p.var) (plain_one (flat_map index_text p.at) (indices_plain p.at))

binding_one : (xs : List Variable) → All HasNameOnOneLine xs → (b : BindingTree) → IsOneLine (binding_spelling xs b)
binding_one xs h (place_binding p) = path_one xs h p
binding_one xs h (known_binding t) = plain_one (text_of t) (text_plain t)

speakable : (xs : List Variable) (ds : List Definition) → All HasNameOnOneLine xs → All DefinitionIsPrintable ds → (env : Bindings) → IsSpeakable (words_with xs ds env)
speakable xs ds h k env = record { variables = h; definitions = k; bound = go env }
  where
    go : (env : Bindings) (i : ℕ) → IsOneLine (bound_spelling xs (slice_get (map stands_for env) i))
    go [] i = nothing
    go (b ∷ env) zero = binding_one xs h b
    go (b ∷ env) (suc i) = go env i

one_more_name : (v : Vocabulary) (name : List ℕ) → IsSpeakable v → IsOneLine name → IsSpeakable (naming v name)
one_more_name v name h k = record { variables = h.variables; definitions = h.definitions; bound = go v.bound h.bound }
  where
    go : (bs : List BoundName) → ((i : ℕ) → IsOneLine (bound_spelling v.variables (slice_get bs i))) → (i : ℕ) → IsOneLine (bound_spelling v.variables (slice_get (bs ++ named name ∷ []) i))
    go [] g zero = k
    go [] g (suc i) = nothing
    go (b ∷ bs) g zero = g zero
    go (b ∷ bs) g (suc i) = go bs (λ j. g (suc j)) i

-- ---- expressions

as_operand : (v : Vocabulary) (most : ℕ) (e : ExprTree) → IsOneLine (expr_spelling v e) → IsOneLine (operand_expr v most e)
as_operand v most e h = enclosed_one most (expr_level v e) (expr_spelling v e) h

mutual
  expr_one : (v : Vocabulary) → IsSpeakable v → (e : ExprTree) → IsOneLine (expr_spelling v e)
  expr_one v h (numeral k) = plain_one (signed_decimal k) (signed_plain k)
  expr_one v h (boolean true) = written_out (codes "true") refl
  expr_one v h (boolean false) = written_out (codes "false") refl
  expr_one v h (known t) = plain_one (text_of t) (text_plain t)
  expr_one v h (bound i) = h.bound i
  expr_one v h (global x) = variable_one v.variables h.variables x
  expr_one v h (listing es) = behind (codes "<" ++ exprs_spelling v [] (codes ", ") sum_level es) (codes ">") refl (before (codes "<") (exprs_spelling v [] (codes ", ") sum_level es) refl (listed_one sum_level (exprs_phrases v es) (exprs_one v h es)))
  expr_one v h (size e) = behind (codes "|" ++ operand_expr v sum_level e) (codes "|") refl (before (codes "|") (operand_expr v sum_level e) refl (as_operand v sum_level e (expr_one v h e)))
  expr_one v h (index e i) =
      let whole = operand_expr v index_level e in
      let at = operand_expr v any_level i in
      behind ((whole ++ codes "[") ++ at) (codes "]") refl (joined (whole ++ codes "[") at (behind whole (codes "[") refl (as_operand v index_level e (expr_one v h e))) (as_operand v any_level i (expr_one v h i)))
  expr_one v h (minus e) = before (codes "-") (operand_expr v prefix_level e) refl (as_operand v prefix_level e (expr_one v h e))
  expr_one v h (negation e) = before (codes "not ") (operand_expr v not_level e) refl (as_operand v not_level e (expr_one v h e))
  expr_one v h (both es) = all_one (exprs_phrases v es) (exprs_one v h es)
  expr_one v h (either x y) = operation_one op.Or (expr_level v x) (expr_level v y) (expr_spelling v x) (expr_spelling v y) (expr_one v h x) (expr_one v h y)
  expr_one v h (binary o x y) = operation_one (phrase_operator o) (expr_level v x) (expr_level v y) (expr_spelling v x) (expr_spelling v y) (expr_one v h x) (expr_one v h y)
  expr_one v h (choice c x y) =
      let test = codes "if " ++ operand_expr v any_level c in
      let first = (test ++ codes " then ") ++ operand_expr v chop_level x in
      joined (first ++ codes " else ") (operand_expr v any_level y)
      (behind first (codes " else ") refl (joined (test ++ codes " then ") (operand_expr v chop_level x) (behind test (codes " then ") refl (before (codes "if ") (operand_expr v any_level c) refl (as_operand v any_level c (expr_one v h c)))) (as_operand v chop_level x (expr_one v h x))))
      (as_operand v any_level y (expr_one v h y))
  expr_one v h (invoke p es) = called_one (definition_name v.definitions p) (exprs_spelling v [] (codes ", ") any_level es) (definition_one v.definitions h.definitions p) (listed_one any_level (exprs_phrases v es) (exprs_one v h es))

  exprs_one : (v : Vocabulary) → IsSpeakable v → (es : ExprTrees) → AllOne (exprs_phrases v es)
  exprs_one v h no_expr = tt
  exprs_one v h (expr_then e es) = (expr_one v h e, exprs_one v h es)

operand_one : (v : Vocabulary) → IsSpeakable v → (most : ℕ) (e : ExprTree) → IsOneLine (operand_expr v most e)
operand_one v h most e = as_operand v most e (expr_one v h e)

-- ---- formulas

from_one : (k : ℤ) → IsOneLine (from_spelling k)
from_one k = cond_both (int_eq k (pos 0)) _ _ IsOneLine (λ _. nothing) (λ _. before (codes " from ") (signed_decimal k) refl (plain_one (signed_decimal k) (signed_plain k)))

counted_one : (v : Vocabulary) → IsSpeakable v → (word name : List ℕ) (k : ℤ) (e : ExprTree) → lacks_feed word ≡ true → IsOneLine name → IsOneLine (counted_spelling v word name k e)
counted_one v h word name k e w one =
    let begun = word ++ (name ++ from_spelling k) in
    joined (begun ++ codes " < ") (operand_expr v any_level e) (behind begun (codes " < ") refl (before word (name ++ from_spelling k) w (joined name (from_spelling k) one (from_one k)))) (operand_one v h any_level e)

-- a formula behind some words
operand_after : (xs : List ℕ) (most level : ℕ) (z : List ℕ) → IsOneLine xs → IsOneLine z → IsOneLine (xs ++ enclosed most level z)
operand_after xs most level z h k = joined xs (enclosed most level z) h (enclosed_one most level z k)

nexts_one : (n : ℕ) (k : KindTree) → IsOneLine (kind_spelling k) → IsOneLine (kind_spelling (nexts_kind n k))
nexts_one zero k h = h
nexts_one (suc n) k h = operand_after (codes "next ") prefix_level (kind_level (nexts_kind n k)) (kind_spelling (nexts_kind n k)) (written_out (codes "next ") refl) (nexts_one n k h)

form_with : (form : Form) (ps : PhraseTrees) → AllOne ps → IsOneLine (called_with (form_spelling form) (operands_spelling [] (codes ", ") any_level ps))
form_with form ps h = called_one (form_spelling form) (operands_spelling [] (codes ", ") any_level ps) (written_out (form_spelling form) (form_one form)) (listed_one any_level ps h)

form_of : (form : Form) (k : KindTree) → IsOneLine (kind_spelling k) → IsOneLine (called_with (form_spelling form) (operands_spelling [] (codes ", ") any_level (sole k)))
form_of form k h = form_with form (sole k) (h, tt)

word_with : (word : List ℕ) (k : KindTree) → lacks_feed word ≡ true → IsOneLine (kind_spelling k) → IsOneLine (called_with word (operands_spelling [] (codes ", ") any_level (sole k)))
word_with word k w h = called_one word (operands_spelling [] (codes ", ") any_level (sole k)) (written_out word w) (listed_one any_level (sole k) (h, tt))

mutual
  formula_one : (v : Vocabulary) → IsSpeakable v → (w : FormulaTree) → FormulaIsPrintable w → IsOneLine (formula_spelling v w)
  formula_one v h trivial p = written_out (codes "true") refl
  formula_one v h (test e) p = expr_one v h e
  formula_one v h (equation l r) p = operation_one op.Equal (expr_level v l) (expr_level v r) (expr_spelling v l) (expr_spelling v r) (expr_one v h l) (expr_one v h r)
  formula_one v h (next_equation n t e) p =
      let left = nexts_kind n (expr_kind v t) in
      operation_one op.Equal (kind_level left) (expr_level v e) (kind_spelling left) (expr_spelling v e) (nexts_one n (expr_kind v t) (expr_one v h t)) (expr_one v h e)
  formula_one v h (next w) p = operand_after (codes "next ") prefix_level (formula_level v w) (formula_spelling v w) (written_out (codes "next ") refl) (formula_one v h w p)
  formula_one v h (weak_next w) p = operand_after (codes "weak next ") prefix_level (formula_level v w) (formula_spelling v w) (written_out (codes "weak next ") refl) (formula_one v h w p)
  formula_one v h (if_more w) p = word_with (codes "ifmore") (formula_kind v w) refl (formula_one v h w p)
  formula_one v h (if_empty w) p = word_with (codes "ifempty") (formula_kind v w) refl (formula_one v h w p)
  formula_one v h (always (if_more w)) p = form_of f.Keep (formula_kind v w) (formula_one v h w p)
  formula_one v h (always (if_empty w)) p = form_of f.Fin (formula_kind v w) (formula_one v h w p)
  formula_one v h (always trivial) p = form_of f.Always (formula_kind v trivial) (formula_one v h trivial p)
  formula_one v h (always (test e)) p = form_of f.Always (formula_kind v (test e)) (formula_one v h (test e) p)
  formula_one v h (always (equation l r)) p = form_of f.Always (formula_kind v (equation l r)) (formula_one v h (equation l r) p)
  formula_one v h (always (next_equation n t e)) p = form_of f.Always (formula_kind v (next_equation n t e)) (formula_one v h (next_equation n t e) p)
  formula_one v h (always empty) p = form_of f.Always (formula_kind v empty) (formula_one v h empty p)
  formula_one v h (always more) p = form_of f.Always (formula_kind v more) (formula_one v h more p)
  formula_one v h (always (next w)) p = form_of f.Always (formula_kind v (next w)) (formula_one v h (next w) p)
  formula_one v h (always (weak_next w)) p = form_of f.Always (formula_kind v (weak_next w)) (formula_one v h (weak_next w) p)
  formula_one v h (always (always w)) p = form_of f.Always (formula_kind v (always w)) (formula_one v h (always w) p)
  formula_one v h (always (conjunction ws)) p = form_of f.Always (formula_kind v (conjunction ws)) (formula_one v h (conjunction ws) p)
  formula_one v h (always (branch c w w')) p = form_of f.Always (formula_kind v (branch c w w')) (formula_one v h (branch c w w') p)
  formula_one v h (always (len e)) p = form_of f.Always (formula_kind v (len e)) (formula_one v h (len e) p)
  formula_one v h (always (assign t e)) p = form_of f.Always (formula_kind v (assign t e)) (formula_one v h (assign t e) p)
  formula_one v h (always (chop w w')) p = form_of f.Always (formula_kind v (chop w w')) (formula_one v h (chop w w') p)
  formula_one v h (always (while c w)) p = form_of f.Always (formula_kind v (while c w)) (formula_one v h (while c w) p)
  formula_one v h (always (for_from x k e w)) p = form_of f.Always (formula_kind v (for_from x k e w)) (formula_one v h (for_from x k e w) p)
  formula_one v h (always (forall_from x k e w)) p = form_of f.Always (formula_kind v (forall_from x k e w)) (formula_one v h (forall_from x k e w) p)
  formula_one v h (always (project w w')) p = form_of f.Always (formula_kind v (project w w')) (formula_one v h (project w w') p)
  formula_one v h (always (exists x lasting w)) p = form_of f.Always (formula_kind v (exists x lasting w)) (formula_one v h (exists x lasting w) p)
  formula_one v h (always (call d es)) p = form_of f.Always (formula_kind v (call d es)) (formula_one v h (call d es) p)
  formula_one v h (always (input x port)) p = form_of f.Always (formula_kind v (input x port)) (formula_one v h (input x port) p)
  formula_one v h (always (display es)) p = form_of f.Always (formula_kind v (display es)) (formula_one v h (display es) p)
  formula_one v h (conjunction ws) p = all_one (formulas_phrases v ws) (formulas_one v h ws p)
  formula_one v h (branch c w w') p =
      let test = codes "if " ++ operand_expr v any_level c in
      let first = (test ++ codes " then ") ++ enclosed chop_level (formula_level v w) (formula_spelling v w) in
      operand_after (first ++ codes " else ") any_level (formula_level v w') (formula_spelling v w')
      (behind first (codes " else ") refl (operand_after (test ++ codes " then ") chop_level (formula_level v w) (formula_spelling v w) (behind test (codes " then ") refl (before (codes "if ") (operand_expr v any_level c) refl (operand_one v h any_level c))) (formula_one v h w p.1)))
      (formula_one v h w' p.2)
  formula_one v h (len e) p = form_of f.Len (expr_kind v e) (expr_one v h e)
  formula_one v h (assign t e) p = operation_one op.Arrow (expr_level v t) (expr_level v e) (expr_spelling v t) (expr_spelling v e) (expr_one v h t) (expr_one v h e)
  formula_one v h (chop w w') p = operation_one op.Chop (formula_level v w) (formula_level v w') (formula_spelling v w) (formula_spelling v w') (formula_one v h w p.0) (formula_one v h w' p.1)
  formula_one v h (while c w) p =
      let test = codes "while " ++ operand_expr v any_level c in
      operand_after (test ++ codes " do ") any_level (formula_level v w) (formula_spelling v w) (behind test (codes " do ") refl (before (codes "while ") (operand_expr v any_level c) refl (operand_one v h any_level c))) (formula_one v h w p.1)
  formula_one v h (for_from x k e w) p =
      let counted = counted_spelling v (codes "for ") x k e in
      operand_after (counted ++ codes " do ") any_level (formula_level (naming v x) w) (formula_spelling (naming v x) w) (behind counted (codes " do ") refl (counted_one v h (codes "for ") x k e refl p.0)) (formula_one (naming v x) (one_more_name v x h p.0) w p.3)
  formula_one v h (forall_from x k e w) p =
      let counted = counted_spelling v (codes "forall ") x k e in
      operand_after (counted ++ codes " : ") any_level (formula_level (naming v x) w) (formula_spelling (naming v x) w) (behind counted (codes " : ") refl (counted_one v h (codes "forall ") x k e refl p.0)) (formula_one (naming v x) (one_more_name v x h p.0) w p.3)
  formula_one v h (project w w') p = operation_one op.Proj (formula_level v w) (formula_level v w') (formula_spelling v w) (formula_spelling v w') (formula_one v h w p.0) (formula_one v h w' p.1)
  formula_one v h (exists x lasting w) p =
      let begun = codes "exists " ++ (x ++ []) in
      operand_after (begun ++ codes " : ") any_level (formula_level (naming v x) w) (formula_spelling (naming v x) w) (behind begun (codes " : ") refl (before (codes "exists ") (x ++ []) refl (joined x [] p.0 nothing))) (formula_one (naming v x) (one_more_name v x h p.0) w p.1)
  formula_one v h (call d es) p = called_one (definition_name v.definitions d) (exprs_spelling v [] (codes ", ") any_level es) (definition_one v.definitions h.definitions d) (listed_one any_level (exprs_phrases v es) (exprs_one v h es))
  formula_one v h (input x port) p = form_with f.Input (phrase_then (placeless (expr_kind v x)) (sole (tree.name port))) (expr_one v h x, (p.1, tt))
  formula_one v h (display es) p = form_with f.Display (exprs_phrases v es) (exprs_one v h es)
  formula_one v h empty p = written_out (codes "empty") refl
  formula_one v h more p = written_out (codes "more") refl

  formulas_one : (v : Vocabulary) → IsSpeakable v → (ws : FormulaTrees) → FormulasArePrintable ws → AllOne (formulas_phrases v ws)
  formulas_one v h no_formula p = tt
  formulas_one v h (formula_then w ws) p = (formula_one v h w p.0, formulas_one v h ws p.1)

-- ---- scenes

module _ (xs : List Variable) (ds : List Definition) (variables : All HasNameOnOneLine xs) (definitions : All DefinitionIsPrintable ds) where
  phrase_one : (w : FormulaTree) (env : Bindings) → FormulaIsPrintable w → IsOneLine (formula_spelling (words_with xs ds env) w)
  phrase_one w env p = formula_one (words_with xs ds env) (speakable xs ds variables definitions env) w p

  leaf_one : (l : Leaf) → LeafIsPrintable l → IsOneLine (kind_spelling (due_kind xs ds l))
  leaf_one (Do w env) p = phrase_one w env p.0
  leaf_one l p = nothing

  holder_one : (k : Holder) → HolderIsPrintable k → (left outer : KindTree) → IsOneLine (kind_spelling left) → IsOneLine (kind_spelling outer) → IsOneLine (kind_spelling (split_kind xs ds k left outer))
  holder_one (Split w env) p left outer h k = operation_one op.Chop (kind_level left) (formula_level (words_with xs ds env) w) (kind_spelling left) _ h (phrase_one w env p.0)
  holder_one (SplitProject w env) p left outer h k =
      operation_one op.Chop (kind_level left) proj_level (kind_spelling left) _ h (operation_one op.Proj (formula_level (words_with xs ds env) w) (kind_level outer) _ (kind_spelling outer) (phrase_one w env p.0) k)
  holder_one x p left outer h k = nothing

  phrases_one : (es : Entries) → EntriesArePrintable es → AllOne (entries_phrases xs ds es)
  phrases_one none p = tt
  phrases_one (leaf id l rest) p = (leaf_one l p.0, phrases_one rest p.1)
  phrases_one (node id k i held g second rest) p =
      let left = entries_phrases xs ds held in
      let outer = entries_phrases xs ds second in
      (holder_one k p.0 (all_kind left) (all_kind outer) (all_one left (phrases_one held p.1)) (all_one outer (phrases_one second p.2)), phrases_one rest p.3)

  pub entries_one : (es : Entries) → EntriesArePrintable es → IsOneLine (kind_spelling (all_kind (entries_phrases xs ds es)))
  entries_one es p = all_one (entries_phrases xs ds es) (phrases_one es p)
