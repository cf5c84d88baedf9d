-- A checked program is printable where each name of its source stands on one line.
use Rattle.std.proofs.Common.{refl, ◌≡◌, ℕ, zero, suc, ◌&&◌, Bool, true, false, if◌then◌else◌, nat_eq, List, [], ◌∷◌, ◌++◌, length, Option, None, Some, Ok, Err, IfOk, IfSome, All, Contains}
use Rattle.std.proofs.lemmas.List.Elements.{All-nil, All-cons, All-head, All-tail, All-contains}
use Rattle.std.proofs.lemmas.Result.{IfOk-at_ok}
use Rattle.tp_value.specs.Globals.{is_lower, variable_of}
use Rattle.tp_value.specs.declared.path.VarId.{VarId}
use Rattle.tp_tree.specs.declared.operator.Op.{Op}
use Rattle.tp_tree.specs.declared.operator.Op.TheVariants as op
use Rattle.tp_tree.specs.declared.operator.Bare.{Bare}
use Rattle.tp_tree.specs.declared.operator.Bare.TheVariants.{Empty}
use Rattle.tp_tree.specs.declared.operator.Form.TheVariants as f
use Rattle.tp_tree.specs.Tree as k
use Rattle.tp_tree.specs.Tree.{PhraseTree, phrase, PhraseTrees, no_phrase, phrase_then, DefinitionTree, SourceTree}
use Rattle.tp_tree.specs.Names.{phrase_names, kind_names, operand_names, definition_names, names_in_definitions, source_names}
use Rattle.tp_meaning.specs.Syntax.{ExprTree, FormulaTree, equation, while, input, exprs_of, formulas_of}
use Rattle.tp_meaning.specs.Value.{is_upper}
use Rattle.tp_meaning.specs.Derived.{next_equals_of, repeat_of}
use Rattle.tp_meaning.specs.Interval.{ProgramTree}
use Rattle.tp_check.specs.declared.refusal.CheckRefusal.TheVariants.{Twice}
use Rattle.tp_scope.specs.Scope.{Names, VisibleNames, Called, with_binder, with_binders, binder_of, bound_or_global, called_of}
use Rattle.tp_scope.specs.Names.{has_repeat, twice_defined, names_of, signatures_of, AreStates}
use Rattle.tp_scope.specs.Phrases.{is_place_phrase, is_place_kind, phrase_count, nexts_of, behind_nexts, at_of}
use Rattle.tp_check.specs.Outcome.{CheckOutcome, mapped, both, three, not_expression}
use Rattle.tp_check.specs.Positions.{named_expr, operation_of, operation_at, called_expr, expr_of, expr_of_kind, exprs_in, place_phrase, port_phrase, arguments_in, equation_of, is_state_in, state_in, negation_in, binary_in, bare_of, called_formula, exists_of, formula_of, formula_of_kind, formulas_in}
use Rattle.tp_check.specs.Program.{expr_where, definition_with, definition_in, definitions_in, outermost, program_over, ChecksTo}
use Rattle.tp_check.proofs.NameLaws.{globals_stand_in_source}
use Rattle.tp_show.specs.Line.{IsOneLine}
use Rattle.tp_run_laws.specs.Printable.{ExprIsPrintable, ExprsArePrintable, FormulaIsPrintable, FormulasArePrintable, DefinitionIsPrintable}
use Rattle.tp_run_laws.specs.PrintableRuns.{CheckedProgramsArePrintable}

-- ---- names of a part

abbrev AreLines : Names → Type 0
AreLines = All IsOneLine

front : (xs ys : Names) → AreLines (xs ++ ys) → AreLines xs
front [] ys are = All-nil IsOneLine
front (x ∷ xs) ys are = All-cons IsOneLine x xs (All-head IsOneLine x (xs ++ ys) are) (front xs ys (All-tail IsOneLine x (xs ++ ys) are))

back : (xs ys : Names) → AreLines (xs ++ ys) → AreLines ys
back [] ys are = are
back (x ∷ xs) ys are = back xs ys (All-tail IsOneLine x (xs ++ ys) are)

-- ---- outcomes

mapped_ok : {A B : Type 0} (g : A → B) (a : CheckOutcome A) (P : A → Type 0) (Q : B → Type 0) → IfOk a P → ((x : A) → P x → Q (g x)) → IfOk (mapped g a) Q
mapped_ok g (Ok a) P Q p h = h a p
mapped_ok g (Err e) P Q p h = tt

both_ok : {A B C : Type 0} (g : A → B → C) (a : CheckOutcome A) (b : CheckOutcome B) (P : A → Type 0) (Q : B → Type 0) (R : C → Type 0)
    → IfOk a P → IfOk b Q → ((x : A) (y : B) → P x → Q y → R (g x y)) → IfOk (both g a b) R
both_ok g (Ok a) b P Q R p q h = mapped_ok (g a) b Q R q (λ y k. h a y p k)
both_ok g (Err e) b P Q R p q h = tt

three_ok : {A B C D : Type 0} (g : A → B → C → D) (a : CheckOutcome A) (b : CheckOutcome B) (c : CheckOutcome C) (P : A → Type 0) (Q : B → Type 0) (R : C → Type 0) (S : D → Type 0)
    → IfOk a P → IfOk b Q → IfOk c R → ((x : A) (y : B) (z : C) → P x → Q y → R z → S (g x y z)) → IfOk (three g a b c) S
three_ok g (Ok a) b c P Q R S p q r h = both_ok (g a) b c Q R S q r (λ y z u v. h a y z p u v)
three_ok g (Err e) b c P Q R S p q r h = tt

if_ok : {A : Type 0} (b : Bool) (x y : CheckOutcome A) (P : A → Type 0) → IfOk x P → IfOk y P → IfOk (if b then x else y) P
if_ok true x y P p q = p
if_ok false x y P p q = q

-- ---- expressions: a source has no known values

abbrev Good : ExprTree → Type 0
Good = ExprIsPrintable

abbrev AllGood : List ExprTree → Type 0
AllGood es = ExprsArePrintable (exprs_of es)

name_good : (at : ℕ) (i : Option ℕ) (v : Option VarId) → IfOk (named_expr at (bound_or_global i v)) Good
name_good at (Some i) v = tt
name_good at None (Some v) = tt
name_good at None None = tt

operation_good : (at : ℕ) (o : Op) (l r : CheckOutcome ExprTree) → IfOk l Good → IfOk r Good → IfOk (operation_at at (operation_of o) l r) Good
operation_good at op.Chop l r p q = tt
operation_good at op.Proj l r p q = tt
operation_good at op.Gets l r p q = tt
operation_good at op.Arrow l r p q = tt
operation_good at op.Becomes l r p q = tt
operation_good at u l r p q = both_ok _ l r Good Good Good p q (λ x y a b. (a, b))

module _ (names : VisibleNames) where
  called_good : (at : ℕ) (o : Option Called) (ps : PhraseTrees) → ((xs : Names) → IfOk (arguments_in names ps xs) AllGood) → IfOk (called_expr at o (phrase_count ps) (λ xs. arguments_in names ps xs)) Good
  called_good at None ps h = tt
  called_good at (Some c) ps h =
      let xs = c.signature.parameters in
      if_ok (nat_eq (phrase_count ps) (length xs)) _ _ Good (if_ok c.signature.is_state _ _ Good (mapped_ok _ (arguments_in names ps xs) AllGood Good (h xs) (λ es k. k)) tt) tt

  place_good_if : (p : PhraseTree) → IfOk (expr_of names p) Good → IfOk (place_phrase names p) Good
  place_good_if (phrase at kind) h = if_ok (is_place_kind kind) (expr_of_kind names at kind) _ Good h tt

  mutual
    expr_good : (p : PhraseTree) → IfOk (expr_of names p) Good
    expr_good (phrase at kind) = expr_kind_good at kind

    expr_kind_good : (at : ℕ) (kind : k.KindTree) → IfOk (expr_of_kind names at kind) Good
    expr_kind_good at (k.number n) = tt
    expr_kind_good at (k.truth b) = tt
    expr_kind_good at (k.name x) = name_good at (binder_of names.scope x) (variable_of names.globals x)
    expr_kind_good at (k.list ps) = mapped_ok _ (exprs_in names ps) AllGood Good (exprs_good ps) (λ es h. h)
    expr_kind_good at (k.size p) = mapped_ok _ (expr_of names p) Good Good (expr_good p) (λ e h. h)
    expr_kind_good at (k.index p i) = both_ok _ (expr_of names p) (expr_of names i) Good Good Good (expr_good p) (expr_good i) (λ x y a b. (a, b))
    expr_kind_good at (k.minus p) = mapped_ok _ (expr_of names p) Good Good (expr_good p) (λ e h. h)
    expr_kind_good at (k.negation p) = mapped_ok _ (expr_of names p) Good Good (expr_good p) (λ e h. h)
    expr_kind_good at (k.binary o l r) = operation_good at o (expr_of names l) (expr_of names r) (expr_good l) (expr_good r)
    expr_kind_good at (k.conjunction ps) = mapped_ok _ (exprs_in names ps) AllGood Good (exprs_good ps) (λ es h. h)
    expr_kind_good at (k.choice_else b p q) = three_ok _ (expr_of names b) (expr_of names p) (expr_of names q) Good Good Good Good (expr_good b) (expr_good p) (expr_good q) (λ x y z a b c. (a, b, c))
    expr_kind_good at (k.call x ps) = called_good at (called_of names.definitions x) ps (arguments_good ps)
    expr_kind_good at kind = tt

    exprs_good : (ps : PhraseTrees) → IfOk (exprs_in names ps) AllGood
    exprs_good no_phrase = tt
    exprs_good (phrase_then p ps) = both_ok _ (expr_of names p) (exprs_in names ps) Good AllGood AllGood (expr_good p) (exprs_good ps) (λ x y a b. (a, b))

    arguments_good : (ps : PhraseTrees) (xs : Names) → IfOk (arguments_in names ps xs) AllGood
    arguments_good (phrase_then p ps) (x ∷ xs) =
        both_ok _ (if is_upper x then place_phrase names p else expr_of names p) (arguments_in names ps xs) Good AllGood AllGood
        (if_ok (is_upper x) (place_phrase names p) (expr_of names p) Good (place_good_if p (expr_good p)) (expr_good p)) (arguments_good ps xs) (λ e es h t. (h, t))
    arguments_good x xs = tt

  place_good : (p : PhraseTree) → IfOk (place_phrase names p) Good
  place_good p = place_good_if p (expr_good p)

-- ---- formulas

abbrev HasText : FormulaTree → Type 0
HasText = FormulaIsPrintable

abbrev AllHaveText : List FormulaTree → Type 0
AllHaveText ws = FormulasArePrintable (formulas_of ws)

equation_made : (n m at : ℕ) (l r : CheckOutcome ExprTree) → IfOk l Good → IfOk r Good → IfOk (equation_of n m at l r) HasText
equation_made zero zero at l r p q = both_ok _ l r Good Good HasText p q (λ x y a b. (a, b))
equation_made (suc n) zero at l r p q = both_ok (λ t e. next_equals_of (suc n) t e) l r Good Good HasText p q (λ x y a b. (tt, ((a, b), tt)))
equation_made zero (suc m) at l r p q = both_ok (λ e t. next_equals_of (suc m) t e) l r Good Good HasText p q (λ x y a b. (tt, ((b, a), tt)))
equation_made (suc n) (suc m) at l r p q = both_ok equation l (not_expression at) Good (λ e. ⊥) HasText p tt (λ x y a h. absurd h)

bare_made : (word : Bare) → HasText (bare_of word)
bare_made Empty = tt
bare_made x = tt

exists_made : (xs : Names) (w : FormulaTree) → AreLines xs → HasText w → HasText (exists_of xs w)
exists_made [] w lines h = h
exists_made (x ∷ xs) w lines h = (All-head IsOneLine x xs lines, exists_made xs w (All-tail IsOneLine x xs lines) h)

module _ (names : VisibleNames) where
  state_made : (at : ℕ) (kind : k.KindTree) → IfOk (state_in names at kind) HasText
  state_made at kind =
      let e = expr_kind_good names at kind in
      if_ok (is_place_kind kind) _ _ HasText (mapped_ok _ (expr_of_kind names at kind) Good HasText e (λ x h. (h, tt))) (mapped_ok _ (expr_of_kind names at kind) Good HasText e (λ x h. h))

  negation_made : (at : ℕ) (p : PhraseTree) → IfOk (negation_in names at p) HasText
  negation_made at p =
      if_ok (is_place_phrase p) _ _ HasText (mapped_ok _ (expr_of names p) Good HasText (expr_good names p) (λ x h. (h, tt)))
      (if_ok (is_state_in names p) _ _ HasText (state_made at (k.negation p)) tt)

  binary_made : (at : ℕ) (o : Op) (l r : PhraseTree) → IfOk (binary_in names at o l r) HasText
  binary_made at op.Equal l r = equation_made (nexts_of l) (nexts_of r) (at_of r) (expr_of names (behind_nexts l)) (expr_of names (behind_nexts r)) (expr_good names (behind_nexts l)) (expr_good names (behind_nexts r))
  binary_made at op.Gets l r = both_ok _ (place_phrase names l) (expr_of names r) Good Good HasText (place_good names l) (expr_good names r) (λ x y a b. (a, b))
  binary_made at op.Arrow l r = both_ok _ (place_phrase names l) (expr_of names r) Good Good HasText (place_good names l) (expr_good names r) (λ x y a b. (a, b))
  binary_made at op.Becomes l r = both_ok _ (place_phrase names l) (expr_of names r) Good Good HasText (place_good names l) (expr_good names r) (λ x y a b. (tt, ((a, b), tt)))
  binary_made at op.Or l r = if_ok (is_state_in names l && is_state_in names r) _ _ HasText (state_made at (k.binary op.Or l r)) tt
  binary_made at o l r = state_made at (k.binary o l r)

  called_made : (at : ℕ) (o : Option Called) (ps : PhraseTrees) → IfOk (called_formula names at o ps) HasText
  called_made at None ps = tt
  called_made at (Some c) ps =
      let xs = c.signature.parameters in
      if_ok (nat_eq (phrase_count ps) (length xs)) _ _ HasText (mapped_ok _ (arguments_in names ps xs) AllGood HasText (arguments_good names ps xs) (λ es h. h)) tt

  port_made : (p : PhraseTree) → AreLines (phrase_names p) → IfOk (port_phrase names p) IsOneLine
  port_made (phrase at (k.name x)) lines = if_ok (is_lower x) (Ok x) _ IsOneLine (All-head IsOneLine x [] lines) tt
  port_made (phrase at kind) lines = tt

mutual
  formula_made : (names : VisibleNames) (p : PhraseTree) → AreLines (phrase_names p) → IfOk (formula_of names p) HasText
  formula_made names (phrase at kind) lines = formula_kind_made names at kind lines

  formula_kind_made : (names : VisibleNames) (at : ℕ) (kind : k.KindTree) → AreLines (kind_names kind) → IfOk (formula_of_kind names at kind) HasText
  formula_kind_made names at (k.conjunction ps) lines = mapped_ok _ (formulas_in names ps) AllHaveText HasText (formulas_made names ps lines) (λ ws h. h)
  formula_kind_made names at (k.truth true) lines = tt
  formula_kind_made names at (k.negation p) lines = negation_made names at p
  formula_kind_made names at (k.binary op.Chop l r) lines =
      both_ok _ (formula_of names l) (formula_of names r) HasText HasText HasText (formula_made names l (front (phrase_names l) (phrase_names r) lines)) (formula_made names r (back (phrase_names l) (phrase_names r) lines)) (λ w v a b. (a, b))
  formula_kind_made names at (k.binary op.Proj l r) lines =
      both_ok _ (formula_of names l) (formula_of names r) HasText HasText HasText (formula_made names l (front (phrase_names l) (phrase_names r) lines)) (formula_made names r (back (phrase_names l) (phrase_names r) lines)) (λ w v a b. (a, b))
  formula_kind_made names at (k.binary o l r) lines = binary_made names at o l r
  formula_kind_made names at (k.bare word) lines = bare_made word
  formula_kind_made names at (k.next w) lines = mapped_ok _ (formula_of names w) HasText HasText (formula_made names w lines) (λ x h. h)
  formula_kind_made names at (k.form f.Always (phrase_then w no_phrase)) lines = mapped_ok _ (formula_of names w) HasText HasText (formula_made names w (front (phrase_names w) [] lines)) (λ x h. h)
  formula_kind_made names at (k.form f.Keep (phrase_then w no_phrase)) lines = mapped_ok _ (formula_of names w) HasText HasText (formula_made names w (front (phrase_names w) [] lines)) (λ x h. h)
  formula_kind_made names at (k.form f.Fin (phrase_then w no_phrase)) lines = mapped_ok _ (formula_of names w) HasText HasText (formula_made names w (front (phrase_names w) [] lines)) (λ x h. h)
  formula_kind_made names at (k.form f.Halt (phrase_then b no_phrase)) lines = mapped_ok _ (expr_of names b) Good HasText (expr_good names b) (λ x h. (h, tt, tt))
  formula_kind_made names at (k.form f.Stable (phrase_then p no_phrase)) lines = mapped_ok _ (place_phrase names p) Good HasText (place_good names p) (λ x h. (h, h))
  formula_kind_made names at (k.form f.Len (phrase_then e no_phrase)) lines = mapped_ok _ (expr_of names e) Good HasText (expr_good names e) (λ x h. h)
  formula_kind_made names at (k.form f.List (phrase_then l (phrase_then e no_phrase))) lines = both_ok _ (place_phrase names l) (expr_of names e) Good Good HasText (place_good names l) (expr_good names e) (λ x y a b. (a, b))
  formula_kind_made names at (k.form f.Input (phrase_then x (phrase_then p no_phrase))) lines =
      both_ok input (place_phrase names x) (port_phrase names p) Good IsOneLine HasText (place_good names x) (port_made names p (front (phrase_names p) [] (back (phrase_names x) (phrase_names p ++ []) lines))) (λ y port a h. (a, h))
  formula_kind_made names at (k.form f.Display (phrase_then e es)) lines = mapped_ok _ (exprs_in names (phrase_then e es)) AllGood HasText (exprs_good names (phrase_then e es)) (λ xs h. h)
  formula_kind_made names at (k.form f.Sometimes ps) lines = tt
  formula_kind_made names at (k.form f.Input ps) lines = tt
  formula_kind_made names at (k.form f.Display ps) lines = tt
  formula_kind_made names at (k.form f.Always ps) lines = tt
  formula_kind_made names at (k.form f.Keep ps) lines = tt
  formula_kind_made names at (k.form f.Fin ps) lines = tt
  formula_kind_made names at (k.form f.Halt ps) lines = tt
  formula_kind_made names at (k.form f.Stable ps) lines = tt
  formula_kind_made names at (k.form f.Len ps) lines = tt
  formula_kind_made names at (k.form f.List ps) lines = tt
  formula_kind_made names at (k.choice b w) lines =
      both_ok _ (expr_of names b) (formula_of names w) Good HasText HasText (expr_good names b) (formula_made names w (back (phrase_names b) (phrase_names w) lines)) (λ x y a h. (a, h, tt))
  formula_kind_made names at (k.choice_else b w v) lines =
      let rest = back (phrase_names b) (phrase_names w ++ phrase_names v) lines in
      three_ok _ (expr_of names b) (formula_of names w) (formula_of names v) Good HasText HasText HasText (expr_good names b) (formula_made names w (front (phrase_names w) (phrase_names v) rest)) (formula_made names v (back (phrase_names w) (phrase_names v) rest)) (λ x y z a g h. (a, g, h))
  formula_kind_made names at (k.while b w) lines = both_ok while (expr_of names b) (formula_of names w) Good HasText HasText (expr_good names b) (formula_made names w (back (phrase_names b) (phrase_names w) lines)) (λ x y a h. (a, h))
  formula_kind_made names at (k.repeat w b) lines = both_ok repeat_of (formula_of names w) (expr_of names b) HasText Good HasText (formula_made names w (front (phrase_names w) (phrase_names b) lines)) (expr_good names b) (λ x y h a. (h, (a, h)))
  formula_kind_made names at (k.for x e w) lines =
      let rest = All-tail IsOneLine x (phrase_names e ++ phrase_names w) lines in
      both_ok _ (expr_of names e) (formula_of (with_binder x names) w) Good HasText HasText (expr_good names e) (formula_made (with_binder x names) w (back (phrase_names e) (phrase_names w) rest))
      (λ y z a h. (All-head IsOneLine x (phrase_names e ++ phrase_names w) lines, refl, a, h))
  formula_kind_made names at (k.forall x e w) lines =
      let rest = All-tail IsOneLine x (phrase_names e ++ phrase_names w) lines in
      both_ok _ (expr_of names e) (formula_of (with_binder x names) w) Good HasText HasText (expr_good names e) (formula_made (with_binder x names) w (back (phrase_names e) (phrase_names w) rest))
      (λ y z a h. (All-head IsOneLine x (phrase_names e ++ phrase_names w) lines, refl, a, h))
  formula_kind_made names at (k.exists xs w) lines =
      let inner = with_binders xs names in
      if_ok (has_repeat xs) (Err (Twice at)) (mapped (exists_of xs) (formula_of inner w)) HasText tt
      (mapped_ok (exists_of xs) (formula_of inner w) HasText HasText (formula_made inner w (back xs (phrase_names w) lines)) (λ v h. exists_made xs v (front xs (phrase_names w) lines) h))
  formula_kind_made names at (k.call x ps) lines = called_made names at (called_of names.definitions x) ps
  formula_kind_made names at kind lines = state_made names at kind

  formulas_made : (names : VisibleNames) (ps : PhraseTrees) → AreLines (operand_names ps) → IfOk (formulas_in names ps) AllHaveText
  formulas_made names no_phrase lines = tt
  formulas_made names (phrase_then p ps) lines =
      both_ok _ (formula_of names p) (formulas_in names ps) HasText AllHaveText AllHaveText (formula_made names p (front (phrase_names p) (operand_names ps) lines)) (formulas_made names ps (back (phrase_names p) (operand_names ps) lines)) (λ x y g h. (g, h))

-- ---- definitions and programs

expr_where_good : (b : Bool) (names : VisibleNames) (body : PhraseTree) → IfOk (expr_where b names body) (λ o. IfSome o Good)
expr_where_good true names body = mapped_ok Some (expr_of names body) Good (λ o. IfSome o Good) (expr_good names body) (λ x h. h)
expr_where_good false names body = tt

definition_made : (names : VisibleNames) (d : DefinitionTree) (b : Bool) → AreLines (definition_names d) → IfOk (definition_in names d b) DefinitionIsPrintable
definition_made names d b lines =
    let inner = with_binders d.parameters names in
    let rest = All-tail IsOneLine d.name (d.parameters ++ phrase_names d.body) lines in
    both_ok (definition_with d) (formula_of inner d.body) (expr_where b inner d.body) HasText (λ o. IfSome o Good) DefinitionIsPrintable
    (formula_made inner d.body (back d.parameters (phrase_names d.body) rest)) (expr_where_good b inner d.body)
    (λ w o h g. record { name = All-head IsOneLine d.name (d.parameters ++ phrase_names d.body) lines; parameters = front d.parameters (phrase_names d.body) rest; formula = h; expr = g })

definitions_made : (names : VisibleNames) (ds : List DefinitionTree) (states : List Bool) → AreLines (names_in_definitions ds) → IfOk (definitions_in names ds states) (All DefinitionIsPrintable)
definitions_made names (d ∷ ds) (b ∷ bs) lines =
    both_ok (λ x xs. x ∷ xs) (definition_in names d b) (definitions_in names ds bs) DefinitionIsPrintable (All DefinitionIsPrintable) (All DefinitionIsPrintable)
    (definition_made names d b (front (definition_names d) (names_in_definitions ds) lines)) (definitions_made names ds bs (back (definition_names d) (names_in_definitions ds) lines)) (λ x xs h t. All-cons DefinitionIsPrintable x xs h t)
definitions_made names x states lines = All-nil DefinitionIsPrintable

-- its definitions and its formula
abbrev BodiesArePrintable : ProgramTree → Type 0
BodiesArePrintable p = All DefinitionIsPrintable p.defs × FormulaIsPrintable p.main

program_made : (globals : Names) (states : List Bool) (source : SourceTree) → AreLines (source_names source) → IfOk (program_over globals states source) BodiesArePrintable
program_made globals states source lines =
    let names = outermost (signatures_of source.definitions states) globals in
    both_ok (λ ds main. let made : ProgramTree = record { defs = ds; main = main; globals = globals } in made) (definitions_in names source.definitions states) (formula_of names source.main)
    (All DefinitionIsPrintable) HasText BodiesArePrintable
    (definitions_made names source.definitions states (front (names_in_definitions source.definitions) (phrase_names source.main) lines))
    (formula_made names source.main (back (names_in_definitions source.definitions) (phrase_names source.main) lines))
    (λ ds main h g. (h, g))

checked_bodies : (source : SourceTree) (program : ProgramTree) (twice : Option ℕ) → twice_defined [] source.definitions ≡ twice → ChecksTo source (Ok program) → AreLines (source_names source) → BodiesArePrintable program
checked_bodies source program (Some at) e is lines = absurd (let refused : Ok program ≡ Err _ = rw e at is in cc)
checked_bodies source program None e is lines =
    let made : (states : List Bool) × AreStates source.definitions states × (program_over (names_of source) states source ≡ Ok program) = rw e at is in
    IfOk-at_ok BodiesArePrintable made.2 (program_made (names_of source) made.0 source lines)

contained : (xs ys : Names) → AreLines ys → All (Contains ys) xs → AreLines xs
contained [] ys lines all = All-nil IsOneLine
contained (x ∷ xs) ys lines all = All-cons IsOneLine x xs (All-contains IsOneLine ys x lines (All-head (Contains ys) x xs all)) (contained xs ys lines (All-tail (Contains ys) x xs all))

pub checked_programs_are_printable : CheckedProgramsArePrintable
checked_programs_are_printable source program is lines =
    let bodies = checked_bodies source program (twice_defined [] source.definitions) refl is lines in
    record { definitions = bodies.0; main = bodies.1; globals = contained program.globals (source_names source) lines (globals_stand_in_source source program is) }
