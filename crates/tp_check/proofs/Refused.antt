-- What is made of phrases keeps the rules, and what is refused names the first that is broken.
use Rattle.std.proofs.Common.{refl, ap, sym, subst, ◌∙◌, ◌≡◌, ℕ, zero, suc, ◌≤◌, ◌&&◌, ◌||◌, nat_eq, Bool, true, false, if◌then◌else◌, List, [], ◌∷◌, ◌++◌, length, Option, None, Some, Ok, Err, pos, arith}
use Rattle.std.proofs.lemmas.Bool.Decides.{nat_tests}
use Rattle.tp_value.specs.Globals.{is_lower, variable_of}
use Rattle.tp_tree.specs.declared.operator.Op.{Op}
use Rattle.tp_tree.specs.declared.operator.Op.TheVariants as op
use Rattle.tp_tree.specs.declared.operator.Form.{Form}
use Rattle.tp_tree.specs.declared.operator.Form.TheVariants as f
use Rattle.tp_tree.specs.Tree as k
use Rattle.tp_tree.specs.Tree.{PhraseTree, phrase, KindTree, PhraseTrees, no_phrase, phrase_then}
use Rattle.tp_meaning.specs.Syntax.{FormulaTree, ExprTree, exprs_of, invoke, test}
use Rattle.tp_meaning.specs.Syntax as m
use Rattle.tp_meaning.specs.Value.{is_upper}
use Rattle.tp_meaning.specs.Derived.{next_equals_of, halt_of, keep_of, fin_of, gets_of, stable_of, becomes_of, list_of_length, repeat_of}
use Rattle.tp_check.specs.declared.refusal.CheckRefusal.{CheckRefusal}
use Rattle.tp_check.specs.declared.refusal.CheckRefusal.TheVariants.{Twice, Unknown, WrongCount, NotExpression, NotPlace, NotPort, NotExecutable}
use Rattle.tp_scope.specs.Scope.{Names, Signature, VisibleNames, Called, with_binder, with_binders, bound_in, binder_of, bound_or_global, called_of}
use Rattle.tp_scope.specs.Names.{has_repeat, unless_bound, names_in, names_in_kind, names_in_all, is_state_called}
use Rattle.tp_check.specs.Outcome.{CheckOutcome, mapped, both, not_run, not_expression}
use Rattle.tp_scope.specs.Phrases.{is_place_phrase, is_place_kind, is_port_kind, takes, phrase_count, nexts_of, behind_nexts, at_of}
use Rattle.tp_check.specs.Positions.{named_expr, operation_of, operation_at, call_refusal, refusal_of, called_expr, expr_of, expr_of_kind, exprs_in, place_phrase, port_phrase, arguments_in, equation_of, is_state_in, place_is, state_in, called_formula, exists_of, formula_of, formula_of_kind, formulas_in}
use Rattle.tp_check.specs.Refusals.{Position, formula, expression, place, port, Placed, as_formula, as_expression, as_place, as_port, as_formulas, as_expressions, as_arguments, arguments_of, right_side, operands_of_expression, operands_of_formula, operands_by, is_expression_kind, is_run_kind, Breaks, unknown, call_count, form_count, twice, no_expression, no_place, no_port, isnt_run, turn_of, IsFirstBroken}
use Rattle.tp_check.proofs.Known.{AreKnown, front, back, each_of_three, names_behind}
use Rattle.tp_check.proofs.Broken.{Told, Keeps, none_there, mapped_told, both_told, three_told, operands_told, told_of_operands, broken_told}

-- ---- the rules of one phrase

-- the rules that are the same in each position are kept
abbrev KeepsEverywhere : List Signature → KindTree → Type 0
KeepsEverywhere definitions (k.call x ps) = (c : Called) × (called_of definitions x ≡ Some c) × (phrase_count ps ≡ length c.signature.parameters)
KeepsEverywhere definitions (k.form word ps) = takes word (phrase_count ps) ≡ true
KeepsEverywhere definitions (k.exists xs p) = has_repeat xs ≡ false
KeepsEverywhere definitions kind = Unit {0}

-- what is due in a position
abbrev is_due : List Signature → Position → KindTree → Bool
is_due definitions formula kind = is_run_kind definitions kind
is_due definitions expression kind = is_expression_kind definitions kind
is_due definitions place kind = is_place_kind kind
is_due definitions port kind = is_port_kind kind

abbrev placed : Position → (at : ℕ) → KindTree → Placed
placed position at kind = record { position = position; phrase = phrase at kind }

keeps : (definitions : List Signature) (position : Position) (at : ℕ) (kind : KindTree) → KeepsEverywhere definitions kind → is_due definitions position kind ≡ true → Keeps definitions (placed position at kind)
keeps definitions position at kind everywhere due e (unknown q n x ps none) = let some : Some everywhere.0 ≡ None = sym everywhere.1 ∙ none in absurd cc
keeps definitions position at kind everywhere due e (call_count q n x ps c found differs) =
    let some : Some c ≡ Some everywhere.0 = sym found ∙ everywhere.1 in
    let same : everywhere.0 ≡ c = cc in
    absurd (differs (everywhere.2 ∙ ap (λ (d : Called). length d.signature.parameters) same))
keeps definitions position at kind everywhere due e (form_count q n word ps wrong) = absurd cc
keeps definitions position at kind everywhere due e (twice q n xs p repeats) = absurd cc
keeps definitions position at kind everywhere due e (no_expression n kind' wrong) = absurd cc
keeps definitions position at kind everywhere due e (no_place n kind' wrong) = absurd cc
keeps definitions position at kind everywhere due e (no_port n kind' wrong) = absurd cc
keeps definitions position at kind everywhere due e (isnt_run n kind' wrong) = absurd cc

-- the order of the rules that one phrase breaks
own_last : (definitions : List Signature) (position : Position) (at : ℕ) (kind : KindTree) → KeepsEverywhere definitions kind → (e : CheckRefusal) → Breaks definitions position (phrase at kind) e → 3 ≤ turn_of e
own_last definitions position at kind everywhere e (unknown q n x ps none) = let some : Some everywhere.0 ≡ None = sym everywhere.1 ∙ none in absurd cc
own_last definitions position at kind everywhere e (call_count q n x ps c found differs) =
    let some : Some c ≡ Some everywhere.0 = sym found ∙ everywhere.1 in
    let same : everywhere.0 ≡ c = cc in
    absurd (differs (everywhere.2 ∙ ap (λ (d : Called). length d.signature.parameters) same))
own_last definitions position at kind everywhere e (form_count q n word ps wrong) = absurd cc
own_last definitions position at kind everywhere e (twice q n xs p repeats) = absurd cc
own_last definitions position at kind everywhere e _ = omega arith

call_known : (definitions : List Signature) (position : Position) (at : ℕ) (x : List ℕ) (ps : PhraseTrees) (c : Called) → called_of definitions x ≡ Some c → (e : CheckRefusal) → Breaks definitions position (phrase at (k.call x ps)) e → 1 ≤ turn_of e
call_known definitions position at x ps c found e (unknown q n y qs none) = absurd cc
call_known definitions position at x ps c found e _ = omega arith

form_counted : (definitions : List Signature) (position : Position) (at : ℕ) (word : Form) (ps : PhraseTrees) (e : CheckRefusal) → Breaks definitions position (phrase at (k.form word ps)) e → 1 ≤ turn_of e
form_counted definitions position at word ps e (form_count q n other qs wrong) = omega arith
form_counted definitions position at word ps e _ = omega arith

apart_last : (definitions : List Signature) (position : Position) (at : ℕ) (xs : Names) (p : PhraseTree) (e : CheckRefusal) → Breaks definitions position (phrase at (k.exists xs p)) e → 2 ≤ turn_of e
apart_last definitions position at xs p e (twice q n ys r repeats) = omega arith
apart_last definitions position at xs p e _ = omega arith

-- ---- refusals

module _ (definitions : List Signature) where
  -- this refusal of a phrase names its first broken rule
  abbrev Refuses : Position → (at : ℕ) → KindTree → CheckRefusal → Type 0
  Refuses position at kind e = IsFirstBroken definitions (placed position at kind ∷ []) e

  refused : (position : Position) (at : ℕ) (kind : KindTree) (e : CheckRefusal) → Breaks definitions position (phrase at kind) e → ((e' : CheckRefusal) → Breaks definitions position (phrase at kind) e' → turn_of e ≤ turn_of e')
      → Refuses position at kind e
  refused position at kind e breaks least = broken_told definitions (placed position at kind) e breaks least

  -- for its position's own rule
  own_refused : (position : Position) (at : ℕ) (kind : KindTree) (e : CheckRefusal) → KeepsEverywhere definitions kind → Breaks definitions position (phrase at kind) e → turn_of e ≡ 3 → Refuses position at kind e
  own_refused position at kind e everywhere breaks own = refused position at kind e breaks (λ e' other. let last = own_last definitions position at kind everywhere e' other in omega (arith, last, own))

  unknown_refused : (position : Position) (at : ℕ) (x : List ℕ) (ps : PhraseTrees) → called_of definitions x ≡ None → Refuses position at (k.call x ps) (Unknown at)
  unknown_refused position at x ps none = refused position at (k.call x ps) (Unknown at) (unknown position at x ps none) (λ e' other. omega arith)

  count_refused : (position : Position) (at : ℕ) (x : List ℕ) (ps : PhraseTrees) (c : Called) → called_of definitions x ≡ Some c → nat_eq (phrase_count ps) (length c.signature.parameters) ≡ false
      → Refuses position at (k.call x ps) (WrongCount at)
  count_refused position at x ps c found differs =
      refused position at (k.call x ps) (WrongCount at) (call_count position at x ps c found (grind (arith, nat_tests))) (call_known definitions position at x ps c found)

  form_refused : (position : Position) (at : ℕ) (word : Form) (ps : PhraseTrees) → takes word (phrase_count ps) ≡ false → Refuses position at (k.form word ps) (WrongCount at)
  form_refused position at word ps wrong =
      refused position at (k.form word ps) (WrongCount at) (form_count position at word ps wrong) (form_counted definitions position at word ps)

  twice_refused : (position : Position) (at : ℕ) (xs : Names) (p : PhraseTree) → has_repeat xs ≡ true → Refuses position at (k.exists xs p) (Twice at)
  twice_refused position at xs p repeats = refused position at (k.exists xs p) (Twice at) (twice position at xs p repeats) (apart_last definitions position at xs p)

  call_refused_by : (position : Position) (at : ℕ) (x : List ℕ) (ps : PhraseTrees) (own : CheckRefusal) (c : Called) → called_of definitions x ≡ Some c → Breaks definitions position (phrase at (k.call x ps)) own → turn_of own ≡ 3
      → (counted : Bool) → nat_eq (phrase_count ps) (length c.signature.parameters) ≡ counted → Refuses position at (k.call x ps) (if counted then own else WrongCount at)
  call_refused_by position at x ps own c found breaks last true e = own_refused position at (k.call x ps) own (c, found, grind (arith, nat_tests)) breaks last
  call_refused_by position at x ps own c found breaks last false e = count_refused position at x ps c found e

  form_refused_by : (position : Position) (at : ℕ) (word : Form) (ps : PhraseTrees) (own : CheckRefusal) → Breaks definitions position (phrase at (k.form word ps)) own → turn_of own ≡ 3
      → (counted : Bool) → takes word (phrase_count ps) ≡ counted → Refuses position at (k.form word ps) (if counted then own else WrongCount at)
  form_refused_by position at word ps own breaks last true e = own_refused position at (k.form word ps) own e breaks last
  form_refused_by position at word ps own breaks last false e = form_refused position at word ps e

  exists_refused_by : (position : Position) (at : ℕ) (xs : Names) (p : PhraseTree) (own : CheckRefusal) → Breaks definitions position (phrase at (k.exists xs p)) own → turn_of own ≡ 3
      → (repeats : Bool) → has_repeat xs ≡ repeats → Refuses position at (k.exists xs p) (if repeats then Twice at else own)
  exists_refused_by position at xs p own breaks last true e = twice_refused position at xs p e
  exists_refused_by position at xs p own breaks last false e = own_refused position at (k.exists xs p) own e breaks last

module _ (names : VisibleNames) where
  call_refused : (position : Position) (at : ℕ) (x : List ℕ) (ps : PhraseTrees) (own : CheckRefusal) → Breaks names.definitions position (phrase at (k.call x ps)) own → turn_of own ≡ 3
      → (o : Option Called) → called_of names.definitions x ≡ o → Refuses names.definitions position at (k.call x ps) (call_refusal at o (phrase_count ps) own)
  call_refused position at x ps own breaks last None e = unknown_refused names.definitions position at x ps e
  call_refused position at x ps own breaks last (Some c) e =
      call_refused_by names.definitions position at x ps own c e breaks last (nat_eq (phrase_count ps) (length c.signature.parameters)) refl

  -- a phrase that breaks its position's own rule
  refusal_told : (position : Position) (at : ℕ) (kind : KindTree) (own : CheckRefusal) → Breaks names.definitions position (phrase at kind) own → turn_of own ≡ 3 → Refuses names.definitions position at kind (refusal_of names at kind own)
  refusal_told position at (k.call x ps) own breaks last = call_refused position at x ps own breaks last (called_of names.definitions x) refl
  refusal_told position at (k.form word ps) own breaks last = form_refused_by names.definitions position at word ps own breaks last (takes word (phrase_count ps)) refl
  refusal_told position at (k.exists xs p) own breaks last = exists_refused_by names.definitions position at xs p own breaks last (has_repeat xs) refl
  refusal_told position at kind own breaks last = own_refused names.definitions position at kind own tt breaks last

  -- ---- expressions and places

  -- a phrase that keeps its rules, of which is made what is made of its operands
  made : {A : Type 0} (position : Position) (at : ℕ) (kind : KindTree) → KeepsEverywhere names.definitions kind → is_due names.definitions position kind ≡ true → (o : CheckOutcome A)
      → Told names.definitions (operands_by names.definitions position kind) o → Told names.definitions (placed position at kind ∷ []) o
  made position at kind everywhere due o told = operands_told names.definitions (placed position at kind) (keeps names.definitions position at kind everywhere due) o told

  -- a form of one operand
  formed : {A : Type 0} (at : ℕ) (word : Form) (w : PhraseTree) (q : Placed) (g : A → FormulaTree) (o : CheckOutcome A) → KeepsEverywhere names.definitions (k.form word (phrase_then w no_phrase)) → is_due names.definitions formula (k.form word (phrase_then w no_phrase)) ≡ true
      → operands_by names.definitions formula (k.form word (phrase_then w no_phrase)) ≡ q ∷ [] → Told names.definitions (q ∷ []) o → Told names.definitions (placed formula at (k.form word (phrase_then w no_phrase)) ∷ []) (mapped g o)
  formed at word w q g o everywhere due is told =
      made formula at (k.form word (phrase_then w no_phrase)) everywhere due (mapped g o) (mapped_told names.definitions g _ o (subst (λ (ps : List Placed). Told names.definitions ps o) (sym is) told))

  -- what is told of a phrase in one position is told of it in another one, where its operands are the same
  moved : {A : Type 0} (one other : Position) (at : ℕ) (kind : KindTree) → KeepsEverywhere names.definitions kind → is_due names.definitions one kind ≡ true → is_due names.definitions other kind ≡ true
      → operands_by names.definitions one kind ≡ operands_by names.definitions other kind → (o : CheckOutcome A) → Told names.definitions (placed one at kind ∷ []) o → Told names.definitions (placed other at kind ∷ []) o
  moved one other at kind everywhere due due' same o told =
      made other at kind everywhere due' o
      (subst (λ (ps : List Placed). Told names.definitions ps o) same (told_of_operands names.definitions (placed one at kind) (keeps names.definitions one at kind everywhere due) o told))

  name_told : (at : ℕ) (x : List ℕ) (i : Option ℕ) → AreKnown names.globals (unless_bound i x) → Told names.definitions [] (named_expr at (bound_or_global i (variable_of names.globals x)))
  name_told at x (Some i) known = none_there names.definitions
  name_told at x None known = subst (λ v. Told names.definitions [] (named_expr at (bound_or_global None v))) (sym known.0.1) (none_there names.definitions)

  operation_told : (at : ℕ) (o : Op) (l r : PhraseTree) (a b : CheckOutcome ExprTree) → Told names.definitions (as_expression l ∷ []) a → Told names.definitions (as_expression r ∷ []) b
      → Told names.definitions (placed expression at (k.binary o l r) ∷ []) (operation_at at (operation_of o) a b)
  operation_told at op.Chop l r a b t u = refusal_told expression at (k.binary op.Chop l r) (NotExpression at) (no_expression at (k.binary op.Chop l r) refl) refl
  operation_told at op.Proj l r a b t u = refusal_told expression at (k.binary op.Proj l r) (NotExpression at) (no_expression at (k.binary op.Proj l r) refl) refl
  operation_told at op.Gets l r a b t u = refusal_told expression at (k.binary op.Gets l r) (NotExpression at) (no_expression at (k.binary op.Gets l r) refl) refl
  operation_told at op.Arrow l r a b t u = refusal_told expression at (k.binary op.Arrow l r) (NotExpression at) (no_expression at (k.binary op.Arrow l r) refl) refl
  operation_told at op.Becomes l r a b t u = refusal_told expression at (k.binary op.Becomes l r) (NotExpression at) (no_expression at (k.binary op.Becomes l r) refl) refl
  operation_told at o l r a b t u = made expression at (k.binary o l r) tt refl _ (both_told names.definitions _ (as_expression l ∷ []) (as_expression r ∷ []) a b t u)

  called_by : (at : ℕ) (x : List ℕ) (ps : PhraseTrees) (c : Called) → called_of names.definitions x ≡ Some c → (counted is_state : Bool) → nat_eq (phrase_count ps) (length c.signature.parameters) ≡ counted → c.signature.is_state ≡ is_state
      → (arguments : CheckOutcome (List ExprTree)) → Told names.definitions (as_arguments ps c.signature.parameters) arguments
      → Told names.definitions (placed expression at (k.call x ps) ∷ []) (if counted then (if is_state then mapped (λ es. invoke c.number (exprs_of es)) arguments else not_expression at) else Err (WrongCount at))
  called_by at x ps c found false is_state e s arguments told = count_refused names.definitions expression at x ps c found e
  called_by at x ps c found true false e s arguments told =
      own_refused names.definitions expression at (k.call x ps) (NotExpression at) (c, found, grind (arith, nat_tests)) (no_expression at (k.call x ps) (ap is_state_called found ∙ s)) refl
  called_by at x ps c found true true e s arguments told =
      made expression at (k.call x ps) (c, found, grind (arith, nat_tests)) (ap is_state_called found ∙ s) _
      (mapped_told names.definitions _ _ arguments (subst (λ (o : Option Called). Told names.definitions (arguments_of o ps) arguments) (sym found) told))

  called_expr_told : (at : ℕ) (x : List ℕ) (ps : PhraseTrees) (o : Option Called) → called_of names.definitions x ≡ o → ((xs : Names) → Told names.definitions (as_arguments ps xs) (arguments_in names ps xs))
      → Told names.definitions (placed expression at (k.call x ps) ∷ []) (called_expr at o (phrase_count ps) (λ xs. arguments_in names ps xs))
  called_expr_told at x ps None found told = unknown_refused names.definitions expression at x ps found
  called_expr_told at x ps (Some c) found told =
      let xs = c.signature.parameters in
      called_by at x ps c found (nat_eq (phrase_count ps) (length xs)) c.signature.is_state refl refl (arguments_in names ps xs) (told xs)

  -- a place is an expression that keeps the rules
  places_keep : (kind : KindTree) → is_place_kind kind ≡ true → KeepsEverywhere names.definitions kind × (is_expression_kind names.definitions kind ≡ true)
  places_keep (k.name x) is = (tt, refl)
  places_keep (k.index p i) is = (tt, refl)
  places_keep kind is = absurd cc

  place_told_by : (at : ℕ) (kind : KindTree) (is_place : Bool) → is_place_kind kind ≡ is_place → Told names.definitions (placed expression at kind ∷ []) (expr_of_kind names at kind)
      → Told names.definitions (placed place at kind ∷ []) (if is_place then expr_of_kind names at kind else Err (refusal_of names at kind (NotPlace at)))
  place_told_by at kind true is told = let kept = places_keep kind is in moved expression place at kind kept.0 kept.1 is refl (expr_of_kind names at kind) told
  place_told_by at kind false is told = refusal_told place at kind (NotPlace at) (no_place at kind is) refl

  place_told_if : (p : PhraseTree) → Told names.definitions (as_expression p ∷ []) (expr_of names p) → Told names.definitions (as_place p ∷ []) (place_phrase names p)
  place_told_if (phrase at kind) told = place_told_by at kind (is_place_kind kind) refl told

  port_by : (at : ℕ) (x : List ℕ) (is_port : Bool) → is_lower x ≡ is_port → Told names.definitions (placed port at (k.name x) ∷ []) (if is_port then Ok x else Err (NotPort at))
  port_by at x true is = made port at (k.name x) tt is (Ok x) (none_there names.definitions)
  port_by at x false is = own_refused names.definitions port at (k.name x) (NotPort at) tt (no_port at (k.name x) is) refl

  port_told : (p : PhraseTree) → Told names.definitions (as_port p ∷ []) (port_phrase names p)
  port_told (phrase at (k.name x)) = port_by at x (is_lower x) refl
  port_told (phrase at kind) = refusal_told port at kind (NotPort at) (no_port at kind refl) refl

  argument_told : (p : PhraseTree) (upper : Bool) → Told names.definitions (as_expression p ∷ []) (expr_of names p)
      → Told names.definitions ((if upper then as_place p else as_expression p) ∷ []) (if upper then place_phrase names p else expr_of names p)
  argument_told p true told = place_told_if p told
  argument_told p false told = told

mutual
  pub expr_told : (names : VisibleNames) (p : PhraseTree) → AreKnown names.globals (names_in names.scope p) → Told names.definitions (as_expression p ∷ []) (expr_of names p)
  expr_told names (phrase at kind) known = expr_kind_told names at kind known

  expr_kind_told : (names : VisibleNames) (at : ℕ) (kind : KindTree) → AreKnown names.globals (names_in_kind names.scope kind) → Told names.definitions (placed expression at kind ∷ []) (expr_of_kind names at kind)
  expr_kind_told names at (k.number n) known = made names expression at (k.number n) tt refl (expr_of_kind names at (k.number n)) (none_there names.definitions)
  expr_kind_told names at (k.truth b) known = made names expression at (k.truth b) tt refl (expr_of_kind names at (k.truth b)) (none_there names.definitions)
  expr_kind_told names at (k.name x) known = made names expression at (k.name x) tt refl (expr_of_kind names at (k.name x)) (name_told names at x (binder_of names.scope x) known)
  expr_kind_told names at (k.list ps) known = made names expression at (k.list ps) tt refl (expr_of_kind names at (k.list ps)) (mapped_told names.definitions _ (as_expressions ps) (exprs_in names ps) (exprs_told names ps known))
  expr_kind_told names at (k.size p) known = made names expression at (k.size p) tt refl (expr_of_kind names at (k.size p)) (mapped_told names.definitions _ (as_expression p ∷ []) (expr_of names p) (expr_told names p known))
  expr_kind_told names at (k.index p i) known =
      made names expression at (k.index p i) tt refl (expr_of_kind names at (k.index p i))
      (both_told names.definitions _ (as_expression p ∷ []) (as_expression i ∷ []) (expr_of names p) (expr_of names i)
      (expr_told names p (front names.globals (names_in names.scope p) (names_in names.scope i) known)) (expr_told names i (back names.globals (names_in names.scope p) (names_in names.scope i) known)))
  expr_kind_told names at (k.minus p) known = made names expression at (k.minus p) tt refl (expr_of_kind names at (k.minus p)) (mapped_told names.definitions _ (as_expression p ∷ []) (expr_of names p) (expr_told names p known))
  expr_kind_told names at (k.negation p) known = made names expression at (k.negation p) tt refl (expr_of_kind names at (k.negation p)) (mapped_told names.definitions _ (as_expression p ∷ []) (expr_of names p) (expr_told names p known))
  expr_kind_told names at (k.binary o l r) known =
      operation_told names at o l r (expr_of names l) (expr_of names r)
      (expr_told names l (front names.globals (names_in names.scope l) (names_in names.scope r) known)) (expr_told names r (back names.globals (names_in names.scope l) (names_in names.scope r) known))
  expr_kind_told names at (k.conjunction ps) known = made names expression at (k.conjunction ps) tt refl (expr_of_kind names at (k.conjunction ps)) (mapped_told names.definitions _ (as_expressions ps) (exprs_in names ps) (exprs_told names ps known))
  expr_kind_told names at (k.choice_else b p q) known =
      let each = each_of_three names.globals (names_in names.scope b) (names_in names.scope p) (names_in names.scope q) known in
      made names expression at (k.choice_else b p q) tt refl (expr_of_kind names at (k.choice_else b p q))
      (three_told names.definitions _ (as_expression b) (as_expression p) (as_expression q) (expr_of names b) (expr_of names p) (expr_of names q)
      (expr_told names b each.0) (expr_told names p each.1) (expr_told names q each.2))
  expr_kind_told names at (k.call x ps) known = called_expr_told names at x ps (called_of names.definitions x) refl (arguments_told names ps known)
  expr_kind_told names at kind known = refusal_told names expression at kind (NotExpression at) (no_expression at kind refl) refl

  exprs_told : (names : VisibleNames) (ps : PhraseTrees) → AreKnown names.globals (names_in_all names.scope ps) → Told names.definitions (as_expressions ps) (exprs_in names ps)
  exprs_told names no_phrase known = none_there names.definitions
  exprs_told names (phrase_then p ps) known =
      both_told names.definitions _ (as_expression p ∷ []) (as_expressions ps) (expr_of names p) (exprs_in names ps)
      (expr_told names p (front names.globals (names_in names.scope p) (names_in_all names.scope ps) known)) (exprs_told names ps (back names.globals (names_in names.scope p) (names_in_all names.scope ps) known))

  arguments_told : (names : VisibleNames) (ps : PhraseTrees) → AreKnown names.globals (names_in_all names.scope ps) → (xs : Names) → Told names.definitions (as_arguments ps xs) (arguments_in names ps xs)
  arguments_told names no_phrase known xs = none_there names.definitions
  arguments_told names (phrase_then p ps) known [] = none_there names.definitions
  arguments_told names (phrase_then p ps) known (x ∷ xs) =
      let one = expr_told names p (front names.globals (names_in names.scope p) (names_in_all names.scope ps) known) in
      both_told names.definitions _ ((if is_upper x then as_place p else as_expression p) ∷ []) (as_arguments ps xs) (if is_upper x then place_phrase names p else expr_of names p) (arguments_in names ps xs)
      (argument_told names p (is_upper x) one) (arguments_told names ps (back names.globals (names_in names.scope p) (names_in_all names.scope ps) known) xs)

place_told : (names : VisibleNames) (p : PhraseTree) → AreKnown names.globals (names_in names.scope p) → Told names.definitions (as_place p ∷ []) (place_phrase names p)
place_told names p known = place_told_if names p (expr_told names p known)

-- ---- formulas

-- other than one phrase, and other than two
abbrev AreNotOne : PhraseTrees → Type 0
AreNotOne no_phrase = Unit {0}
AreNotOne (phrase_then p no_phrase) = ⊥
AreNotOne (phrase_then p (phrase_then q ps)) = Unit {0}

not_one : (ps : PhraseTrees) → AreNotOne ps → nat_eq (phrase_count ps) 1 ≡ false
not_one no_phrase h = refl
not_one (phrase_then p no_phrase) h = absurd h
not_one (phrase_then p (phrase_then q ps)) h = grind (arith, nat_tests)

some_taken : (p : PhraseTree) (ps : PhraseTrees) → takes f.Display (phrase_count (phrase_then p ps)) ≡ true
some_taken p ps = grind (arith, nat_tests)

abbrev AreNotTwo : PhraseTrees → Type 0
AreNotTwo no_phrase = Unit {0}
AreNotTwo (phrase_then p no_phrase) = Unit {0}
AreNotTwo (phrase_then p (phrase_then q no_phrase)) = ⊥
AreNotTwo (phrase_then p (phrase_then q (phrase_then r ps))) = Unit {0}

not_two : (ps : PhraseTrees) → AreNotTwo ps → nat_eq (phrase_count ps) 2 ≡ false
not_two no_phrase h = refl
not_two (phrase_then p no_phrase) h = refl
not_two (phrase_then p (phrase_then q no_phrase)) h = absurd h
not_two (phrase_then p (phrase_then q (phrase_then r ps))) h = grind (arith, nat_tests)

module _ (names : VisibleNames) where
  -- a phrase that is an expression
  state_told : (at : ℕ) (kind : KindTree) → KeepsEverywhere names.definitions kind → is_due names.definitions expression kind ≡ true → is_due names.definitions formula kind ≡ true
      → operands_of_expression names.definitions kind ≡ operands_of_formula names.definitions kind → Told names.definitions (placed expression at kind ∷ []) (expr_of_kind names at kind)
      → Told names.definitions (placed formula at kind ∷ []) (state_in names at kind)
  state_told at kind everywhere due due' same told = by (is_place_kind kind) (moved names expression formula at kind everywhere due due' same (expr_of_kind names at kind) told)
    where
      by : (b : Bool) → Told names.definitions (placed formula at kind ∷ []) (expr_of_kind names at kind)
          → Told names.definitions (placed formula at kind ∷ []) (if b then mapped (place_is true) (expr_of_kind names at kind) else mapped test (expr_of_kind names at kind))
      by true h = mapped_told names.definitions (place_is true) (placed formula at kind ∷ []) (expr_of_kind names at kind) h
      by false h = mapped_told names.definitions test (placed formula at kind ∷ []) (expr_of_kind names at kind) h

  negation_told : (at : ℕ) (p : PhraseTree) (is_place is_state : Bool) → is_place_phrase p ≡ is_place → is_state_in names p ≡ is_state → Told names.definitions (as_expression p ∷ []) (expr_of names p)
      → Told names.definitions (placed formula at (k.negation p) ∷ []) (if is_place then mapped (place_is false) (expr_of names p) else if is_state then state_in names at (k.negation p) else not_run at)
  negation_told at p true is_state e s told =
      made names formula at (k.negation p) tt (ap (λ b. b || is_state_in names p) e) (mapped (place_is false) (expr_of names p)) (mapped_told names.definitions (place_is false) (as_expression p ∷ []) (expr_of names p) told)
  negation_told at p false true e s told =
      made names formula at (k.negation p) tt (ap (λ b. b || is_state_in names p) e ∙ s) (state_in names at (k.negation p))
      (mapped_told names.definitions test (as_expression p ∷ []) (mapped m.negation (expr_of names p)) (mapped_told names.definitions m.negation (as_expression p ∷ []) (expr_of names p) told))
  negation_told at p false false e s told =
      own_refused names.definitions formula at (k.negation p) (NotExecutable at) tt (isnt_run at (k.negation p) (ap (λ b. b || is_state_in names p) e ∙ s)) refl

  or_told : (at : ℕ) (l r : PhraseTree) (are_states : Bool) → (is_state_in names l && is_state_in names r) ≡ are_states → Told names.definitions (as_expression l ∷ []) (expr_of names l) → Told names.definitions (as_expression r ∷ []) (expr_of names r)
      → Told names.definitions (placed formula at (k.binary op.Or l r) ∷ []) (if are_states then state_in names at (k.binary op.Or l r) else not_run at)
  or_told at l r true s t u = state_told at (k.binary op.Or l r) tt refl s refl (operation_told names at op.Or l r (expr_of names l) (expr_of names r) t u)
  or_told at l r false s t u = own_refused names.definitions formula at (k.binary op.Or l r) (NotExecutable at) tt (isnt_run at (k.binary op.Or l r) s) refl

  -- a side with `next` in front is no expression
  later_told : (r : PhraseTree) (n : ℕ) → nexts_of r ≡ suc n → IsFirstBroken names.definitions (as_expression r ∷ []) (NotExpression (at_of r))
  later_told (phrase at (k.next p)) n e = own_refused names.definitions expression at (k.next p) (NotExpression at) tt (no_expression at (k.next p) refl) refl
  later_told (phrase at kind) n e = absurd (omega (arith, e))

  none_before : (r : PhraseTree) → nexts_of r ≡ 0 → behind_nexts r ≡ r
  none_before (phrase at (k.next p)) e = absurd (omega (arith, e))
  none_before (phrase at kind) e = refl

  sides_told : (l r : PhraseTree) (n count : ℕ) → nexts_of r ≡ count → (a b : CheckOutcome ExprTree) → Told names.definitions (as_expression (behind_nexts l) ∷ []) a → Told names.definitions (as_expression (behind_nexts r) ∷ []) b
      → Told names.definitions (as_expression (behind_nexts l) ∷ as_expression (right_side n r) ∷ []) (equation_of n count (at_of r) a b)
  sides_told l r zero zero e a b t u = both_told names.definitions m.equation (as_expression (behind_nexts l) ∷ []) (as_expression (behind_nexts r) ∷ []) a b t u
  sides_told l r zero (suc count) e a b t u = both_told names.definitions (λ x y. next_equals_of (suc count) y x) (as_expression (behind_nexts l) ∷ []) (as_expression (behind_nexts r) ∷ []) a b t u
  sides_told l r (suc n) zero e a b t u =
      both_told names.definitions (λ x y. next_equals_of (suc n) x y) (as_expression (behind_nexts l) ∷ []) (as_expression r ∷ []) a b t
      (subst (λ (p : PhraseTree). Told names.definitions (as_expression p ∷ []) b) (none_before r e) u)
  sides_told l r (suc n) (suc count) e a b t u =
      both_told names.definitions m.equation (as_expression (behind_nexts l) ∷ []) (as_expression r ∷ []) a (not_expression (at_of r)) t (later_told r count e)

  side_told : (p : PhraseTree) → AreKnown names.globals (names_in names.scope p) → Told names.definitions (as_expression (behind_nexts p) ∷ []) (expr_of names (behind_nexts p))
  side_told p known = expr_told names (behind_nexts p) (subst (λ (xs : Names). AreKnown names.globals xs) (sym (names_behind names.scope p)) known)

  -- what stands on both sides of an operator, as formulas and otherwise
  binary_told : (at : ℕ) (o : Op) (l r : PhraseTree) → AreKnown names.globals (names_in names.scope l) → AreKnown names.globals (names_in names.scope r)
      → Told names.definitions (as_formula l ∷ []) (formula_of names l) → Told names.definitions (as_formula r ∷ []) (formula_of names r)
      → Told names.definitions (placed formula at (k.binary o l r) ∷ []) (formula_of_kind names at (k.binary o l r))
  binary_told at op.Chop l r p q t u =
      made names formula at (k.binary op.Chop l r) tt refl (formula_of_kind names at (k.binary op.Chop l r)) (both_told names.definitions m.chop (as_formula l ∷ []) (as_formula r ∷ []) (formula_of names l) (formula_of names r) t u)
  binary_told at op.Proj l r p q t u =
      made names formula at (k.binary op.Proj l r) tt refl (formula_of_kind names at (k.binary op.Proj l r)) (both_told names.definitions m.project (as_formula l ∷ []) (as_formula r ∷ []) (formula_of names l) (formula_of names r) t u)
  binary_told at op.Equal l r p q t u =
      made names formula at (k.binary op.Equal l r) tt refl (formula_of_kind names at (k.binary op.Equal l r))
      (sides_told l r (nexts_of l) (nexts_of r) refl (expr_of names (behind_nexts l)) (expr_of names (behind_nexts r)) (side_told l p) (side_told r q))
  binary_told at op.Gets l r p q t u =
      made names formula at (k.binary op.Gets l r) tt refl (formula_of_kind names at (k.binary op.Gets l r)) (both_told names.definitions gets_of (as_place l ∷ []) (as_expression r ∷ []) (place_phrase names l) (expr_of names r) (place_told names l p) (expr_told names r q))
  binary_told at op.Arrow l r p q t u =
      made names formula at (k.binary op.Arrow l r) tt refl (formula_of_kind names at (k.binary op.Arrow l r)) (both_told names.definitions m.assign (as_place l ∷ []) (as_expression r ∷ []) (place_phrase names l) (expr_of names r) (place_told names l p) (expr_told names r q))
  binary_told at op.Becomes l r p q t u =
      made names formula at (k.binary op.Becomes l r) tt refl (formula_of_kind names at (k.binary op.Becomes l r)) (both_told names.definitions becomes_of (as_place l ∷ []) (as_expression r ∷ []) (place_phrase names l) (expr_of names r) (place_told names l p) (expr_told names r q))
  binary_told at op.Or l r p q t u = or_told at l r (is_state_in names l && is_state_in names r) refl (expr_told names l p) (expr_told names r q)
  binary_told at o l r p q t u = state_told at (k.binary o l r) tt refl refl refl (operation_told names at o l r (expr_of names l) (expr_of names r) (expr_told names l p) (expr_told names r q))

  called_formula_by : (at : ℕ) (x : List ℕ) (ps : PhraseTrees) (c : Called) → called_of names.definitions x ≡ Some c → (counted : Bool) → nat_eq (phrase_count ps) (length c.signature.parameters) ≡ counted
      → (arguments : CheckOutcome (List ExprTree)) → Told names.definitions (as_arguments ps c.signature.parameters) arguments
      → Told names.definitions (placed formula at (k.call x ps) ∷ []) (if counted then mapped (λ es. m.call c.number (exprs_of es)) arguments else Err (WrongCount at))
  called_formula_by at x ps c found false e arguments told = count_refused names.definitions formula at x ps c found e
  called_formula_by at x ps c found true e arguments told =
      let make = λ (es : List ExprTree). m.call c.number (exprs_of es) in
      made names formula at (k.call x ps) (c, found, grind (arith, nat_tests)) refl (mapped make arguments)
      (mapped_told names.definitions make (arguments_of (called_of names.definitions x) ps) arguments (subst (λ (o : Option Called). Told names.definitions (arguments_of o ps) arguments) (sym found) told))

  called_formula_told : (at : ℕ) (x : List ℕ) (ps : PhraseTrees) (o : Option Called) → called_of names.definitions x ≡ o → AreKnown names.globals (names_in_all names.scope ps)
      → Told names.definitions (placed formula at (k.call x ps) ∷ []) (called_formula names at o ps)
  called_formula_told at x ps None found known = unknown_refused names.definitions formula at x ps found
  called_formula_told at x ps (Some c) found known =
      let xs = c.signature.parameters in
      called_formula_by at x ps c found (nat_eq (phrase_count ps) (length xs)) refl (arguments_in names ps xs) (arguments_told names ps known xs)

  exists_told : (at : ℕ) (xs : Names) (w : PhraseTree) (repeats : Bool) → has_repeat xs ≡ repeats
      → (repeats ≡ false → Told names.definitions (as_formula w ∷ []) (formula_of (with_binders xs names) w))
      → Told names.definitions (placed formula at (k.exists xs w) ∷ []) (if repeats then Err (Twice at) else mapped (exists_of xs) (formula_of (with_binders xs names) w))
  exists_told at xs w true e told = twice_refused names.definitions formula at xs w e
  exists_told at xs w false e told =
      made names formula at (k.exists xs w) e refl (mapped (exists_of xs) (formula_of (with_binders xs names) w)) (mapped_told names.definitions (exists_of xs) (as_formula w ∷ []) (formula_of (with_binders xs names) w) (told refl))

  -- a form with a wrong number of operands, and one that isn't run
  miscounted_told : (at : ℕ) (word : Form) (ps : PhraseTrees) → takes word (phrase_count ps) ≡ false → IsFirstBroken names.definitions (placed formula at (k.form word ps) ∷ []) (refusal_of names at (k.form word ps) (NotExecutable at))
  miscounted_told at word ps wrong =
      subst (λ (b : Bool). IsFirstBroken names.definitions (placed formula at (k.form word ps) ∷ []) (if b then NotExecutable at else WrongCount at)) (sym wrong) (form_refused names.definitions formula at word ps wrong)

  form_not_run : (at : ℕ) (word : Form) (ps : PhraseTrees) → is_run_kind names.definitions (k.form word ps) ≡ false → IsFirstBroken names.definitions (placed formula at (k.form word ps) ∷ []) (refusal_of names at (k.form word ps) (NotExecutable at))
  form_not_run at word ps isnt = refusal_told names formula at (k.form word ps) (NotExecutable at) (isnt_run at (k.form word ps) isnt) refl

mutual
  pub formula_told : (names : VisibleNames) (p : PhraseTree) → AreKnown names.globals (names_in names.scope p) → Told names.definitions (as_formula p ∷ []) (formula_of names p)
  formula_told names (phrase at kind) known = formula_kind_told names at kind known

  formula_kind_told : (names : VisibleNames) (at : ℕ) (kind : KindTree) → AreKnown names.globals (names_in_kind names.scope kind) → Told names.definitions (placed formula at kind ∷ []) (formula_of_kind names at kind)
  formula_kind_told names at (k.conjunction ps) known =
      made names formula at (k.conjunction ps) tt refl (formula_of_kind names at (k.conjunction ps)) (mapped_told names.definitions _ (as_formulas ps) (formulas_in names ps) (formulas_told names ps known))
  formula_kind_told names at (k.truth true) known = made names formula at (k.truth true) tt refl (formula_of_kind names at (k.truth true)) (none_there names.definitions)
  formula_kind_told names at (k.negation p) known = negation_told names at p (is_place_phrase p) (is_state_in names p) refl refl (expr_told names p known)
  formula_kind_told names at (k.binary o l r) known =
      let first = front names.globals (names_in names.scope l) (names_in names.scope r) known in
      let second = back names.globals (names_in names.scope l) (names_in names.scope r) known in
      binary_told names at o l r first second (formula_told names l first) (formula_told names r second)
  formula_kind_told names at (k.bare word) known = made names formula at (k.bare word) tt refl (formula_of_kind names at (k.bare word)) (none_there names.definitions)
  formula_kind_told names at (k.next w) known = made names formula at (k.next w) tt refl (formula_of_kind names at (k.next w)) (mapped_told names.definitions m.next (as_formula w ∷ []) (formula_of names w) (formula_told names w known))
  formula_kind_told names at (k.form f.Always (phrase_then w no_phrase)) known = formed names at f.Always w (as_formula w) m.always (formula_of names w) refl refl refl (formula_told names w (front names.globals (names_in names.scope w) [] known))
  formula_kind_told names at (k.form f.Keep (phrase_then w no_phrase)) known = formed names at f.Keep w (as_formula w) keep_of (formula_of names w) refl refl refl (formula_told names w (front names.globals (names_in names.scope w) [] known))
  formula_kind_told names at (k.form f.Fin (phrase_then w no_phrase)) known = formed names at f.Fin w (as_formula w) fin_of (formula_of names w) refl refl refl (formula_told names w (front names.globals (names_in names.scope w) [] known))
  formula_kind_told names at (k.form f.Halt (phrase_then b no_phrase)) known = formed names at f.Halt b (as_expression b) halt_of (expr_of names b) refl refl refl (expr_told names b (front names.globals (names_in names.scope b) [] known))
  formula_kind_told names at (k.form f.Stable (phrase_then p no_phrase)) known = formed names at f.Stable p (as_place p) stable_of (place_phrase names p) refl refl refl (place_told names p (front names.globals (names_in names.scope p) [] known))
  formula_kind_told names at (k.form f.Len (phrase_then e no_phrase)) known = formed names at f.Len e (as_expression e) m.len (expr_of names e) refl refl refl (expr_told names e (front names.globals (names_in names.scope e) [] known))
  formula_kind_told names at (k.form f.List (phrase_then l (phrase_then e no_phrase))) known =
      made names formula at (k.form f.List (phrase_then l (phrase_then e no_phrase))) refl refl (both list_of_length (place_phrase names l) (expr_of names e))
      (both_told names.definitions list_of_length (as_place l ∷ []) (as_expression e ∷ []) (place_phrase names l) (expr_of names e)
      (place_told names l (front names.globals (names_in names.scope l) (names_in names.scope e ++ []) known))
      (expr_told names e (front names.globals (names_in names.scope e) [] (back names.globals (names_in names.scope l) (names_in names.scope e ++ []) known))))
  formula_kind_told names at (k.form f.Input (phrase_then x (phrase_then p no_phrase))) known =
      made names formula at (k.form f.Input (phrase_then x (phrase_then p no_phrase))) refl refl (both m.input (place_phrase names x) (port_phrase names p))
      (both_told names.definitions m.input (as_place x ∷ []) (as_port p ∷ []) (place_phrase names x) (port_phrase names p) (place_told names x known) (port_told names p))
  formula_kind_told names at (k.form f.Display (phrase_then e es)) known =
      let make = λ (xs : List ExprTree). m.display (exprs_of xs) in
      made names formula at (k.form f.Display (phrase_then e es)) (some_taken e es) refl (mapped make (exprs_in names (phrase_then e es)))
      (mapped_told names.definitions make (as_expressions (phrase_then e es)) (exprs_in names (phrase_then e es)) (exprs_told names (phrase_then e es) known))
  formula_kind_told names at (k.form f.Sometimes ps) known = form_not_run names at f.Sometimes ps refl
  formula_kind_told names at (k.form f.Input ps) known = miscounted_told names at f.Input ps (not_two ps tt)
  formula_kind_told names at (k.form f.Display no_phrase) known = miscounted_told names at f.Display no_phrase refl
  formula_kind_told names at (k.form f.Always ps) known = miscounted_told names at f.Always ps (not_one ps tt)
  formula_kind_told names at (k.form f.Keep ps) known = miscounted_told names at f.Keep ps (not_one ps tt)
  formula_kind_told names at (k.form f.Fin ps) known = miscounted_told names at f.Fin ps (not_one ps tt)
  formula_kind_told names at (k.form f.Halt ps) known = miscounted_told names at f.Halt ps (not_one ps tt)
  formula_kind_told names at (k.form f.Stable ps) known = miscounted_told names at f.Stable ps (not_one ps tt)
  formula_kind_told names at (k.form f.Len ps) known = miscounted_told names at f.Len ps (not_one ps tt)
  formula_kind_told names at (k.form f.List ps) known = miscounted_told names at f.List ps (not_two ps tt)
  formula_kind_told names at (k.choice b w) known =
      made names formula at (k.choice b w) tt refl (formula_of_kind names at (k.choice b w))
      (both_told names.definitions _ (as_expression b ∷ []) (as_formula w ∷ []) (expr_of names b) (formula_of names w)
      (expr_told names b (front names.globals (names_in names.scope b) (names_in names.scope w) known)) (formula_told names w (back names.globals (names_in names.scope b) (names_in names.scope w) known)))
  formula_kind_told names at (k.choice_else b w v) known =
      let each = each_of_three names.globals (names_in names.scope b) (names_in names.scope w) (names_in names.scope v) known in
      made names formula at (k.choice_else b w v) tt refl (formula_of_kind names at (k.choice_else b w v))
      (three_told names.definitions _ (as_expression b) (as_formula w) (as_formula v) (expr_of names b) (formula_of names w) (formula_of names v)
      (expr_told names b each.0) (formula_told names w each.1) (formula_told names v each.2))
  formula_kind_told names at (k.while b w) known =
      made names formula at (k.while b w) tt refl (formula_of_kind names at (k.while b w))
      (both_told names.definitions m.while (as_expression b ∷ []) (as_formula w ∷ []) (expr_of names b) (formula_of names w)
      (expr_told names b (front names.globals (names_in names.scope b) (names_in names.scope w) known)) (formula_told names w (back names.globals (names_in names.scope b) (names_in names.scope w) known)))
  formula_kind_told names at (k.repeat w b) known =
      made names formula at (k.repeat w b) tt refl (formula_of_kind names at (k.repeat w b))
      (both_told names.definitions repeat_of (as_formula w ∷ []) (as_expression b ∷ []) (formula_of names w) (expr_of names b)
      (formula_told names w (front names.globals (names_in names.scope w) (names_in names.scope b) known)) (expr_told names b (back names.globals (names_in names.scope w) (names_in names.scope b) known)))
  formula_kind_told names at (k.for x e w) known =
      made names formula at (k.for x e w) tt refl (formula_of_kind names at (k.for x e w))
      (both_told names.definitions (m.for_from x (pos 0)) (as_expression e ∷ []) (as_formula w ∷ []) (expr_of names e) (formula_of (with_binder x names) w)
      (expr_told names e (front names.globals (names_in names.scope e) (names_in (x ∷ names.scope) w) known)) (formula_told (with_binder x names) w (back names.globals (names_in names.scope e) (names_in (x ∷ names.scope) w) known)))
  formula_kind_told names at (k.forall x e w) known =
      made names formula at (k.forall x e w) tt refl (formula_of_kind names at (k.forall x e w))
      (both_told names.definitions (m.forall_from x (pos 0)) (as_expression e ∷ []) (as_formula w ∷ []) (expr_of names e) (formula_of (with_binder x names) w)
      (expr_told names e (front names.globals (names_in names.scope e) (names_in (x ∷ names.scope) w) known)) (formula_told (with_binder x names) w (back names.globals (names_in names.scope e) (names_in (x ∷ names.scope) w) known)))
  formula_kind_told names at (k.exists xs w) known =
      exists_told names at xs w (has_repeat xs) refl (λ apart. formula_told (with_binders xs names) w (subst (λ b. AreKnown names.globals (if b then [] else names_in (bound_in names.scope xs) w)) apart known))
  formula_kind_told names at (k.call x ps) known = called_formula_told names at x ps (called_of names.definitions x) refl known
  formula_kind_told names at (k.truth false) known = state_told names at (k.truth false) tt refl refl refl (expr_kind_told names at (k.truth false) known)
  formula_kind_told names at (k.number n) known = state_told names at (k.number n) tt refl refl refl (expr_kind_told names at (k.number n) known)
  formula_kind_told names at (k.name x) known = state_told names at (k.name x) tt refl refl refl (expr_kind_told names at (k.name x) known)
  formula_kind_told names at (k.list ps) known = state_told names at (k.list ps) tt refl refl refl (expr_kind_told names at (k.list ps) known)
  formula_kind_told names at (k.size p) known = state_told names at (k.size p) tt refl refl refl (expr_kind_told names at (k.size p) known)
  formula_kind_told names at (k.index p i) known = state_told names at (k.index p i) tt refl refl refl (expr_kind_told names at (k.index p i) known)
  formula_kind_told names at (k.minus p) known = state_told names at (k.minus p) tt refl refl refl (expr_kind_told names at (k.minus p) known)

  formulas_told : (names : VisibleNames) (ps : PhraseTrees) → AreKnown names.globals (names_in_all names.scope ps) → Told names.definitions (as_formulas ps) (formulas_in names ps)
  formulas_told names no_phrase known = none_there names.definitions
  formulas_told names (phrase_then p ps) known =
      both_told names.definitions _ (as_formula p ∷ []) (as_formulas ps) (formula_of names p) (formulas_in names ps)
      (formula_told names p (front names.globals (names_in names.scope p) (names_in_all names.scope ps) known)) (formulas_told names ps (back names.globals (names_in names.scope p) (names_in_all names.scope ps) known))
