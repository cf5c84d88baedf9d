-- What is made of a source runs: each definition, call and name that it speaks of is there.
use Rattle.std.proofs.Common.{refl, ap, sym, subst, ◌∙◌, ◌≡◌, ℕ, zero, suc, ◌+◌, ◌<◌, ◌&&◌, Bool, true, false, not, cond, if◌then◌else◌, nat_eq, nat_lt, List, [], ◌∷◌, length, slice_get, Option, None, Some, Ok, Err, IfOk, IsTrue, arith}
use Rattle.std.specs.List.{position_or_len}
use Rattle.std.specs.Option.{option_map, IfSome}
use Rattle.std.specs.Str.{bytes_eq}
use Rattle.std.proofs.lemmas.Bool.Decides.{nat_tests}
use Rattle.std.proofs.lemmas.Result.{IfOk-at_ok, IfOk-weaker}
use Rattle.std.proofs.lemmas.Slice.Eq.{bytes_eq-Decides}
use Rattle.std.proofs.lemmas.Iterator.Adapters.{position_from-zero}
use Rattle.tp_value.specs.declared.path.VarId.{VarId}
use Rattle.tp_value.specs.Globals.{variable, variable_of, is_lower}
use Rattle.tp_tree.specs.declared.operator.Op.{Op}
use Rattle.tp_tree.specs.declared.operator.Op.TheVariants as op
use Rattle.tp_tree.specs.declared.operator.Bare.{Bare}
use Rattle.tp_tree.specs.declared.operator.Bare.TheVariants.{Empty, More, Skip}
use Rattle.tp_tree.specs.declared.operator.Form.TheVariants as f
use Rattle.tp_tree.specs.Tree as k
use Rattle.tp_tree.specs.Tree.{PhraseTree, phrase, PhraseTrees, no_phrase, phrase_then, DefinitionTree, SourceTree}
use Rattle.tp_meaning.specs.Syntax.{ExprTree, FormulaTree, Definition, equation, while, input, exprs_of, formulas_of}
use Rattle.tp_meaning.specs.Value.{is_upper}
use Rattle.tp_meaning.specs.Interval.{kinds_of}
use Rattle.tp_meaning.specs.Fits.{IsVariable, IsPlace, AreArguments, ExprFits, ExprsFit, FormulaFits, FormulasFit, ProgramFits}
use Rattle.tp_meaning.specs.Derived.{next_equals_of, repeat_of}
use Rattle.tp_check.specs.declared.refusal.CheckRefusal.{CheckRefusal}
use Rattle.tp_check.specs.declared.refusal.CheckRefusal.TheVariants.{Twice}
use Rattle.tp_scope.specs.Scope.{Names, Signature, VisibleNames, Called, with_binder, with_binders, bound_in, binder_of, bound_or_global, called_from, called_of}
use Rattle.tp_scope.specs.Names.{has_repeat, signatures_of}
use Rattle.tp_check.specs.Outcome.{CheckOutcome, mapped, both, three, not_expression}
use Rattle.tp_scope.specs.Phrases.{is_place_phrase, is_place_kind, phrase_count, nexts_of, behind_nexts, at_of}
use Rattle.tp_check.specs.Positions.{named_expr, operation_of, operation_at, called_expr, expr_of, expr_of_kind, exprs_in, place_phrase, port_phrase, arguments_in, equation_of, is_state_in, state_in, negation_in, binary_in, bare_of, called_formula, exists_of, formula_of, formula_of_kind, formulas_in}
use Rattle.tp_check.specs.Program.{expr_where, definition_with, definition_in, definitions_in, outermost, program_over}

any_ok : {A : Type 0} (a : CheckOutcome A) → IfOk a (λ x. Unit {0})
any_ok (Ok a) = tt
any_ok (Err e) = tt

pair_ok : {A : Type 0} (a : CheckOutcome A) (P Q : A → Type 0) → IfOk a P → IfOk a Q → IfOk a (λ x. P x × Q x)
pair_ok (Ok a) P Q p q = (p, q)
pair_ok (Err e) P Q p q = tt

pub mapped_ok : {A B : Type 0} (g : A → B) (a : CheckOutcome A) (P : A → Type 0) (Q : B → Type 0) → IfOk a P → ((x : A) → P x → Q (g x)) → IfOk (mapped g a) Q
mapped_ok g (Ok a) P Q p h = h a p
mapped_ok g (Err e) P Q p h = tt

pub both_ok : {A B C : Type 0} (g : A → B → C) (a : CheckOutcome A) (b : CheckOutcome B) (P : A → Type 0) (Q : B → Type 0) (R : C → Type 0)
    → IfOk a P → IfOk b Q → ((x : A) (y : B) → P x → Q y → R (g x y)) → IfOk (both g a b) R
both_ok g (Ok a) b P Q R p q h = mapped_ok (g a) b Q R q (λ y fits. h a y p fits)
both_ok g (Err e) b P Q R p q h = tt

pub three_ok : {A B C D : Type 0} (g : A → B → C → D) (a : CheckOutcome A) (b : CheckOutcome B) (c : CheckOutcome C) (P : A → Type 0) (Q : B → Type 0) (R : C → Type 0) (S : D → Type 0)
    → IfOk a P → IfOk b Q → IfOk c R → ((x : A) (y : B) (z : C) → P x → Q y → R z → S (g x y z)) → IfOk (three g a b c) S
three_ok g (Ok a) b c P Q R S p q r h = both_ok (g a) b c Q R S q r (λ y z u v. h a y z p u v)
three_ok g (Err e) b c P Q R S p q r h = tt

pub if_ok : {A : Type 0} (b : Bool) (x y : CheckOutcome A) (P : A → Type 0) → (b ≡ true → IfOk x P) → IfOk y P → IfOk (if b then x else y) P
if_ok true x y P p q = p refl
if_ok false x y P p q = q

else_ok : {A : Type 0} (b : Bool) (e : CheckRefusal) (x : CheckOutcome A) (P : A → Type 0) → IfOk x P → IfOk (if b then Err e else x) P
else_ok true e x P p = tt
else_ok false e x P p = p

bound_count : (xs scope : Names) → length (bound_in scope xs) ≡ length xs + length scope
bound_count [] scope = omega arith
bound_count (x ∷ xs) scope = bound_count xs (x ∷ scope) ∙ omega arith

-- ---- variables

get_after : (b : Bool) (bs : List Bool) (i : ℕ) → slice_get (b ∷ bs) (1 + i) ≡ slice_get bs i
get_after b bs i = let next : 1 + i ≡ suc i = omega arith in ap (slice_get (b ∷ bs)) next

kind_by : (x n : List ℕ) (ns : Names) (same : Bool) → bytes_eq x n ≡ same → cond (not same) (1 + position_or_len (bytes_eq x) ns) 0 < suc (length ns)
    → (position_or_len (bytes_eq x) ns < length ns → slice_get (kinds_of ns) (position_or_len (bytes_eq x) ns) ≡ Some (is_lower x))
    → slice_get (kinds_of (n ∷ ns)) (cond (not same) (1 + position_or_len (bytes_eq x) ns) 0) ≡ Some (is_lower x)
kind_by x n ns true e h later = ap (λ (y : List ℕ). Some (is_lower y)) (sym ((bytes_eq-Decides x n).0 e))
kind_by x n ns false e h later = get_after (is_lower n) (kinds_of ns) (position_or_len (bytes_eq x) ns) ∙ later (omega arith)

kind_at : (x : List ℕ) (names : Names) → position_or_len (bytes_eq x) names < length names → slice_get (kinds_of names) (position_or_len (bytes_eq x) names) ≡ Some (is_lower x)
kind_at x [] h = absurd (omega arith)
kind_at x (n ∷ ns) h = kind_by x n ns (bytes_eq x n) refl h (kind_at x ns)

variable_found : (names : Names) (x : List ℕ) (known : Bool) → nat_lt (position_or_len (bytes_eq x) names) (length names) ≡ known
    → (v : VarId) → option_map (variable x) (cond known (Some (position_or_len (bytes_eq x) names)) None) ≡ Some v → IsVariable (kinds_of names) v
variable_found names x true e v found =
    let below : position_or_len (bytes_eq x) names < length names = grind (arith, nat_tests) in
    let same : variable x (position_or_len (bytes_eq x) names) ≡ v = cc in
    subst (λ (w : VarId). IsVariable (kinds_of names) w) same (kind_at x names below)
variable_found names x false e v found = absurd cc

variable_fits : (names : Names) (x : List ℕ) (v : VarId) → variable_of names x ≡ Some v → IsVariable (kinds_of names) v
variable_fits names x v e =
    variable_found names x (nat_lt (position_or_len (bytes_eq x) names) (length names)) refl v (ap (option_map (variable x)) (position_from-zero (bytes_eq x) names) ∙ e)

-- a binder's number is below the number of binders
binder_below : (scope : Names) (x : List ℕ) (i : ℕ) → binder_of scope x ≡ Some i → i < length scope
binder_below [] x i e = absurd cc
binder_below (y ∷ outer) x i e = binder_by outer x i (bytes_eq x y) e (binder_below outer x i)
  where
    binder_by : (outer : Names) (x : List ℕ) (i : ℕ) (same : Bool) → (if same then Some (length outer) else binder_of outer x) ≡ Some i → (binder_of outer x ≡ Some i → i < length outer) → i < suc (length outer)
    binder_by outer x i true e below = let here : length outer ≡ i = cc in omega arith
    binder_by outer x i false e below = let there : i < length outer = below e in omega arith

-- ---- what calls find

-- a definition as its signature says it: with these parameters, and with an expression where it is a state definition
abbrev pub IsAsSigned : Signature → Definition → Type 0
IsAsSigned s d = (d.parameters ≡ s.parameters) × (s.is_state ≡ true → (e : ExprTree) × (d.expr ≡ Some e))

-- what a call finds among the signatures stands with that number among the definitions
abbrev pub AreDefined : List Definition → List Signature → Type 0
AreDefined defs signatures = (x : List ℕ) (c : Called) → called_of signatures x ≡ Some c → (d : Definition) × (slice_get defs c.number ≡ Some d) × IsAsSigned c.signature d

expr_there : (b : Bool) (names : VisibleNames) (body : PhraseTree) → IfOk (expr_where b names body) (λ e. b ≡ true → (x : ExprTree) × (e ≡ Some x))
expr_there true names body = mapped_ok Some (expr_of names body) (λ x. Unit {0}) (λ e. true ≡ true → (x : ExprTree) × (e ≡ Some x)) (any_ok (expr_of names body)) (λ x h same. (x, refl))
expr_there false names body = λ same. absurd cc

made_as_signed : (names : VisibleNames) (d : DefinitionTree) (b : Bool) → IfOk (definition_in names d b) (IsAsSigned (record { name = d.name; parameters = d.parameters; is_state = b }))
made_as_signed names d b =
    let inner = with_binders d.parameters names in
    both_ok (definition_with d) (formula_of inner d.body) (expr_where b inner d.body) (λ w. Unit {0}) (λ e. b ≡ true → (x : ExprTree) × (e ≡ Some x)) (IsAsSigned (record { name = d.name; parameters = d.parameters; is_state = b }))
    (any_ok (formula_of inner d.body)) (expr_there b inner d.body) (λ w e h there. (refl, there))

-- what is called is one of these, of which the first has the number i
abbrev IsAmong : ℕ → Called → List Definition → Type 0
IsAmong i c made = (j : ℕ) × (d : Definition) × (c.number ≡ j + i) × (slice_get made j ≡ Some d) × IsAsSigned c.signature d

found_by : (i : ℕ) (s : Signature) (c : Called) (same : Bool) (later : Option Called) (one : CheckOutcome Definition) (more : CheckOutcome (List Definition))
    → (if same then Some (record { number = i; signature = s }) else later) ≡ Some c → IfOk one (IsAsSigned s) → (later ≡ Some c → IfOk more (IsAmong (suc i) c))
    → IfOk (both (λ x xs. x ∷ xs) one more) (IsAmong i c)
found_by i s c true later one more e first rest =
    let is : record { number = i; signature = s } ≡ c = cc in
    both_ok (λ x xs. x ∷ xs) one more (IsAsSigned s) (λ made. Unit {0}) (IsAmong i c) first (any_ok more) (λ d made h t. subst (λ (y : Called). IsAmong i y (d ∷ made)) is (0, d, omega arith, refl, h))
found_by i s c false later one more e first rest =
    both_ok (λ x xs. x ∷ xs) one more (λ d. Unit {0}) (IsAmong (suc i) c) (IsAmong i c) (any_ok one) (rest e) (λ d made t h. (suc h.0, h.1, omega (arith, h.2), h.3, h.4))

found_from : (i : ℕ) (names : VisibleNames) (ds : List DefinitionTree) (states : List Bool) (x : List ℕ) (c : Called) → called_from i (signatures_of ds states) x ≡ Some c
    → IfOk (definitions_in names ds states) (IsAmong i c)
found_from i names [] states x c e = absurd cc
found_from i names (d ∷ ds) [] x c e = absurd cc
found_from i names (d ∷ ds) (b ∷ bs) x c e =
    found_by i (record { name = d.name; parameters = d.parameters; is_state = b }) c (bytes_eq x d.name) (called_from (suc i) (signatures_of ds bs) x) (definition_in names d b) (definitions_in names ds bs) e
    (made_as_signed names d b) (found_from (suc i) names ds bs x c)

are_defined : (names : VisibleNames) (ds : List DefinitionTree) (states : List Bool) (defs : List Definition) → definitions_in names ds states ≡ Ok defs → AreDefined defs (signatures_of ds states)
are_defined names ds states defs made x c e =
    let found : IsAmong 0 c defs = IfOk-at_ok (IsAmong 0 c) made (found_from 0 names ds states x c e) in
    let at : c.number ≡ found.0 = omega (arith, found.2) in
    (found.1, ap (slice_get defs) at ∙ found.3, found.4)

-- ---- places

name_is_place : (at : ℕ) (i : Option ℕ) (v : Option VarId) → IfOk (named_expr at (bound_or_global i v)) IsPlace
name_is_place at (Some i) v = tt
name_is_place at None (Some v) = tt
name_is_place at None None = tt

mutual
  made_place : (names : VisibleNames) (p : PhraseTree) → is_place_phrase p ≡ true → IfOk (expr_of names p) IsPlace
  made_place names (phrase at kind) is = made_place_kind names at kind is

  made_place_kind : (names : VisibleNames) (at : ℕ) (kind : k.KindTree) → is_place_kind kind ≡ true → IfOk (expr_of_kind names at kind) IsPlace
  made_place_kind names at (k.name x) is = name_is_place at (binder_of names.scope x) (variable_of names.globals x)
  made_place_kind names at (k.index p i) is = both_ok _ (expr_of names p) (expr_of names i) IsPlace (λ e. Unit {0}) IsPlace (made_place names p is) (any_ok (expr_of names i)) (λ x y h t. h)
  made_place_kind names at kind is = absurd cc

-- ---- expressions

module _ (defs : List Definition) where
  abbrev pub Fits : VisibleNames → ExprTree → Type 0
  Fits names e = ExprFits defs (kinds_of names.globals) e (length names.scope)

  abbrev AllFit : VisibleNames → List ExprTree → Type 0
  AllFit names es = ExprsFit defs (kinds_of names.globals) (exprs_of es) (length names.scope)

  -- a place, and an operand where a place is due, if the parameter is upper-case
  abbrev PlaceFits : VisibleNames → ExprTree → Type 0
  PlaceFits names e = IsPlace e × Fits names e

  abbrev ArgumentFits : VisibleNames → Bool → ExprTree → Type 0
  ArgumentFits names upper e = (IsTrue upper → IsPlace e) × Fits names e

  abbrev ArgumentsFit : VisibleNames → Names → List ExprTree → Type 0
  ArgumentsFit names xs es = AreArguments (exprs_of es) xs × AllFit names es

  -- what calls find where these names can be read
  abbrev pub Known : VisibleNames → Type 0
  Known names = AreDefined defs names.definitions

  name_fits : (names : VisibleNames) (at : ℕ) (x : List ℕ) (i : Option ℕ) (v : Option VarId) → binder_of names.scope x ≡ i → variable_of names.globals x ≡ v
      → IfOk (named_expr at (bound_or_global i v)) (Fits names)
  name_fits names at x (Some i) v b e = binder_below names.scope x i b
  name_fits names at x None (Some v) b e = variable_fits names.globals x v e
  name_fits names at x None None b e = tt

  operation_fits : (names : VisibleNames) (at : ℕ) (o : Op) (l r : CheckOutcome ExprTree) → IfOk l (Fits names) → IfOk r (Fits names) → IfOk (operation_at at (operation_of o) l r) (Fits names)
  operation_fits names at op.Chop l r p q = tt
  operation_fits names at op.Proj l r p q = tt
  operation_fits names at op.Gets l r p q = tt
  operation_fits names at op.Arrow l r p q = tt
  operation_fits names at op.Becomes l r p q = tt
  operation_fits names at _ l r p q = both_ok _ l r (Fits names) (Fits names) (Fits names) p q (λ x y a b. (a, b))

  called_expr_fits : (names : VisibleNames) → Known names → (at : ℕ) (x : List ℕ) (o : Option Called) → called_of names.definitions x ≡ o → (ps : PhraseTrees)
      → ((xs : Names) → phrase_count ps ≡ length xs → IfOk (arguments_in names ps xs) (ArgumentsFit names xs)) → IfOk (called_expr at o (phrase_count ps) (λ xs. arguments_in names ps xs)) (Fits names)
  called_expr_fits names known at x None found ps fit = tt
  called_expr_fits names known at x (Some c) found ps fit =
      let xs = c.signature.parameters in
      let d = known x c found in
      if_ok (nat_eq (phrase_count ps) (length xs)) _ _ (Fits names)
      (λ same. if_ok c.signature.is_state _ _ (Fits names)
      (λ is_state. mapped_ok _ (arguments_in names ps xs) (ArgumentsFit names xs) (Fits names) (fit xs (grind (arith, nat_tests)))
      (λ es h. (d.0, (d.2.1 is_state).0, d.1, (d.2.1 is_state).1, subst (λ (ys : Names). AreArguments (exprs_of es) ys) (sym d.2.0) h.0, h.1))) tt)
      tt

  -- where an expression is due, and where a place is
  place_fits_if : (names : VisibleNames) (p : PhraseTree) → IfOk (expr_of names p) (Fits names) → IfOk (place_phrase names p) (PlaceFits names)
  place_fits_if names (phrase at kind) fits =
      if_ok (is_place_kind kind) (expr_of_kind names at kind) _ (PlaceFits names) (λ is. pair_ok (expr_of_kind names at kind) IsPlace (Fits names) (made_place_kind names at kind is) fits) tt

  argument_fits : (names : VisibleNames) (upper : Bool) (p : PhraseTree) → IfOk (expr_of names p) (Fits names) → IfOk (if upper then place_phrase names p else expr_of names p) (ArgumentFits names upper)
  argument_fits names true p fits = IfOk-weaker (place_phrase names p) (PlaceFits names) (ArgumentFits names true) (λ e h. (λ upper. h.0, h.1)) (place_fits_if names p fits)
  argument_fits names false p fits = IfOk-weaker (expr_of names p) (Fits names) (ArgumentFits names false) (λ e h. (λ upper. absurd cc, h)) fits

  mutual
    pub expr_fits : (names : VisibleNames) → Known names → (p : PhraseTree) → IfOk (expr_of names p) (Fits names)
    expr_fits names known (phrase at kind) = expr_kind_fits names known at kind

    expr_kind_fits : (names : VisibleNames) → Known names → (at : ℕ) (kind : k.KindTree) → IfOk (expr_of_kind names at kind) (Fits names)
    expr_kind_fits names known at (k.number n) = tt
    expr_kind_fits names known at (k.truth b) = tt
    expr_kind_fits names known at (k.name x) = name_fits names at x (binder_of names.scope x) (variable_of names.globals x) refl refl
    expr_kind_fits names known at (k.list ps) = mapped_ok _ (exprs_in names ps) (AllFit names) (Fits names) (exprs_fit names known ps) (λ es h. h)
    expr_kind_fits names known at (k.size p) = mapped_ok _ (expr_of names p) (Fits names) (Fits names) (expr_fits names known p) (λ e h. h)
    expr_kind_fits names known at (k.index p i) = both_ok _ (expr_of names p) (expr_of names i) (Fits names) (Fits names) (Fits names) (expr_fits names known p) (expr_fits names known i) (λ x y a b. (a, b))
    expr_kind_fits names known at (k.minus p) = mapped_ok _ (expr_of names p) (Fits names) (Fits names) (expr_fits names known p) (λ e h. h)
    expr_kind_fits names known at (k.negation p) = mapped_ok _ (expr_of names p) (Fits names) (Fits names) (expr_fits names known p) (λ e h. h)
    expr_kind_fits names known at (k.binary o l r) = operation_fits names at o (expr_of names l) (expr_of names r) (expr_fits names known l) (expr_fits names known r)
    expr_kind_fits names known at (k.conjunction ps) = mapped_ok _ (exprs_in names ps) (AllFit names) (Fits names) (exprs_fit names known ps) (λ es h. h)
    expr_kind_fits names known at (k.choice_else b p q) =
        three_ok _ (expr_of names b) (expr_of names p) (expr_of names q) (Fits names) (Fits names) (Fits names) (Fits names) (expr_fits names known b) (expr_fits names known p) (expr_fits names known q) (λ x y z a b c. (a, b, c))
    expr_kind_fits names known at (k.call x ps) = called_expr_fits names known at x (called_of names.definitions x) refl ps (arguments_fit names known ps)
    expr_kind_fits names known at kind = tt

    exprs_fit : (names : VisibleNames) → Known names → (ps : PhraseTrees) → IfOk (exprs_in names ps) (AllFit names)
    exprs_fit names known no_phrase = tt
    exprs_fit names known (phrase_then p ps) = both_ok _ (expr_of names p) (exprs_in names ps) (Fits names) (AllFit names) (AllFit names) (expr_fits names known p) (exprs_fit names known ps) (λ x y a b. (a, b))

    arguments_fit : (names : VisibleNames) → Known names → (ps : PhraseTrees) (xs : Names) → phrase_count ps ≡ length xs → IfOk (arguments_in names ps xs) (ArgumentsFit names xs)
    arguments_fit names known no_phrase [] same = (tt, tt)
    arguments_fit names known no_phrase (x ∷ xs) same = absurd (omega arith)
    arguments_fit names known (phrase_then p ps) [] same = absurd (omega arith)
    arguments_fit names known (phrase_then p ps) (x ∷ xs) same =
        both_ok _ (if is_upper x then place_phrase names p else expr_of names p) (arguments_in names ps xs) (ArgumentFits names (is_upper x)) (ArgumentsFit names xs) (ArgumentsFit names (x ∷ xs))
        (argument_fits names (is_upper x) p (expr_fits names known p)) (arguments_fit names known ps xs (omega arith)) (λ e es h t. ((h.0, t.0), (h.1, t.1)))

  place_fits : (names : VisibleNames) → Known names → (p : PhraseTree) → IfOk (place_phrase names p) (Fits names)
  place_fits names known p = IfOk-weaker (place_phrase names p) (PlaceFits names) (Fits names) (λ e h. h.1) (place_fits_if names p (expr_fits names known p))

  -- ---- formulas

  abbrev pub FormulaFitsIn : VisibleNames → FormulaTree → Type 0
  FormulaFitsIn names w = FormulaFits defs (kinds_of names.globals) w (length names.scope)

  abbrev FormulasFitIn : VisibleNames → List FormulaTree → Type 0
  FormulasFitIn names ws = FormulasFit defs (kinds_of names.globals) (formulas_of ws) (length names.scope)

  equation_fits : (names : VisibleNames) (n m at : ℕ) (l r : CheckOutcome ExprTree) → IfOk l (Fits names) → IfOk r (Fits names) → IfOk (equation_of n m at l r) (FormulaFitsIn names)
  equation_fits names zero zero at l r p q = both_ok _ l r (Fits names) (Fits names) (FormulaFitsIn names) p q (λ x y a b. (a, b))
  equation_fits names (suc n) zero at l r p q =
      both_ok (λ t e. next_equals_of (suc n) t e) l r (Fits names) (Fits names) (FormulaFitsIn names) p q (λ x y a b. (tt, ((a, b, omega arith), tt)))
  equation_fits names zero (suc m) at l r p q =
      both_ok (λ e t. next_equals_of (suc m) t e) l r (Fits names) (Fits names) (FormulaFitsIn names) p q (λ x y a b. (tt, ((b, a, omega arith), tt)))
  equation_fits names (suc n) (suc m) at l r p q =
      both_ok equation l (not_expression at) (Fits names) (λ e. ⊥) (FormulaFitsIn names) p tt (λ x y a h. absurd h)

  state_fits : (names : VisibleNames) → Known names → (at : ℕ) (kind : k.KindTree) → IfOk (state_in names at kind) (FormulaFitsIn names)
  state_fits names known at kind =
      let e = expr_kind_fits names known at kind in
      if_ok (is_place_kind kind) _ _ (FormulaFitsIn names)
      (λ is. mapped_ok _ (expr_of_kind names at kind) (Fits names) (FormulaFitsIn names) e (λ x h. (h, tt)))
      (mapped_ok _ (expr_of_kind names at kind) (Fits names) (FormulaFitsIn names) e (λ x h. h))

  negation_fits : (names : VisibleNames) → Known names → (at : ℕ) (p : PhraseTree) → IfOk (negation_in names at p) (FormulaFitsIn names)
  negation_fits names known at p =
      if_ok (is_place_phrase p) _ _ (FormulaFitsIn names)
      (λ is. mapped_ok _ (expr_of names p) (Fits names) (FormulaFitsIn names) (expr_fits names known p) (λ x h. (h, tt)))
      (if_ok (is_state_in names p) _ _ (FormulaFitsIn names) (λ is. state_fits names known at (k.negation p)) tt)

  binary_fits : (names : VisibleNames) → Known names → (at : ℕ) (o : Op) (l r : PhraseTree) → IfOk (binary_in names at o l r) (FormulaFitsIn names)
  binary_fits names known at op.Equal l r =
      equation_fits names (nexts_of l) (nexts_of r) (at_of r) (expr_of names (behind_nexts l)) (expr_of names (behind_nexts r)) (expr_fits names known (behind_nexts l)) (expr_fits names known (behind_nexts r))
  binary_fits names known at op.Gets l r = both_ok _ (place_phrase names l) (expr_of names r) (Fits names) (Fits names) (FormulaFitsIn names) (place_fits names known l) (expr_fits names known r) (λ x y a b. (a, b, omega arith))
  binary_fits names known at op.Arrow l r = both_ok _ (place_phrase names l) (expr_of names r) (Fits names) (Fits names) (FormulaFitsIn names) (place_fits names known l) (expr_fits names known r) (λ x y a b. (a, b))
  binary_fits names known at op.Becomes l r =
      both_ok _ (place_phrase names l) (expr_of names r) (Fits names) (Fits names) (FormulaFitsIn names) (place_fits names known l) (expr_fits names known r) (λ x y a b. (tt, ((a, b, omega arith), tt)))
  binary_fits names known at op.Or l r = if_ok (is_state_in names l && is_state_in names r) _ _ (FormulaFitsIn names) (λ is. state_fits names known at (k.binary op.Or l r)) tt
  binary_fits names known at o l r = state_fits names known at (k.binary o l r)

  bare_fits : (names : VisibleNames) (word : Bare) → FormulaFitsIn names (bare_of word)
  bare_fits names Empty = tt
  bare_fits names More = tt
  bare_fits names Skip = tt

  called_formula_fits : (names : VisibleNames) → Known names → (at : ℕ) (x : List ℕ) (o : Option Called) → called_of names.definitions x ≡ o → (ps : PhraseTrees) → IfOk (called_formula names at o ps) (FormulaFitsIn names)
  called_formula_fits names known at x None found ps = tt
  called_formula_fits names known at x (Some c) found ps =
      let xs = c.signature.parameters in
      let d = known x c found in
      if_ok (nat_eq (phrase_count ps) (length xs)) _ _ (FormulaFitsIn names)
      (λ same. mapped_ok _ (arguments_in names ps xs) (ArgumentsFit names xs) (FormulaFitsIn names) (arguments_fit names known ps xs (grind (arith, nat_tests)))
      (λ es h. (d.0, d.1, subst (λ (ys : Names). AreArguments (exprs_of es) ys) (sym d.2.0) h.0, h.1)))
      tt

  exists_fits : (names : VisibleNames) (xs : Names) (w : FormulaTree) → FormulaFitsIn (with_binders xs names) w → FormulaFitsIn names (exists_of xs w)
  exists_fits names [] w h = h
  exists_fits names (x ∷ xs) w h = exists_fits (with_binder x names) xs w h

  mutual
    formula_fits : (names : VisibleNames) → Known names → (p : PhraseTree) → IfOk (formula_of names p) (FormulaFitsIn names)
    formula_fits names known (phrase at kind) = formula_kind_fits names known at kind

    pub formula_kind_fits : (names : VisibleNames) → Known names → (at : ℕ) (kind : k.KindTree) → IfOk (formula_of_kind names at kind) (FormulaFitsIn names)
    formula_kind_fits names known at (k.conjunction ps) = mapped_ok _ (formulas_in names ps) (FormulasFitIn names) (FormulaFitsIn names) (formulas_fit names known ps) (λ ws h. h)
    formula_kind_fits names known at (k.truth true) = tt
    formula_kind_fits names known at (k.negation p) = negation_fits names known at p
    formula_kind_fits names known at (k.binary op.Chop l r) =
        both_ok _ (formula_of names l) (formula_of names r) (FormulaFitsIn names) (FormulaFitsIn names) (FormulaFitsIn names) (formula_fits names known l) (formula_fits names known r) (λ w v a b. (a, b))
    formula_kind_fits names known at (k.binary op.Proj l r) =
        both_ok _ (formula_of names l) (formula_of names r) (FormulaFitsIn names) (FormulaFitsIn names) (FormulaFitsIn names) (formula_fits names known l) (formula_fits names known r) (λ w v a b. (a, b))
    formula_kind_fits names known at (k.binary o l r) = binary_fits names known at o l r
    formula_kind_fits names known at (k.bare word) = bare_fits names word
    formula_kind_fits names known at (k.next w) = mapped_ok _ (formula_of names w) (FormulaFitsIn names) (FormulaFitsIn names) (formula_fits names known w) (λ x h. h)
    formula_kind_fits names known at (k.form f.Always (phrase_then w no_phrase)) = mapped_ok _ (formula_of names w) (FormulaFitsIn names) (FormulaFitsIn names) (formula_fits names known w) (λ x h. h)
    formula_kind_fits names known at (k.form f.Keep (phrase_then w no_phrase)) = mapped_ok _ (formula_of names w) (FormulaFitsIn names) (FormulaFitsIn names) (formula_fits names known w) (λ x h. h)
    formula_kind_fits names known at (k.form f.Fin (phrase_then w no_phrase)) = mapped_ok _ (formula_of names w) (FormulaFitsIn names) (FormulaFitsIn names) (formula_fits names known w) (λ x h. h)
    formula_kind_fits names known at (k.form f.Halt (phrase_then b no_phrase)) = mapped_ok _ (expr_of names b) (Fits names) (FormulaFitsIn names) (expr_fits names known b) (λ x h. (h, tt, tt))
    formula_kind_fits names known at (k.form f.Stable (phrase_then p no_phrase)) = mapped_ok _ (place_phrase names p) (Fits names) (FormulaFitsIn names) (place_fits names known p) (λ x h. (h, h, omega arith))
    formula_kind_fits names known at (k.form f.Len (phrase_then e no_phrase)) = mapped_ok _ (expr_of names e) (Fits names) (FormulaFitsIn names) (expr_fits names known e) (λ x h. h)
    formula_kind_fits names known at (k.form f.List (phrase_then l (phrase_then e no_phrase))) =
        both_ok _ (place_phrase names l) (expr_of names e) (Fits names) (Fits names) (FormulaFitsIn names) (place_fits names known l) (expr_fits names known e) (λ x y a b. (a, b))
    formula_kind_fits names known at (k.form f.Input (phrase_then x (phrase_then p no_phrase))) =
        both_ok input (place_phrase names x) (port_phrase names p) (Fits names) (λ port. Unit {0}) (FormulaFitsIn names) (place_fits names known x) (any_ok (port_phrase names p)) (λ y port a h. a)
    formula_kind_fits names known at (k.form f.Display (phrase_then e es)) = mapped_ok _ (exprs_in names (phrase_then e es)) (AllFit names) (FormulaFitsIn names) (exprs_fit names known (phrase_then e es)) (λ xs h. h)
    formula_kind_fits names known at (k.form f.Sometimes ps) = tt
    formula_kind_fits names known at (k.form f.Input ps) = tt
    formula_kind_fits names known at (k.form f.Display ps) = tt
    formula_kind_fits names known at (k.form f.Always ps) = tt
    formula_kind_fits names known at (k.form f.Keep ps) = tt
    formula_kind_fits names known at (k.form f.Fin ps) = tt
    formula_kind_fits names known at (k.form f.Halt ps) = tt
    formula_kind_fits names known at (k.form f.Stable ps) = tt
    formula_kind_fits names known at (k.form f.Len ps) = tt
    formula_kind_fits names known at (k.form f.List ps) = tt
    formula_kind_fits names known at (k.choice b w) =
        both_ok _ (expr_of names b) (formula_of names w) (Fits names) (FormulaFitsIn names) (FormulaFitsIn names) (expr_fits names known b) (formula_fits names known w) (λ x y a h. (a, h, tt))
    formula_kind_fits names known at (k.choice_else b w v) =
        three_ok _ (expr_of names b) (formula_of names w) (formula_of names v) (Fits names) (FormulaFitsIn names) (FormulaFitsIn names) (FormulaFitsIn names)
        (expr_fits names known b) (formula_fits names known w) (formula_fits names known v) (λ x y z a g h. (a, g, h))
    formula_kind_fits names known at (k.while b w) =
        both_ok while (expr_of names b) (formula_of names w) (Fits names) (FormulaFitsIn names) (FormulaFitsIn names) (expr_fits names known b) (formula_fits names known w) (λ x y a h. (a, h))
    formula_kind_fits names known at (k.repeat w b) =
        both_ok repeat_of (formula_of names w) (expr_of names b) (FormulaFitsIn names) (Fits names) (FormulaFitsIn names) (formula_fits names known w) (expr_fits names known b) (λ x y h a. (h, (a, h)))
    formula_kind_fits names known at (k.for x e w) =
        both_ok _ (expr_of names e) (formula_of (with_binder x names) w) (Fits names) (FormulaFitsIn (with_binder x names)) (FormulaFitsIn names) (expr_fits names known e) (formula_fits (with_binder x names) known w) (λ y z a h. (a, h))
    formula_kind_fits names known at (k.forall x e w) =
        both_ok _ (expr_of names e) (formula_of (with_binder x names) w) (Fits names) (FormulaFitsIn (with_binder x names)) (FormulaFitsIn names) (expr_fits names known e) (formula_fits (with_binder x names) known w) (λ y z a h. (a, h))
    formula_kind_fits names known at (k.exists xs w) =
        let inner = with_binders xs names in
        else_ok (has_repeat xs) (Twice at) (mapped (exists_of xs) (formula_of inner w)) (FormulaFitsIn names) (mapped_ok (exists_of xs) (formula_of inner w) (FormulaFitsIn inner) (FormulaFitsIn names) (formula_fits inner known w) (exists_fits names xs))
    formula_kind_fits names known at (k.call x ps) = called_formula_fits names known at x (called_of names.definitions x) refl ps
    formula_kind_fits names known at kind = state_fits names known at kind

    formulas_fit : (names : VisibleNames) → Known names → (ps : PhraseTrees) → IfOk (formulas_in names ps) (FormulasFitIn names)
    formulas_fit names known no_phrase = tt
    formulas_fit names known (phrase_then p ps) =
        both_ok _ (formula_of names p) (formulas_in names ps) (FormulaFitsIn names) (FormulasFitIn names) (FormulasFitIn names) (formula_fits names known p) (formulas_fit names known ps) (λ x y g h. (g, h))

  -- ---- definitions

  -- a definition of which the formula and the expression fit its parameters
  abbrev DefinitionFits : Names → Definition → Type 0
  DefinitionFits globals d =
      FormulaFits defs (kinds_of globals) d.formula (length d.parameters)
      × ((e : ExprTree) → d.expr ≡ Some e → ExprFits defs (kinds_of globals) e (length d.parameters))

  abbrev AllDefinitionsFit : Names → List Definition → Type 0
  AllDefinitionsFit globals made = (i : ℕ) (d : Definition) → slice_get made i ≡ Some d → DefinitionFits globals d

  expr_where_fits : (b : Bool) (names : VisibleNames) → Known names → (body : PhraseTree) → IfOk (expr_where b names body) (λ o. (e : ExprTree) → o ≡ Some e → Fits names e)
  expr_where_fits true names known body =
      mapped_ok Some (expr_of names body) (Fits names) (λ o. (e : ExprTree) → o ≡ Some e → Fits names e) (expr_fits names known body)
      (λ x h e same. let is : x ≡ e = cc in subst (Fits names) is h)
  expr_where_fits false names known body = λ e same. absurd cc

  definition_fits : (signatures : List Signature) (globals : Names) → AreDefined defs signatures → (d : DefinitionTree) (b : Bool) → IfOk (definition_in (outermost signatures globals) d b) (DefinitionFits globals)
  definition_fits signatures globals known d b =
      let inner = with_binders d.parameters (outermost signatures globals) in
      let count : length (bound_in [] d.parameters) ≡ length d.parameters = bound_count d.parameters [] ∙ omega arith in
      both_ok (definition_with d) (formula_of inner d.body) (expr_where b inner d.body) (FormulaFitsIn inner) (λ o. (e : ExprTree) → o ≡ Some e → Fits inner e) (DefinitionFits globals)
      (formula_fits inner known d.body) (expr_where_fits b inner known d.body)
      (λ w o h t. (subst (FormulaFits defs (kinds_of globals) w) count h, λ e same. subst (ExprFits defs (kinds_of globals) e) count (t e same)))

  one_more_fits : (globals : Names) (x : Definition) (xs : List Definition) → DefinitionFits globals x → AllDefinitionsFit globals xs → AllDefinitionsFit globals (x ∷ xs)
  one_more_fits globals x xs h t zero d e = let is : x ≡ d = cc in subst (DefinitionFits globals) is h
  one_more_fits globals x xs h t (suc i) d e = t i d e

  definitions_fit : (signatures : List Signature) (globals : Names) → AreDefined defs signatures → (ds : List DefinitionTree) (states : List Bool)
      → IfOk (definitions_in (outermost signatures globals) ds states) (AllDefinitionsFit globals)
  definitions_fit signatures globals known [] states = λ i d e. absurd cc
  definitions_fit signatures globals known (d ∷ ds) [] = λ i d e. absurd cc
  definitions_fit signatures globals known (d ∷ ds) (b ∷ bs) =
      let names = outermost signatures globals in
      both_ok _ (definition_in names d b) (definitions_in names ds bs) (DefinitionFits globals) (AllDefinitionsFit globals) (AllDefinitionsFit globals)
      (definition_fits signatures globals known d b) (definitions_fit signatures globals known ds bs) (one_more_fits globals)

-- ---- programs

fitting_with : (globals : Names) (states : List Bool) (source : SourceTree) (made : CheckOutcome (List Definition)) → definitions_in (outermost (signatures_of source.definitions states) globals) source.definitions states ≡ made
    → IfOk (both (λ ds main. record { defs = ds; main = main; globals = globals }) made (formula_of (outermost (signatures_of source.definitions states) globals) source.main)) ProgramFits
fitting_with globals states source (Err e) is = tt
fitting_with globals states source (Ok ds) is =
    let signatures = signatures_of source.definitions states in
    let names = outermost signatures globals in
    let known = are_defined names source.definitions states ds is in
    let fit = IfOk-at_ok (AllDefinitionsFit ds globals) is (definitions_fit ds signatures globals known source.definitions states) in
    mapped_ok _ (formula_of names source.main) (FormulaFitsIn ds names) ProgramFits (formula_fits ds names known source.main)
    (λ w h. record { defs = record { formula = λ i d e. (fit i d e).0; expr = λ i d e. (fit i d e).1 }; main = h })

-- what a program is made of fits each other
pub program_fits : (globals : Names) (states : List Bool) (source : SourceTree) → length states ≡ length source.definitions → IfOk (program_over globals states source) ProgramFits
program_fits globals states source each = fitting_with globals states source (definitions_in (outermost (signatures_of source.definitions states) globals) source.definitions states) refl
