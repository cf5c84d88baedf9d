-- A source needs no names of variables but its own.
use Rattle.std.proofs.Common.{refl, ap, ap₂, sym, subst, ◌∙◌, ◌≡◌, pos, ℕ, ◌+◌, ◌&&◌, Bool, true, false, cond, if◌then◌else◌, nat_eq, List, [], ◌∷◌, ◌++◌, length, Option, None, Some, Ok, Err}
use Rattle.std.specs.List.{position_from}
use Rattle.std.specs.Option.{option_map}
use Rattle.std.specs.Str.{bytes_eq}
use Rattle.std.proofs.lemmas.Slice.Eq.{bytes_eq-Decides}
use Rattle.tp_value.specs.declared.path.VarId.{VarId}
use Rattle.tp_value.specs.Globals.{variable, variable_of, with_name}
use Rattle.tp_value.proofs.GlobalsLemmas.{position_from-at_end}
use Rattle.tp_tree.specs.declared.operator.Op.{Op}
use Rattle.tp_tree.specs.declared.operator.Op.TheVariants as op
use Rattle.tp_tree.specs.declared.operator.Form.TheVariants as f
use Rattle.tp_tree.specs.Tree as k
use Rattle.tp_tree.specs.Tree.{PhraseTree, phrase, PhraseTrees, no_phrase, phrase_then, DefinitionTree, SourceTree}
use Rattle.tp_meaning.specs.Syntax.{ExprTree, FormulaTree, Definition, invoke, test, always, next, branch, trivial, len, assign, while, for_from, forall_from, conjunction, input, display, formulas_of, listing, exprs_of, size, index, minus, negation, choice}
use Rattle.tp_meaning.specs.Syntax as m
use Rattle.tp_meaning.specs.Derived.{halt_of, keep_of, fin_of, gets_of, stable_of, becomes_of, list_of_length, repeat_of}
use Rattle.tp_meaning.specs.Interval.{ProgramTree}
use Rattle.tp_meaning.specs.Value.{is_upper}
use Rattle.tp_check.specs.declared.refusal.CheckRefusal.{CheckRefusal}
use Rattle.tp_check.specs.declared.refusal.CheckRefusal.TheVariants.{Twice, NotPlace, WrongCount}
use Rattle.tp_scope.specs.Scope.{Names, Signature, VisibleNames, Called, with_binder, with_binders, bound_in, binder_of, bound_or_global, called_of}
use Rattle.tp_scope.specs.Names.{has_repeat, names_with, unless_bound, names_in, names_in_kind, names_in_all, names_in_bodies, names_of, signatures_of}
use Rattle.tp_check.specs.Outcome.{CheckOutcome, mapped, both, three, not_run, not_expression}
use Rattle.tp_scope.specs.Phrases.{is_place_phrase, is_place_kind, phrase_count, nexts_of, behind_nexts, behind_nexts_of, at_of}
use Rattle.tp_check.specs.Positions.{named_expr, operation_of, operation_at, refusal_of, called_expr, expr_of, expr_of_kind, exprs_in, place_phrase, port_phrase, arguments_in, equation_of, place_is, is_state_in, state_in, negation_in, binary_in, called_formula, exists_of, formula_of, formula_of_kind, formulas_in}
use Rattle.tp_check.specs.Program.{expr_where, definition_with, definition_in, definitions_in, outermost}
use Rattle.tp_check.specs.NameLaws.{NamesSuffice}

-- ---- names that have their variable

abbrev pub IsKnown : Names → List ℕ → Type 0
IsKnown names x = (v : VarId) × (variable_of names x ≡ Some v)

abbrev pub AreKnown : Names → Names → Type 0
AreKnown names [] = Unit {0}
AreKnown names (x ∷ xs) = IsKnown names x × AreKnown names xs

found_by : (i k : ℕ) (b : Bool) (rest longer : Option ℕ) → (rest ≡ Some k → longer ≡ Some k) → cond b (Some i) rest ≡ Some k → cond b (Some i) longer ≡ Some k
found_by i k true rest longer h e = e
found_by i k false rest longer h e = h e

found_on : {A : Type 0} (p : A → Bool) (i k : ℕ) (xs ys : List A) → position_from p i xs ≡ Some k → position_from p i (xs ++ ys) ≡ Some k
found_on p i k [] ys e = absurd cc
found_on p i k (x ∷ xs) ys e = found_by i k (p x) _ _ (found_on p (i + 1) k xs ys) e

variable_by : (names more : Names) (x : List ℕ) (v : VarId) (o : Option ℕ) → position_from (bytes_eq x) 0 names ≡ o → option_map (variable x) o ≡ Some v → variable_of (names ++ more) x ≡ Some v
variable_by names more x v None p e = absurd cc
variable_by names more x v (Some i) p e = ap (option_map (variable x)) (found_on (bytes_eq x) 0 i names more p) ∙ e

variable_on : (names more : Names) (x : List ℕ) (v : VarId) → variable_of names x ≡ Some v → variable_of (names ++ more) x ≡ Some v
variable_on names more x v e = variable_by names more x v (position_from (bytes_eq x) 0 names) refl e

with_by : (names : Names) (x y : List ℕ) (v : VarId) (o : Option VarId) → variable_of names y ≡ o → variable_of names x ≡ Some v → variable_of (with_name names y) x ≡ Some v
with_by names x y v None e known = rw e (variable_on names (y ∷ []) x v known)
with_by names x y v (Some w) e known = rw e known

names_on : (names others : Names) (x : List ℕ) (v : VarId) → variable_of names x ≡ Some v → variable_of (names_with names others) x ≡ Some v
names_on names [] x v known = known
names_on names (y ∷ others) x v known = names_on (with_name names y) others x v (with_by names x y v (variable_of names y) refl known)

none_there : (x : List ℕ) (o : Option ℕ) → option_map (variable x) o ≡ None → o ≡ None
none_there x None e = refl
none_there x (Some i) e = absurd cc

added_by : (names : Names) (x : List ℕ) (o : Option VarId) → variable_of names x ≡ o → IsKnown (with_name names x) x
added_by names x None e =
    let at_end = position_from-at_end (bytes_eq x) 0 names x (none_there x _ e) ((bytes_eq-Decides x x).1 refl) in
    rw e (variable x (0 + length names), ap (option_map (variable x)) at_end)
added_by names x (Some w) e = rw e (w, e)

pub all_known : (names others : Names) → AreKnown (names_with names others) others
all_known names [] = tt
all_known names (x ∷ xs) =
    let added = added_by names x (variable_of names x) refl in
    ((added.0, names_on (with_name names x) xs x added.0 added.1), all_known (with_name names x) xs)

pub front : (names xs ys : Names) → AreKnown names (xs ++ ys) → AreKnown names xs
front names [] ys known = tt
front names (x ∷ xs) ys known = (known.0, front names xs ys known.1)

pub back : (names xs ys : Names) → AreKnown names (xs ++ ys) → AreKnown names ys
back names [] ys known = known
back names (x ∷ xs) ys known = back names xs ys known.1

-- the names of each of three phrases
pub each_of_three : (names xs ys zs : Names) → AreKnown names ((xs ++ ys) ++ zs) → AreKnown names xs × AreKnown names ys × AreKnown names zs
each_of_three names xs ys zs known =
    let two = front names (xs ++ ys) zs known in
    (front names xs ys two, back names xs ys two, back names (xs ++ ys) zs known)

-- ---- with more names each phrase becomes the same

abbrev with_more : VisibleNames → Names → VisibleNames
with_more names more = record { definitions = names.definitions; globals = names.globals ++ more; scope = names.scope }

name_same : (names : VisibleNames) (more : Names) (at : ℕ) (x : List ℕ) (i : Option ℕ) → AreKnown names.globals (unless_bound i x)
    → named_expr at (bound_or_global i (variable_of (names.globals ++ more) x)) ≡ named_expr at (bound_or_global i (variable_of names.globals x))
name_same names more at x (Some i) known = refl
name_same names more at x None known = ap (λ v. named_expr at (bound_or_global None v)) (variable_on names.globals more x known.0.0 known.0.1 ∙ sym known.0.1)

called_expr_same : (at : ℕ) (o : Option Called) (n : ℕ) (f g : Names → CheckOutcome (List ExprTree)) → ((xs : Names) → f xs ≡ g xs) → called_expr at o n f ≡ called_expr at o n g
called_expr_same at None n f g same = refl
called_expr_same at (Some c) n f g same =
    ap (λ es. if nat_eq n (length c.signature.parameters) then (if c.signature.is_state then mapped (λ xs. invoke c.number (exprs_of xs)) es else not_expression at) else Err (WrongCount at)) (same c.signature.parameters)

-- the operands, if each is the same as an expression
place_same_if : (names : VisibleNames) (more : Names) (p : PhraseTree) → expr_of (with_more names more) p ≡ expr_of names p → place_phrase (with_more names more) p ≡ place_phrase names p
place_same_if names more (phrase at kind) same = ap (λ o. if is_place_kind kind then o else Err (refusal_of names at kind (NotPlace at))) same

mutual
  expr_same : (names : VisibleNames) (more : Names) (p : PhraseTree) → AreKnown names.globals (names_in names.scope p) → expr_of (with_more names more) p ≡ expr_of names p
  expr_same names more (phrase at kind) known = expr_kind_same names more at kind known

  expr_kind_same : (names : VisibleNames) (more : Names) (at : ℕ) (kind : k.KindTree) → AreKnown names.globals (names_in_kind names.scope kind) → expr_of_kind (with_more names more) at kind ≡ expr_of_kind names at kind
  expr_kind_same names more at (k.name x) known = name_same names more at x (binder_of names.scope x) known
  expr_kind_same names more at (k.list ps) known = ap (mapped (λ es. listing (exprs_of es))) (exprs_same names more ps known)
  expr_kind_same names more at (k.size p) known = ap (mapped size) (expr_same names more p known)
  expr_kind_same names more at (k.index p i) known = ap₂ (both index) (expr_same names more p (front names.globals (names_in names.scope p) (names_in names.scope i) known)) (expr_same names more i (back names.globals (names_in names.scope p) (names_in names.scope i) known))
  expr_kind_same names more at (k.minus p) known = ap (mapped minus) (expr_same names more p known)
  expr_kind_same names more at (k.negation p) known = ap (mapped negation) (expr_same names more p known)
  expr_kind_same names more at (k.binary o l r) known =
      ap₂ (operation_at at (operation_of o)) (expr_same names more l (front names.globals (names_in names.scope l) (names_in names.scope r) known)) (expr_same names more r (back names.globals (names_in names.scope l) (names_in names.scope r) known))
  expr_kind_same names more at (k.conjunction ps) known = ap (mapped (λ es. m.both (exprs_of es))) (exprs_same names more ps known)
  expr_kind_same names more at (k.choice_else b p q) known =
      let each = each_of_three names.globals (names_in names.scope b) (names_in names.scope p) (names_in names.scope q) known in
      ap₂ (λ x y. three choice x y (expr_of (with_more names more) q)) (expr_same names more b each.0) (expr_same names more p each.1)
      ∙ ap (three choice (expr_of names b) (expr_of names p)) (expr_same names more q each.2)
  expr_kind_same names more at (k.call x ps) known =
      called_expr_same at (called_of names.definitions x) (phrase_count ps) (λ xs. arguments_in (with_more names more) ps xs) (λ xs. arguments_in names ps xs) (arguments_same names more ps known)
  expr_kind_same names more at kind known = refl

  exprs_same : (names : VisibleNames) (more : Names) (ps : PhraseTrees) → AreKnown names.globals (names_in_all names.scope ps) → exprs_in (with_more names more) ps ≡ exprs_in names ps
  exprs_same names more no_phrase known = refl
  exprs_same names more (phrase_then p ps) known =
      ap₂ (both (λ e es. e ∷ es)) (expr_same names more p (front names.globals (names_in names.scope p) (names_in_all names.scope ps) known)) (exprs_same names more ps (back names.globals (names_in names.scope p) (names_in_all names.scope ps) known))

  arguments_same : (names : VisibleNames) (more : Names) (ps : PhraseTrees) → AreKnown names.globals (names_in_all names.scope ps) → (xs : Names) → arguments_in (with_more names more) ps xs ≡ arguments_in names ps xs
  arguments_same names more no_phrase known xs = refl
  arguments_same names more (phrase_then p ps) known [] = refl
  arguments_same names more (phrase_then p ps) known (x ∷ xs) =
      let one = expr_same names more p (front names.globals (names_in names.scope p) (names_in_all names.scope ps) known) in
      ap₂ (both (λ e es. e ∷ es)) (ap₂ (λ place e. if is_upper x then place else e) (place_same_if names more p one) one) (arguments_same names more ps (back names.globals (names_in names.scope p) (names_in_all names.scope ps) known) xs)

place_same : (names : VisibleNames) (more : Names) (p : PhraseTree) → AreKnown names.globals (names_in names.scope p) → place_phrase (with_more names more) p ≡ place_phrase names p
place_same names more p known = place_same_if names more p (expr_same names more p known)

port_same : (names : VisibleNames) (more : Names) (p : PhraseTree) → port_phrase (with_more names more) p ≡ port_phrase names p
port_same names more (phrase at kind) = refl

mutual
  pub names_behind : (scope : Names) (p : PhraseTree) → names_in scope (behind_nexts p) ≡ names_in scope p
  names_behind scope (phrase at kind) = names_behind_kind scope at kind

  names_behind_kind : (scope : Names) (at : ℕ) (kind : k.KindTree) → names_in scope (behind_nexts_of at kind) ≡ names_in_kind scope kind
  names_behind_kind scope at (k.next p) = names_behind scope p
  names_behind_kind scope at kind = refl

side_same : (names : VisibleNames) (more : Names) (p : PhraseTree) → AreKnown names.globals (names_in names.scope p) → expr_of (with_more names more) (behind_nexts p) ≡ expr_of names (behind_nexts p)
side_same names more p known = expr_same names more (behind_nexts p) (subst (λ (xs : Names). AreKnown names.globals xs) (sym (names_behind names.scope p)) known)

state_same : (names : VisibleNames) (more : Names) (at : ℕ) (kind : k.KindTree) → AreKnown names.globals (names_in_kind names.scope kind) → state_in (with_more names more) at kind ≡ state_in names at kind
state_same names more at kind known = ap (λ o. if is_place_kind kind then mapped (place_is true) o else mapped test o) (expr_kind_same names more at kind known)

negation_same : (names : VisibleNames) (more : Names) (at : ℕ) (p : PhraseTree) → AreKnown names.globals (names_in names.scope p) → negation_in (with_more names more) at p ≡ negation_in names at p
negation_same names more at p known =
    ap₂ (λ x y. if is_place_phrase p then mapped (place_is false) x else if is_state_in names p then y else not_run at) (expr_same names more p known) (state_same names more at (k.negation p) known)

binary_same : (names : VisibleNames) (more : Names) (at : ℕ) (o : Op) (l r : PhraseTree) → AreKnown names.globals (names_in names.scope l) → AreKnown names.globals (names_in names.scope r) → AreKnown names.globals (names_in names.scope l ++ names_in names.scope r)
    → binary_in (with_more names more) at o l r ≡ binary_in names at o l r
binary_same names more at op.Equal l r a b known = ap₂ (equation_of (nexts_of l) (nexts_of r) (at_of r)) (side_same names more l a) (side_same names more r b)
binary_same names more at op.Gets l r a b known = ap₂ (both gets_of) (place_same names more l a) (expr_same names more r b)
binary_same names more at op.Arrow l r a b known = ap₂ (both assign) (place_same names more l a) (expr_same names more r b)
binary_same names more at op.Becomes l r a b known = ap₂ (both becomes_of) (place_same names more l a) (expr_same names more r b)
binary_same names more at op.Or l r a b known = ap (λ o. if is_state_in names l && is_state_in names r then o else not_run at) (state_same names more at (k.binary op.Or l r) known)
binary_same names more at o l r a b known = state_same names more at (k.binary o l r) known

called_formula_same : (names : VisibleNames) (more : Names) (at : ℕ) (o : Option Called) (ps : PhraseTrees) → AreKnown names.globals (names_in_all names.scope ps) → called_formula (with_more names more) at o ps ≡ called_formula names at o ps
called_formula_same names more at None ps known = refl
called_formula_same names more at (Some c) ps known =
    ap (λ es. if nat_eq (phrase_count ps) (length c.signature.parameters) then mapped (λ xs. m.call c.number (exprs_of xs)) es else Err (WrongCount at)) (arguments_same names more ps known c.signature.parameters)

-- what stands behind a test plays a part only where it is reached
otherwise_same : {A : Type 0} (b : Bool) (e : CheckRefusal) (x y : CheckOutcome A) → (b ≡ false → x ≡ y) → (if b then Err e else x) ≡ (if b then Err e else y)
otherwise_same true e x y same = refl
otherwise_same false e x y same = same refl

mutual
  formula_same : (names : VisibleNames) (more : Names) (p : PhraseTree) → AreKnown names.globals (names_in names.scope p) → formula_of (with_more names more) p ≡ formula_of names p
  formula_same names more (phrase at kind) known = formula_kind_same names more at kind known

  formula_kind_same : (names : VisibleNames) (more : Names) (at : ℕ) (kind : k.KindTree) → AreKnown names.globals (names_in_kind names.scope kind) → formula_of_kind (with_more names more) at kind ≡ formula_of_kind names at kind
  formula_kind_same names more at (k.conjunction ps) known = ap (mapped (λ ws. conjunction (formulas_of ws))) (formulas_same names more ps known)
  formula_kind_same names more at (k.truth true) known = refl
  formula_kind_same names more at (k.negation p) known = negation_same names more at p known
  formula_kind_same names more at (k.binary op.Chop l r) known =
      ap₂ (both m.chop) (formula_same names more l (front names.globals (names_in names.scope l) (names_in names.scope r) known)) (formula_same names more r (back names.globals (names_in names.scope l) (names_in names.scope r) known))
  formula_kind_same names more at (k.binary op.Proj l r) known =
      ap₂ (both m.project) (formula_same names more l (front names.globals (names_in names.scope l) (names_in names.scope r) known)) (formula_same names more r (back names.globals (names_in names.scope l) (names_in names.scope r) known))
  formula_kind_same names more at (k.binary o l r) known =
      binary_same names more at o l r (front names.globals (names_in names.scope l) (names_in names.scope r) known) (back names.globals (names_in names.scope l) (names_in names.scope r) known) known
  formula_kind_same names more at (k.bare word) known = refl
  formula_kind_same names more at (k.next w) known = ap (mapped next) (formula_same names more w known)
  formula_kind_same names more at (k.form f.Always (phrase_then w no_phrase)) known = ap (mapped always) (formula_same names more w (front names.globals (names_in names.scope w) [] known))
  formula_kind_same names more at (k.form f.Keep (phrase_then w no_phrase)) known = ap (mapped keep_of) (formula_same names more w (front names.globals (names_in names.scope w) [] known))
  formula_kind_same names more at (k.form f.Fin (phrase_then w no_phrase)) known = ap (mapped fin_of) (formula_same names more w (front names.globals (names_in names.scope w) [] known))
  formula_kind_same names more at (k.form f.Halt (phrase_then b no_phrase)) known = ap (mapped halt_of) (expr_same names more b (front names.globals (names_in names.scope b) [] known))
  formula_kind_same names more at (k.form f.Stable (phrase_then p no_phrase)) known = ap (mapped stable_of) (place_same names more p (front names.globals (names_in names.scope p) [] known))
  formula_kind_same names more at (k.form f.Len (phrase_then e no_phrase)) known = ap (mapped len) (expr_same names more e (front names.globals (names_in names.scope e) [] known))
  formula_kind_same names more at (k.form f.List (phrase_then l (phrase_then e no_phrase))) known =
      ap₂ (both list_of_length) (place_same names more l (front names.globals (names_in names.scope l) (names_in names.scope e ++ []) known)) (expr_same names more e (front names.globals (names_in names.scope e) [] (back names.globals (names_in names.scope l) (names_in names.scope e ++ []) known)))
  formula_kind_same names more at (k.form f.Input (phrase_then x (phrase_then p no_phrase))) known = ap₂ (both input) (place_same names more x known) (port_same names more p)
  formula_kind_same names more at (k.form f.Display (phrase_then e es)) known = ap (mapped (λ xs. display (exprs_of xs))) (exprs_same names more (phrase_then e es) known)
  formula_kind_same names more at (k.form f.Sometimes ps) known = refl
  formula_kind_same names more at (k.form f.Input ps) known = refl
  formula_kind_same names more at (k.form f.Display ps) known = refl
  formula_kind_same names more at (k.form f.Always ps) known = refl
  formula_kind_same names more at (k.form f.Keep ps) known = refl
  formula_kind_same names more at (k.form f.Fin ps) known = refl
  formula_kind_same names more at (k.form f.Halt ps) known = refl
  formula_kind_same names more at (k.form f.Stable ps) known = refl
  formula_kind_same names more at (k.form f.Len ps) known = refl
  formula_kind_same names more at (k.form f.List ps) known = refl
  formula_kind_same names more at (k.choice b w) known =
      ap₂ (both (λ c x. branch c x trivial)) (expr_same names more b (front names.globals (names_in names.scope b) (names_in names.scope w) known)) (formula_same names more w (back names.globals (names_in names.scope b) (names_in names.scope w) known))
  formula_kind_same names more at (k.choice_else b w v) known =
      let each = each_of_three names.globals (names_in names.scope b) (names_in names.scope w) (names_in names.scope v) known in
      ap₂ (λ x y. three branch x y (formula_of (with_more names more) v)) (expr_same names more b each.0) (formula_same names more w each.1)
      ∙ ap (three branch (expr_of names b) (formula_of names w)) (formula_same names more v each.2)
  formula_kind_same names more at (k.while b w) known =
      ap₂ (both while) (expr_same names more b (front names.globals (names_in names.scope b) (names_in names.scope w) known)) (formula_same names more w (back names.globals (names_in names.scope b) (names_in names.scope w) known))
  formula_kind_same names more at (k.repeat w b) known =
      ap₂ (both repeat_of) (formula_same names more w (front names.globals (names_in names.scope w) (names_in names.scope b) known)) (expr_same names more b (back names.globals (names_in names.scope w) (names_in names.scope b) known))
  formula_kind_same names more at (k.for x e w) known =
      ap₂ (both (for_from x (pos 0))) (expr_same names more e (front names.globals (names_in names.scope e) (names_in (x ∷ names.scope) w) known))
      (formula_same (with_binder x names) more w (back names.globals (names_in names.scope e) (names_in (x ∷ names.scope) w) known))
  formula_kind_same names more at (k.forall x e w) known =
      ap₂ (both (forall_from x (pos 0))) (expr_same names more e (front names.globals (names_in names.scope e) (names_in (x ∷ names.scope) w) known))
      (formula_same (with_binder x names) more w (back names.globals (names_in names.scope e) (names_in (x ∷ names.scope) w) known))
  formula_kind_same names more at (k.exists xs w) known =
      otherwise_same (has_repeat xs) (Twice at) _ _
      (λ apart. ap (mapped (exists_of xs)) (formula_same (with_binders xs names) more w (subst (λ b. AreKnown names.globals (if b then [] else names_in (bound_in names.scope xs) w)) apart known)))
  formula_kind_same names more at (k.call x ps) known = called_formula_same names more at (called_of names.definitions x) ps known
  formula_kind_same names more at kind known = state_same names more at kind known

  formulas_same : (names : VisibleNames) (more : Names) (ps : PhraseTrees) → AreKnown names.globals (names_in_all names.scope ps) → formulas_in (with_more names more) ps ≡ formulas_in names ps
  formulas_same names more no_phrase known = refl
  formulas_same names more (phrase_then p ps) known =
      ap₂ (both (λ w ws. w ∷ ws)) (formula_same names more p (front names.globals (names_in names.scope p) (names_in_all names.scope ps) known)) (formulas_same names more ps (back names.globals (names_in names.scope p) (names_in_all names.scope ps) known))

-- ---- with more names each source becomes the same

expr_where_same : (b : Bool) (names : VisibleNames) (more : Names) (body : PhraseTree) → AreKnown names.globals (names_in names.scope body) → expr_where b (with_more names more) body ≡ expr_where b names body
expr_where_same true names more body known = ap (mapped Some) (expr_same names more body known)
expr_where_same false names more body known = refl

definition_same : (signatures : List Signature) (globals more : Names) (d : DefinitionTree) (b : Bool) → AreKnown globals (names_in (bound_in [] d.parameters) d.body)
    → definition_in (outermost signatures (globals ++ more)) d b ≡ definition_in (outermost signatures globals) d b
definition_same signatures globals more d b known =
    let inner = with_binders d.parameters (outermost signatures globals) in
    ap₂ (both (definition_with d)) (formula_same inner more d.body known) (expr_where_same b inner more d.body known)

definitions_same : (signatures : List Signature) (globals more : Names) (ds : List DefinitionTree) (states : List Bool) → AreKnown globals (names_in_bodies ds)
    → definitions_in (outermost signatures (globals ++ more)) ds states ≡ definitions_in (outermost signatures globals) ds states
definitions_same signatures globals more [] states known = refl
definitions_same signatures globals more (d ∷ ds) [] known = refl
definitions_same signatures globals more (d ∷ ds) (b ∷ bs) known =
    let body = names_in (bound_in [] d.parameters) d.body in
    ap₂ (both (λ x xs. x ∷ xs)) (definition_same signatures globals more d b (front globals body (names_in_bodies ds) known)) (definitions_same signatures globals more ds bs (back globals body (names_in_bodies ds) known))

-- the program over these variables
abbrev over : Names → List Definition → FormulaTree → ProgramTree
over globals ds w = record { defs = ds; main = w; globals = globals }

renamed : (globals names : Names) (ds : CheckOutcome (List Definition)) (main : CheckOutcome FormulaTree)
    → both (over names) ds main ≡ mapped (λ p. over names p.defs p.main) (both (over globals) ds main)
renamed globals names (Ok xs) (Ok w) = refl
renamed globals names (Ok xs) (Err e) = refl
renamed globals names (Err e) main = refl

pub own_names_suffice : (source : SourceTree) → NamesSuffice source
own_names_suffice source more states =
    let bodies = names_in_bodies source.definitions in
    let main = names_in [] source.main in
    let globals = names_of source in
    let signatures = signatures_of source.definitions states in
    let known = all_known [] (bodies ++ main) in
    ap₂ (both (over (globals ++ more)))
    (definitions_same signatures globals more source.definitions states (front globals bodies main known)) (formula_same (outermost signatures globals) more source.main (back globals bodies main known))
    ∙ renamed globals (globals ++ more) (definitions_in (outermost signatures globals) source.definitions states) (formula_of (outermost signatures globals) source.main)
