-- The names of a program's variables stand in its source, and none stands twice.
use Rattle.std.proofs.Common.{◌≡◌, ℕ, ◌+◌, ◌||◌, Bool, true, false, cond, List, [], ◌∷◌, ◌++◌, Option, None, Some, Ok, Err, All, Contains, refl, ap, ap₂, sym, ◌∙◌, subst}
use Rattle.std.specs.List.{list_any, position_from}
use Rattle.std.specs.Option.{option_map}
use Rattle.std.specs.Str.{bytes_eq}
use Rattle.std.proofs.lemmas.Bool.{or_parts}
use Rattle.std.proofs.lemmas.List.Elements.{All-nil, All-cons, All-append, All-head, All-tail, All-contains_itself}
use Rattle.std.proofs.lemmas.List.Folds.{list_any-append}
use Rattle.std.proofs.lemmas.Slice.Eq.{bytes_eq-Decides}
use Rattle.tp_value.specs.declared.path.VarId.{VarId}
use Rattle.tp_value.specs.Globals.{variable, variable_of, with_name}
use Rattle.tp_tree.specs.declared.operator.Form.TheVariants as f
use Rattle.tp_tree.specs.Tree as t
use Rattle.tp_tree.specs.Tree.{PhraseTree, phrase, KindTree, PhraseTrees, no_phrase, phrase_then, DefinitionTree, SourceTree}
use Rattle.tp_tree.specs.Names.{phrase_names, kind_names, operand_names, definition_names, names_in_definitions, source_names}
use Rattle.tp_meaning.specs.Syntax.{FormulaTree, Definition}
use Rattle.tp_meaning.specs.Interval.{ProgramTree}
use Rattle.tp_scope.specs.Scope.{Names, bound_in, binder_of}
use Rattle.tp_scope.specs.Names.{has_repeat, AreApart, twice_defined, names_with, unless_bound, names_in, names_in_kind, names_in_all, names_in_first, names_in_bodies, names_of, signatures_of, AreStates}
use Rattle.tp_check.specs.Outcome.{CheckOutcome, both}
use Rattle.tp_check.specs.Positions.{formula_of}
use Rattle.tp_check.specs.Program.{definitions_in, outermost, program_over, ChecksTo}
use Rattle.tp_check.specs.NameLaws.{GlobalsStandInSource, GlobalsAreApart}

-- ---- what holds of each name in the source holds of each variable's

module _ (P : List ℕ → Type 0) where
  none : All P []
  none = All-nil P

  front : (xs ys : Names) → All P (xs ++ ys) → All P xs
  front [] ys are = none
  front (x ∷ xs) ys are = All-cons P x xs (All-head P x (xs ++ ys) are) (front xs ys (All-tail P x (xs ++ ys) are))

  back : (xs ys : Names) → All P (xs ++ ys) → All P ys
  back [] ys are = are
  back (x ∷ xs) ys are = back xs ys (All-tail P x (xs ++ ys) are)

  -- names found in two phrases
  join : (xs ys vs ws : Names) → (All P xs → All P vs) → (All P ys → All P ws) → All P (xs ++ ys) → All P (vs ++ ws)
  join xs ys vs ws f g are = All-append P vs ws (f (front xs ys are)) (g (back xs ys are))

  found_name : (binder : Option ℕ) (x : List ℕ) → All P (x ∷ []) → All P (unless_bound binder x)
  found_name None x are = are
  found_name (Some i) x are = none

  found_where : (twice : Bool) (vs : Names) → All P vs → All P (cond twice [] vs)
  found_where true vs are = none
  found_where false vs are = are

  in_two : (scope inner : Names) (p q : PhraseTree) → (All P (phrase_names p) → All P (names_in scope p)) → (All P (phrase_names q) → All P (names_in inner q))
      → All P (phrase_names p ++ phrase_names q) → All P (names_in scope p ++ names_in inner q)
  in_two scope inner p q = join (phrase_names p) (phrase_names q) (names_in scope p) (names_in inner q)

  mutual
    found : (scope : Names) (p : PhraseTree) → All P (phrase_names p) → All P (names_in scope p)
    found scope (phrase at k) are = found_in_kind scope k are

    found_in_kind : (scope : Names) (k : KindTree) → All P (kind_names k) → All P (names_in_kind scope k)
    found_in_kind scope (t.number n) are = are
    found_in_kind scope (t.truth b) are = are
    found_in_kind scope (t.name x) are = found_name (binder_of scope x) x are
    found_in_kind scope (t.list ps) are = found_in_all scope ps are
    found_in_kind scope (t.size p) are = found scope p are
    found_in_kind scope (t.index p q) are = in_two scope scope p q (found scope p) (found scope q) are
    found_in_kind scope (t.minus p) are = found scope p are
    found_in_kind scope (t.next p) are = found scope p are
    found_in_kind scope (t.negation p) are = found scope p are
    found_in_kind scope (t.binary o p q) are = in_two scope scope p q (found scope p) (found scope q) are
    found_in_kind scope (t.conjunction ps) are = found_in_all scope ps are
    found_in_kind scope (t.choice b p) are = in_two scope scope b p (found scope b) (found scope p) are
    found_in_kind scope (t.choice_else b p q) are =
        let others = phrase_names p ++ phrase_names q in
        let rest = back (phrase_names b) others are in
        All-append P (names_in scope b ++ names_in scope p) (names_in scope q)
        (All-append P (names_in scope b) (names_in scope p) (found scope b (front (phrase_names b) others are)) (found scope p (front (phrase_names p) (phrase_names q) rest)))
        (found scope q (back (phrase_names p) (phrase_names q) rest))
    found_in_kind scope (t.while b p) are = in_two scope scope b p (found scope b) (found scope p) are
    found_in_kind scope (t.repeat p b) are = in_two scope scope p b (found scope p) (found scope b) are
    found_in_kind scope (t.for x e p) are = in_two scope (x ∷ scope) e p (found scope e) (found (x ∷ scope) p) (back (x ∷ []) (phrase_names e ++ phrase_names p) are)
    found_in_kind scope (t.forall x e p) are = in_two scope (x ∷ scope) e p (found scope e) (found (x ∷ scope) p) (back (x ∷ []) (phrase_names e ++ phrase_names p) are)
    found_in_kind scope (t.exists xs p) are = found_where (has_repeat xs) (names_in (bound_in scope xs) p) (found (bound_in scope xs) p (back xs (phrase_names p) are))
    found_in_kind scope (t.bare w) are = are
    found_in_kind scope (t.form f.Always ps) are = found_in_all scope ps are
    found_in_kind scope (t.form f.Keep ps) are = found_in_all scope ps are
    found_in_kind scope (t.form f.Fin ps) are = found_in_all scope ps are
    found_in_kind scope (t.form f.Halt ps) are = found_in_all scope ps are
    found_in_kind scope (t.form f.Stable ps) are = found_in_all scope ps are
    found_in_kind scope (t.form f.Sometimes ps) are = found_in_all scope ps are
    found_in_kind scope (t.form f.Len ps) are = found_in_all scope ps are
    found_in_kind scope (t.form f.List ps) are = found_in_all scope ps are
    found_in_kind scope (t.form f.Input ps) are = found_in_first scope ps are
    found_in_kind scope (t.form f.Display ps) are = found_in_all scope ps are
    found_in_kind scope (t.call x ps) are = found_in_all scope ps (back (x ∷ []) (operand_names ps) are)

    found_in_all : (scope : Names) (ps : PhraseTrees) → All P (operand_names ps) → All P (names_in_all scope ps)
    found_in_all scope no_phrase are = are
    found_in_all scope (phrase_then p ps) are = join (phrase_names p) (operand_names ps) (names_in scope p) (names_in_all scope ps) (found scope p) (found_in_all scope ps) are

    found_in_first : (scope : Names) (ps : PhraseTrees) → All P (operand_names ps) → All P (names_in_first scope ps)
    found_in_first scope no_phrase are = are
    found_in_first scope (phrase_then p ps) are = found scope p (front (phrase_names p) (operand_names ps) are)

  found_in_bodies : (ds : List DefinitionTree) → All P (names_in_definitions ds) → All P (names_in_bodies ds)
  found_in_bodies [] are = are
  found_in_bodies (d ∷ ds) are =
      let own = front (definition_names d) (names_in_definitions ds) are in
      let in_body = back d.parameters (phrase_names d.body) (back (d.name ∷ []) (d.parameters ++ phrase_names d.body) own) in
      All-append P (names_in (bound_in [] d.parameters) d.body) (names_in_bodies ds) (found (bound_in [] d.parameters) d.body in_body)
      (found_in_bodies ds (back (definition_names d) (names_in_definitions ds) are))

  added : (names : Names) (x : List ℕ) (o : Option VarId) → variable_of names x ≡ o → All P names → P x → All P (with_name names x)
  added names x None e are is = rw e (All-append P names (x ∷ []) are (All-cons P x [] is none))
  added names x (Some v) e are is = rw e are

  all_added : (names others : Names) → All P names → All P others → All P (names_with names others)
  all_added names [] are more = are
  all_added names (x ∷ xs) are more =
      all_added (with_name names x) xs (added names x (variable_of names x) refl are (All-head P x xs more)) (All-tail P x xs more)

  of_source : (source : SourceTree) → All P (source_names source) → All P (names_of source)
  of_source source are =
      all_added [] (names_in_bodies source.definitions ++ names_in [] source.main) none
      (join (names_in_definitions source.definitions) (phrase_names source.main) (names_in_bodies source.definitions) (names_in [] source.main)
      (found_in_bodies source.definitions) (found [] source.main) are)

-- ---- a name that is added is none of those there

no_position : (x : List ℕ) (o : Option ℕ) → option_map (variable x) o ≡ None → o ≡ None
no_position x None e = refl
no_position x (Some i) e = absurd cc

none_equal : (x : List ℕ) (i : ℕ) (names : Names) → position_from (bytes_eq x) i names ≡ None → list_any (bytes_eq x) names ≡ false
none_equal x i [] e = refl
none_equal x i (y ∷ ys) e = by (bytes_eq x y) (none_equal x (i + 1) ys) e
  where
    by : (b : Bool) → (position_from (bytes_eq x) (i + 1) ys ≡ None → list_any (bytes_eq x) ys ≡ false) → cond b (Some i) (position_from (bytes_eq x) (i + 1) ys) ≡ None → (b || list_any (bytes_eq x) ys) ≡ false
    by true later e = absurd cc
    by false later e = later e

other_way : (x y : List ℕ) → bytes_eq x y ≡ false → bytes_eq y x ≡ false
other_way x y e = by (bytes_eq y x) refl
  where
    by : (b : Bool) → bytes_eq y x ≡ b → b ≡ false
    by true same = absurd (let back : bytes_eq x y ≡ true = (bytes_eq-Decides x y).1 (sym ((bytes_eq-Decides y x).0 same)) in cc)
    by false same = refl

apart_with : (names : Names) (x : List ℕ) → AreApart names → list_any (bytes_eq x) names ≡ false → AreApart (names ++ x ∷ [])
apart_with [] x apart absent = refl
apart_with (y ∷ ys) x apart absent =
    let there = or_parts (list_any (bytes_eq y) ys) (has_repeat ys) apart in
    let here = or_parts (bytes_eq x y) (list_any (bytes_eq x) ys) absent in
    let ends : list_any (bytes_eq y) (x ∷ []) ≡ false = ap (λ b. b || false) (other_way x y here.0) in
    let own : list_any (bytes_eq y) (ys ++ x ∷ []) ≡ false = list_any-append (bytes_eq y) ys (x ∷ []) ∙ ap₂ (λ a b. a || b) there.0 ends in
    ap₂ (λ a b. a || b) own (apart_with ys x there.1 here.1)

stay_apart : (names : Names) (x : List ℕ) (o : Option VarId) → variable_of names x ≡ o → AreApart names → AreApart (with_name names x)
stay_apart names x None e apart = rw e (apart_with names x apart (none_equal x 0 names (no_position x _ e)))
stay_apart names x (Some v) e apart = rw e apart

all_apart : (names others : Names) → AreApart names → AreApart (names_with names others)
all_apart names [] apart = apart
all_apart names (x ∷ xs) apart = all_apart (with_name names x) xs (stay_apart names x (variable_of names x) refl apart)

-- ---- the variables of a program

globals_by : (globals : Names) (ds : CheckOutcome (List Definition)) (main : CheckOutcome FormulaTree) (program : ProgramTree)
    → both (λ ds main. let made : ProgramTree = record { defs = ds; main = main; globals = globals } in made) ds main ≡ Ok program → program.globals ≡ globals
globals_by globals (Ok ds) (Ok main) program e = cc
globals_by globals (Ok ds) (Err r) program e = absurd cc
globals_by globals (Err r) main program e = absurd cc

checked_by : (source : SourceTree) (program : ProgramTree) (twice : Option ℕ) → twice_defined [] source.definitions ≡ twice → ChecksTo source (Ok program) → program.globals ≡ names_of source
checked_by source program (Some at) e is = absurd (let refused : Ok program ≡ Err _ = rw e at is in cc)
checked_by source program None e is =
    let made : (states : List Bool) × AreStates source.definitions states × (program_over (names_of source) states source ≡ Ok program) = rw e at is in
    let names = outermost (signatures_of source.definitions made.0) (names_of source) in
    globals_by (names_of source) (definitions_in names source.definitions made.0) (formula_of names source.main) program made.2

-- the variables' names are those of the source
globals_are : (source : SourceTree) (program : ProgramTree) → ChecksTo source (Ok program) → program.globals ≡ names_of source
globals_are source program = checked_by source program (twice_defined [] source.definitions) refl

pub globals_stand_in_source : GlobalsStandInSource
globals_stand_in_source source program is =
    let P : List ℕ → Type 0 = Contains (source_names source) in
    subst (All P) (sym (globals_are source program is)) (of_source P source (All-contains_itself (source_names source)))

pub globals_are_apart : GlobalsAreApart
globals_are_apart source program is =
    subst AreApart (sym (globals_are source program is)) (all_apart [] (names_in_bodies source.definitions ++ names_in [] source.main) refl)
