-- A source that is refused is so for the first rule that is broken, and one that is a program breaks none.
use Rattle.std.proofs.Common.{refl, ap, subst, ◌≡◌, ◌⊎◌, inl, inr, ℕ, suc, Bool, true, false, List, [], ◌∷◌, ◌++◌, length, map, slice_get, Option, None, Some, Ok, Err, arith}
use Rattle.tp_tree.specs.Tree.{DefinitionTree, SourceTree}
use Rattle.tp_meaning.specs.Interval.{ProgramTree}
use Rattle.tp_check.specs.declared.refusal.CheckRefusal.{CheckRefusal}
use Rattle.tp_check.specs.declared.refusal.CheckRefusal.TheVariants.{Twice}
use Rattle.tp_scope.specs.Scope.{Names, Signature, VisibleNames, bound_in, with_binders}
use Rattle.tp_scope.specs.Names.{twice_defined, names_in, names_in_bodies, names_of, signatures_of, AreStates}
use Rattle.tp_check.specs.Outcome.{CheckOutcome, mapped, both}
use Rattle.tp_check.specs.Positions.{expr_of, formula_of}
use Rattle.tp_check.specs.Program.{definition_with, definition_in, definitions_in, outermost, program_over, ChecksTo}
use Rattle.tp_check.specs.Refusals.{Placed, as_formula, outer_phrases, IsFirstBroken, AreKept, RefusalsNameBroken, ProgramsKeepRules}
use Rattle.tp_check.proofs.Known.{AreKnown, all_known, front, back}
use Rattle.tp_check.proofs.Broken.{Told, none_there, both_told}
use Rattle.tp_check.proofs.Refused.{formula_told}
use Rattle.tp_check.proofs.StateBodies.{SaysOfOneState, IsMade, states_say, mapped_made, expr_made}

-- what is made of two things, where the second one is made whenever the first is
with_told : {A B C : Type 0} (signatures : List Signature) (g : A → B → C) (ps : List Placed) (a : CheckOutcome A) (b : CheckOutcome B) → (IsMade a → IsMade b) → Told signatures ps a → Told signatures ps (both g a b)
with_told signatures g ps (Ok x) (Ok y) made told = told
with_told signatures g ps (Ok x) (Err e) made told = absurd (made tt)
with_told signatures g ps (Err e) b made told = told

definition_told : (names : VisibleNames) (d : DefinitionTree) (b : Bool) → (b ≡ true → SaysOfOneState names.definitions d.body) → AreKnown names.globals (names_in (bound_in names.scope d.parameters) d.body)
    → Told names.definitions (as_formula d.body ∷ []) (definition_in names d b)
definition_told names d true says known =
    let inner = with_binders d.parameters names in
    with_told names.definitions (definition_with d) (as_formula d.body ∷ []) (formula_of inner d.body) (mapped Some (expr_of inner d.body))
    (λ made. mapped_made Some (expr_of inner d.body) (expr_made inner d.body (says refl).0 (says refl).1 made)) (formula_told inner d.body known)
definition_told names d false says known =
    let inner = with_binders d.parameters names in
    with_told names.definitions (definition_with d) (as_formula d.body ∷ []) (formula_of inner d.body) (Ok None) (λ made. tt) (formula_told inner d.body known)

bodies_told : (signatures : List Signature) (globals : Names) (ds : List DefinitionTree) (states : List Bool) → length states ≡ length ds
    → ((i : ℕ) (d : DefinitionTree) → slice_get ds i ≡ Some d → slice_get states i ≡ Some true → SaysOfOneState signatures d.body) → AreKnown globals (names_in_bodies ds)
    → Told signatures (map (λ d. as_formula d.body) ds) (definitions_in (outermost signatures globals) ds states)
bodies_told signatures globals [] states each says known = none_there signatures
bodies_told signatures globals (d ∷ ds) [] each says known = absurd (omega arith)
bodies_told signatures globals (d ∷ ds) (b ∷ bs) each says known =
    let names = outermost signatures globals in
    let body = names_in (bound_in [] d.parameters) d.body in
    both_told signatures (λ x xs. x ∷ xs) (as_formula d.body ∷ []) (map (λ e. as_formula e.body) ds) (definition_in names d b) (definitions_in names ds bs)
    (definition_told names d b (λ is. says 0 d refl (ap Some is)) (front globals body (names_in_bodies ds) known))
    (bodies_told signatures globals ds bs (omega (arith, each)) (λ i e there is. says (suc i) e there is) (back globals body (names_in_bodies ds) known))

source_told : (source : SourceTree) (states : List Bool) → AreStates source.definitions states → Told (signatures_of source.definitions states) (outer_phrases source) (program_over (names_of source) states source)
source_told source states are =
    let signatures = signatures_of source.definitions states in
    let globals = names_of source in
    let names = outermost signatures globals in
    let bodies = names_in_bodies source.definitions in
    let main = names_in [] source.main in
    let known = all_known [] (bodies ++ main) in
    both_told signatures (λ ds w. record { defs = ds; main = w; globals = globals }) (map (λ d. as_formula d.body) source.definitions) (as_formula source.main ∷ []) (definitions_in names source.definitions states) (formula_of names source.main)
    (bodies_told signatures globals source.definitions states are.each (states_say source.definitions states are) (front globals bodies main known)) (formula_told names source.main (back globals bodies main known))

-- what is told of one outcome is told of the same one
abbrev ToldOf : SourceTree → List Bool → CheckOutcome ProgramTree → Type 0
ToldOf source states o = Told (signatures_of source.definitions states) (outer_phrases source) o

told_of : (source : SourceTree) (states : List Bool) → AreStates source.definitions states → (o : CheckOutcome ProgramTree) → program_over (names_of source) states source ≡ o → ToldOf source states o
told_of source states are o same = subst (ToldOf source states) same (source_told source states are)

named_by : (source : SourceTree) (e : CheckRefusal) (first : Option ℕ) → twice_defined [] source.definitions ≡ first → ChecksTo source (Err e)
    → ((at : ℕ) × (twice_defined [] source.definitions ≡ Some at) × (e ≡ Twice at))
    ⊎ ((states : List Bool) × (twice_defined [] source.definitions ≡ None) × AreStates source.definitions states × IsFirstBroken (signatures_of source.definitions states) (outer_phrases source) e)
named_by source e (Some at) is checks =
    let refused : Err e ≡ Err (Twice at) = rw is at checks in
    let same : e ≡ Twice at = cc in
    inl (at, is, same)
named_by source e None is checks =
    let over : (states : List Bool) × AreStates source.definitions states × (program_over (names_of source) states source ≡ Err e) = rw is at checks in
    inr (over.0, is, over.1, told_of source over.0 over.1 (Err e) over.2)

pub refusals_name_broken : RefusalsNameBroken
refusals_name_broken source e = named_by source e (twice_defined [] source.definitions) refl

kept_by : (source : SourceTree) (p : ProgramTree) (first : Option ℕ) → twice_defined [] source.definitions ≡ first → ChecksTo source (Ok p)
    → (states : List Bool) × (twice_defined [] source.definitions ≡ None) × AreStates source.definitions states × AreKept (signatures_of source.definitions states) (outer_phrases source)
kept_by source p (Some at) is checks = let refused : Ok p ≡ Err (Twice at) = rw is at checks in absurd cc
kept_by source p None is checks =
    let over : (states : List Bool) × AreStates source.definitions states × (program_over (names_of source) states source ≡ Ok p) = rw is at checks in
    (over.0, is, over.1, told_of source over.0 over.1 (Ok p) over.2)

pub programs_keep_rules : ProgramsKeepRules
programs_keep_rules source p = kept_by source p (twice_defined [] source.definitions) refl
