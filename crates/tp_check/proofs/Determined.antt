-- Which definitions are state definitions is determined, and so is what becomes of a source.
use Rattle.std.proofs.Common.{refl, ap, ap₂, sym, ◌∙◌, ◌≡◌, ◌↔◌, ℕ, zero, suc, Bool, true, false, List, [], ◌∷◌, length, slice_get, Option, None, Some, Err, arith}
use Rattle.tp_tree.specs.Tree.{DefinitionTree, SourceTree}
use Rattle.tp_meaning.specs.Interval.{ProgramTree}
use Rattle.tp_check.specs.declared.refusal.CheckRefusal.TheVariants.{Twice}
use Rattle.tp_scope.specs.Names.{twice_defined, names_of, IsStateDefinition, AreStates}
use Rattle.tp_check.specs.Outcome.{CheckOutcome}
use Rattle.tp_check.specs.Program.{program_over, ChecksTo}
use Rattle.tp_check.specs.Laws.{CheckedOnce}

same_truth : (P : Type 0) (a b : Bool) → (a ≡ true) ↔ P → (b ≡ true) ↔ P → a ≡ b
same_truth P true true p q = refl
same_truth P false false p q = refl
same_truth P true false p q = sym (q.1 (p.0 refl))
same_truth P false true p q = p.1 (q.0 refl)

same_list : (xs ys : List Bool) → length xs ≡ length ys → ((i : ℕ) (a b : Bool) → slice_get xs i ≡ Some a → slice_get ys i ≡ Some b → a ≡ b) → xs ≡ ys
same_list [] [] count same = refl
same_list [] (y ∷ ys) count same = absurd (omega arith)
same_list (x ∷ xs) [] count same = absurd (omega arith)
same_list (x ∷ xs) (y ∷ ys) count same = ap₂ (λ z zs. z ∷ zs) (same zero x y refl refl) (same_list xs ys (omega arith) (λ i a b. same (suc i) a b))

pub states_determined : (ds : List DefinitionTree) (f g : List Bool) → AreStates ds f → AreStates ds g → f ≡ g
states_determined ds f g p q =
    same_list f g (p.each ∙ sym q.each) (λ i a b x y. same_truth (IsStateDefinition ds i) a b (p.right i a x) (q.right i b y))

once_by : (source : SourceTree) (o o' : CheckOutcome ProgramTree) (twice : Option ℕ) → twice_defined [] source.definitions ≡ twice → ChecksTo source o → ChecksTo source o' → o ≡ o'
once_by source o o' (Some at) e p q =
    let first : o ≡ Err (Twice at) = rw e at p in
    let second : o' ≡ Err (Twice at) = rw e at q in
    first ∙ sym second
once_by source o o' None e p q =
    let first : (states : List Bool) × AreStates source.definitions states × (program_over (names_of source) states source ≡ o) = rw e at p in
    let second : (states : List Bool) × AreStates source.definitions states × (program_over (names_of source) states source ≡ o') = rw e at q in
    sym first.2 ∙ (ap (λ states. program_over (names_of source) states source) (states_determined source.definitions first.0 second.0 first.1 second.1) ∙ second.2)

pub checks_once : CheckedOnce
checks_once source o o' = once_by source o o' (twice_defined [] source.definitions) refl
