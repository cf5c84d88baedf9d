-- Definitions one after the other: those before, the next, and those behind it.
use Rattle.std.proofs.Common.{Bor, refl, ap, ap₂, sym, ◌∙◌, ◌≡◌, ℕ, ◌+◌, ◌<◌, Bool, true, false, ◌||◌, if◌then◌else◌, List, [], ◌∷◌, ◌++◌, map, take, drop, drop-cons, length, get_or, Some, None, add-one}
use Rattle.std.specs.List.{list_any}
use Rattle.std.specs.Str.{bytes_eq}
use Rattle.std.proofs.lemmas.Grind.{take_at_read}
use Rattle.std.proofs.lemmas.List.{map-append}
use Rattle.std.proofs.lemmas.Option.{same_Some}
use Rattle.std.proofs.lemmas.Slice.Eq.{bytes_eq-Decides}
use Rattle.tp_tree.specs.Tree.{DefinitionTree}
use Rattle.tp_scope.specs.Scope.{Names, bound_in}
use Rattle.tp_scope.specs.Names.{has_repeat, AreApart, twice_defined, names_with, names_in, names_in_bodies}
use Rattle.tp_scope.specs.declared.scope.Scope.{Scope}
use Rattle.tp_scope.specs.declared.scope.Scope.TheVariants.{Outermost, Inner, rolls-Outermost}
use Rattle.tp_scope.specs.declared.scope.Scope.TheOpen.{Scope-F}
use Rattle.tp_scope.specs.declared.scope.Scope.TheFolds.{fold-roll-Scope}
use Rattle.tp_scope.specs.Seen.{apart, scope_step, names_bound}
use Rattle.tp_scope.proofs.Apart.{bound_inner}
use Rattle.tp_scope.proofs.Several.{names_join}

-- ---- lists

pub next_is : {A : Type 0} (xs : List A) (i : ℕ) (x : A) → i < length xs → x ≡ get_or xs i x → drop i xs ≡ x ∷ drop (i + 1) xs
next_is xs i x l e = drop-cons xs i x l ∙ ap₂ (λ y j. y ∷ drop j xs) (sym e) (sym (add-one i))

taken_more : {A : Type 0} (xs : List A) (i : ℕ) (x : A) → i < length xs → x ≡ get_or xs i x → take (i + 1) xs ≡ take i xs ++ x ∷ []
taken_more xs i x l e = (take_at_read xs i x l).1 ∙ ap (λ y. take i xs ++ y ∷ []) (sym e)

pub one_more_mapped : {A B : Type 0} (f : A → B) (xs : List A) (i : ℕ) (x : A) → i < length xs → x ≡ get_or xs i x → map f (take (i + 1) xs) ≡ map f (take i xs) ++ f x ∷ []
one_more_mapped f xs i x l e = ap (map f) (taken_more xs i x l e) ∙ map-append f (take i xs) (x ∷ [])

pub same_parts : {A : Type 0} (x y : A) (xs ys : List A) → x ∷ xs ≡ y ∷ ys → (x ≡ y) × (xs ≡ ys)
same_parts {A} x y xs ys e = (ap first e, ap rest e)
  where
    first : List A → A
    first [] = x
    first (z ∷ zs) = z

    rest : List A → List A
    rest [] = []
    rest (z ∷ zs) = zs

-- ---- names of which none stands twice

both_false : (a b : Bool) → (a || b) ≡ false → (a ≡ false) × (b ≡ false)
both_false true b e = absurd cc
both_false false b e = (refl, e)

differs : (x y : List ℕ) → bytes_eq y x ≡ false → bytes_eq x y ≡ false
differs x y e = by (bytes_eq x y) refl
  where
    by : (b : Bool) → bytes_eq x y ≡ b → b ≡ false
    by true t = absurd (cc ((bytes_eq-Decides y x).1 (sym ((bytes_eq-Decides x y).0 t)), e))
    by false t = refl

any_push : (p : List ℕ → Bool) (xs : Names) (y : List ℕ) → list_any p xs ≡ false → p y ≡ false → list_any p (xs ++ y ∷ []) ≡ false
any_push p [] y h e = ap (λ b. b || false) e
any_push p (x ∷ xs) y h e =
    let parts = both_false (p x) (list_any p xs) h in
    ap₂ (λ a b. a || b) parts.0 (any_push p xs y parts.1 e)

pub apart_more : (xs : Names) (y : List ℕ) → AreApart xs → list_any (bytes_eq y) xs ≡ false → AreApart (xs ++ y ∷ [])
apart_more [] y apart none = refl
apart_more (x ∷ xs) y apart none =
    let parts = both_false (list_any (bytes_eq x) xs) (has_repeat xs) apart in
    let other = both_false (bytes_eq y x) (list_any (bytes_eq y) xs) none in
    ap₂ (λ a b. a || b) (any_push (bytes_eq x) xs y parts.0 (differs x y other.0)) (apart_more xs y parts.1 other.1)

-- names that are apart
pub apart_is : (xs ys : Names) → apart xs ≡ Some ys → (has_repeat xs ≡ false) × (xs ≡ ys)
apart_is xs ys e = by (has_repeat xs) refl e
  where
    by : (b : Bool) → has_repeat xs ≡ b → (if b then None else Some xs) ≡ Some ys → (has_repeat xs ≡ false) × (xs ≡ ys)
    by true t e = absurd cc
    by false t e = (t, same_Some xs ys e)

-- a definition whose name and parameters aren't defined before
pub not_twice : (before after : Names) (d : DefinitionTree) (ds : List DefinitionTree) → list_any (bytes_eq d.name) before ≡ false → has_repeat d.parameters ≡ false → after ≡ before ++ d.name ∷ []
    → twice_defined before (d ∷ ds) ≡ twice_defined after ds
not_twice before after d ds other apart are =
    ap₂ (λ a b. if a || b then Some d.at else twice_defined (before ++ d.name ∷ []) ds) other apart ∙ ap (λ xs. twice_defined xs ds) (sym are)

-- a definition whose name or one of whose parameters was there before
pub is_twice : (before : Names) (d : DefinitionTree) (ds : List DefinitionTree) → (list_any (bytes_eq d.name) before || has_repeat d.parameters) ≡ true → twice_defined before (d ∷ ds) ≡ Some d.at
is_twice before d ds there = ap (λ b. if b then Some d.at else twice_defined (before ++ d.name ∷ []) ds) there

-- ---- names in bodies

none_bound : names_bound Outermost ≡ []
none_bound = ap names_bound (sym rolls-Outermost) ∙ fold-roll-Scope Names scope_step Scope-F.Outermost

-- what is bound in the body of a definition with these parameters
pub scope_of_body : (binders : Bor Names) (outer : Bor Scope) (parameters : Names) → outer.now ≡ Outermost → binders.now ≡ parameters → names_bound (Inner binders outer) ≡ bound_in [] parameters
scope_of_body binders outer parameters e f = bound_inner binders outer ∙ ap₂ bound_in (ap names_bound e ∙ none_bound) f

pub one_body_more : (before after : Names) (scope : Names) (d : DefinitionTree) (ds : List DefinitionTree) → scope ≡ bound_in [] d.parameters → after ≡ names_with before (names_in scope d.body)
    → names_with after (names_in_bodies ds) ≡ names_with before (names_in_bodies (d ∷ ds))
one_body_more before after scope d ds is are =
    ap (λ xs. names_with xs (names_in_bodies ds)) (are ∙ ap (λ s. names_with before (names_in s d.body)) is)
    ∙ sym (names_join before (names_in (bound_in [] d.parameters) d.body) (names_in_bodies ds))
