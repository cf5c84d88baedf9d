-- A name that is added at the end of a list without it.
use Rattle.std.proofs.Common.{◌≡◌, ℕ, ◌+◌, Bool, true, false, ◌||◌, if◌then◌else◌, List, [], ◌∷◌, ◌++◌, length, Option, None, Some, cond, refl, ap, ◌∙◌, arith}
use Rattle.std.specs.List.{list_any, position, position_from}
use Rattle.std.specs.Option.{option_map}
use Rattle.std.specs.Str.{bytes_eq}
use Rattle.std.proofs.lemmas.Iterator.Adapters.{position_from-zero}
use Rattle.std.proofs.lemmas.Slice.Eq.{bytes_eq-Decides}
use Rattle.indexmap.specs.IndexSet.{insert_key}
use Rattle.tp_value.specs.Globals.{variable_of, variable}

pub position_from-at_end : {A : Type 0} (p : A → Bool) (i : ℕ) (xs : List A) (x : A) → position_from p i xs ≡ None → p x ≡ true → position_from p i (xs ++ x ∷ []) ≡ Some (i + length xs)
position_from-at_end p i [] x none met = ap (λ b. cond b (Some i) None) met ∙ ap Some (omega arith)
position_from-at_end p i (y ∷ ys) x none met =
    let later : position_from p (i + 1) ys ≡ None → position_from p (i + 1) (ys ++ x ∷ []) ≡ Some (i + length (y ∷ ys)) = λ e. position_from-at_end p (i + 1) ys x e met ∙ ap Some (omega arith) in
    let P : Bool → Type 0 = λ b. cond b (Some i) (position_from p (i + 1) ys) ≡ None → cond b (Some i) (position_from p (i + 1) (ys ++ x ∷ [])) ≡ Some (i + length (y ∷ ys)) in
    let cases : P (p y) = elim (p y) as P [ true ↦ λ e. absurd (cc) | false ↦ later ] in
    cases none

-- no variable, no place
no_place : (o : Option ℕ) (name : List ℕ) → None ≡ option_map (variable name) o → o ≡ None
no_place None name e = refl
no_place (Some i) name e = absurd (cc)

pub variable_of-at_end : (names : List (List ℕ)) (name : List ℕ) → None ≡ variable_of names name → variable_of (names ++ name ∷ []) name ≡ Some (variable name (length names))
variable_of-at_end names name none =
    ap (option_map (variable name)) (position_from-at_end (bytes_eq name) 0 names name (no_place (position_from (bytes_eq name) 0 names) name none) ((bytes_eq-Decides name name).1 refl) ∙ ap Some (omega arith))

none_passes : {A : Type 0} (p : A → Bool) (i : ℕ) (xs : List A) → position_from p i xs ≡ None → list_any p xs ≡ false
none_passes p i [] none = refl
none_passes p i (y ∷ ys) none =
    let P : Bool → Type 0 = λ b. cond b (Some i) (position_from p (i + 1) ys) ≡ None → (b || list_any p ys) ≡ false in
    let cases : P (p y) = elim (p y) as P [ true ↦ λ e. absurd (cc) | false ↦ none_passes p (i + 1) ys ] in
    cases none

-- the set's keys once a name that isn't there is inserted
pub insert_key-absent : (names : List (List ℕ)) (name : List ℕ) → None ≡ variable_of names name → insert_key bytes_eq names name ≡ names ++ name ∷ []
insert_key-absent names name none =
    ap (λ b. if b then names else names ++ name ∷ []) (none_passes (bytes_eq name) 0 names (no_place (position_from (bytes_eq name) 0 names) name none))

pub position_from_start : {A : Type 0} (p : A → Bool) (xs : List A) → position p xs ≡ position_from p 0 xs
position_from_start p xs = position_from-zero p xs
