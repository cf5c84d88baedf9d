-- Names of a list: whether one stands twice, and the number of one among names that are bound together.
use Rattle.std.proofs.Common.{Bor, refl, ap, ap₂, sym, ◌∙◌, ◌≡◌, ℕ, suc, ◌+◌, Bool, true, false, ◌||◌, cond, List, [], ◌∷◌, ◌++◌, length, Option, None, Some, add-one, arith}
use Rattle.std.specs.List.{list_any, position, position_from, IsDistinct, AllByRecursion}
use Rattle.std.specs.Option.{option_map}
use Rattle.std.specs.Str.{bytes_eq}
use Rattle.std.proofs.lemmas.Iterator.Adapters.{position_from-zero}
use Rattle.std.proofs.lemmas.Slice.Eq.{bytes_eq-Decides}
use Rattle.tp_scope.specs.Scope.{Names, bound_in, binder_of}
use Rattle.tp_scope.specs.Names.{has_repeat}
use Rattle.tp_scope.specs.declared.scope.Scope.{Scope}
use Rattle.tp_scope.specs.declared.scope.Scope.TheVariants.{Inner, rolls-Inner}
use Rattle.tp_scope.specs.declared.scope.Scope.TheOpen.{Scope-F}
use Rattle.tp_scope.specs.declared.scope.Scope.TheFolds.{fold-roll-Scope}
use Rattle.tp_scope.specs.Seen.{binder_among, scope_step, names_bound}

or_true : (b : Bool) → (b || true) ≡ true
or_true true = refl
or_true false = refl

any_behind : (p : List ℕ → Bool) (xs : Names) (y : List ℕ) (ys : Names) → p y ≡ true → list_any p (xs ++ y ∷ ys) ≡ true
any_behind p [] y ys e = ap (λ b. b || list_any p ys) e
any_behind p (x ∷ xs) y ys e = ap (λ b. p x || b) (any_behind p xs y ys e) ∙ or_true (p x)

itself : (x y : List ℕ) → bytes_eq y x ≡ true → bytes_eq x y ≡ true
itself x y e = (bytes_eq-Decides x y).1 (sym ((bytes_eq-Decides y x).0 e))

repeated : (xs : Names) (x y : List ℕ) (ys : Names) (b : Bool) → bytes_eq y x ≡ b → (b || list_any (bytes_eq y) xs) ≡ true
    → (list_any (bytes_eq y) xs ≡ true → has_repeat (xs ++ y ∷ ys) ≡ true) → has_repeat (x ∷ (xs ++ y ∷ ys)) ≡ true
repeated xs x y ys true e h later = ap (λ b. b || has_repeat (xs ++ y ∷ ys)) (any_behind (bytes_eq x) xs y ys (itself x y e))
repeated xs x y ys false e h later = ap (λ b. list_any (bytes_eq x) (xs ++ y ∷ ys) || b) (later h) ∙ or_true _

-- a name that is one of those before it stands twice
pub repeat_found : (xs : Names) (y : List ℕ) (ys : Names) → list_any (bytes_eq y) xs ≡ true → has_repeat (xs ++ y ∷ ys) ≡ true
repeat_found [] y ys h = absurd cc
repeat_found (x ∷ xs) y ys h = repeated xs x y ys (bytes_eq y x) refl h (repeat_found xs y ys)

-- where none stands twice, a name is none of those before it
pub none_before : (xs : Names) (y : List ℕ) (ys : Names) → has_repeat (xs ++ y ∷ ys) ≡ false → list_any (bytes_eq y) xs ≡ false
none_before xs y ys apart = by (list_any (bytes_eq y) xs) refl
  where
    by : (b : Bool) → list_any (bytes_eq y) xs ≡ b → list_any (bytes_eq y) xs ≡ false
    by true found = absurd (cc (repeat_found xs y ys found))
    by false found = found

none_equal : (x : List ℕ) (xs : Names) → AllByRecursion (λ y. bytes_eq x y ≡ false) xs → list_any (bytes_eq x) xs ≡ false
none_equal x [] h = refl
none_equal x (y ∷ ys) h = ap₂ (λ a b. a || b) h.0 (none_equal x ys h.1)

-- none of the keys of a set stands twice
pub distinct_apart : (xs : Names) → IsDistinct bytes_eq xs → has_repeat xs ≡ false
unfolding IsDistinct
distinct_apart [] h = refl
distinct_apart (x ∷ xs) h = ap₂ (λ a b. a || b) (none_equal x xs h.0) (distinct_apart xs h.1)

no_place : (p : List ℕ → Bool) (i : ℕ) (xs : Names) → list_any p xs ≡ false → position_from p i xs ≡ None
no_place p i [] h = refl
no_place p i (x ∷ xs) h = by (p x) (no_place p (i + 1) xs) h
  where
    by : (b : Bool) → (list_any p xs ≡ false → position_from p (i + 1) xs ≡ None) → (b || list_any p xs) ≡ false → cond b (Some i) (position_from p (i + 1) xs) ≡ None
    by true later h = absurd cc
    by false later h = later h

-- places are counted from where the list starts
pub one_later : {A : Type 0} (p : A → Bool) (i : ℕ) (xs : List A) → position_from p (i + 1) xs ≡ option_map suc (position_from p i xs)
one_later p i [] = refl
one_later p i (x ∷ xs) = by (p x) (one_later p (i + 1) xs)
  where
    by : (b : Bool) → position_from p ((i + 1) + 1) xs ≡ option_map suc (position_from p (i + 1) xs)
        → cond b (Some (i + 1)) (position_from p ((i + 1) + 1) xs) ≡ option_map suc (cond b (Some i) (position_from p (i + 1) xs))
    by true e = ap Some (add-one i)
    by false e = e

number_later : (outer : Names) (x y : List ℕ) (o : Option ℕ) → bytes_eq x y ≡ false → binder_among (y ∷ outer) x o ≡ binder_among outer x (option_map suc o)
number_later outer x y None e = ap (λ b. cond b (Some (length outer)) (binder_of outer x)) e
number_later outer x y (Some i) e = ap Some (omega arith)

number_behind : (outer : Names) (x y : List ℕ) (ys : Names) (b : Bool) → bytes_eq x y ≡ b → list_any (bytes_eq y) ys ≡ false
    → binder_of (bound_in (y ∷ outer) ys) x ≡ binder_among (y ∷ outer) x (position_from (bytes_eq x) 0 ys)
    → binder_of (bound_in (y ∷ outer) ys) x ≡ binder_among outer x (cond b (Some 0) (position_from (bytes_eq x) (0 + 1) ys))
number_behind outer x y ys true e apart inside =
    let same : x ≡ y = (bytes_eq-Decides x y).0 e in
    let none : position_from (bytes_eq x) 0 ys ≡ None = no_place (bytes_eq x) 0 ys (ap (λ (z : List ℕ). list_any (bytes_eq z) ys) same ∙ apart) in
    inside ∙ (ap (binder_among (y ∷ outer) x) none ∙ (ap (λ b. cond b (Some (length outer)) (binder_of outer x)) e ∙ ap Some (omega arith)))
number_behind outer x y ys false e apart inside =
    inside ∙ (number_later outer x y (position_from (bytes_eq x) 0 ys) e ∙ ap (binder_among outer x) (sym (one_later (bytes_eq x) 0 ys)))

number_from : (outer xs : Names) (x : List ℕ) → IsDistinct bytes_eq xs → binder_of (bound_in outer xs) x ≡ binder_among outer x (position_from (bytes_eq x) 0 xs)
unfolding IsDistinct
number_from outer [] x h = refl
number_from outer (y ∷ ys) x h = number_behind outer x y ys (bytes_eq x y) refl (none_equal y ys h.0) (number_from (y ∷ outer) ys x h.1)

-- the number of the innermost binder of a name, where some are bound together that differ
pub number_among : (outer xs : Names) (x : List ℕ) → IsDistinct bytes_eq xs → binder_of (bound_in outer xs) x ≡ binder_among outer x (position (bytes_eq x) xs)
number_among outer xs x h = number_from outer xs x h ∙ ap (binder_among outer x) (sym (position_from-zero (bytes_eq x) xs))

-- how many are bound
pub length_bound : (outer xs : Names) → length (bound_in outer xs) ≡ length outer + length xs
length_bound outer [] = omega arith
length_bound outer (x ∷ xs) = length_bound (x ∷ outer) xs ∙ omega arith

-- the names of a scope within another
pub bound_inner : (binders : Bor Names) (outer : Bor Scope) → names_bound (Inner binders outer) ≡ bound_in (names_bound outer.now) binders.now
bound_inner binders outer = ap names_bound (sym (rolls-Inner binders outer)) ∙ fold-roll-Scope Names scope_step (Scope-F.Inner binders outer)
