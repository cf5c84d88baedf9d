-- Formulas one after the other, as wider ones.
use Rattle.std.proofs.Common.{refl, ap, sym, ◌∙◌, ◌≡◌, ℕ, zero, suc, ◌+◌, ◌<◌, ◌≤◌, add-one, List, [], ◌∷◌, ◌++◌, length, get_or, drop, map, Option, Some, None, arith}
use Rattle.tp_meaning.specs.Value.{◌>>=◌}
use Rattle.tp_verdict.specs.Wide.{WideTree, WideTrees, no_formula, formula_then, wide_formulas_of}

-- these behind those, where there are any
abbrev joined_behind : List WideTree → WideTrees → WideTrees
joined_behind [] vs = vs
joined_behind (w ∷ ws) vs = formula_then w (joined_behind ws vs)

abbrev pub behind : List WideTree → Option WideTrees → Option WideTrees
behind ws None = None
behind ws (Some vs) = Some (joined_behind ws vs)

pub none_behind : (ws : List WideTree) (o : Option WideTrees) → ws ≡ [] → o ≡ behind ws o
none_behind ws None e = refl
none_behind ws (Some vs) e = ap (λ xs. Some (joined_behind xs vs)) (sym e)

joined_once : (ws : List WideTree) (w : WideTree) (vs : WideTrees) → joined_behind ws (formula_then w vs) ≡ joined_behind (ws ++ w ∷ []) vs
joined_once [] w vs = refl
joined_once (x ∷ ws) w vs = ap (formula_then x) (joined_once ws w vs)

-- one formula and the rest
abbrev pub first_and : Option WideTree → Option WideTrees → Option WideTrees
first_and o rest = o >>= (λ w. rest >>= λ ws. Some (formula_then w ws))

pub one_widened : (ws : List WideTree) (w : WideTree) (o : Option WideTree) (rest : Option WideTrees) → o ≡ Some w → behind ws (first_and o rest) ≡ behind (ws ++ w ∷ []) rest
one_widened ws w o None e = ap (λ p. behind ws (first_and p None)) e
one_widened ws w o (Some vs) e = ap (λ p. behind ws (first_and p (Some vs))) e ∙ ap Some (joined_once ws w vs)

joined_all : (ws : List WideTree) → joined_behind ws no_formula ≡ wide_formulas_of ws
joined_all [] = refl
joined_all (w ∷ ws) = ap (formula_then w) (joined_all ws)

pub all_behind : (ws : List WideTree) → behind ws (Some no_formula) ≡ Some (wide_formulas_of ws)
all_behind ws = ap Some (joined_all ws)

-- what is seen from here on, and at the end
from_next : {A B : Type 0} (f : A → B) (xs : List A) (i : ℕ) (d : A) → i < length xs → map f (drop i xs) ≡ f (get_or xs i d) ∷ map f (drop (suc i) xs)
from_next f [] i d h = absurd (omega arith)
from_next f (x ∷ xs) zero d h = refl
from_next f (x ∷ xs) (suc i) d h = from_next f xs i d (omega arith)

pub seen_from : {A B : Type 0} (f : A → B) (xs : List A) (i : ℕ) (d : A) → i < length xs → d ≡ get_or xs i d → map f (drop i xs) ≡ f d ∷ map f (drop (i + 1) xs)
seen_from f xs i d h e =
    from_next f xs i d h ∙ (ap (λ y. f y ∷ map f (drop (suc i) xs)) (sym e) ∙ ap (λ j. f d ∷ map f (drop j xs)) (sym (add-one i)))

pub seen_all : {A B : Type 0} (f : A → B) (xs : List A) (i : ℕ) → length xs ≤ i → map f (drop i xs) ≡ []
seen_all f [] zero h = refl
seen_all f [] (suc i) h = refl
seen_all f (x ∷ xs) zero h = absurd (omega arith)
seen_all f (x ∷ xs) (suc i) h = seen_all f xs i (omega arith)
