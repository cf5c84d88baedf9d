-- Bound names, by their numbers.
use Rattle.std.proofs.Common.{Bor, ◌≡◌, ℕ, zero, suc, ◌-◌, ◌≤◌, ◌<◌, List, [], ◌∷◌, ◌++◌, map, length, get_or, Some, None, refl, ap, sym, ◌∙◌, arith}
use Rattle.std.specs.List.{slice_get}
use Rattle.std.specs.Option.{option_map}
use Rattle.std.proofs.lemmas.Option.{slice_get-map, slice_get-get_or, slice_get_past}
use Rattle.std.proofs.lemmas.List.{length-map}
use Rattle.tp_kernel.specs.declared.formula.Env.{Env}
use Rattle.tp_kernel.specs.declared.formula.Binding.{Binding}
use Rattle.tp_kernel.specs.Read.{binding_of, bindings_of}
use Rattle.tp_residual.specs.Phrases.{BoundName, stands_for, named}
use Rattle.tp_residual.specs.Read.{bound_step, bound_names, left_after, own_bound_names}
use Rattle.tp_residual.specs.declared.words.Bound.{Bound}
use Rattle.tp_residual.specs.declared.words.Bound.TheVariants.{Around, Inside, Chain, rolls-Around, rolls-Inside, rolls-Chain}
use Rattle.tp_residual.specs.declared.words.Bound.TheOpen.{Bound-F}
use Rattle.tp_residual.specs.declared.words.Bound.TheFolds.{fold-roll-Bound}

pub names_around : (env : Bor Env) → bound_names (Around env) ≡ map stands_for (bindings_of env.now)
names_around env = ap bound_names (sym (rolls-Around env)) ∙ fold-roll-Bound (List BoundName) bound_step (Bound-F.Around env)

pub names_inside : (name : Bor (List ℕ)) (outer : Bor Bound) → bound_names (Inside name outer) ≡ bound_names outer.now ++ named name.now ∷ []
names_inside name outer = ap bound_names (sym (rolls-Inside name outer)) ∙ fold-roll-Bound (List BoundName) bound_step (Bound-F.Inside name outer)

pub names_chained : (names : Bor (List (List ℕ))) (outer : Bor Bound) → bound_names (Chain names outer) ≡ bound_names outer.now ++ own_bound_names names.now
names_chained names outer = ap bound_names (sym (rolls-Chain names outer)) ∙ fold-roll-Bound (List BoundName) bound_step (Bound-F.Chain names outer)

within : (xs : List BoundName) (i : ℕ) → i < length xs → left_after xs i ≡ None
within [] i l = absurd (omega (arith, l))
within (x ∷ xs) zero l = refl
within (x ∷ xs) (suc i) l = within xs i (omega (arith, l))

beyond : (xs : List BoundName) (i : ℕ) → length xs ≤ i → left_after xs i ≡ Some (i - length xs)
beyond [] i l = ap Some (omega arith)
beyond (x ∷ xs) zero l = absurd (omega (arith, l))
beyond (x ∷ xs) (suc i) l = beyond xs i (omega (arith, l)) ∙ ap Some (omega arith)

-- more names, by how many are left without them
pub none_left : (xs ys : List BoundName) (i : ℕ) → left_after xs i ≡ None → (slice_get (xs ++ ys) i ≡ slice_get xs i) × (left_after (xs ++ ys) i ≡ None)
none_left [] ys i e = absurd (cc e)
none_left (x ∷ xs) ys zero e = (refl, refl)
none_left (x ∷ xs) ys (suc i) e = none_left xs ys i e

pub some_left : (xs ys : List BoundName) (i k : ℕ) → left_after xs i ≡ Some k → (slice_get (xs ++ ys) i ≡ slice_get ys k) × (left_after (xs ++ ys) i ≡ left_after ys k)
some_left [] ys i k e = (ap (slice_get ys) (cc e), ap (left_after ys) (cc e))
some_left (x ∷ xs) ys zero k e = absurd (cc e)
some_left (x ∷ xs) ys (suc i) k e = some_left xs ys i k e

pub nothing_beyond : (xs : List BoundName) (i k : ℕ) → left_after xs i ≡ Some k → slice_get xs i ≡ None
nothing_beyond [] i k e = refl
nothing_beyond (x ∷ xs) zero k e = absurd (cc e)
nothing_beyond (x ∷ xs) (suc i) k e = nothing_beyond xs i k e

-- those of a chain
length_own : (names : List (List ℕ)) → length (own_bound_names names) ≡ length names
length_own names = length-map names named

pub own_within : (names : List (List ℕ)) (i : ℕ) (x : List ℕ) → i < length names → x ≡ get_or names i x → (slice_get (own_bound_names names) i ≡ Some (named x)) × (left_after (own_bound_names names) i ≡ None)
own_within names i x l e = (
  slice_get-map named names i ∙ ap (option_map named) (slice_get-get_or names i x l ∙ ap Some (sym e)),
  within (own_bound_names names) i (let n = length_own names in omega (arith, n, l)),
)

pub own_beyond : (names : List (List ℕ)) (i : ℕ) → length names ≤ i → (slice_get (own_bound_names names) i ≡ None) × (left_after (own_bound_names names) i ≡ Some (i - length names))
own_beyond names i l =
    let n = length_own names in (
      slice_get_past (own_bound_names names) i (omega (arith, n, l)),
      beyond (own_bound_names names) i (omega (arith, n, l)) ∙ ap (λ m. Some (i - m)) n,
    )

-- of one name, all but the first are beyond
pub one_before : (y : BoundName) (k : ℕ) → (k ≡ 0 → ⊥) → (slice_get (y ∷ []) k ≡ None) × (left_after (y ∷ []) k ≡ Some (k - 1))
one_before y zero l = absurd (l refl)
one_before y (suc k) l = (refl, ap Some (omega arith))

-- those around the phrase
length_around : (env : Env) → length (map stands_for (bindings_of env)) ≡ length env.items.items
length_around env = length-map (bindings_of env) stands_for ∙ length-map env.items.items binding_of

pub bound_within : (env : Env) (i : ℕ) (x : Binding) → i < length env.items.items → x ≡ get_or env.items.items i x
    → (slice_get (map stands_for (bindings_of env)) i ≡ Some (stands_for (binding_of x))) × (left_after (map stands_for (bindings_of env)) i ≡ None)
bound_within env i x l e = (
  slice_get-map stands_for (bindings_of env) i
      ∙ (ap (option_map stands_for) (slice_get-map binding_of env.items.items i)
      ∙ ap (λ o. option_map stands_for (option_map binding_of o)) (slice_get-get_or env.items.items i x l ∙ ap Some (sym e))),
  within (map stands_for (bindings_of env)) i (let n = length_around env in omega (arith, n, l)),
)

pub bound_beyond : (env : Env) (i : ℕ) → length env.items.items ≤ i
    → (slice_get (map stands_for (bindings_of env)) i ≡ None) × (left_after (map stands_for (bindings_of env)) i ≡ Some (i - length env.items.items))
bound_beyond env i l =
    let n = length_around env in (
      slice_get_past (map stands_for (bindings_of env)) i (omega (arith, n, l)),
      beyond (map stands_for (bindings_of env)) i (omega (arith, n, l)) ∙ ap (λ m. Some (i - m)) n,
    )
