-- Each live item has its turn in a sweep.
use Rattle.std.proofs.Common.{◌≡◌, ℕ, zero, suc, ◌%◌, ◌<◌, ◌≤◌, ◌⊎◌, inl, inr, true, List, [], ◌∷◌, ◌++◌, length, take, drop, None, Some, sym, subst, arith}
use Rattle.std.specs.List.{Contains}
use Rattle.std.proofs.lemmas.List.{take-append-drop}
use Rattle.std.proofs.lemmas.List.Elements.{Contains-append_left, Contains-append_right, Contains-append_cases}
use Rattle.tp_scene.specs.Scene.{Entries, has}
use Rattle.tp_step.specs.declared.order.Order.{Order}
use Rattle.tp_step.specs.declared.order.Order.TheVariants.{First, Last, Seed}
use Rattle.tp_pass.specs.declared.sweep.Sweep.{Sweep}
use Rattle.tp_pass.specs.declared.sweep.Sweep.TheVariants.{From, Forward, Backward}
use Rattle.tp_step.specs.Seeds.{choice_of}
use Rattle.tp_pass.specs.Sweeps.{from_place, SweepsFrom, SweepsForward, SweepsBackward, BeginsSweep, TakesTurn}

-- the item's turn is still to come
abbrev pub IsToCome : Sweep → ℕ → Type 0
IsToCome (From k) t = k ≤ t
IsToCome (Forward items) t = Contains items.items t
IsToCome (Backward items) t = Contains items.items t

-- the one item of a list
pub only_one : (x t : ℕ) → Contains (x ∷ []) t → t ≡ x
only_one x t (zero, less, e) = sym e
only_one x t (suc k, less, e) = absurd (omega (arith, less))

round_contains : (r : ℕ) (xs : List ℕ) (t : ℕ) → Contains xs t → Contains (from_place r xs) t
round_contains r xs t h = elim (Contains-append_cases (take r xs) (drop r xs) t (subst (λ ys. Contains ys t) (sym (take-append-drop r xs)) h)) [
  | inl before ↦ Contains-append_right (drop r xs) (take r xs) t before
  | inr after ↦ Contains-append_left (drop r xs) (take r xs) t after
]

comes_from : (sweep : Sweep) (t : ℕ) → SweepsFrom 0 sweep → IsToCome sweep t
comes_from (From k) t h = omega (arith, h)
comes_from (Forward items) t h = absurd h
comes_from (Backward items) t h = absurd h

comes_forward : (xs : List ℕ) (sweep : Sweep) (t : ℕ) → SweepsForward xs sweep → Contains xs t → IsToCome sweep t
comes_forward xs (From k) t h lives = absurd h
comes_forward xs (Forward items) t h lives = subst (λ ys. Contains ys t) (sym h) lives
comes_forward xs (Backward items) t h lives = absurd h

comes_backward : (xs : List ℕ) (sweep : Sweep) (t : ℕ) → SweepsBackward xs sweep → Contains xs t → IsToCome sweep t
comes_backward xs (From k) t h lives = absurd h
comes_backward xs (Forward items) t h lives = absurd h
comes_backward xs (Backward items) t h lives = subst (λ ys. Contains ys t) (sym h) lives

-- a sweep begins with each live item
pub begins_with_each : (es : Entries) (order after : Order) (sweep : Sweep) → BeginsSweep es order after sweep → (t : ℕ) → has t es ≡ true → IsToCome sweep t
begins_with_each es First after sweep h t lives = comes_from sweep t h.1
begins_with_each es Last after sweep h t lives = comes_backward h.1.0 sweep t h.1.2 ((h.1.1.live t).1 lives)
begins_with_each es (Seed x) after sweep h t lives =
    comes_forward (from_place (choice_of x % length h.0) h.0) sweep t h.3 (round_contains (choice_of x % length h.0) h.0 t ((h.1.live t).1 lives))

later_forward : (x : ℕ) (rest : List ℕ) (after : Sweep) (t : ℕ) → SweepsForward rest after → Contains (x ∷ rest) t → (t ≡ x) ⊎ IsToCome after t
later_forward x rest after t h lives = elim (Contains-append_cases (x ∷ []) rest t lives) [ inl one ↦ inl (only_one x t one) | inr more ↦ inr (comes_forward rest after t h more) ]

later_backward : (x : ℕ) (rest : List ℕ) (after : Sweep) (t : ℕ) → SweepsBackward rest after → Contains (rest ++ x ∷ []) t → (t ≡ x) ⊎ IsToCome after t
later_backward x rest after t h lives = elim (Contains-append_cases rest (x ∷ []) t lives) [ inl more ↦ inr (comes_backward rest after t h more) | inr one ↦ inl (only_one x t one) ]

later_from : (k : ℕ) (after : Sweep) (t : ℕ) → SweepsFrom (suc k) after → k ≤ t → (t ≡ k) ⊎ IsToCome after t
later_from k (From j) t h from = grind (arith, h, from)
later_from k (Forward items) t h from = absurd h
later_from k (Backward items) t h from = absurd h

-- a turn is one item's
pub one_turn : (n : ℕ) (sweep after : Sweep) (x : ℕ) → TakesTurn n sweep after (Some x) → (t : ℕ) → IsToCome sweep t → (t ≡ x) ⊎ IsToCome after t
one_turn n (From k) after x h t c = subst (λ y. (t ≡ y) ⊎ IsToCome after t) (sym h.1) (later_from k after t h.2 c)
one_turn n (Forward items) after x h t c = later_forward x h.0 after t h.2 (subst (λ ys. Contains ys t) h.1 c)
one_turn n (Backward items) after x h t c = later_backward x h.0 after t h.2 (subst (λ ys. Contains ys t) h.1 c)

-- an empty list has none
pub nothing_there : (xs : List ℕ) (t : ℕ) → xs ≡ [] → Contains xs t → ⊥
nothing_there xs t e h = let less : h.0 < length {A = ℕ} [] = subst (λ (ys : List ℕ). h.0 < length ys) e h.1 in omega (arith, less)

-- where there is none, no item below the next new one is still to come
pub no_turn : (n : ℕ) (sweep after : Sweep) → TakesTurn n sweep after None → (t : ℕ) → IsToCome sweep t → t < n → ⊥
no_turn n (From k) after h t c less = omega (arith, h.0, c, less)
no_turn n (Forward items) after h t c less = nothing_there items.items t h.0 c
no_turn n (Backward items) after h t c less = nothing_there items.items t h.0 c
