-- An item is in the list of live items exactly where it is live.
use Rattle.std.proofs.Common.{◌≡◌, ◌⊎◌, inl, inr, ℕ, Bool, true, false, ◌&&◌, eqb, List, [], ◌∷◌, ◌++◌, refl, subst, arith}
use Rattle.std.specs.List.{Contains}
use Rattle.std.proofs.lemmas.List.Elements.{Contains-append_left, Contains-append_right, Contains-append_cases, Contains-push, Contains-push_cases}
use Rattle.std.proofs.lemmas.Bool.{or_cases, or_left, or_right, and_parts, and_from, eqb-true, eq-eqb, false≢true}
use Rattle.tp_scene.specs.Scene.{Entries, none, leaf, node, second_lives, only_if, has}
use Rattle.tp_scene.specs.LiveItems.{live_items}
use Rattle.tp_scene.specs.Listed.{LiveItemsAreListed}

none_in : (t : ℕ) → Contains [] t → ⊥
none_in t c = let below = c.1 in absurd (omega arith)

pub first_in : {X : Type 0} (x t : X) (xs : List X) → x ≡ t → Contains (x ∷ xs) t
first_in {X} x t xs e = subst (λ (y : X). Contains (x ∷ xs) y) e (Contains-append_left (x ∷ []) xs x (Contains-push [] x))

pub later_in : {X : Type 0} (x t : X) (xs : List X) → Contains xs t → Contains (x ∷ xs) t
later_in x t xs c = Contains-append_right (x ∷ []) xs t c

first_cases : (x t : ℕ) (xs : List ℕ) → Contains (x ∷ xs) t → (x ≡ t) ⊎ Contains xs t
first_cases x t xs c = elim (Contains-append_cases (x ∷ []) xs t c) [
  | inl y ↦ elim (Contains-push_cases [] x t y) [ inl z ↦ absurd (none_in t z) | inr z ↦ inl z ]
  | inr y ↦ inr y
]

if_in : (b : Bool) (xs : List ℕ) (t : ℕ) → Contains (only_if b xs) t → (b ≡ true) × Contains xs t
if_in true xs t c = (refl, c)
if_in false xs t c = absurd (none_in t c)

in_if : (b : Bool) (xs : List ℕ) (t : ℕ) → b ≡ true → Contains xs t → Contains (only_if b xs) t
in_if true xs t e c = c
in_if false xs t e c = absurd (false≢true e)

listed_lives : (es : Entries) (t : ℕ) → Contains (live_items es) t → has t es ≡ true
listed_lives none t c = absurd (none_in t c)
listed_lives (leaf id l rest) t c = elim (first_cases id t (live_items rest) c) [
  | inl e ↦ or_left (eqb id t) (has t rest) (eq-eqb id t e)
  | inr y ↦ or_right (eqb id t) (has t rest) (listed_lives rest t y)
]
listed_lives (node id k h held g second rest) t c = elim (Contains-append_cases (only_if (second_lives k) (live_items second) ++ live_items held) (id ∷ live_items rest) t c) [
  | inl y ↦ or_right (eqb id t) _ (elim (Contains-append_cases (only_if (second_lives k) (live_items second)) (live_items held) t y) [
    | inl z ↦ (let a = if_in (second_lives k) (live_items second) t z in or_left (second_lives k && has t second) _ (and_from (second_lives k) (has t second) a.0 (listed_lives second t a.1)))
    | inr z ↦ or_right (second_lives k && has t second) _ (or_left (has t held) _ (listed_lives held t z))
  ])
  | inr y ↦ elim (first_cases id t (live_items rest) y) [
    | inl e ↦ or_left (eqb id t) _ (eq-eqb id t e)
    | inr z ↦ or_right (eqb id t) _ (or_right (second_lives k && has t second) _ (or_right (has t held) _ (listed_lives rest t z)))
  ]
]

live_listed : (es : Entries) (t : ℕ) → has t es ≡ true → Contains (live_items es) t
live_listed none t e = absurd (false≢true e)
live_listed (leaf id l rest) t e = elim (or_cases (eqb id t) (has t rest) e) [
  | inl u ↦ first_in id t (live_items rest) (eqb-true id t u)
  | inr u ↦ later_in id t (live_items rest) (live_listed rest t u)
]
live_listed (node id k h held g second rest) t e =
    let before = only_if (second_lives k) (live_items second) ++ live_items held in
    let behind = id ∷ live_items rest in
    elim (or_cases (eqb id t) _ e) [
      | inl u ↦ Contains-append_right before behind t (first_in id t (live_items rest) (eqb-true id t u))
      | inr u ↦ elim (or_cases (second_lives k && has t second) _ u) [
        | inl v ↦ (let a = and_parts (second_lives k) (has t second) v in
            Contains-append_left before behind t (Contains-append_left (only_if (second_lives k) (live_items second)) (live_items held) t (in_if (second_lives k) (live_items second) t a.0 (live_listed second t a.1))))
        | inr v ↦ elim (or_cases (has t held) (has t rest) v) [
          | inl x ↦ Contains-append_left before behind t (Contains-append_right (only_if (second_lives k) (live_items second)) (live_items held) t (live_listed held t x))
          | inr x ↦ Contains-append_right before behind t (later_in id t (live_items rest) (live_listed rest t x))
        ]
      ]
    ]

pub live_items_are_listed : LiveItemsAreListed
live_items_are_listed es t = (listed_lives es t, live_listed es t)
