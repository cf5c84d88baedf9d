-- What an edit leaves among the entries of a region.
use Rattle.std.proofs.Common.{◌≡◌, ℕ, true, false, eqb, Option, refl, sym, ◌∙◌, inl, inr}
use Rattle.std.proofs.lemmas.Bool.{cases_Bool, eqb-true, both_ways, or_left, or_right, or_cases}
use Rattle.tp_scene.specs.Scene.{Side, Entries, none, leaf, node, append}
use Rattle.tp_slots.specs.Edit.{edited_entries, one_place}
use Rattle.tp_slots.specs.Lives.{has_own}

own_left : (x : ℕ) (es fs : Entries) → has_own x es ≡ true → has_own x (append es fs) ≡ true
own_left x none fs e = absurd (both_ways false refl e)
own_left x (leaf id l rest) fs e = elim (or_cases (eqb id x) (has_own x rest) e) [
  | inl a ↦ or_left (eqb id x) (has_own x (append rest fs)) a
  | inr a ↦ or_right (eqb id x) (has_own x (append rest fs)) (own_left x rest fs a)
]
own_left x (node id k h held g second rest) fs e = elim (or_cases (eqb id x) (has_own x rest) e) [
  | inl a ↦ or_left (eqb id x) (has_own x (append rest fs)) a
  | inr a ↦ or_right (eqb id x) (has_own x (append rest fs)) (own_left x rest fs a)
]

own_right : (x : ℕ) (es fs : Entries) → has_own x fs ≡ true → has_own x (append es fs) ≡ true
own_right x none fs e = e
own_right x (leaf id l rest) fs e = or_right (eqb id x) (has_own x (append rest fs)) (own_right x rest fs e)
own_right x (node id k h held g second rest) fs e = or_right (eqb id x) (has_own x (append rest fs)) (own_right x rest fs e)

module _ (t : ℕ) (e : Entries) (marks : ℕ → Option Side) where
  other : (x id : ℕ) → (x ≡ t → ⊥) → eqb id x ≡ true → eqb id t ≡ false
  other x id n a = elim (cases_Bool (eqb id t)) [
    | inl b ↦ absurd (n (sym (eqb-true id x a) ∙ eqb-true id t b))
    | inr b ↦ b
  ]

  pub own_kept : (x : ℕ) (es : Entries) → (x ≡ t → ⊥) → has_own x es ≡ true → has_own x (edited_entries (one_place t e) marks es) ≡ true
  own_kept x none n o = absurd (both_ways false refl o)
  own_kept x (leaf id l rest) n o = elim (or_cases (eqb id x) (has_own x rest) o) [
    | inl a ↦ (let b = other x id n a in rw b (or_left (eqb id x) (has_own x (edited_entries (one_place t e) marks rest)) a))
    | inr a ↦ (let q = own_kept x rest n a in elim (cases_Bool (eqb id t)) [
      | inl b ↦ rw b (own_right x e (edited_entries (one_place t e) marks rest) q)
      | inr b ↦ rw b (or_right (eqb id x) (has_own x (edited_entries (one_place t e) marks rest)) q)
    ])
  ]
  own_kept x (node id k h held g second rest) n o = elim (or_cases (eqb id x) (has_own x rest) o) [
    | inl a ↦ (let b = other x id n a in rw b (or_left (eqb id x) (has_own x (edited_entries (one_place t e) marks rest)) a))
    | inr a ↦ (let q = own_kept x rest n a in elim (cases_Bool (eqb id t)) [
      | inl b ↦ rw b (own_right x e (edited_entries (one_place t e) marks rest) q)
      | inr b ↦ rw b (or_right (eqb id x) (has_own x (edited_entries (one_place t e) marks rest)) q)
    ])
  ]

  pub own_placed : (x : ℕ) (es : Entries) → has_own t es ≡ true → has_own x e ≡ true → has_own x (edited_entries (one_place t e) marks es) ≡ true
  own_placed x none o p = absurd (both_ways false refl o)
  own_placed x (leaf id l rest) o p = elim (cases_Bool (eqb id t)) [
    | inl b ↦ rw b (own_left x e (edited_entries (one_place t e) marks rest) p)
    | inr b ↦ (let q = own_placed x rest (rw b at o) p in rw b (or_right (eqb id x) (has_own x (edited_entries (one_place t e) marks rest)) q))
  ]
  own_placed x (node id k h held g second rest) o p = elim (cases_Bool (eqb id t)) [
    | inl b ↦ rw b (own_left x e (edited_entries (one_place t e) marks rest) p)
    | inr b ↦ (let q = own_placed x rest (rw b at o) p in rw b (or_right (eqb id x) (has_own x (edited_entries (one_place t e) marks rest)) q))
  ]
