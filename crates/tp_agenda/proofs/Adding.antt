-- New items are ready besides what was.
use Rattle.std.proofs.Common.{◌≡◌, ℕ, zero, suc, ◌+◌, ◌<◌, ◌≤◌, Bool, true, false, cond, List, [], ◌∷◌, ◌++◌, length, length-set, take, get_or, slice_set, Some, ap, sym, ◌∙◌, subst, inl, inr, ◌⊎◌, arith}
use Rattle.std.specs.List.{filter}
use Rattle.std.proofs.lemmas.Bool.{cases_Bool, cases_eq}
use Rattle.std.proofs.lemmas.List.{append-nil, get_or-set_same, get_or-set_other}
use Rattle.std.proofs.lemmas.List.Elements.{filter_more}
use Rattle.tp_lanes.specs.Planes.{flag}
use Rattle.tp_agenda.specs.Held.{IsAmong, AddsReady}
use Rattle.tp_agenda.proofs.Places.{at_left, at_last, at_cases}
use Rattle.tp_agenda.proofs.Waking.{set_kept}

among_cases : {A : Type 0} (x : A) (xs : List A) (u : A) → IsAmong (x ∷ xs) u → (x ≡ u) ⊎ IsAmong xs u
among_cases x xs u (zero, e) = inl (cc)
among_cases x xs u (suc i, e) = inr (i, e)

-- the items of a filter
pub filtered : {A : Type 0} (p : A → Bool) (xs : List A) (u : A) → IsAmong (filter p xs) u → IsAmong xs u × (p u ≡ true)
filtered p [] u a = absurd (let e = a.1 in cc)
filtered {A} p (x ∷ xs) u a = elim (cases_Bool (p x)) [
  | inl is ↦ elim (among_cases x (filter p xs) u (subst (λ b. IsAmong (cond b (x ∷ filter p xs) (filter p xs)) u) is a)) [
    | inl same ↦ ((0, ap Some same), subst (λ (z : A). p z ≡ true) same is)
    | inr later ↦ (let h = filtered p xs u later in ((suc h.0.0, h.0.1), h.1))
  ]
  | inr isnt ↦ (let h = filtered p xs u (subst (λ b. IsAmong (cond b (x ∷ filter p xs) (filter p xs)) u) isnt a) in ((suc h.0.0, h.0.1), h.1))
]

pub passes_filter : {A : Type 0} (p : A → Bool) (xs : List A) (u : A) → IsAmong xs u → p u ≡ true → IsAmong (filter p xs) u
passes_filter p [] u a is = absurd (let e = a.1 in cc)
passes_filter {A} p (x ∷ xs) u a is = elim (among_cases x xs u a) [
  | inl same ↦ subst (λ b. IsAmong (cond b (x ∷ filter p xs) (filter p xs)) u) (sym (subst (λ (z : A). p z ≡ true) (sym same) is)) (0, ap Some same)
  | inr later ↦ (let h = passes_filter p xs u later is in elim (cases_Bool (p x)) [
    | inl yes_x ↦ subst (λ b. IsAmong (cond b (x ∷ filter p xs) (filter p xs)) u) (sym yes_x) (suc h.0, h.1)
    | inr no_x ↦ subst (λ b. IsAmong (cond b (x ∷ filter p xs) (filter p xs)) u) (sym no_x) h
  ])
]

pub adds_none : (ready : List Bool) → AddsReady [] ready ready
adds_none ready = record {
  room = omega arith;
  kept = λ u e. e;
  only = λ u e. inl e;
  all = λ u a. absurd (let e = a.1 in cc);
}

pub adds_one : (news : List ℕ) (ready after : List Bool) (x : ℕ) → x < length after → AddsReady news ready after → AddsReady (news ++ x ∷ []) ready (slice_set after x true)
adds_one news ready after x within h = record {
  room = let l = length-set after x true in let r = h.room in omega (arith, l, r);
  kept = λ u e. set_kept after x u within (h.kept u e);
  only = λ u e. elim (cases_eq u x) [
    | inl same ↦ inr (length news, at_last news x ∙ ap Some (sym same))
    | inr other ↦ elim (h.only u (sym (get_or-set_other after x u true false other) ∙ e)) [
      | inl was ↦ inl was
      | inr a ↦ inr (a.0, at_left news x a.0 u a.1)
    ]
  ];
  all = λ u a. elim (at_cases news x a.0 u a.1) [
    | inl before ↦ set_kept after x u within (h.all u (a.0, before))
    | inr last ↦ subst (λ k. flag (slice_set after x true) k ≡ true) last.1 (get_or-set_same after x true false within)
  ];
}

module _ (p : ℕ → Bool) (items : List ℕ) (i x : ℕ) (less : i < length items) (at : get_or items i x ≡ x) (ready after : List Bool) (h : AddsReady (filter p (take i items)) ready after) where
  passed : filter p (take (i + 1) items) ≡ filter p (take i items) ++ cond (p x) (x ∷ []) []
  passed = filter_more p items i x less ∙ ap (λ y. filter p (take i items) ++ cond (p y) (y ∷ []) []) at

  pub adds_passing : p x ≡ true → x < length after → AddsReady (filter p (take (i + 1) items)) ready (slice_set after x true)
  adds_passing is within =
      subst (λ ns. AddsReady ns ready (slice_set after x true)) (sym (passed ∙ ap (λ b. filter p (take i items) ++ cond b (x ∷ []) []) is)) (adds_one (filter p (take i items)) ready after x within h)

  pub adds_no_more : p x ≡ false → AddsReady (filter p (take (i + 1) items)) ready after
  adds_no_more isnt =
      subst (λ ns. AddsReady ns ready after) (sym (passed ∙ ap (λ b. filter p (take i items) ++ cond b (x ∷ []) []) isnt ∙ append-nil (filter p (take i items)))) h

-- where it was made larger before
pub adds_grown : (news : List ℕ) (ready grown after : List Bool) → length ready ≤ length grown → ((t : ℕ) → flag grown t ≡ flag ready t) → AddsReady news grown after → AddsReady news ready after
adds_grown news ready grown after larger same h = record {
  room = let r = h.room in omega (arith, larger, r);
  kept = λ u e. h.kept u (same u ∙ e);
  only = λ u e. elim (h.only u e) [ inl was ↦ inl (sym (same u) ∙ was) | inr a ↦ inr a ];
  all = h.all;
}
