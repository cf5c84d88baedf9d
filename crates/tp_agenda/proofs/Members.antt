-- The members of a set, by increasing number.
use Rattle.std.proofs.Common.{◌≡◌, ℕ, zero, suc, ◌+◌, ◌<◌, ◌≤◌, Bool, true, false, List, [], ◌∷◌, ◌++◌, length, take, slice_get, count_by, Some, refl, ap, sym, ◌∙◌, subst, inl, inr, arith, below_more}
use Rattle.std.specs.List.{Contains, All}
use Rattle.std.specs.List.Sorted.{IsStrictlyIncreasing}
use Rattle.std.proofs.lemmas.Bool.{both_ways, cases_Bool}
use Rattle.std.proofs.lemmas.List.{places}
use Rattle.std.proofs.lemmas.List.Elements.{All-push, All-weaker, Contains-append_left, Contains-append_cases, Contains-push}
use Rattle.std.proofs.lemmas.List.Sums.{count_by_more_yes, count_by_more_no}
use Rattle.std.proofs.Math.Seq.{take-length}
use Rattle.tp_lanes.specs.Planes.{flag}
use Rattle.tp_slots.proofs.NumberSets.{flag_within}
use Rattle.tp_agenda.proofs.Places.{at_left, at_last}

-- These are the members below n, each at the place that the number of those before it tells.
pub record AreMembersBelow (xs : List Bool) (n : ℕ) (ms : List ℕ) : Type 0 where
  pub rising : IsStrictlyIncreasing ms
  pub below : All (λ t. t < n) ms
  pub member : (t : ℕ) → Contains ms t → flag xs t ≡ true
  pub each : (t : ℕ) → t < n → flag xs t ≡ true → Contains ms t
  pub count : length ms ≡ count_by (λ b. b) (take n xs)
  pub placed : (t : ℕ) → t < n → flag xs t ≡ true → slice_get ms (count_by (λ b. b) (take t xs)) ≡ Some t

nothing_in : (t : ℕ) → Contains [] t → ⊥
nothing_in t c = let l = c.1 in absurd (omega (arith, l))

one_in : (x t : ℕ) → Contains (x ∷ []) t → t ≡ x
one_in x t (zero, less, e) = sym e
one_in x t (suc k, less, e) = absurd (omega (arith, less))

none_below : (xs : List Bool) → AreMembersBelow xs 0 []
none_below xs = record {
  rising = λ k less. absurd (omega (arith, less));
  below = λ k d less. absurd (omega (arith, less));
  member = λ t c. absurd (nothing_in t c);
  each = λ t less. absurd (omega (arith, less));
  count = refl;
  placed = λ t less. absurd (omega (arith, less));
}

one_more : (xs : List Bool) (n : ℕ) (ms : List ℕ) → n < length xs → AreMembersBelow xs n ms → flag xs n ≡ true → AreMembersBelow xs (n + 1) (ms ++ n ∷ [])
one_more xs n ms l h is = record {
  rising = λ k less. grind (arith, places, h.rising k, h.below k);
  below = All-push (λ t. t < n + 1) ms n (All-weaker (λ t. t < n) (λ t. t < n + 1) (λ t less. omega (arith, less)) ms h.below) (omega arith);
  member = λ t c. elim (Contains-append_cases ms (n ∷ []) t c) [ inl before ↦ h.member t before | inr it ↦ subst (λ u. flag xs u ≡ true) (sym (one_in n t it)) is ];
  each = below_more (λ t. flag xs t ≡ true → Contains (ms ++ n ∷ []) t) n (λ t less k. Contains-append_left ms (n ∷ []) t (h.each t less k)) (λ k. Contains-push ms n);
  count =
      let a = count_by_more_yes (λ b. b) xs n false l is in
      let e = h.count in
      let m = length_push ms n in
      omega (arith, a, e, m);
  placed = below_more (λ t. flag xs t ≡ true → slice_get (ms ++ n ∷ []) (count_by (λ b. b) (take t xs)) ≡ Some t) n
      (λ t less k. at_left ms n (count_by (λ b. b) (take t xs)) t (h.placed t less k))
      (λ k. subst (λ p. slice_get (ms ++ n ∷ []) p ≡ Some n) h.count (at_last ms n));
}
  where
    length_push : (ys : List ℕ) (y : ℕ) → length (ys ++ y ∷ []) ≡ length ys + 1
    length_push [] y = refl
    length_push (z ∷ zs) y = let e = length_push zs y in omega (arith, e)

no_more : (xs : List Bool) (n : ℕ) (ms : List ℕ) → n < length xs → AreMembersBelow xs n ms → flag xs n ≡ false → AreMembersBelow xs (n + 1) ms
no_more xs n ms l h isnt = record {
  rising = h.rising;
  below = All-weaker (λ t. t < n) (λ t. t < n + 1) (λ t less. omega (arith, less)) ms h.below;
  member = h.member;
  each = below_more (λ t. flag xs t ≡ true → Contains ms t) n h.each (λ k. absurd (both_ways (flag xs n) isnt k));
  count = h.count ∙ sym (count_by_more_no (λ b. b) xs n false l isnt);
  placed = below_more (λ t. flag xs t ≡ true → slice_get ms (count_by (λ b. b) (take t xs)) ≡ Some t) n h.placed (λ k. absurd (both_ways (flag xs n) isnt k));
}

members_below : (xs : List Bool) (n : ℕ) → n ≤ length xs → (ms : List ℕ) × AreMembersBelow xs n ms
members_below xs zero l = ([], none_below xs)
members_below xs (suc n) l =
    let h = members_below xs n (omega (arith, l)) in
    let less : n < length xs = omega (arith, l) in
    let next : n + 1 ≡ suc n = omega arith in
    elim (cases_Bool (flag xs n)) [
      | inl is ↦ (h.0 ++ n ∷ [], subst (λ k. AreMembersBelow xs k (h.0 ++ n ∷ [])) next (one_more xs n h.0 less h.1 is))
      | inr isnt ↦ (h.0, subst (λ k. AreMembersBelow xs k h.0) next (no_more xs n h.0 less h.1 isnt))
    ]

-- These are the members, each at the place that the number of those before it tells.
pub record AreMembers (xs : List Bool) (ms : List ℕ) : Type 0 where
  pub rising : IsStrictlyIncreasing ms
  pub member : (t : ℕ) → Contains ms t → flag xs t ≡ true
  pub each : (t : ℕ) → flag xs t ≡ true → Contains ms t
  pub count : length ms ≡ count_by (λ b. b) xs
  pub placed : (t : ℕ) → flag xs t ≡ true → slice_get ms (count_by (λ b. b) (take t xs)) ≡ Some t

pub members_of : (xs : List Bool) → (ms : List ℕ) × AreMembers xs ms
members_of xs =
    let h = members_below xs (length xs) (omega arith) in (
      h.0,
      record {
        rising = h.1.rising;
        member = h.1.member;
        each = λ t e. h.1.each t (flag_within xs t e) e;
        count = h.1.count ∙ ap (count_by (λ b. b)) (take-length xs);
        placed = λ t e. h.1.placed t (flag_within xs t e) e;
      },
    )
