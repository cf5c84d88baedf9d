-- The live items by number, as far as they are listed.
use Rattle.std.proofs.Common.{◌≡◌, ℕ, ◌+◌, ◌<◌, inl, inr, true, false, List, [], ◌∷◌, ◌++◌, refl, sym, subst, arith, below_more}
use Rattle.std.specs.List.{Contains, All}
use Rattle.std.specs.List.Sorted.{IsStrictlyIncreasing}
use Rattle.std.proofs.lemmas.Bool.{both_ways}
use Rattle.std.proofs.lemmas.List.{places}
use Rattle.std.proofs.lemmas.List.Elements.{All-push, All-weaker, Contains-append_left, Contains-append_cases, Contains-push}
use Rattle.tp_scene.specs.Scene.{Entries, has}
use Rattle.tp_pass.specs.Sweeps.{IsLiveByNumber}
use Rattle.tp_pass.proofs.Sweeping.{only_one, nothing_there}

-- These are the live items below n, by increasing number.
pub record AreLiveBelow (es : Entries) (n : ℕ) (items : List ℕ) : Type 0 where
  pub rising : IsStrictlyIncreasing items
  pub below : All (λ t. t < n) items
  pub live : (t : ℕ) → Contains items t → has t es ≡ true
  pub each : (t : ℕ) → t < n → has t es ≡ true → Contains items t

pub none_live_below : (es : Entries) → AreLiveBelow es 0 []
none_live_below es = record {
  rising = λ k less. absurd (omega (arith, less));
  below = λ k d less. absurd (omega (arith, less));
  live = λ t h. absurd (nothing_there [] t refl h);
  each = λ t less. absurd (omega (arith, less));
}

-- one more number, which is live or not
pub one_live : (es : Entries) (n : ℕ) (items : List ℕ) → AreLiveBelow es n items → has n es ≡ true → AreLiveBelow es (n + 1) (items ++ n ∷ [])
one_live es n items h lives = record {
  rising = λ k less. grind (arith, places, h.rising k, h.below k);
  below = All-push (λ t. t < n + 1) items n (All-weaker (λ t. t < n) (λ t. t < n + 1) (λ t less. omega (arith, less)) items h.below) (omega arith);
  live = λ t c. elim (Contains-append_cases items (n ∷ []) t c) [ inl before ↦ h.live t before | inr it ↦ subst (λ u. has u es ≡ true) (sym (only_one n t it)) lives ];
  each = below_more (λ t. has t es ≡ true → Contains (items ++ n ∷ []) t) n (λ t less k. Contains-append_left items (n ∷ []) t (h.each t less k)) (λ k. Contains-push items n);
}

pub not_live : (es : Entries) (n : ℕ) (items : List ℕ) → AreLiveBelow es n items → has n es ≡ false → AreLiveBelow es (n + 1) items
not_live es n items h gone = record {
  rising = h.rising;
  below = All-weaker (λ t. t < n) (λ t. t < n + 1) (λ t less. omega (arith, less)) items h.below;
  live = h.live;
  each = below_more (λ t. has t es ≡ true → Contains items t) n h.each (λ lives. absurd (both_ways (has n es) gone lives));
}

pub all_live : (es : Entries) (n : ℕ) (items : List ℕ) → AreLiveBelow es n items → ((t : ℕ) → has t es ≡ true → t < n) → IsLiveByNumber es items
all_live es n items h below = record { rising = h.rising; live = λ t. (h.live t, λ lives. h.each t (below t lives) lives) }
