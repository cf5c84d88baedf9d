-- How many numbers below another pass.
use Rattle.std.proofs.Common.{◌≡◌, ◌≢◌, ℕ, zero, suc, ◌+◌, ◌-◌, ◌<◌, ◌≤◌, Bool, true, false, cond, ◌++◌, [], ◌∷◌, map, take, count_by, refl, ap, subst, ◌∙◌, inl, inr, arith, add-one}
use Rattle.std.specs.List.{range_with_len}
use Rattle.std.proofs.lemmas.Bool.{false_from_ne_true, cases_eq}
use Rattle.std.proofs.lemmas.List.FromFn.{take-map-range_with_len, map-range_with_len_more}
use Rattle.std.proofs.lemmas.List.Sums.{sum_by_push}
use Rattle.tp_lanes.specs.Planes.{passing_below, HasBetween}

-- from a up
pub climb : (P : ℕ → Type 0) (a : ℕ) → P a → ((b : ℕ) → a ≤ b → P b → P (suc b)) → (b : ℕ) → a ≤ b → P b
climb P a first next zero le = let e : a ≡ zero = omega (arith, le) in subst P e first
climb P a first next (suc b) le = elim (cases_eq a (suc b)) [
  | inl e ↦ subst P e first
  | inr ne ↦ let low : a ≤ b = omega (arith, le, ne) in next b low (climb P a first next b low)
]

at_most_one : (b : Bool) → cond b 1 0 ≤ 1
at_most_one true = omega arith
at_most_one false = omega arith

module _ (f : ℕ → Bool) where
  pub upward : (a b : ℕ) → a ≤ b → passing_below f a ≤ passing_below f b
  upward a = climb (λ b. passing_below f a ≤ passing_below f b) a (omega arith) (λ b le r. omega (arith, r))

  pub at_most : (a b : ℕ) → a ≤ b → passing_below f b ≤ passing_below f a + (b - a)
  at_most a = climb (λ b. passing_below f b ≤ passing_below f a + (b - a)) a (omega arith) (λ b le r. omega (arith, r, le, at_most_one (f b)))

  -- a number that passes counts
  pub counts_there : (k b : ℕ) → k < b → f k ≡ true → passing_below f k < passing_below f b
  counts_there k b less yea =
      let one : ◌≡◌ {A = ℕ} (cond (f k) 1 0) 1 = ap (λ c. cond {A = ℕ} c 1 0) yea in
      let s = upward (suc k) b less in
      omega (arith, s, one)

  pub none_between : (a b k : ℕ) → passing_below f a ≡ passing_below f b → a ≤ k → k < b → f k ≡ false
  none_between a b k e from to = false_from_ne_true (f k) (λ yea. let s = counts_there k b to yea in let u = upward a k from in omega (arith, s, u, e))

  pub nothing_between : (a b : ℕ) → a ≤ b → ((k : ℕ) → a ≤ k → k < b → f k ≡ false) → passing_below f a ≡ passing_below f b
  nothing_between a = climb (λ b. ((k : ℕ) → a ≤ k → k < b → f k ≡ false) → passing_below f a ≡ passing_below f b) a (λ none. refl) (λ b le r none.
      let low = r (λ k from to. none k from (omega (arith, to))) in
      let here : ◌≡◌ {A = ℕ} (cond (f b) 1 0) 0 = ap (λ c. cond {A = ℕ} c 1 0) (none b le (omega arith)) in
      omega (arith, low, here))

  count_of_range : (n : ℕ) → count_by (λ b. b) (map f (range_with_len 0 n)) ≡ passing_below f n
  count_of_range zero = refl
  count_of_range (suc n) =
      let r = count_of_range n in
      let more : map f (range_with_len 0 (suc n)) ≡ map f (range_with_len 0 n) ++ f n ∷ [] =
      subst (λ (x : ℕ). map f (range_with_len 0 x) ≡ map f (range_with_len 0 n) ++ f n ∷ []) (add-one n) (map-range_with_len_more f 0 n n (omega arith)) in
      ap (count_by (λ b. b)) more ∙ (sum_by_push (λ b. cond b 1 0) (map f (range_with_len 0 n)) (f n) ∙ ap (λ (x : ℕ). x + cond (f n) 1 0) r)

  -- the count of a list of flags
  pub counted : (bound n : ℕ) → n ≤ bound → count_by (λ b. b) (take n (map f (range_with_len 0 bound))) ≡ passing_below f n
  counted bound n le = ap (count_by (λ b. b)) (take-map-range_with_len f 0 bound n le) ∙ count_of_range n

module _ (f g : ℕ → Bool) where
  pub same_between : (a b : ℕ) → a ≤ b → ((k : ℕ) → a ≤ k → k < b → f k ≡ g k) → passing_below f b + passing_below g a ≡ passing_below g b + passing_below f a
  same_between a = climb (λ b. ((k : ℕ) → a ≤ k → k < b → f k ≡ g k) → passing_below f b + passing_below g a ≡ passing_below g b + passing_below f a) a (λ same. omega arith) (λ b le r same.
      let low = r (λ k from to. same k from (omega (arith, to))) in
      let here : ◌≡◌ {A = ℕ} (cond (f b) 1 0) (cond (g b) 1 0) = ap (λ c. cond {A = ℕ} c 1 0) (same b le (omega arith)) in
      omega (arith, low, here))

  -- a count stands where nothing between changes
  pub count_stays : (a b c : ℕ) → a ≤ b → ((k : ℕ) → a ≤ k → k < b → f k ≡ g k) → HasBetween f a b c → HasBetween g a b c
  count_stays a b c le same has = let s = same_between a b le same in omega (arith, s, has)

  -- two that differ at k alone
  module _ (k : ℕ) (others : (i : ℕ) → i ≢ k → f i ≡ g i) where
    pub edited_behind : (n : ℕ) → n ≤ k → passing_below f n ≡ passing_below g n
    edited_behind n le = let s = same_between 0 n (omega arith) (λ i from to. others i (λ e. omega (arith, e, to, le))) in omega (arith, s)

    pub edited_before : (n : ℕ) → k < n → passing_below f n + cond (g k) 1 0 ≡ passing_below g n + cond (f k) 1 0
    edited_before n less =
        let low = edited_behind k (omega arith) in
        let s = same_between (suc k) n less (λ i from to. others i (λ e. omega (arith, e, from))) in
        omega (arith, low, s)
