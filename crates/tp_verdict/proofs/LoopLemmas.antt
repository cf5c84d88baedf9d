-- Verdicts on suffixes and loops, from the last start down.
use Rattle.std.proofs.Common.{◌≡◌, ℕ, zero, suc, ◌-◌, ◌<◌, ◌≤◌, List, [], ◌∷◌, length, ◌∙◌, ap, sym, refl, subst, inl, inr, arith, eqb, true, false, if◌then◌else◌, eq-eqb}
use Rattle.std.specs.Prelude.{slice_set}
use Rattle.std.proofs.lemmas.Bool.{cases_eq, cases_lt, ne_eqb}
use Rattle.tp_verdict.specs.Verdict.{Verdict, no, both_of, one_of, some_from}
use Rattle.tp_verdict.specs.Trace.{Table, looped}
use Rattle.tp_verdict.specs.Stored.{verdict_at, stored, OfEachRow, HaveVerdicts, joined_from}
use Rattle.tp_verdict.specs.declared.verdict_row.VerdictRow.{VerdictRow}
use Rattle.tp_verdict.proofs.TableLemmas.{one_of-no, both_of-no, of_set, row_there, stored_in, stored_past, have_verdicts, some_same, some_none, some_until}

-- on some suffix
module _ (body rows : List VerdictRow) (n : ℕ) where
  abbrev pub SuffixFrom : ℕ → Type 0
  SuffixFrom low = OfEachRow (λ k r. low ≤ k → (j : ℕ) → verdict_at r j ≡ some_from (n - k) k (λ x. stored body x j)) rows

  suffix_behind : n ≡ length rows → (i j : ℕ) → i < n → SuffixFrom (suc i) → stored rows (suc i) j ≡ some_from (n - suc i) (suc i) (λ x. stored body x j)
  suffix_behind m i j l each = elim (cases_lt (suc i) n) [
    | inl h ↦ (let r = row_there rows (suc i) (omega (arith, h, m)) in stored_in rows (suc i) j r.0 r.1 ∙ each (suc i) r.0 r.1 (omega arith) j)
    | inr h ↦ (let z : n - suc i ≡ 0 = omega (arith, h) in
        stored_past rows (suc i) j (omega (arith, h, m)) ∙ subst (λ y. no ≡ some_from y (suc i) (λ x. stored body x j)) (sym z) refl)
  ]

  suffix_more : n ≡ length rows → (i : ℕ) → i < n → SuffixFrom (suc i) → (row : VerdictRow)
      → ((j : ℕ) → verdict_at row j ≡ one_of (stored body i j) (stored rows (suc i) j))
      → (j : ℕ) → verdict_at row j ≡ some_from (n - i) i (λ x. stored body x j)
  suffix_more m i l each row h j =
      let z : n - i ≡ suc (n - suc i) = omega (arith, l) in
      subst (λ y. verdict_at row j ≡ some_from y i (λ x. stored body x j)) (sym z)
      (h j ∙ ap (one_of (stored body i j)) (suffix_behind m i j l each))

pub suffix_set : (body rows : List VerdictRow) (n i : ℕ) → n ≡ length rows → i < n → SuffixFrom body rows n (suc i) → (row : VerdictRow)
    → ((j : ℕ) → verdict_at row j ≡ one_of (stored body i j) (stored rows (suc i) j)) → SuffixFrom body (slice_set rows i row) n i
suffix_set body rows n i m l each row h = of_set (λ k r. i ≤ k → (j : ℕ) → verdict_at r j ≡ some_from (n - k) k (λ x. stored body x j)) rows i row
    (λ k r d e g. each k r e (omega (arith, d, g))) (λ g. suffix_more body rows n m i l each row h)

pub suffixes : (f : ℕ → ℕ → Verdict) (body rows : List VerdictRow) → HaveVerdicts f body → length rows ≡ length body
    → SuffixFrom body rows (length body) 0 → HaveVerdicts (λ i j. some_from (suc j - i) i (λ k. f k j)) rows
suffixes f body rows b m each = have_verdicts (λ i j. some_from (suc j - i) i (λ k. f k j)) rows
    (λ i r e j l. each i r e (omega arith) j ∙ some_none (length body - i) i (λ x. stored body x j) (λ x d. b.before x j (omega (arith, d, l))))
    (λ i r e j l h. each i r e (omega arith) j
    ∙ some_until (length body - i) i (suc j) (λ x. stored body x j) (λ x d. b.before x j (omega (arith, d))) (omega (arith, l, h, m))
    ∙ some_same (suc j - i) i (λ x. stored body x j) (λ x. f x j) (λ x lo hi. b.parts x j (omega (arith, l, lo, hi)) (omega (arith, h, m))))

-- turns beyond those that are needed change nothing
pub looped_enough : (t s : ℕ → Verdict) (b : Table) (m p k j : ℕ) → k ≤ j → j - k ≤ m → j - k ≤ p → looped t s b m k j ≡ looped t s b p k j
looped_enough t s b zero zero k j l g h = refl
looped_enough t s b zero (suc p) k j l g h = let e : eqb k j ≡ true = eq-eqb k j (omega (arith, l, g)) in rw e refl
looped_enough t s b (suc m) zero k j l g h = let e : eqb k j ≡ true = eq-eqb k j (omega (arith, l, h)) in rw e refl
looped_enough t s b (suc m) (suc p) k j l g h =
    ap (λ v. if eqb k j then s k else both_of (t k) v)
    (some_same (j - k) (suc k) (λ x. both_of (b k x) (looped t s b m x j)) (λ x. both_of (b k x) (looped t s b p x j)) (λ x lo hi.
    ap (both_of (b k x)) (looped_enough t s b m p x j (omega (arith, l, lo, hi)) (omega (arith, l, g, lo, hi)) (omega (arith, l, h, lo, hi)))))

-- what is known alike up to a state gives loops alike
pub looped_same : (t s : ℕ → Verdict) (b : Table) (t' s' : ℕ → Verdict) (b' : Table) (n : ℕ)
    → ((k : ℕ) → k < n → t k ≡ t' k) → ((k : ℕ) → k < n → s k ≡ s' k) → ((k x : ℕ) → k ≤ x → x < n → b k x ≡ b' k x)
    → (m i j : ℕ) → i ≤ j → j < n → looped t s b m i j ≡ looped t' s' b' m i j
looped_same t s b t' s' b' n p q r zero i j l h = ap (λ v. if eqb i j then v else no) (q i (omega (arith, l, h)))
looped_same t s b t' s' b' n p q r (suc m) i j l h =
    ap (λ v. if eqb i j then v else both_of (t i) (some_from (j - i) (suc i) (λ x. both_of (b i x) (looped t s b m x j)))) (q i (omega (arith, l, h)))
    ∙ ap (λ v. if eqb i j then s' i else both_of v (some_from (j - i) (suc i) (λ x. both_of (b i x) (looped t s b m x j)))) (p i (omega (arith, l, h)))
    ∙ ap (λ v. if eqb i j then s' i else both_of (t' i) v)
    (some_same (j - i) (suc i) (λ x. both_of (b i x) (looped t s b m x j)) (λ x. both_of (b' i x) (looped t' s' b' m x j)) (λ x lo hi.
    ap (λ v. both_of v (looped t s b m x j)) (r i x (omega (arith, lo)) (omega (arith, l, h, lo, hi)))
    ∙ ap (both_of (b' i x)) (looped_same t s b t' s' b' n p q r m x j (omega (arith, l, lo, hi)) h)))

module _ (t s : ℕ → Verdict) (body rows : List VerdictRow) (n : ℕ) where
  -- The rows from a start on are those of loops.
  pub record LoopsFrom (low : ℕ) : Type 0 where
    pub before : (k j : ℕ) → low ≤ k → j < k → stored rows k j ≡ no
    pub parts : (k j : ℕ) → low ≤ k → k ≤ j → j < n → stored rows k j ≡ looped t s (stored body) (j - k) k j

  abbrev turn : (i j : ℕ) → ℕ → Verdict
  turn i j x = both_of (stored body i x) (stored rows x j)

  pub none_joined : (i j : ℕ) → LoopsFrom (suc i) → j ≤ i → joined_from (n - suc i) (suc i) (stored body i) rows j ≡ no
  none_joined i j b l = some_none (n - suc i) (suc i) (turn i j) (λ x d. ap (both_of (stored body i x)) (b.before x j d (omega (arith, d, l))) ∙ both_of-no (stored body i x))

  pub turns_joined : (i j : ℕ) → LoopsFrom (suc i) → i < j → j < n
      → both_of (t i) (joined_from (n - suc i) (suc i) (stored body i) rows j) ≡ looped t s (stored body) (j - i) i j
  turns_joined i j b l h =
      let z : j - i ≡ suc (j - suc i) = omega (arith, l) in
      let y : suc j - suc i ≡ j - i = omega (arith, l) in
      let e : eqb i j ≡ false = ne_eqb i j (λ q. omega (arith, q, l)) in
      let later : ℕ → Verdict = λ x. both_of (stored body i x) (looped t s (stored body) (j - suc i) x j) in
      let joined : joined_from (n - suc i) (suc i) (stored body i) rows j ≡ some_from (j - i) (suc i) later =
      some_until (n - suc i) (suc i) (suc j) (turn i j) (λ x d. ap (both_of (stored body i x)) (b.before x j (omega (arith, d, l)) (omega (arith, d))) ∙ both_of-no (stored body i x)) (omega (arith, h, l))
      ∙ ap (λ c. some_from c (suc i) (turn i j)) y
      ∙ some_same (j - i) (suc i) (turn i j) later (λ x lo hi. ap (both_of (stored body i x))
      (b.parts x j lo (omega (arith, l, lo, hi)) h ∙ looped_enough t s (stored body) (j - x) (j - suc i) x j (omega (arith, l, lo, hi)) (omega arith) (omega (arith, lo)))) in
      subst (λ c. both_of (t i) (joined_from (n - suc i) (suc i) (stored body i) rows j) ≡ looped t s (stored body) c i j) (sym z)
      (rw e (ap (both_of (t i)) joined))

-- a row that is put in its place
stored_here : (rows : List VerdictRow) (i j : ℕ) (row : VerdictRow) → i < length rows → stored (slice_set rows i row) i j ≡ verdict_at row j
stored_here [] i j row l = absurd (omega (arith, l))
stored_here (x ∷ xs) zero j row l = refl
stored_here (x ∷ xs) (suc i) j row l = stored_here xs i j row (omega (arith, l))

stored_there : (rows : List VerdictRow) (i k j : ℕ) (row : VerdictRow) → (k ≡ i → ⊥) → stored (slice_set rows i row) k j ≡ stored rows k j
stored_there [] i k j row o = refl
stored_there (x ∷ xs) zero zero j row o = absurd (o refl)
stored_there (x ∷ xs) zero (suc k) j row o = refl
stored_there (x ∷ xs) (suc i) zero j row o = refl
stored_there (x ∷ xs) (suc i) (suc k) j row o = stored_there xs i k j row (λ q. o (omega (arith, q)))

module _ (t s : ℕ → Verdict) (body rows : List VerdictRow) (n i : ℕ) (many : n ≡ length rows) (start : i < n) (behind : LoopsFrom t s body rows n (suc i)) (row : VerdictRow)
    (here : verdict_at row i ≡ one_of (s i) (both_of (t i) (joined_from (n - suc i) (suc i) (stored body i) rows i)))
    (others : (j : ℕ) → (j ≡ i → ⊥) → verdict_at row j ≡ both_of (t i) (joined_from (n - suc i) (suc i) (stored body i) rows j)) where
  abbrev now : List VerdictRow
  now = slice_set rows i row

  row_before : (j : ℕ) → j < i → stored now i j ≡ no
  row_before j l =
      stored_here rows i j row (omega (arith, many, start)) ∙ others j (λ q. omega (arith, q, l))
      ∙ ap (both_of (t i)) (none_joined t s body rows n i j behind (omega (arith, l))) ∙ both_of-no (t i)

  row_end : stored now i i ≡ looped t s (stored body) (i - i) i i
  row_end =
      let z : i - i ≡ 0 = omega arith in
      let e : eqb i i ≡ true = eq-eqb i i refl in
      stored_here rows i i row (omega (arith, many, start)) ∙ here
      ∙ ap (λ v. one_of (s i) (both_of (t i) v)) (none_joined t s body rows n i i behind (omega arith))
      ∙ ap (one_of (s i)) (both_of-no (t i)) ∙ one_of-no (s i)
      ∙ subst (λ c. s i ≡ looped t s (stored body) c i i) (sym z) (rw e refl)

  row_part : (j : ℕ) → i ≤ j → j < n → stored now i j ≡ looped t s (stored body) (j - i) i j
  row_part j l h = elim (cases_eq j i) [
    | inl q ↦ subst (λ x. stored now i x ≡ looped t s (stored body) (x - i) i x) (sym q) row_end
    | inr o ↦ stored_here rows i j row (omega (arith, many, start)) ∙ others j o ∙ turns_joined t s body rows n i j behind (omega (arith, l, o)) h
  ]

  pub loops_set : LoopsFrom t s body now n i
  loops_set = record {
    before = λ k j l d. elim (cases_eq k i) [
      | inl q ↦ subst (λ x. j < x → stored now x j ≡ no) (sym q) (row_before j) d
      | inr o ↦ stored_there rows i k j row o ∙ behind.before k j (omega (arith, l, o)) d
    ];
    parts = λ k j l lo hi. elim (cases_eq k i) [
      | inl q ↦ subst (λ x. x ≤ j → stored now x j ≡ looped t s (stored body) (j - x) x j) (sym q) (λ a. row_part j a hi) lo
      | inr o ↦ stored_there rows i k j row o ∙ behind.parts k j (omega (arith, l, o)) lo hi
    ];
  }

pub loops : (t s : ℕ → Verdict) (f : ℕ → ℕ → Verdict) (body rows : List VerdictRow) → HaveVerdicts f body → length rows ≡ length body
    → LoopsFrom t s body rows (length body) 0 → HaveVerdicts (λ i j. looped t s f (j - i) i j) rows
loops t s f body rows b m each = record {
  before = λ i j l. each.before i j (omega arith) l;
  parts = λ i j l h. each.parts i j (omega arith) l (omega (arith, h, m))
      ∙ looped_same t s (stored body) t s f (length body) (λ k d. refl) (λ k d. refl) b.parts (j - i) i j l (omega (arith, h, m));
}

-- equal parts of what a row holds at its own start, and at another end
pub alike_here : (v u x v' u' x' y : Verdict) → y ≡ one_of v (both_of u x) → v ≡ v' → u ≡ u' → x ≡ x' → y ≡ one_of v' (both_of u' x')
alike_here v u x v' u' x' y e p q r =
    e ∙ ap (λ z. one_of z (both_of u x)) p ∙ ap (λ z. one_of v' (both_of z x)) q ∙ ap (λ z. one_of v' (both_of u' z)) r

pub alike_there : (u x u' x' y : Verdict) → y ≡ both_of u x → u ≡ u' → x ≡ x' → y ≡ both_of u' x'
alike_there u x u' x' y e q r = e ∙ ap (λ z. both_of z x) q ∙ ap (both_of u') r
