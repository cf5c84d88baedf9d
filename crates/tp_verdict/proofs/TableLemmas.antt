-- Verdicts in rows and tables.
use Rattle.std.proofs.Common.{◌≡◌, ℕ, zero, suc, ◌+◌, ◌-◌, ◌<◌, ◌≤◌, length-append, List, [], ◌∷◌, ◌++◌, length, Option, Some, None, slice_get, get_or, ◌∙◌, ap, sym, refl, subst, inl, inr, arith}
use Rattle.std.specs.Prelude.{slice_set}
use Rattle.std.proofs.lemmas.Bool.{cases_eq, cases_lt}
use Rattle.std.proofs.lemmas.Option.{slice_get-get_or}
use Rattle.tp_verdict.specs.Verdict.{Verdict, yes, no, undecided, both_of, one_of, some_from}
use Rattle.tp_verdict.specs.Stored.{verdict_at, or_no, stored, OfEachRow, HaveVerdicts, joined_from}
use Rattle.tp_verdict.specs.declared.verdict_row.VerdictRow.{VerdictRow}

pub one_of-no : (v : Verdict) → one_of v no ≡ v
one_of-no yes = refl
one_of-no no = refl
one_of-no undecided = refl

pub both_of-no : (v : Verdict) → both_of v no ≡ no
both_of-no yes = refl
both_of-no no = refl
both_of-no undecided = refl

-- rows by their numbers
pub of_pushed : (Says : ℕ → VerdictRow → Type 0) (rows : List VerdictRow) (row : VerdictRow) (k : ℕ) → k ≡ length rows
    → OfEachRow Says rows → Says k row → OfEachRow Says (rows ++ row ∷ [])
of_pushed Says [] row k q each here zero r e = let same : row ≡ r = cc in let first : k ≡ 0 = q in subst (λ x. Says 0 x) same (subst (λ x. Says x row) first here)
of_pushed Says [] row k q each here (suc i) r e = absurd (cc)
of_pushed Says (x ∷ xs) row k q each here zero r e = each zero r e
of_pushed Says (x ∷ xs) row zero q each here (suc i) r e = absurd (omega (arith, q))
of_pushed Says (x ∷ xs) row (suc k) q each here (suc i) r e = of_pushed (λ y. Says (suc y)) xs row k (omega (arith, q)) (λ y s d. each (suc y) s d) here i r e

pub of_set : (Says : ℕ → VerdictRow → Type 0) (rows : List VerdictRow) (k : ℕ) (row : VerdictRow)
    → ((i : ℕ) (r : VerdictRow) → (i ≡ k → ⊥) → slice_get rows i ≡ Some r → Says i r) → Says k row → OfEachRow Says (slice_set rows k row)
of_set Says [] k row each here i r e = absurd (cc)
of_set Says (x ∷ xs) zero row each here zero r e = let same : row ≡ r = cc in subst (Says 0) same here
of_set Says (x ∷ xs) zero row each here (suc i) r e = each (suc i) r (λ q. omega (arith, q)) e
of_set Says (x ∷ xs) (suc k) row each here zero r e = each zero r (λ q. omega (arith, q)) e
of_set Says (x ∷ xs) (suc k) row each here (suc i) r e =
    of_set (λ y. Says (suc y)) xs k row (λ y s n d. each (suc y) s (λ q. n (omega (arith, q))) d) here i r e

pub row_there : (rows : List VerdictRow) (i : ℕ) → i < length rows → (r : VerdictRow) × (slice_get rows i ≡ Some r)
row_there [] i l = absurd (omega (arith, l))
row_there (x ∷ xs) zero l = (x, refl)
row_there (x ∷ xs) (suc i) l = row_there xs i (omega (arith, l))

pub stored_in : (rows : List VerdictRow) (i j : ℕ) (r : VerdictRow) → slice_get rows i ≡ Some r → stored rows i j ≡ verdict_at r j
stored_in rows i j r e = ap (or_no (λ (row : VerdictRow). verdict_at row j)) e

pub stored_read : (rows : List VerdictRow) (i j : ℕ) (r : VerdictRow) → i < length rows → r ≡ get_or rows i r → stored rows i j ≡ verdict_at r j
stored_read rows i j r l e = stored_in rows i j r (slice_get-get_or rows i r l ∙ ap Some (sym e))

stored_when : (rows : List VerdictRow) (i j : ℕ) (v : Verdict) (o : Option VerdictRow) → slice_get rows i ≡ o → v ≡ no
    → ((r : VerdictRow) → slice_get rows i ≡ Some r → verdict_at r j ≡ v) → stored rows i j ≡ v
stored_when rows i j v None e n h = ap (or_no (λ (row : VerdictRow). verdict_at row j)) e ∙ sym n
stored_when rows i j v (Some r) e n h = stored_in rows i j r e ∙ h r e

-- beyond the rows nothing is stored
pub stored_past : (rows : List VerdictRow) (i j : ℕ) → length rows ≤ i → stored rows i j ≡ no
stored_past [] i j l = refl
stored_past (x ∷ xs) zero j l = absurd (omega (arith, l))
stored_past (x ∷ xs) (suc i) j l = stored_past xs i j (omega (arith, l))

pub have_verdicts : (f : ℕ → ℕ → Verdict) (rows : List VerdictRow)
    → OfEachRow (λ i r. (j : ℕ) → j < i → verdict_at r j ≡ no) rows
    → OfEachRow (λ i r. (j : ℕ) → i ≤ j → j < length rows → verdict_at r j ≡ f i j) rows
    → HaveVerdicts f rows
have_verdicts f rows before parts = record {
  before = λ i j l. stored_when rows i j no (slice_get rows i) refl refl (λ r e. before i r e j l);
  parts = λ i j l h. let r = row_there rows i (omega (arith, l, h)) in stored_in rows i j r.0 r.1 ∙ parts i r.0 r.1 j l h;
}

-- one of some verdicts
pub some_same : (m k : ℕ) (f g : ℕ → Verdict) → ((x : ℕ) → k ≤ x → x < m + k → f x ≡ g x) → some_from m k f ≡ some_from m k g
some_same zero k f g h = refl
some_same (suc m) k f g h =
    ap (λ v. one_of v (some_from m (suc k) f)) (h k (omega arith) (omega arith))
    ∙ ap (one_of (g k)) (some_same m (suc k) f g (λ x l u. h x (omega (arith, l)) (omega (arith, u))))

pub some_none : (m k : ℕ) (f : ℕ → Verdict) → ((x : ℕ) → k ≤ x → f x ≡ no) → some_from m k f ≡ no
some_none zero k f h = refl
some_none (suc m) k f h =
    ap (λ v. one_of v (some_from m (suc k) f)) (h k (omega arith))
    ∙ some_none m (suc k) f (λ x l. h x (omega (arith, l)))

-- those from e on are no
pub some_until : (m k e : ℕ) (f : ℕ → Verdict) → ((x : ℕ) → e ≤ x → f x ≡ no) → e ≤ m + k → some_from m k f ≡ some_from (e - k) k f
some_until zero k e f h l = let z : e - k ≡ 0 = omega (arith, l) in subst (λ n. no ≡ some_from n k f) (sym z) refl
some_until (suc m) k e f h l = elim (cases_lt k e) [
  | inl u ↦ (let z : e - k ≡ suc (e - suc k) = omega (arith, u) in
      subst (λ n. some_from (suc m) k f ≡ some_from n k f) (sym z) (ap (one_of (f k)) (some_until m (suc k) e f h (omega (arith, l)))))
  | inr u ↦ (let z : e - k ≡ 0 = omega (arith, u) in
      subst (λ n. some_from (suc m) k f ≡ some_from n k f) (sym z) (some_none (suc m) k f (λ x d. h x (omega (arith, d, u)))))
]

-- one cut more in front
pub joined_more : (f : ℕ → Verdict) (rows : List VerdictRow) (n k c j : ℕ) (old new v : Verdict) → c + 1 ≡ k → k ≤ n
    → new ≡ one_of (both_of v (stored rows c j)) old → v ≡ f c → old ≡ joined_from (n - k) k f rows j → new ≡ joined_from (n - c) c f rows j
joined_more f rows n k c j old new v q l e here before =
    let z : n - c ≡ suc (n - k) = omega (arith, q, l) in
    let s : suc c ≡ k = omega (arith, q) in
    subst (λ m. new ≡ joined_from m c f rows j) (sym z)
    (subst (λ y. new ≡ one_of (both_of (f c) (stored rows c j)) (joined_from (n - k) y f rows j)) (sym s)
    (e ∙ ap (λ x. one_of (both_of x (stored rows c j)) old) here ∙ ap (one_of (both_of (f c) (stored rows c j))) before))

-- cuts on chops
module _ (f g : ℕ → ℕ → Verdict) (first second : List VerdictRow) (many : length first ≡ length second) (a : HaveVerdicts f first) (b : HaveVerdicts g second) where
  beyond : (i j x : ℕ) → suc j ≤ x → both_of (stored first i x) (stored second x j) ≡ no
  beyond i j x l = ap (both_of (stored first i x)) (b.before x j l) ∙ both_of-no (stored first i x)

  abbrev at_cut : (i j : ℕ) → ℕ → Verdict
  at_cut i j x = both_of (stored first i x) (stored second x j)

  abbrev meant : (i j : ℕ) → ℕ → Verdict
  meant i j x = both_of (f i x) (g x j)

  pub chopped_is : (i j : ℕ) → i ≤ j → j < length second
      → joined_from (length second - i) i (stored first i) second j ≡ some_from (suc j - i) i (λ k. both_of (f i k) (g k j))
  chopped_is i j l h =
      some_until (length second - i) i (suc j) (at_cut i j) (beyond i j) (omega (arith, l, h))
      ∙ some_same (suc j - i) i (at_cut i j) (meant i j) (λ x lo hi.
      ap (λ v. both_of v (stored second x j)) (a.parts i x lo (omega (arith, l, h, lo, hi, many)))
      ∙ ap (both_of (f i x)) (b.parts x j (omega (arith, l, h, lo, hi)) h))

  pub chopped_before : (i j : ℕ) → j < i → joined_from (length second - i) i (stored first i) second j ≡ no
  chopped_before i j l = some_none (length second - i) i (at_cut i j) (λ x d. beyond i j x (omega (arith, l, d)))

  pub chopped : (rows : List VerdictRow) → length rows ≡ length second
      → OfEachRow (λ i r. (j : ℕ) → verdict_at r j ≡ joined_from (length second - i) i (stored first i) second j) rows
      → HaveVerdicts (λ i j. some_from (suc j - i) i (λ k. both_of (f i k) (g k j))) rows
  chopped rows n each = have_verdicts (λ i j. some_from (suc j - i) i (λ k. both_of (f i k) (g k j))) rows
      (λ i r e j l. each i r e j ∙ chopped_before i j l)
      (λ i r e j l h. each i r e j ∙ chopped_is i j l (omega (arith, h, n)))

-- a row more
pub length_more : (old new : List VerdictRow) (row : VerdictRow) (k : ℕ) → new ≡ old ++ row ∷ [] → length old ≡ k → length new ≡ k + 1
length_more old new row k e m = let l = length-append old (row ∷ []) in let q = ap length e in omega (arith, l, q, m)

pub pushed : (Says : ℕ → VerdictRow → Type 0) (old new : List VerdictRow) (row : VerdictRow) (k : ℕ) → new ≡ old ++ row ∷ [] → length old ≡ k
    → OfEachRow Says old → Says k row → OfEachRow Says new
pushed Says old new row k e m each here = subst (OfEachRow Says) (sym e) (of_pushed Says old row k (sym m) each here)

-- a verdict more in a row of no
pub row_more : (g : ℕ → Verdict) (i k : ℕ) (old new : VerdictRow) (v : Verdict)
    → verdict_at new k ≡ one_of v (verdict_at old k) → verdict_at old k ≡ no → v ≡ g k
    → ((j : ℕ) → (j ≡ k → ⊥) → verdict_at new j ≡ verdict_at old j)
    → ((j : ℕ) → i ≤ j → j < k → verdict_at old j ≡ g j)
    → (j : ℕ) → i ≤ j → j < k + 1 → verdict_at new j ≡ g j
row_more g i k old new v here none p others before j lo hi = elim (cases_eq j k) [
  | inl e ↦ subst (λ x. verdict_at new x ≡ g x) (sym e) (here ∙ ap (one_of v) none ∙ one_of-no v ∙ p)
  | inr o ↦ others j o ∙ before j lo (omega (arith, hi, o))
]

-- under a verdict a row is joined to one of no
pub under : (v other old new meant : Verdict) → new ≡ one_of (both_of v other) old → old ≡ no → other ≡ meant → new ≡ both_of v meant
under v other old new meant e n m = e ∙ ap (one_of (both_of v other)) n ∙ one_of-no (both_of v other) ∙ ap (both_of v) m
