-- A part of a course may be moved, and what lies outside of it changed: a formula holds there as well.
use Rattle.tp_meaning.specs.Inputs.{input_at}
use Rattle.std.proofs.Common.{slice_get, ◌≡◌, ℤ, pos, ◌+ℤ◌, ℕ, zero, suc, ◌+◌, ◌-◌, ◌≤◌, ◌<◌, Bool, true, false, List, [], ◌∷◌, ◌++◌, Option, Some, None, refl, ap, sym, ◌∙◌, subst, arith, inl, inr}
use Rattle.std.proofs.lemmas.Bool.{cases_lt}
use Rattle.tp_value.specs.Tree.{Tree, num}
use Rattle.tp_meaning.specs.Syntax.{ExprTree, FormulaTree, trivial, test, equation, next_equation, empty, more, next, weak_next, if_more, if_empty, always, conjunction, branch, len, assign, chop, while, for_from, forall_from, project, exists, call, input, display, FormulaTrees, no_formula, formula_then}
use Rattle.tp_meaning.specs.Course.{Part, State, Course, Shows, blank, ◌⊕◌, shown_at, total, woven, Rising}
use Rattle.tp_meaning.specs.Value.{◌>>=◌, Meaning, fixed, varying, Env, Calls, calls_at}
use Rattle.tp_meaning.specs.Holds.{Context, Pieces, Together, Projected, Lasts, running, meaning_at_cuts, env_at_cuts, CallMeanings, Has, HoldsBy, AllHoldBy, CallHolds, Holds}
use Rattle.tp_meaning.proofs.Rising.{rises_less}
use Rattle.tp_meaning.specs.Moving.{MeaningMoved, EnvMoved, CourseMoved}
use Rattle.tp_meaning.proofs.MoveValue.{MaybeAll, value_moved, values_moved, arguments_moved, calls_moved}

-- where the positions from `low` on go, and what is shown at them
pub record Move : Type 0 where
  pub low : ℕ
  pub at : ℕ → ℕ
  pub step : (j : ℕ) → low ≤ j → at (suc j) ≡ suc (at j)
  pub push : Shows → Shows
  pub push_blank : push blank ≡ blank
  pub push_join : (S T : Shows) → push (S ⊕ T) ≡ push S ⊕ push T
  pub push_at : (a : ℕ) → low ≤ a → (vs : List (List Tree)) → push (shown_at a vs) ≡ shown_at (at a) vs

abbrev pub stay : Move
stay = record { low = 0; at = λ j. j; step = λ j u. refl; push = λ S. S; push_blank = refl; push_join = λ S T. refl; push_at = λ a u vs. refl }

module _ (M : Move) where
  pub at_sum : (k j : ℕ) → M.low ≤ j → M.at (k + j) ≡ k + M.at j
  at_sum zero j w = let e : 0 + j ≡ j = omega arith in ap M.at e ∙ (let z : M.at j ≡ 0 + M.at j = omega arith in z)
  at_sum (suc k) j w = (let e : suc k + j ≡ suc (k + j) = omega arith in ap M.at e) ∙ M.step (k + j) (omega arith) ∙ ap suc (at_sum k j w) ∙ (let z : suc (k + M.at j) ≡ suc k + M.at j = omega arith in z)

  pub at_le : (a b : ℕ) → M.low ≤ a → a ≤ b → M.at a ≤ M.at b
  at_le a b w h = let e : b ≡ (b - a) + a = omega arith in let q = ap M.at e ∙ at_sum (b - a) a w in omega (arith, q)

  pub at_less : (a b : ℕ) → M.low ≤ a → a < b → M.at a < M.at b
  at_less a b w h = let q = at_le (suc a) b (omega arith) h in let s = M.step a w in omega (arith, q, s)

  -- the position that goes to a position from `at a` on
  abbrev pub origin : ℕ → ℕ → ℕ
  origin a j = (j - M.at a) + a

  pub origin_at : (a i : ℕ) → M.low ≤ a → a ≤ i → origin a (M.at i) ≡ i
  origin_at a i w h = let e : i ≡ (i - a) + a = omega arith in let q = ap M.at e ∙ at_sum (i - a) a w in omega (arith, q, h)

  pub at_origin : (a j : ℕ) → M.low ≤ a → M.at a ≤ j → M.at (origin a j) ≡ j
  at_origin a j w h = let q = at_sum (j - M.at a) a w in omega (arith, q, h)

  pub origin_above : (a j : ℕ) → a ≤ origin a j
  origin_above a j = omega arith

  pub origin_below : (a b j : ℕ) → M.low ≤ a → a ≤ b → M.at a ≤ j → j ≤ M.at b → origin a j ≤ b
  origin_below a b j w le u v = elim (cases_lt b (origin a j)) [
    | inl l ↦ absurd (let q = at_less b (origin a j) (omega (arith, w, le)) l in let r = at_origin a j w u in omega (arith, q, r, v))
    | inr l ↦ omega arith
  ]

  pub total_push : (m k : ℕ) → M.low ≤ k → (T U : ℕ → Shows) → ((i : ℕ) → k ≤ i → U (M.at i) ≡ M.push (T i)) → total m (M.at k) U ≡ M.push (total m k T)
  total_push zero k w T U h = sym M.push_blank
  total_push (suc m) k w T U h =
      (λ i. h k (omega arith) i ⊕ (ap (λ j. total m j U) (sym (M.step k w)) ∙ total_push m (suc k) (omega arith) T U (λ j u. h j (omega arith))) i) ∙ sym (M.push_join (T k) (total m (suc k) T))

  pub woven_push : (m k : ℕ) (c : ℕ → ℕ) → ((j : ℕ) → k ≤ j → M.low ≤ c j) → (V : Shows) (T : ℕ → Shows) → woven m k (λ j. M.at (c j)) V (λ j. M.push (T j)) ≡ M.push (woven m k c V T)
  woven_push zero k c w V T = sym (M.push_at (c k) (w k (omega arith)) (V k))
  woven_push (suc m) k c w V T =
      (λ i. sym (M.push_at (c k) (w k (omega arith)) (V k)) i ⊕ ((λ l. M.push (T k) ⊕ woven_push m (suc k) c (λ j u. w j (omega arith)) V T l) ∙ sym (M.push_join (T k) (woven m (suc k) c V T))) i)
      ∙ sym (M.push_join (shown_at (c k) (V k)) (T k ⊕ woven m (suc k) c V T))

narrow_one : (f : ℕ → ℕ) (a b a' b' : ℕ) → a ≤ a' → b' ≤ b → (m n : Meaning) → MeaningMoved f a b m n → MeaningMoved f a' b' m n
narrow_one f a b a' b' u v (fixed t) (fixed t') h = h
narrow_one f a b a' b' u v (fixed t) (varying g) h = elim h [ ]
narrow_one f a b a' b' u v (varying g) (fixed t) h = elim h [ ]
narrow_one f a b a' b' u v (varying g) (varying g') h = λ j x y. h j (omega arith) (omega arith)

pub narrow : (f : ℕ → ℕ) (a b a' b' : ℕ) → a ≤ a' → b' ≤ b → (x y : Env) → EnvMoved f a b x y → EnvMoved f a' b' x y
narrow f a b a' b' u v [] [] h = tt
narrow f a b a' b' u v [] (m ∷ ms) h = elim h [ ]
narrow f a b a' b' u v (m ∷ ms) [] h = elim h [ ]
narrow f a b a' b' u v (m ∷ ms) (n ∷ ns) h = (narrow_one f a b a' b' u v m n h.0, narrow f a b a' b' u v ms ns h.1)

pub append_moved : (f : ℕ → ℕ) (a b : ℕ) (x y : Env) (m n : Meaning) → EnvMoved f a b x y → MeaningMoved f a b m n → EnvMoved f a b (x ++ m ∷ []) (y ++ n ∷ [])
append_moved f a b [] [] m n h k = (k, tt)
append_moved f a b [] (y ∷ ys) m n h k = elim h [ ]
append_moved f a b (x ∷ xs) [] m n h k = elim h [ ]
append_moved f a b (x ∷ xs) (y ∷ ys) m n h k = (h.0, append_moved f a b xs ys m n h.1 k)

-- at cuts, which go where their positions go
cuts_one : (f : ℕ → ℕ) (a b k l : ℕ) (c : ℕ → ℕ) → ((j : ℕ) → k ≤ j → j ≤ l → (a ≤ c j) × (c j ≤ b)) → (m n : Meaning) → MeaningMoved f a b m n → MeaningMoved (λ j. j) k l (meaning_at_cuts c m) (meaning_at_cuts (λ j. f (c j)) n)
cuts_one f a b k l c r (fixed t) (fixed t') h = h
cuts_one f a b k l c r (fixed t) (varying g) h = elim h [ ]
cuts_one f a b k l c r (varying g) (fixed t) h = elim h [ ]
cuts_one f a b k l c r (varying g) (varying g') h = λ j x y. h (c j) (r j x y).0 (r j x y).1

cuts_moved : (f : ℕ → ℕ) (a b k l : ℕ) (c : ℕ → ℕ) → ((j : ℕ) → k ≤ j → j ≤ l → (a ≤ c j) × (c j ≤ b)) → (x y : Env) → EnvMoved f a b x y → EnvMoved (λ j. j) k l (env_at_cuts c x) (env_at_cuts (λ j. f (c j)) y)
cuts_moved f a b k l c r [] [] h = tt
cuts_moved f a b k l c r [] (m ∷ ms) h = elim h [ ]
cuts_moved f a b k l c r (m ∷ ms) [] h = elim h [ ]
cuts_moved f a b k l c r (m ∷ ms) (n ∷ ns) h = (cuts_one f a b k l c r m n h.0, cuts_moved f a b k l c r ms ns h.1)

pub cut_within : (c : ℕ → ℕ) → Rising c → (k l a b : ℕ) → c k ≡ a → c l ≡ b → (j : ℕ) → k ≤ j → j ≤ l → (a ≤ c j) × (c j ≤ b)
cut_within c r k l a b u v j x y = (
  elim (cases_lt k j) [ inl q ↦ (let z = rises_less c r k j q in omega (arith, z, u)) | inr q ↦ (let e : k ≡ j = omega arith in let z = ap c e in omega (arith, z, u)) ],
  elim (cases_lt j l) [ inl q ↦ (let z = rises_less c r j l q in omega (arith, z, v)) | inr q ↦ (let e : j ≡ l = omega arith in let z = ap c e in omega (arith, z, v)) ],
)

found_moved : (f : ℕ → ℕ) (a b : ℕ) (o o' : Option Env) → MaybeAll f a b o o' → (x : Env) → o ≡ Some x → (y : Env) × (o' ≡ Some y) × EnvMoved f a b x y
found_moved f a b None None h x e = absurd (cc)
found_moved f a b None (Some y) h x e = elim h [ ]
found_moved f a b (Some x') None h x e = elim h [ ]
found_moved f a b (Some x') (Some y) h x e = let q : x' ≡ x = cc in (y, refl, subst (λ (z : Env). EnvMoved f a b z y) q h)

named_args : {A : Type 0} (f : ℕ → ℕ) (a b : ℕ) (o : Option A) (g g' : A → Option Env) → ((x : A) → MaybeAll f a b (g x) (g' x)) → MaybeAll f a b (o >>= g) (o >>= g')
named_args f a b None g g' h = tt
named_args f a b (Some x) g g' h = h x

module _ (M : Move) (a0 b0 : ℕ) (lo : M.low ≤ a0) (P Q : ℤ → Part) (go : (k : ℤ) (i j : ℕ) (T : Shows) → a0 ≤ i → i ≤ j → j ≤ b0 → P k i j T → Q k (M.at i) (M.at j) (M.push T)) where
  pieces_moved : (m : ℕ) (k : ℤ) (a b : ℕ) (S : Shows) → a0 ≤ a → b ≤ b0 → Pieces P m k a b S → Pieces Q m k (M.at a) (M.at b) (M.push S)
  pieces_moved zero k a b S u v h = (ap M.at h.0, ap M.push h.1 ∙ M.push_blank)
  pieces_moved (suc m) k a b S u v h = let ai = h.3 in let ib = h.4 in (
    M.at h.0,
    M.push h.1,
    M.push h.2,
    at_le M a h.0 (omega (arith, lo, u)) h.3,
    at_le M h.0 b (omega (arith, lo, u, ai)) h.4,
    go k a h.0 h.1 u h.3 (omega arith) h.5,
    pieces_moved m (k +ℤ pos 1) h.0 b h.2 (omega arith) v h.6,
    ap M.push h.7 ∙ M.push_join h.1 h.2,
  )

  together_moved : (m : ℕ) (k : ℤ) (a b : ℕ) (S : Shows) → a0 ≤ a → a ≤ b → b ≤ b0 → Together P m k a b S → Together Q m k (M.at a) (M.at b) (M.push S)
  together_moved zero k a b S u l v h = ap M.push h ∙ M.push_blank
  together_moved (suc m) k a b S u l v h = (M.push h.0, M.push h.1, go k a b h.0 u l v h.2, together_moved m (k +ℤ pos 1) a b h.1 u l v h.3, ap M.push h.4 ∙ M.push_join h.0 h.1)

lasts_from : (q : Bool) (v : ℕ → Tree) (r : ℕ → ℕ) → Lasts q v → Lasts q (λ j. v (r j))
lasts_from true v r l = λ i j. l (r i) (r j)
lasts_from false v r l = tt

pub cut_low : (M : Move) (c : ℕ → ℕ) → Rising c → (a : ℕ) → c 0 ≡ a → M.low ≤ a → (j : ℕ) → M.low ≤ c j
cut_low M c r a e w0 zero = omega (arith, e, w0)
cut_low M c r a e w0 (suc j) = let q = rises_less c r 0 (suc j) (omega arith) in omega (arith, q, e, w0)

-- a projection, where its pieces and its outer part go along
module _ (M : Move) (a b : ℕ) (lo : M.low ≤ a) (P Q : Part) (O N : (ℕ → ℕ) → Part) (piece : (i j : ℕ) (T : Shows) → a ≤ i → i ≤ j → j ≤ b → P i j T → Q (M.at i) (M.at j) (M.push T))
    (outer : (c : ℕ → ℕ) (m : ℕ) (V : Shows) → ((j : ℕ) → 0 ≤ j → j ≤ m → (a ≤ c j) × (c j ≤ b)) → O c 0 m V → N (λ j. M.at (c j)) 0 m V) where
  abbrev pub projected_moved : (S : Shows) → Projected P O a b S → Projected Q N (M.at a) (M.at b) (M.push S)
  projected_moved S z =
      let within = cut_within z.0 z.4 0 z.1 a b z.5 z.6 in (
        (λ j. M.at (z.0 j)),
        z.1,
        z.2,
        (λ j. M.push (z.3 j)),
        (λ j. at_less M (z.0 j) (z.0 (suc j)) (cut_low M z.0 z.4 a z.5 lo j) (z.4 j)),
        ap M.at z.5,
        ap M.at z.6,
        (λ j v. let r = z.4 j in piece (z.0 j) (z.0 (suc j)) (z.3 j) (within j (omega arith) (omega arith)).0 (omega (arith, r)) (within (suc j) (omega arith) v).1 (z.7 j v)),
        outer z.0 z.1 z.2 within z.8,
        ap M.push z.9 ∙ sym (woven_push M z.1 0 z.0 (λ j u. cut_low M z.0 z.4 a z.5 lo j) z.2 z.3),
      )

-- at the same cuts, with other pieces and another outer part
pub projected_as : (P Q : Part) (O N : (ℕ → ℕ) → Part) → ((i j : ℕ) (T : Shows) → P i j T → Q i j T) → ((c : ℕ → ℕ) (m : ℕ) (V : Shows) → O c 0 m V → N c 0 m V)
    → (a b : ℕ) (S : Shows) → Projected P O a b S → Projected Q N a b S
projected_as P Q O N piece outer a b S z = (z.0, z.1, z.2, z.3, z.4, z.5, z.6, (λ j v. piece _ _ _ (z.7 j v)), outer z.0 z.1 z.2 z.8, z.9)

module _ (w : Context) (calls : Calls) (meanings : CallMeanings)
    (more_calls : (f : ℕ → ℕ) (a b : ℕ) (s t : Course) → CourseMoved f a b s t → (p : ℕ) (x y : Env) → EnvMoved f a b x y → (j : ℕ) → a ≤ j → j ≤ b → calls p y t (f j) ≡ calls p x s j)
    (more_meanings : (M : Move) (p : ℕ) (x y : Env) (s t : Course) (a b : ℕ) (S : Shows) → M.low ≤ a → a ≤ b → EnvMoved M.at a b x y → CourseMoved M.at a b s t → meanings p x s a b S → meanings p y t (M.at a) (M.at b) (M.push S)) where
  has_moved : (M : Move) (e : ExprTree) (x y : Env) (s t : Course) (a b : ℕ) → EnvMoved M.at a b x y → CourseMoved M.at a b s t → (j k : ℕ) → a ≤ j → j ≤ b → M.at j ≡ k → (v : Tree) → Has w calls meanings e x s j v → Has w calls meanings e y t k v
  has_moved M e x y s t a b h c j k u v q r z = subst (λ (i : ℕ). Has w calls meanings e y t i r) q (value_moved w.defs calls M.at a b s t c (more_calls M.at a b s t c) e x y h j u v ∙ z)

  mutual
    pub formula_moved : (g : FormulaTree) (M : Move) (x y : Env) (s t : Course) (a b : ℕ) (S : Shows) → M.low ≤ a → a ≤ b → EnvMoved M.at a b x y → CourseMoved M.at a b s t
        → HoldsBy w calls meanings g x s a b S → HoldsBy w calls meanings g y t (M.at a) (M.at b) (M.push S)
    formula_moved trivial M x y s t a b S w0 le h c z = ap M.push z ∙ M.push_blank
    formula_moved (test e) M x y s t a b S w0 le h c z = (has_moved M e x y s t a b h c a (M.at a) (omega arith) le refl _ z.0, ap M.push z.1 ∙ M.push_blank)
    formula_moved (equation l r) M x y s t a b S w0 le h c z =
        (z.0, has_moved M l x y s t a b h c a (M.at a) (omega arith) le refl _ z.1, has_moved M r x y s t a b h c a (M.at a) (omega arith) le refl _ z.2, ap M.push z.3 ∙ M.push_blank)
    formula_moved (next_equation k l r) M x y s t a b S w0 le h c z = let q = at_le M (k + a) b (omega (arith, w0)) z.1 in let e = at_sum M k a w0 in
        (z.0, omega (arith, q, e), has_moved M l x y s t a b h c (k + a) (k + M.at a) (omega arith) z.1 e _ z.2, has_moved M r x y s t a b h c a (M.at a) (omega arith) le refl _ z.3, ap M.push z.4 ∙ M.push_blank)
    formula_moved empty M x y s t a b S w0 le h c z = (ap M.at z.0, ap M.push z.1 ∙ M.push_blank)
    formula_moved more M x y s t a b S w0 le h c z = (at_less M a b w0 z.0, ap M.push z.1 ∙ M.push_blank)
    formula_moved (next g) M x y s t a b S w0 le h c z = (at_less M a b w0 z.0, subst (λ (k : ℕ). HoldsBy w calls meanings g y t k (M.at b) (M.push S)) (M.step a w0) (let o = z.0 in formula_moved g M x y s t (suc a) b S (omega (arith, w0)) o (narrow M.at a b (suc a) b (omega arith) (omega arith) x y h) (λ k p r. c k (omega arith) r) z.1))
    formula_moved (weak_next g) M x y s t a b S w0 le h c z = elim z [ inl q ↦ inl (ap M.at q.0, ap M.push q.1 ∙ M.push_blank) | inr q ↦ inr (at_less M a b w0 q.0, subst (λ (k : ℕ). HoldsBy w calls meanings g y t k (M.at b) (M.push S)) (M.step a w0) (let o = q.0 in formula_moved g M x y s t (suc a) b S (omega (arith, w0)) o (narrow M.at a b (suc a) b (omega arith) (omega arith) x y h) (λ k p r. c k (omega arith) r) q.1)) ]
    formula_moved (if_more g) M x y s t a b S w0 le h c z = elim z [ inl q ↦ inl (ap M.at q.0, ap M.push q.1 ∙ M.push_blank) | inr q ↦ inr (at_less M a b w0 q.0, formula_moved g M x y s t a b S w0 le h c q.1) ]
    formula_moved (if_empty g) M x y s t a b S w0 le h c z = elim z [ inl q ↦ inl (at_less M a b w0 q.0, ap M.push q.1 ∙ M.push_blank) | inr q ↦ inr (ap M.at q.0, formula_moved g M x y s t a b S w0 le h c q.1) ]
    formula_moved (always g) M x y s t a b S w0 le h c z = (
      z.0,
      (λ j. M.push (z.1 (origin M a j))),
      (let q = at_sum M z.0 a w0 in let e : z.0 + a ≡ suc b = z.2 in let p = ap M.at e in let r = M.step b (omega (arith, w0, le)) in omega (arith, q, p, r)),
      (λ j u v. let i = origin_above M a j in let k = origin_below M a b j w0 le u v in
          subst (λ (l : ℕ). HoldsBy w calls meanings g y t l (M.at b) (M.push (z.1 (origin M a j)))) (at_origin M a j w0 u)
          (formula_moved g M x y s t (origin M a j) b (z.1 (origin M a j)) (omega (arith, w0, i)) k (narrow M.at a b (origin M a j) b i (omega arith) x y h) (λ l p q. c l (omega (arith, p, i)) q) (z.3 (origin M a j) i k))),
      ap M.push z.4 ∙ sym (total_push M z.0 a w0 z.1 (λ j. M.push (z.1 (origin M a j))) (λ i u. ap (λ k. M.push (z.1 k)) (origin_at M a i w0 u))),
    )
    formula_moved (conjunction gs) M x y s t a b S w0 le h c z = formulas_moved gs M x y s t a b S w0 le h c z
    formula_moved (branch e g k) M x y s t a b S w0 le h c z = elim z [
      | inl q ↦ inl (has_moved M e x y s t a b h c a (M.at a) (omega arith) le refl _ q.0, formula_moved g M x y s t a b S w0 le h c q.1)
      | inr q ↦ inr (has_moved M e x y s t a b h c a (M.at a) (omega arith) le refl _ q.0, formula_moved k M x y s t a b S w0 le h c q.1)
    ]
    formula_moved (len e) M x y s t a b S w0 le h c z = (z.0, has_moved M e x y s t a b h c a (M.at a) (omega arith) le refl _ z.1, sym (at_sum M z.0 a w0) ∙ ap M.at z.2, ap M.push z.3 ∙ M.push_blank)
    formula_moved (assign l r) M x y s t a b S w0 le h c z =
        (z.0, has_moved M l x y s t a b h c b (M.at b) le (omega arith) refl _ z.1, has_moved M r x y s t a b h c a (M.at a) (omega arith) le refl _ z.2, ap M.push z.3 ∙ M.push_blank)
    formula_moved (chop g k) M x y s t a b S w0 le h c z = let u = z.3 in let v = z.4 in (
      M.at z.0,
      M.push z.1,
      M.push z.2,
      at_le M a z.0 w0 u,
      at_le M z.0 b (omega (arith, w0, u)) v,
      formula_moved g M x y s t a z.0 z.1 w0 u (narrow M.at a b a z.0 (omega arith) v x y h) (λ l p q. c l p (omega (arith, q, v))) z.5,
      formula_moved k M x y s t z.0 b z.2 (omega (arith, w0, u)) v (narrow M.at a b z.0 b u (omega arith) x y h) (λ l p q. c l (omega (arith, p, u)) q) z.6,
      ap M.push z.7 ∙ M.push_join z.1 z.2,
    )
    formula_moved (while e g) M x y s t a b S w0 le h c z = (
      z.0,
      pieces_moved M a b w0 _ _ (λ k i j T u l v q. (
        at_less M i j (omega (arith, w0, u)) q.0,
        has_moved M e x y s t a b h c i (M.at i) u (omega (arith, l, v)) refl _ q.1,
        formula_moved g M x y s t i j T (omega (arith, w0, u)) l (narrow M.at a b i j u v x y h) (λ p r o. c p (omega (arith, r, u)) (omega (arith, o, v))) q.2,
      )) z.0 _ a b S (omega arith) (omega arith) z.1,
      has_moved M e x y s t a b h c b (M.at b) le (omega arith) refl _ z.2,
    )
    formula_moved (for_from name k e g) M x y s t a b S w0 le h c z = (
      z.0,
      has_moved M e x y s t a b h c a (M.at a) (omega arith) le refl _ z.1,
      pieces_moved M a b w0 _ _ (λ n i j T u l v q. formula_moved g M (x ++ fixed (num n) ∷ []) (y ++ fixed (num n) ∷ []) s t i j T (omega (arith, w0, u)) l
          (append_moved M.at i j x y (fixed (num n)) (fixed (num n)) (narrow M.at a b i j u v x y h) refl) (λ p r o. c p (omega (arith, r, u)) (omega (arith, o, v))) q) _ k a b S (omega arith) (omega arith) z.2,
    )
    formula_moved (forall_from name k e g) M x y s t a b S w0 le h c z = (
      z.0,
      has_moved M e x y s t a b h c a (M.at a) (omega arith) le refl _ z.1,
      together_moved M a b w0 _ _ (λ n i j T u l v q. formula_moved g M (x ++ fixed (num n) ∷ []) (y ++ fixed (num n) ∷ []) s t i j T (omega (arith, w0, u)) l
          (append_moved M.at i j x y (fixed (num n)) (fixed (num n)) (narrow M.at a b i j u v x y h) refl) (λ p r o. c p (omega (arith, r, u)) (omega (arith, o, v))) q) _ k a b S (omega arith) le (omega arith) z.2,
    )
    formula_moved (project g k) M x y s t a b S w0 le h c z = projected_moved M a b w0 (HoldsBy w calls meanings g x s) (HoldsBy w calls meanings g y t)
        (λ cuts. HoldsBy w calls meanings k (env_at_cuts cuts x) (λ j. s (cuts j))) (λ cuts. HoldsBy w calls meanings k (env_at_cuts cuts y) (λ j. t (cuts j)))
        (λ i j T u l v q. formula_moved g M x y s t i j T (omega (arith, w0, u)) l (narrow M.at a b i j u v x y h) (λ p r o. c p (omega (arith, r, u)) (omega (arith, o, v))) q)
        (λ cuts m V within q. formula_moved k stay (env_at_cuts cuts x) (env_at_cuts (λ j. M.at (cuts j)) y) (λ j. s (cuts j)) (λ j. t (M.at (cuts j))) 0 m V (omega arith) (omega arith)
        (cuts_moved M.at a b 0 m cuts within x y h) (λ j u v. c (cuts j) (within j u v).0 (within j u v).1) q)
        S z
    formula_moved (exists name lasting g) M x y s t a b S w0 le h c z = (
      (λ j. z.0 (origin M a j)),
      lasts_from lasting z.0 (origin M a) z.1,
      formula_moved g M (x ++ running z.0 ∷ []) (y ++ running (λ j. z.0 (origin M a j)) ∷ []) s t a b S w0 le
          (append_moved M.at a b x y (running z.0) (running (λ j. z.0 (origin M a j))) h (λ j u v. ap (λ k. Some (z.0 k)) (origin_at M a j w0 u))) c z.2,
    )
    formula_moved (call p es) M x y s t a b S w0 le h c z =
        let r = found_moved M.at a b _ _ (named_args M.at a b (slice_get w.defs p) _ _ (λ g. arguments_moved w.defs calls M.at a b s t c (more_calls M.at a b s t c) es g.parameters x y h a (omega arith) le)) z.0 z.1 in
        (r.0, r.1, more_meanings M p z.0 r.0 s t a b S w0 le r.2 c z.2)
    formula_moved (input e name) M x y s t a b S w0 le h c z =
        (z.0, ap (λ (q : State). input_at w.inputs q.own name) (c a (omega arith) le) ∙ z.1, has_moved M e x y s t a b h c a (M.at a) (omega arith) le refl _ z.2, ap M.push z.3 ∙ M.push_blank)
    formula_moved (display es) M x y s t a b S w0 le h c z =
        (z.0, values_moved w.defs calls M.at a b s t c (more_calls M.at a b s t c) es x y h a (omega arith) le ∙ z.1, ap M.push z.2 ∙ M.push_at a w0 (z.0 ∷ []))

    pub formulas_moved : (gs : FormulaTrees) (M : Move) (x y : Env) (s t : Course) (a b : ℕ) (S : Shows) → M.low ≤ a → a ≤ b → EnvMoved M.at a b x y → CourseMoved M.at a b s t
        → AllHoldBy w calls meanings gs x s a b S → AllHoldBy w calls meanings gs y t (M.at a) (M.at b) (M.push S)
    formulas_moved no_formula M x y s t a b S w0 le h c z = ap M.push z ∙ M.push_blank
    formulas_moved (formula_then g gs) M x y s t a b S w0 le h c z = (M.push z.0, M.push z.1, formula_moved g M x y s t a b z.0 w0 le h c z.2, formulas_moved gs M x y s t a b z.1 w0 le h c z.3, ap M.push z.4 ∙ M.push_join z.0 z.1)

meanings_moved : (w : Context) (d : ℕ) (M : Move) (p : ℕ) (x y : Env) (s t : Course) (a b : ℕ) (S : Shows) → M.low ≤ a → a ≤ b → EnvMoved M.at a b x y → CourseMoved M.at a b s t → CallHolds w d p x s a b S → CallHolds w d p y t (M.at a) (M.at b) (M.push S)
meanings_moved w zero M p x y s t a b S w0 le h c z = elim z [ ]
meanings_moved w (suc d) M p x y s t a b S w0 le h c z = (z.0, z.1, formula_moved w (calls_at w.defs d) (CallHolds w d) (λ f a b s t. calls_moved w.defs d f a b s t) (meanings_moved w d) z.0.formula M x y s t a b S w0 le h c z.2)

-- what holds on a part of a course holds where that part is moved to, whatever lies outside
pub holds_moved : (w : Context) (d : ℕ) (g : FormulaTree) (M : Move) (x y : Env) (s t : Course) (a b : ℕ) (S : Shows) → M.low ≤ a → a ≤ b → EnvMoved M.at a b x y → CourseMoved M.at a b s t → Holds w d g x s a b S → Holds w d g y t (M.at a) (M.at b) (M.push S)
holds_moved w d = formula_moved w (calls_at w.defs d) (CallHolds w d) (λ f a b s t. calls_moved w.defs d f a b s t) (meanings_moved w d)
