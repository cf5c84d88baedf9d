-- A projection is a first piece, and a projection again from its end on.
use Rattle.std.proofs.Common.{◌≡◌, ℕ, zero, suc, ◌-◌, ◌≤◌, ◌<◌, List, [], ◌∷◌, refl, ap, sym, ◌∙◌, subst, arith, inl, inr, ◌↔◌}
use Rattle.tp_value.specs.Tree.{Tree}
use Rattle.tp_meaning.specs.Syntax.{FormulaTree, more, next, conjunction, chop, project, formulas_of}
use Rattle.tp_meaning.specs.Course.{Part, Course, Shows, blank, ◌⊕◌, shown_at, woven, Rising}
use Rattle.tp_meaning.specs.Value.{Meaning, fixed, varying, Env}
use Rattle.tp_meaning.specs.Holds.{Context, meaning_at_cuts, env_at_cuts, Holds}
use Rattle.tp_meaning.specs.Direct.{Means}
use Rattle.tp_meaning.specs.Moving.{MeaningMoved, EnvMoved}
use Rattle.tp_meaning.specs.Unfolding.{RunsProjected, cut_then, lists_then, AfterCut, SplitProjected, SaidAtCuts, ProjectSplits, GoesOnAs, ProjectGoesOn, ProjectNext}
use Rattle.tp_meaning.proofs.Shows.{join-blank}
use Rattle.tp_meaning.proofs.ExampleShows.{shown_nothing}
use Rattle.tp_meaning.proofs.Within.{Silent, holds_silent}
use Rattle.tp_meaning.proofs.Project.{run_back}
use Rattle.tp_meaning.proofs.MovePart.{meanings_move}

pub woven_shift : (m k : ℕ) (c : ℕ → ℕ) (V : Shows) (T : ℕ → Shows) → woven m (suc k) c V T ≡ woven m k (λ j. c (suc j)) (λ j. V (suc j)) (λ j. T (suc j))
woven_shift zero k c V T = refl
woven_shift (suc m) k c V T = λ i. shown_at (c (suc k)) (V (suc k)) ⊕ (T (suc k) ⊕ woven_shift m (suc k) c V T i)

cut_apart_at : (a : ℕ) (c : ℕ → ℕ) → c 0 ≡ a → (k : ℕ) → c k ≡ cut_then a (λ j. c (suc j)) k
cut_apart_at a c e zero = e
cut_apart_at a c e (suc k) = refl

pub cut_apart : (a : ℕ) (c : ℕ → ℕ) → c 0 ≡ a → c ≡ cut_then a (λ j. c (suc j))
cut_apart a c e = λ i k. cut_apart_at a c e k i

lists_apart_at : (V : Shows) (k : ℕ) → V k ≡ lists_then (V 0) (λ j. V (suc j)) k
lists_apart_at V zero = refl
lists_apart_at V (suc k) = refl

pub lists_apart : (V : Shows) → V ≡ lists_then (V 0) (λ j. V (suc j))
lists_apart V = λ i k. lists_apart_at V k i

pub cut_then_rises : (a : ℕ) (c : ℕ → ℕ) → a < c 0 → Rising c → Rising (cut_then a c)
cut_then_rises a c l r zero = l
cut_then_rises a c l r (suc k) = r k

abbrev shows_then : Shows → (ℕ → Shows) → ℕ → Shows
shows_then T U zero = T
shows_then T U (suc k) = U k

-- a first piece, and others from the second cut on
module _ (first piece : Part) (outer : (ℕ → ℕ) → Part) (a b : ℕ) (S : Shows) where
  -- the outer part from the second cut on is as `later` says, where it shows vs at the first
  abbrev pub GoesOn : List (List Tree) → ((ℕ → ℕ) → Part) → Type 0
  GoesOn vs later = (c : ℕ → ℕ) (m : ℕ) → Rising c → a < c 0 → (V : Shows) → later c 0 m V → outer (cut_then a c) 0 (suc m) (lists_then vs V)

  pub split_runs : (vs : List (List Tree)) (later : (ℕ → ℕ) → Part) → GoesOn vs later → SplitProjected first piece later vs a b S → RunsProjected first piece outer a b S
  split_runs vs later on (i, T, U, l, h, p, (c, m, V, X, r, start, end, pieces, rest, is'), is) =
      let low : a < c 0 = omega arith in (
        cut_then a c,
        m,
        lists_then vs V,
        shows_then T X,
        cut_then_rises a c low r,
        refl,
        end,
        subst (λ (k : ℕ). first a k T) (sym start) p,
        others,
        on c m r low V rest,
        is ∙ (λ k. shown_at a vs ⊕ (T ⊕ (is' ∙ sym (woven_shift m 0 (cut_then a c) (lists_then vs V) (shows_then T X))) k)),
      )
    where
      others : (j : ℕ) → 0 < j → j < suc m → piece (cut_then a c j) (cut_then a c (suc j)) (shows_then T X j)
      others zero u v = absurd (omega arith)
      others (suc j) u v = pieces j (omega arith)

  -- every outer part goes on as itself after the first cut
  pub runs_split : RunsProjected first piece outer a b S → (vs : List (List Tree)) × SplitProjected first piece (AfterCut a vs outer) vs a b S
  runs_split (c, m, V, T, r, start, end, p, pieces, rest, is) =
      let low = r 0 in
      let up = at_most m in (
        V 0,
        (
          c 1,
          T 0,
          woven m 0 (λ j. c (suc j)) (λ j. V (suc j)) (λ j. T (suc j)),
          omega arith,
          omega arith,
          subst (λ (k : ℕ). first k (c 1) (T 0)) start p,
          (
            (λ j. c (suc j)),
            m,
            (λ j. V (suc j)),
            (λ j. T (suc j)),
            (λ j. r (suc j)),
            refl,
            end,
            (λ j v. pieces (suc j) (omega arith) (omega arith)),
            subst (λ (x : ℕ → ℕ). outer x 0 (suc m) (lists_then (V 0) (λ j. V (suc j)))) (cut_apart a c start) (subst (λ (X : Shows). outer c 0 (suc m) X) (lists_apart V) rest),
            refl,
          ),
          is ∙ (λ k. shown_at (start k) (V 0) ⊕ (T 0 ⊕ woven_shift m 0 c V T k)),
        ),
      )
    where
      at_most : (n : ℕ) → c 1 ≤ c (suc n)
      at_most zero = omega arith
      at_most (suc n) = let q = at_most n in let z = r (suc n) in omega (arith, q, z)

  -- where the outer part goes on as `later` says
  pub runs_on : (vs : List (List Tree)) (later : (ℕ → ℕ) → Part) → GoesOnAs a vs outer later → RunsProjected first piece outer a b S ↔ SplitProjected first piece later vs a b S
  runs_on vs later on = (there, split_runs vs later (λ c m r l V z. (on c m vs V r l).1 (refl, z)))
    where
      go : (ws : List (List Tree)) → SplitProjected first piece (AfterCut a ws outer) ws a b S → SplitProjected first piece later vs a b S
      go ws (i, T, U, l, h, p, (c, m, V, X, r, start, end, pieces, rest, is'), is) = let q = (on c m ws V r (omega arith)).0 rest in
          (i, T, U, l, h, p, (c, m, V, X, r, start, end, pieces, q.1, is'), is ∙ (λ k. shown_at a (q.0 k) ⊕ (T ⊕ U)))

      there : RunsProjected first piece outer a b S → SplitProjected first piece later vs a b S
      there h = let q = runs_split h in go q.0 q.1

pub project_goes_on : ProjectGoesOn
project_goes_on h f g g' w d inner env env' s a b S vs = runs_on (Holds w d h inner s) (Holds w d f env s) (SaidAtCuts g w d env s) a b S vs (SaidAtCuts g' w d env' s)

pub project_splits : ProjectSplits
project_splits h f g w d inner env s a b S = (
  runs_split (Holds w d h inner s) (Holds w d f env s) (SaidAtCuts g w d env s) a b S,
  (λ q. split_runs (Holds w d h inner s) (Holds w d f env s) (SaidAtCuts g w d env s) a b S q.0 (AfterCut a q.0 (SaidAtCuts g w d env s)) (λ c m r l V z. z) q.1),
)

-- an environment at the cuts after a first one, from where it is at all of them and back
module _ (a : ℕ) (c : ℕ → ℕ) (m : ℕ) where
  abbrev before : ℕ → ℕ
  before k = k - 1

  after_one : (x : Meaning) → MeaningMoved before 1 (suc m) (meaning_at_cuts (cut_then a c) x) (meaning_at_cuts c x)
  after_one (fixed t) = refl
  after_one (varying f) = λ j u v. ap f (cut_before j u)
    where
      cut_before : (j : ℕ) → 1 ≤ j → c (before j) ≡ cut_then a c j
      cut_before zero u = absurd (omega arith)
      cut_before (suc j) u = let e : suc j - 1 ≡ j = omega arith in ap c e

  after_each : (x : Env) → EnvMoved before 1 (suc m) (env_at_cuts (cut_then a c) x) (env_at_cuts c x)
  after_each [] = tt
  after_each (x ∷ xs) = (after_one x, after_each xs)

  back_one : (x : Meaning) → MeaningMoved suc 0 m (meaning_at_cuts c x) (meaning_at_cuts (cut_then a c) x)
  back_one (fixed t) = refl
  back_one (varying f) = λ j u v. refl

  back_each : (x : Env) → EnvMoved suc 0 m (env_at_cuts c x) (env_at_cuts (cut_then a c) x)
  back_each [] = tt
  back_each (x ∷ xs) = (back_one x, back_each xs)

module _ (g : FormulaTree) (w : Context) (d : ℕ) (env : Env) (s : Course) (a : ℕ) (c : ℕ → ℕ) (m : ℕ) (V : Shows) where
  -- the outer formula from the second cut on, and from the first where it is `next g`
  next_there : SaidAtCuts g w d env s c 0 m V → SaidAtCuts (next g) w d env s (cut_then a c) 0 (suc m) (lists_then [] V)
  next_there h = let out = holds_silent w d g (env_at_cuts c env) (λ k. s (c k)) 0 m V (omega arith) h in (
    omega arith,
    meanings_move w d g suc (env_at_cuts c env) (env_at_cuts (cut_then a c) env) (λ k. s (c k)) (λ k. s (cut_then a c k)) 0 m V (lists_then [] V) (omega arith) (λ j u v. refl)
        (back_each a c m env)
        (λ j u v. refl)
        (record { there = λ j u v. refl; elsewhere = record { before = λ j l. early j l; after = λ j l. late j l out } })
        h,
  )
    where
      early : (j : ℕ) → j < 1 → lists_then [] V j ≡ []
      early zero l = refl
      early (suc j) l = absurd (omega arith)

      late : (j : ℕ) → suc m < j → Silent 0 m V → lists_then [] V j ≡ []
      late zero l out = refl
      late (suc j) l out = out j (inr (omega arith))

  next_back : (vs : List (List Tree)) → SaidAtCuts (next g) w d env s (cut_then a c) 0 (suc m) (lists_then vs V) → (vs ≡ []) × SaidAtCuts g w d env s c 0 m V
  next_back vs (l, h) = let out = holds_silent w d g (env_at_cuts (cut_then a c) env) (λ k. s (cut_then a c k)) 1 (suc m) (lists_then vs V) (omega arith) h in (
    out 0 (inl (omega arith)),
    subst (λ (n : ℕ). Holds w d g (env_at_cuts c env) (λ k. s (c k)) 0 n V) (let e : suc m - 1 ≡ m = omega arith in e)
        (meanings_move w d g (before a c m) (env_at_cuts (cut_then a c) env) (env_at_cuts c env) (λ k. s (cut_then a c k)) (λ k. s (c k)) 1 (suc m) (lists_then vs V) V (omega arith) (λ j u v. omega arith)
        (after_each a c m env)
        course
        (record { there = there; elsewhere = record { before = λ j l'. absurd (omega arith); after = λ j l'. out (suc j) (inr (omega arith)) } })
        h),
  )
    where
      course : (j : ℕ) → 1 ≤ j → j ≤ suc m → s (c (j - 1)) ≡ s (cut_then a c j)
      course zero u v = absurd (omega arith)
      course (suc j) u v = let e : suc j - 1 ≡ j = omega arith in ap (λ k. s (c k)) e

      there : (j : ℕ) → 1 ≤ j → j ≤ suc m → V (j - 1) ≡ lists_then vs V j
      there zero u v = absurd (omega arith)
      there (suc j) u v = let e : suc j - 1 ≡ j = omega arith in ap V e

pub project_next : ProjectNext
unfolding Means
project_next f g w d env s a b S le = (there, back)
  where
    on : RunsProjected (Holds w d f env s) (Holds w d f env s) (SaidAtCuts (next g) w d env s) a b S ↔ SplitProjected (Holds w d f env s) (Holds w d f env s) (SaidAtCuts g w d env s) [] a b S
    on = runs_on (Holds w d f env s) (Holds w d f env s) (SaidAtCuts (next g) w d env s) a b S [] (SaidAtCuts g w d env s)
        (λ c m ws V r l. (next_back g w d env s a c m V ws, (λ q. subst (λ (x : List (List Tree)). SaidAtCuts (next g) w d env s (cut_then a c) 0 (suc m) (lists_then x V)) (sym q.0) (next_there g w d env s a c m V q.1))))

    there : Holds w d (project f (next g)) env s a b S → Holds w d (chop (conjunction (formulas_of (f ∷ more ∷ []))) (project f g)) env s a b S
    there (c, zero, V, T, r, start, end, pieces, (l, h), is) = absurd (omega arith)
    there (c, suc m, V, T, r, start, end, pieces, outer, is) =
        let q = on.0 (c, m, V, T, r, start, end, pieces 0 (omega arith), (λ j u v. pieces j v), outer, is) in
        (q.0, q.1, q.2, (let l = q.3 in omega arith), q.4, (q.1, blank, q.5, (blank, blank, (q.3, refl), refl, refl), sym (join-blank q.1)), q.6, q.7 ∙ (λ k. shown_nothing a k ⊕ (q.1 ⊕ q.2)))

    back : Holds w d (chop (conjunction (formulas_of (f ∷ more ∷ []))) (project f g)) env s a b S → Holds w d (project f (next g)) env s a b S
    back (i, T, U, l, h, (T', N, p, (M, N', (low, none), none', is''), is'), rest, is) =
        run_back f (next g) w d env s a b S (on.1 (
          i,
          T',
          U,
          low,
          h,
          p,
          rest,
          is ∙ (λ k. (is' ∙ (λ n. T' ⊕ (is'' ∙ (λ o. none o ⊕ none' o)) n) ∙ join-blank T') k ⊕ U) ∙ (λ k. sym (shown_nothing a) k ⊕ (T' ⊕ U)),
        ))
