-- Projections by cuts that rise to the end of the interval, and `exists` by values on the interval.
use Rattle.std.proofs.Common.{◌≡◌, ℕ, zero, suc, ◌+◌, ◌-◌, ◌≤◌, ◌<◌, Bool, true, false, List, [], ◌∷◌, ◌++◌, Some, cond, eqb, refl, ap, sym, ◌∙◌, subst, arith, inl, inr}
use Rattle.std.proofs.lemmas.Bool.{cases_lt, cond_both, eqb-true, eq-eqb, both_ways}
use Rattle.tp_value.specs.Tree.{Tree}
use Rattle.tp_meaning.specs.Syntax.{FormulaTree, project, exists}
use Rattle.tp_meaning.specs.Course.{Shows, ◌⊕◌, shown_at, woven, Rising}
use Rattle.tp_meaning.specs.Value.{Meaning, fixed, varying, Env}
use Rattle.tp_meaning.specs.Holds.{meaning_at_cuts, env_at_cuts, Lasts, running, Holds}
use Rattle.tp_meaning.specs.Direct.{Means}
use Rattle.tp_meaning.specs.Cuts.{ProjectByCuts, ExistsByValues}
use Rattle.tp_meaning.specs.Moving.{MeaningMoved, EnvMoved}
use Rattle.tp_meaning.proofs.Move.{append_moved}
use Rattle.tp_meaning.proofs.MovePart.{meanings_read_their_part}

-- the cuts up to number m, and from there on one position after another
module _ (c : ℕ → ℕ) (m : ℕ) where
  abbrev on : ℕ → ℕ
  on j = cond (eqb (j - m) 0) (c j) (c m + (j - m))

  on_before : (j : ℕ) → j ≤ m → on j ≡ c j
  on_before j h = cond_both (eqb (j - m) 0) (c j) (c m + (j - m)) (λ x. x ≡ c j) (λ _. refl) (λ e. absurd (let z : j - m ≡ 0 = omega arith in both_ways (eqb (j - m) 0) e (eq-eqb (j - m) 0 z)))

  on_after : (j : ℕ) → m < j → on j ≡ c m + (j - m)
  on_after j h = cond_both (eqb (j - m) 0) (c j) (c m + (j - m)) (λ x. x ≡ c m + (j - m)) (λ e. absurd (let z = eqb-true (j - m) 0 e in omega arith)) (λ _. refl)

  on_rises : ((j : ℕ) → j < m → c j < c (suc j)) → Rising on
  on_rises h j = elim (cases_lt j m) [
    | inl l ↦ (let p = h j l in let q = on_before j (omega arith) in let r = on_before (suc j) l in omega arith)
    | inr l ↦ elim (cases_lt m j) [
      | inl u ↦ (let q = on_after j u in let r = on_after (suc j) (omega arith) in omega arith)
      | inr u ↦ (let e : j ≡ m = omega arith in let q : on j ≡ c m = on_before j (omega arith) ∙ ap c e in let r = on_after (suc j) (omega arith) in omega arith)
    ]
  ]

  cut_same : (x : Meaning) → MeaningMoved (λ j. j) 0 m (meaning_at_cuts c x) (meaning_at_cuts on x)
  cut_same (fixed t) = refl
  cut_same (varying f) = λ j u v. ap f (on_before j v)

  cuts_same : (x : Env) → EnvMoved (λ j. j) 0 m (env_at_cuts c x) (env_at_cuts on x)
  cuts_same [] = tt
  cuts_same (x ∷ xs) = (cut_same x, cuts_same xs)

woven_same : (m k : ℕ) (c c' : ℕ → ℕ) (V : Shows) (T : ℕ → Shows) → ((j : ℕ) → k ≤ j → j ≤ m + k → c j ≡ c' j) → woven m k c V T ≡ woven m k c' V T
woven_same zero k c c' V T h = ap (λ i. shown_at i (V k)) (h k (omega arith) (omega arith))
woven_same (suc m) k c c' V T h = λ i. shown_at (h k (omega arith) (omega arith) i) (V k) ⊕ (T k ⊕ woven_same m (suc k) c c' V T (λ j u v. h j (omega arith) (omega arith)) i)

pub project_by_cuts : (f g : FormulaTree) → Means (project f g) (ProjectByCuts f g)
unfolding Means
project_by_cuts f g w d env s a b S le = (
  (λ (c, m, V, T, r, start, end, pieces, outer, is). (c, m, V, T, start, end, (λ j v. (r j, pieces j v)), outer, is)),
  (λ (c, m, V, T, start, end, pieces, outer, is). let before = on_before c m in (
    on c m,
    m,
    V,
    T,
    on_rises c m (λ j v. (pieces j v).0),
    before 0 (omega arith) ∙ start,
    before m (omega arith) ∙ end,
    (λ j v. subst (λ (k : ℕ). Holds w d f env s k (on c m (suc j)) (T j)) (sym (before j (omega arith)))
        (subst (λ (k : ℕ). Holds w d f env s (c j) k (T j)) (sym (before (suc j) v)) (pieces j v).1)),
    meanings_read_their_part w d g (env_at_cuts c env) (env_at_cuts (on c m) env) (λ k. s (c k)) (λ k. s (on c m k)) 0 m V (omega arith) (cuts_same c m env) (λ j u v. ap s (before j v)) outer,
    is ∙ woven_same m 0 c (on c m) V T (λ j u v. sym (before j (omega arith))),
  )),
)

meaning_self : (a b : ℕ) (x : Meaning) → MeaningMoved (λ j. j) a b x x
meaning_self a b (fixed t) = refl
meaning_self a b (varying f) = λ j u v. refl

pub env_self : (a b : ℕ) (x : Env) → EnvMoved (λ j. j) a b x x
env_self a b [] = tt
env_self a b (x ∷ xs) = (meaning_self a b x, env_self a b xs)

-- the first of the values everywhere, where lasting
abbrev spread : Bool → ℕ → (ℕ → Tree) → ℕ → Tree
spread true a v j = v a
spread false a v j = v j

spread_lasts : (q : Bool) (a : ℕ) (v : ℕ → Tree) → Lasts q (spread q a v)
spread_lasts true a v = λ i j. refl
spread_lasts false a v = tt

spread_is : (q : Bool) (a b : ℕ) (v : ℕ → Tree) → a ≤ b → (q ≡ true → (i j : ℕ) → a ≤ i → i ≤ b → a ≤ j → j ≤ b → v i ≡ v j) → (j : ℕ) → a ≤ j → j ≤ b → spread q a v j ≡ v j
spread_is true a b v le h j u w = h refl a j (omega arith) le u w
spread_is false a b v le h j u w = refl

lasts_there : (q : Bool) (v : ℕ → Tree) → Lasts q v → q ≡ true → (i j : ℕ) → v i ≡ v j
lasts_there true v l e = l
lasts_there false v l e = absurd (cc)

pub exists_by_values : (name : List ℕ) (lasting : Bool) (f : FormulaTree) → Means (exists name lasting f) (ExistsByValues lasting f)
unfolding Means
exists_by_values name lasting f w d env s a b S le = (
  (λ (v, l, h). (v, (λ e i j x y z u. lasts_there lasting v l e i j), h)),
  (λ (v, l, h). (
    spread lasting a v,
    spread_lasts lasting a v,
    meanings_read_their_part w d f (env ++ running v ∷ []) (env ++ running (spread lasting a v) ∷ []) s s a b S le
        (append_moved (λ j. j) a b env env (running v) (running (spread lasting a v)) (env_self a b env) (λ j x y. ap (λ t. Some t) (spread_is lasting a b v le l j x y)))
        (λ j x y. refl) h,
  )),
)
