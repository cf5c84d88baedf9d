-- A formula holds where its part of the course and of the environment is moved to.
use Rattle.std.proofs.Common.{◌≡◌, ℕ, zero, suc, ◌+◌, ◌-◌, ◌≤◌, ◌<◌, Bool, List, [], ◌∷◌, ◌++◌, refl, ap, sym, ◌∙◌, subst, arith, ◌⊎◌, inl, inr, cond, eqb}
use Rattle.std.proofs.lemmas.Bool.{cond_both, cond-true, cases_lt, eqb-true, eq-eqb, both_ways}
use Rattle.tp_value.specs.Tree.{Tree}
use Rattle.tp_meaning.specs.Course.{Shows, blank, ◌⊕◌, shown_at}
use Rattle.tp_meaning.specs.Value.{Meaning, fixed, varying, Env}
use Rattle.tp_meaning.specs.Holds.{Holds}
use Rattle.tp_meaning.specs.Moving.{InStep, MeaningMoved, EnvMoved, ShowsMoved, MeaningsMove, MeaningsReadTheirPart}
use Rattle.tp_meaning.proofs.Move.{Move, stay, holds_moved}
use Rattle.tp_meaning.proofs.Within.{holds_silent}

-- positions from a on go to those from k on
module _ (a k : ℕ) where
  abbrev pub to : ℕ → ℕ
  to j = (j - a) + k

  abbrev push : Shows → Shows
  push S i = cond (eqb (k - i) 0) (S ((i - k) + a)) []

  push_blank_at : (i : ℕ) → push blank i ≡ []
  push_blank_at i = cond_both (eqb (k - i) 0) [] [] (λ (x : List (List Tree)). x ≡ []) (λ _. refl) (λ _. refl)

  push_join_at : (S T : Shows) (i : ℕ) → push (S ⊕ T) i ≡ (push S ⊕ push T) i
  push_join_at S T i = by (eqb (k - i) 0) where
    by : (q : Bool) → cond q (S ((i - k) + a) ++ T ((i - k) + a)) [] ≡ cond q (S ((i - k) + a)) [] ++ cond q (T ((i - k) + a)) []
    by Bool.true = refl
    by Bool.false = refl

  push_at_at : (c : ℕ) → a ≤ c → (vs : List (List Tree)) (i : ℕ) → push (shown_at c vs) i ≡ shown_at (to c) vs i
  push_at_at c l vs i = cond_both (eqb i (to c)) vs [] (λ x. push (shown_at c vs) i ≡ x)
      (λ e. let q = eqb-true i (to c) e in let r : (i - k) + a ≡ c = omega arith in let n : k - i ≡ 0 = omega arith in
      cond-true (eqb (k - i) 0) _ [] (eq-eqb (k - i) 0 n) ∙ cond-true (eqb ((i - k) + a) c) vs [] (eq-eqb ((i - k) + a) c r))
      (λ e. cond_both (eqb (k - i) 0) (shown_at c vs ((i - k) + a)) [] (λ x. x ≡ [])
      (λ p. cond_both (eqb ((i - k) + a) c) vs [] (λ x. x ≡ []) (λ r. absurd (let n = eqb-true (k - i) 0 p in let m = eqb-true ((i - k) + a) c r in let o : i ≡ to c = omega (arith, l, n, m) in both_ways (eqb i (to c)) e (eq-eqb i (to c) o))) (λ _. refl))
      (λ _. refl))

  abbrev move : Move
  move = record {
    low = a;
    at = to;
    step = λ j u. omega arith;
    push = push;
    push_blank = λ i j. push_blank_at j i;
    push_join = λ S T i j. push_join_at S T j i;
    push_at = λ c u vs i j. push_at_at c u vs j i;
  }

one_same : (f g : ℕ → ℕ) (a b : ℕ) → ((j : ℕ) → a ≤ j → j ≤ b → f j ≡ g j) → (m n : Meaning) → MeaningMoved f a b m n → MeaningMoved g a b m n
one_same f g a b e (fixed t) (fixed u) h = h
one_same f g a b e (fixed t) (varying y) h = elim h [ ]
one_same f g a b e (varying x) (fixed u) h = elim h [ ]
one_same f g a b e (varying x) (varying y) h = λ j u v. ap y (sym (e j u v)) ∙ h j u v

env_same : (f g : ℕ → ℕ) (a b : ℕ) → ((j : ℕ) → a ≤ j → j ≤ b → f j ≡ g j) → (x y : Env) → EnvMoved f a b x y → EnvMoved g a b x y
env_same f g a b e [] [] h = tt
env_same f g a b e [] (n ∷ ns) h = elim h [ ]
env_same f g a b e (m ∷ ms) [] h = elim h [ ]
env_same f g a b e (m ∷ ms) (n ∷ ns) h = (one_same f g a b e m n h.0, env_same f g a b e ms ns h.1)

module _ (at : ℕ → ℕ) (a b : ℕ) (step : InStep at a b) where
  pub at_sum : (n : ℕ) → n + a ≤ b → at (n + a) ≡ n + at a
  at_sum zero h = (let e : 0 + a ≡ a = omega arith in ap at e) ∙ (let e : at a ≡ 0 + at a = omega arith in e)
  at_sum (suc n) h =
      (let e : suc n + a ≡ suc (n + a) = omega arith in ap at e) ∙ step (n + a) (omega arith) (omega arith) ∙ ap suc (at_sum n (omega arith)) ∙ (let e : suc (n + at a) ≡ suc n + at a = omega arith in e)

  pub at_is : (j : ℕ) → a ≤ j → j ≤ b → at j ≡ to a (at a) j
  at_is j u v = (let e : j ≡ (j - a) + a = omega arith in ap at e) ∙ at_sum (j - a) (omega arith)

-- what the shows that were moved are
shows_are : (at : ℕ → ℕ) (a b : ℕ) → InStep at a b → a ≤ b → (S S' : Shows) → ((j : ℕ) → (j < a) ⊎ (b < j) → S j ≡ []) → ShowsMoved at a b S S' → (k : ℕ) → S' k ≡ push a (at a) S k
shows_are at a b step le S S' out moved k = cond_both (eqb (at a - k) 0) (S ((k - at a) + a)) [] (λ x. S' k ≡ x)
    (λ e. let n = eqb-true (at a - k) 0 e in
    elim (cases_lt b ((k - at a) + a)) [
      | inl l ↦ (let q = at_is at a b step b le (omega arith) in moved.elsewhere.after k (omega (arith, l, n, q, le)) ∙ sym (out ((k - at a) + a) (inr l)))
      | inr l ↦ (
          let m : (k - at a) + a ≤ b = omega arith in
          let q = at_is at a b step ((k - at a) + a) (omega arith) m in
          let r : k ≡ at ((k - at a) + a) = omega (arith, n, q) in
          ap S' r ∙ moved.there ((k - at a) + a) (omega arith) m
          )
    ])
    (λ e. moved.elsewhere.before k (elim (cases_lt k (at a)) [ inl l ↦ l | inr l ↦ absurd (let n : at a - k ≡ 0 = omega arith in both_ways (eqb (at a - k) 0) e (eq-eqb (at a - k) 0 n)) ]))

pub meanings_move : MeaningsMove
meanings_move w d f at env env' s s' a b S S' le step envs course shows h =
    let is = at_is at a b step in
    let there = holds_moved w d f (move a (at a)) env env' s s' a b S (omega arith) le (env_same at (to a (at a)) a b is env env' envs)
    (λ j u v. ap s' (sym (is j u v)) ∙ course j u v) h in
    let from : to a (at a) a ≡ at a = omega arith in
    subst (λ (X : Shows). Holds w d f env' s' (at a) (at b) X) (λ i k. sym (shows_are at a b step le S S' (holds_silent w d f env s a b S le h) shows k) i)
    (subst (λ (k : ℕ). Holds w d f env' s' k (at b) (push a (at a) S)) from
    (subst (λ (k : ℕ). Holds w d f env' s' (to a (at a) a) k (push a (at a) S)) (sym (is b le (omega arith))) there))

pub meanings_read_their_part : MeaningsReadTheirPart
meanings_read_their_part w d f env env' s s' a b S le envs course h = holds_moved w d f stay env env' s s' a b S (omega arith) le envs course h
