-- Nothing is shown before the first position of an interval.
use Rattle.std.proofs.Common.{◌≡◌, ℕ, zero, suc, ◌+◌, ◌≤◌, ◌<◌, List, [], ◌∷◌, ◌++◌, refl, sym, ◌∙◌, subst, arith, inl, inr, eqb}
use Rattle.std.proofs.lemmas.Bool.{cases_lt, cond_both, eqb-true}
use Rattle.tp_value.specs.Tree.{Tree}
use Rattle.tp_meaning.specs.Syntax.{FormulaTree}
use Rattle.tp_meaning.specs.Course.{Course, Shows, blank, ◌⊕◌, shown_at, woven, Rising}
use Rattle.tp_meaning.specs.Value.{Env}
use Rattle.tp_meaning.specs.Bindings.{Locals, meanings_of}
use Rattle.tp_meaning.specs.Holds.{Context, Holds}
use Rattle.tp_meaning.proofs.Rising.{rises_less}
use Rattle.tp_meaning.proofs.Within.{holds_silent}
use Rattle.tp_scene.specs.Scene.{Bindings, Leaf, Do, Later, Shown, Holder, Split, SplitProject, Closed, Opened, Running, Entries, none, leaf, node}
use Rattle.tp_scene.specs.Says.{Claim, LeafSays, OpenedSays, RunningSays, SplitSays, HolderSays, Says}

abbrev pub Before : ℕ → Shows → Type 0
Before a S = (j : ℕ) → j < a → S j ≡ []

before_blank : (a : ℕ) (S : Shows) → S ≡ blank → Before a S
before_blank a S e j u = λ i. e i j

pub before_join : (a : ℕ) (S T U : Shows) → S ≡ T ⊕ U → Before a T → Before a U → Before a S
before_join a S T U e p q j u = (λ i. e i j) ∙ (λ i. p j u i ++ q j u i)

pub before_at : (a c : ℕ) (vs : List (List Tree)) → a ≤ c → Before a (shown_at c vs)
before_at a c vs h j u = cond_both (eqb j c) vs [] (λ x. x ≡ []) (λ e. absurd (let q = eqb-true j c e in omega arith)) (λ _. refl)

before_more : (a c : ℕ) (S : Shows) → a ≤ c → Before c S → Before a S
before_more a c S h p j u = p j (omega arith)

before_woven : (a m k : ℕ) (c : ℕ → ℕ) (V : Shows) (T : ℕ → Shows) → ((j : ℕ) → k ≤ j → a ≤ c j) → ((j : ℕ) → k ≤ j → j < m + k → Before a (T j)) → Before a (woven m k c V T)
before_woven a zero k c V T p h = before_at a (c k) (V k) (p k (omega arith))
before_woven a (suc m) k c V T p h =
    before_join a (woven (suc m) k c V T) (shown_at (c k) (V k)) (T k ⊕ woven m (suc k) c V T) refl (before_at a (c k) (V k) (p k (omega arith)))
    (before_join a (T k ⊕ woven m (suc k) c V T) (T k) (woven m (suc k) c V T) refl (h k (omega arith) (omega arith)) (before_woven a m (suc k) c V T (λ j x. p j (omega arith)) (λ j x y. h j (omega arith) (omega arith))))

cut_from : (c : ℕ → ℕ) → Rising c → (a : ℕ) → c 0 ≡ a → (j : ℕ) → a ≤ c j
cut_from c r a e zero = omega (arith, e)
cut_from c r a e (suc j) = let q = rises_less c r 0 (suc j) (omega arith) in omega (arith, q, e)

holds_quiet : (w : Context) (d : ℕ) (g : FormulaTree) (x : Env) (s : Course) (a b : ℕ) (S : Shows) → a ≤ b → Holds w d g x s a b S → Before a S
holds_quiet w d g x s a b S le h j u = holds_silent w d g x s a b S le h j (inl u)

-- of claims
abbrev pub Quiet : Claim → Type 0
Quiet P = (d : ℕ) (σ : Locals) (s : Course) (a b : ℕ) (S : Shows) → a ≤ b → P d σ s a b S → Before a S

module _ (w : Context) (globals : ℕ) where
  pub leaf_quiet : (l : Leaf) → Quiet (LeafSays w globals l)
  leaf_quiet (Do f env) d σ s a b S le z = holds_quiet w d f (meanings_of globals s σ env) s a b S le z
  leaf_quiet (Later f env) d σ s a b S le z = before_more a (suc a) S (omega arith) (holds_quiet w d f (meanings_of globals s σ env) s (suc a) b S z.0 z.1)
  leaf_quiet (Shown vs) d σ s a b S le z = subst (λ (X : Shows). Before a X) (sym z) (before_at a a (vs ∷ []) (omega arith))

  piece_quiet : (f : FormulaTree) (env : Bindings) (c : ℕ → ℕ) → Rising c → (d : ℕ) (σ : Locals) (s : Course) (a j : ℕ) (T : Shows) → a ≤ c j → Holds w d f (meanings_of globals s σ env) s (c j) (c (suc j)) T → Before a T
  piece_quiet f env c r d σ s a j T u h = before_more a (c j) T u (holds_quiet w d f (meanings_of globals s σ env) s (c j) (c (suc j)) T (let q = r j in omega (arith, q)) h)

  opened_quiet : (f : FormulaTree) (env : Bindings) (O : Claim) → Quiet (OpenedSays w globals f env O)
  opened_quiet f env O d σ s a b S le z = subst (λ (X : Shows). Before a X) (sym z.9) (before_woven a z.1 0 z.0 z.2 z.3 (λ j u. cut_from z.0 z.4 a z.5 j)
      (λ j u v. piece_quiet f env z.0 z.4 d σ s a j (z.3 j) (cut_from z.0 z.4 a z.5 j) (z.7 j (omega arith))))

  running_quiet : (f : FormulaTree) (env : Bindings) (I O : Claim) → Quiet I → Quiet (RunningSays w globals f env I O)
  running_quiet f env I O q d σ s a b S le z = subst (λ (X : Shows). Before a X) (sym z.10) (before_woven a (suc z.1) 0 z.0 z.2 z.3 (λ j u. cut_from z.0 z.4 a z.5 j)
      (λ j u v. elim (cases_lt 0 j) [
        | inl l ↦ piece_quiet f env z.0 z.4 d σ s a j (z.3 j) (cut_from z.0 z.4 a z.5 j) (z.8 j l (omega arith))
        | inr l ↦ (let e : 0 ≡ j = omega arith in let r = z.4 0 in
            subst (λ (i : ℕ). Before a (z.3 i)) e (before_more a (z.0 0) (z.3 0) (cut_from z.0 z.4 a z.5 0) (q d σ s (z.0 0) (z.0 1) (z.3 0) (omega (arith, r)) z.7)))
      ]))

  split_quiet : (I A : Claim) → Quiet I → Quiet A → Quiet (SplitSays w globals I A)
  split_quiet I A p q d σ s a b S le z = before_join a S z.1 z.2 z.7 (p d σ s a z.0 z.1 z.3 z.5) (before_more a z.0 z.2 z.3 (q d σ s z.0 b z.2 z.4 z.6))

  pub holder_quiet : (k : Holder) (I O : Claim) → Quiet I → Quiet (HolderSays w globals k I O)
  holder_quiet (Split f env) I O q = split_quiet I _ q (λ d σ s a b S le z. holds_quiet w d f (meanings_of globals s σ env) s a b S le z)
  holder_quiet (SplitProject f env) I O q = split_quiet I _ q (opened_quiet f env O)
  holder_quiet Closed I O q = λ d σ s a b S le z. q d σ s a a S (omega arith) z
  holder_quiet (Opened f env) I O q = opened_quiet f env I
  holder_quiet (Running f env) I O q = running_quiet f env I O q

  pub says_quiet : (es : Entries) → Quiet (Says w globals es)
  says_quiet none d σ s a b S le z = before_blank a S z
  says_quiet (leaf id l rest) d σ s a b S le z = before_join a S z.0 z.1 z.4 (leaf_quiet l d σ s a b z.0 le z.2) (says_quiet rest d σ s a b z.1 le z.3)
  says_quiet (node id k h held g second rest) d σ s a b S le z = before_join a S z.0 z.1 z.4
      (holder_quiet k _ _ (λ d σ s i j T le q. says_quiet held d σ s i j T le q.1) d σ s a b z.0 le z.2) (says_quiet rest d σ s a b z.1 le z.3)
