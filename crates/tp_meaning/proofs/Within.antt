-- Nothing is shown outside of an interval.
use Rattle.std.proofs.Common.{◌≡◌, ℤ, pos, ◌+ℤ◌, ℕ, zero, suc, ◌+◌, ◌≤◌, ◌<◌, List, [], ◌∷◌, ◌++◌, refl, sym, ◌∙◌, subst, arith, ◌⊎◌, inl, inr, eqb}
use Rattle.std.proofs.lemmas.Bool.{cond_both, eqb-true}
use Rattle.tp_value.specs.Tree.{Tree}
use Rattle.tp_meaning.specs.Syntax.{FormulaTree, trivial, test, equation, next_equation, empty, more, next, weak_next, if_more, if_empty, always, conjunction, branch, len, assign, chop, while, for_from, forall_from, project, exists, call, input, display, FormulaTrees, no_formula, formula_then}
use Rattle.tp_meaning.specs.Course.{Part, Course, Shows, blank, ◌⊕◌, shown_at, total, woven}
use Rattle.tp_meaning.specs.Value.{Env, Calls, calls_at}
use Rattle.tp_meaning.specs.Holds.{Context, Pieces, Together, CallMeanings, HoldsBy, AllHoldBy, CallHolds, Holds}
use Rattle.tp_meaning.specs.Moving.{NothingShownOutside}
use Rattle.tp_meaning.proofs.Move.{cut_within}

-- the position is outside
abbrev Out : ℕ → ℕ → ℕ → Type 0
Out a b j = (j < a) ⊎ (b < j)

abbrev pub Silent : ℕ → ℕ → Shows → Type 0
Silent a b S = (j : ℕ) → Out a b j → S j ≡ []

silent_blank : (a b : ℕ) (S : Shows) → S ≡ blank → Silent a b S
silent_blank a b S e j u = λ i. e i j

silent_join : (a b : ℕ) (S T U : Shows) → S ≡ T ⊕ U → Silent a b T → Silent a b U → Silent a b S
silent_join a b S T U e p q j u = (λ i. e i j) ∙ (λ i. p j u i ++ q j u i)

silent_at : (a b c : ℕ) (vs : List (List Tree)) → a ≤ c → c ≤ b → Silent a b (shown_at c vs)
silent_at a b c vs l h j u = cond_both (eqb j c) vs [] (λ x. x ≡ []) (λ e. absurd (let q = eqb-true j c e in elim u [ inl z ↦ omega arith | inr z ↦ omega arith ])) (λ _. refl)

silent_in : (a b i k : ℕ) (S : Shows) → a ≤ i → k ≤ b → Silent i k S → Silent a b S
silent_in a b i k S l h p j u = p j (elim u [ inl z ↦ inl (omega arith) | inr z ↦ inr (omega arith) ])

silent_total : (a b m k : ℕ) (T : ℕ → Shows) → ((i : ℕ) → k ≤ i → i < m + k → Silent a b (T i)) → Silent a b (total m k T)
silent_total a b zero k T h = λ j u. refl
silent_total a b (suc m) k T h = silent_join a b (total (suc m) k T) (T k) (total m (suc k) T) refl (h k (omega arith) (omega arith)) (silent_total a b m (suc k) T (λ i x y. h i (omega arith) (omega arith)))

silent_woven : (a b m k : ℕ) (c : ℕ → ℕ) (V : Shows) (T : ℕ → Shows) → ((j : ℕ) → k ≤ j → j ≤ m + k → (a ≤ c j) × (c j ≤ b)) → ((j : ℕ) → k ≤ j → j < m + k → Silent a b (T j)) → Silent a b (woven m k c V T)
silent_woven a b zero k c V T p h = let q = p k (omega arith) (omega arith) in silent_at a b (c k) (V k) q.0 q.1
silent_woven a b (suc m) k c V T p h =
    let q = p k (omega arith) (omega arith) in
    silent_join a b (woven (suc m) k c V T) (shown_at (c k) (V k)) (T k ⊕ woven m (suc k) c V T) refl (silent_at a b (c k) (V k) q.0 q.1)
    (silent_join a b (T k ⊕ woven m (suc k) c V T) (T k) (woven m (suc k) c V T) refl (h k (omega arith) (omega arith))
    (silent_woven a b m (suc k) c V T (λ j x y. p j (omega arith) (omega arith)) (λ j x y. h j (omega arith) (omega arith))))

silent_pieces : (P : ℤ → Part) → ((k : ℤ) (i j : ℕ) (T : Shows) → i ≤ j → P k i j T → Silent i j T) → (m : ℕ) (k : ℤ) (a b : ℕ) (S : Shows) → Pieces P m k a b S → Silent a b S
silent_pieces P go zero k a b S h = silent_blank a b S h.1
silent_pieces P go (suc m) k a b S h = silent_join a b S h.1 h.2 h.7 (silent_in a b a h.0 h.1 (omega arith) h.4 (go k a h.0 h.1 h.3 h.5)) (silent_in a b h.0 b h.2 h.3 (omega arith) (silent_pieces P go m (k +ℤ pos 1) h.0 b h.2 h.6))

silent_together : (P : ℤ → Part) (a b : ℕ) → ((k : ℤ) (T : Shows) → P k a b T → Silent a b T) → (m : ℕ) (k : ℤ) (S : Shows) → Together P m k a b S → Silent a b S
silent_together P a b go zero k S h = silent_blank a b S h
silent_together P a b go (suc m) k S h = silent_join a b S h.0 h.1 h.4 (go k h.0 h.2) (silent_together P a b go m (k +ℤ pos 1) h.1 h.3)

module _ (w : Context) (calls : Calls) (meanings : CallMeanings) (silent : (p : ℕ) (x : Env) (s : Course) (a b : ℕ) (S : Shows) → a ≤ b → meanings p x s a b S → Silent a b S) where
  mutual
    pub formula_silent : (g : FormulaTree) (x : Env) (s : Course) (a b : ℕ) (S : Shows) → a ≤ b → HoldsBy w calls meanings g x s a b S → Silent a b S
    formula_silent trivial x s a b S le z = silent_blank a b S z
    formula_silent (test e) x s a b S le z = silent_blank a b S z.1
    formula_silent (equation l r) x s a b S le z = silent_blank a b S z.3
    formula_silent (next_equation k l r) x s a b S le z = silent_blank a b S z.4
    formula_silent empty x s a b S le z = silent_blank a b S z.1
    formula_silent more x s a b S le z = silent_blank a b S z.1
    formula_silent (next g) x s a b S le z = silent_in a b (suc a) b S (omega arith) (omega arith) (formula_silent g x s (suc a) b S z.0 z.1)
    formula_silent (weak_next g) x s a b S le z = elim z [ inl q ↦ silent_blank a b S q.1 | inr q ↦ silent_in a b (suc a) b S (omega arith) (omega arith) (formula_silent g x s (suc a) b S q.0 q.1) ]
    formula_silent (if_more g) x s a b S le z = elim z [ inl q ↦ silent_blank a b S q.1 | inr q ↦ formula_silent g x s a b S le q.1 ]
    formula_silent (if_empty g) x s a b S le z = elim z [ inl q ↦ silent_blank a b S q.1 | inr q ↦ formula_silent g x s a b S le q.1 ]
    formula_silent (always g) x s a b S le z = subst (λ (X : Shows). Silent a b X) (sym z.4) (silent_total a b z.0 a z.1 (λ i u v. let e : z.0 + a ≡ suc b = z.2 in let h : i ≤ b = omega (arith, v, e) in
        silent_in a b i b (z.1 i) u (omega arith) (formula_silent g x s i b (z.1 i) h (z.3 i u h))))
    formula_silent (conjunction gs) x s a b S le z = formulas_silent gs x s a b S le z
    formula_silent (branch e g k) x s a b S le z = elim z [ inl q ↦ formula_silent g x s a b S le q.1 | inr q ↦ formula_silent k x s a b S le q.1 ]
    formula_silent (len e) x s a b S le z = silent_blank a b S z.3
    formula_silent (assign l r) x s a b S le z = silent_blank a b S z.3
    formula_silent (chop g k) x s a b S le z = silent_join a b S z.1 z.2 z.7 (silent_in a b a z.0 z.1 (omega arith) z.4 (formula_silent g x s a z.0 z.1 z.3 z.5)) (silent_in a b z.0 b z.2 z.3 (omega arith) (formula_silent k x s z.0 b z.2 z.4 z.6))
    formula_silent (while e g) x s a b S le z = silent_pieces _ (λ k i j T l q. formula_silent g x s i j T l q.2) z.0 _ a b S z.1
    formula_silent (for_from name k e g) x s a b S le z = silent_pieces _ (λ n i j T l q. formula_silent g _ s i j T l q) _ k a b S z.2
    formula_silent (forall_from name k e g) x s a b S le z = silent_together _ a b (λ n T q. formula_silent g _ s a b T le q) _ k S z.2
    formula_silent (project g k) x s a b S le z =
        let within = cut_within z.0 z.4 0 z.1 a b z.5 z.6 in
        subst (λ (X : Shows). Silent a b X) (sym z.9) (silent_woven a b z.1 0 z.0 z.2 z.3 (λ j u v. within j u (omega arith))
        (λ j u v. let l = z.4 j in
        silent_in a b (z.0 j) (z.0 (suc j)) (z.3 j) (within j u (omega arith)).0 (within (suc j) (omega arith) (omega arith)).1
        (formula_silent g x s (z.0 j) (z.0 (suc j)) (z.3 j) (omega (arith, l)) (z.7 j (omega arith)))))
    formula_silent (exists name lasting g) x s a b S le z = formula_silent g _ s a b S le z.2
    formula_silent (call p es) x s a b S le z = silent p z.0 s a b S le z.2
    formula_silent (input e name) x s a b S le z = silent_blank a b S z.3
    formula_silent (display es) x s a b S le z = subst (λ (X : Shows). Silent a b X) (sym z.2) (silent_at a b a (z.0 ∷ []) (omega arith) le)

    pub formulas_silent : (gs : FormulaTrees) (x : Env) (s : Course) (a b : ℕ) (S : Shows) → a ≤ b → AllHoldBy w calls meanings gs x s a b S → Silent a b S
    formulas_silent no_formula x s a b S le z = silent_blank a b S z
    formulas_silent (formula_then g gs) x s a b S le z = silent_join a b S z.0 z.1 z.4 (formula_silent g x s a b z.0 le z.2) (formulas_silent gs x s a b z.1 le z.3)

calls_silent : (w : Context) (d p : ℕ) (x : Env) (s : Course) (a b : ℕ) (S : Shows) → a ≤ b → CallHolds w d p x s a b S → Silent a b S
calls_silent w zero p x s a b S le z = elim z [ ]
calls_silent w (suc d) p x s a b S le z = formula_silent w (calls_at w.defs d) (CallHolds w d) (calls_silent w d) z.0.formula x s a b S le z.2

pub holds_silent : (w : Context) (d : ℕ) (g : FormulaTree) (x : Env) (s : Course) (a b : ℕ) (S : Shows) → a ≤ b → Holds w d g x s a b S → Silent a b S
holds_silent w d = formula_silent w (calls_at w.defs d) (CallHolds w d) (calls_silent w d)

pub nothing_shown_outside : NothingShownOutside
nothing_shown_outside w d f env s a b S le h = let z = holds_silent w d f env s a b S le h in record {
  before = λ j u. z j (inl u);
  after = λ j u. z j (inr u);
}
