-- The steps of the formulas of one state and the next keep what these say.
use Rattle.std.proofs.Common.{◌≡◌, ℤ, pos, negsuc, ℕ, zero, suc, ◌+◌, ◌-◌, ◌≤◌, ◌<◌, Bool, true, false, List, [], ◌∷◌, length, inl, inr, subst, arith, if◌then◌else◌}
use Rattle.tp_value.specs.Tree.{num, truth}
use Rattle.tp_value.specs.declared.path.Fact.{Fact}
use Rattle.tp_meaning.specs.Syntax.{ExprTree, known, numeral, FormulaTree, FormulaTrees, trivial, test, equation, next_equation, empty, more, next, weak_next, if_more, if_empty, always, conjunction, branch, len, assign, chop, while, no_formula, formula_then, formulas_of}
use Rattle.tp_meaning.specs.Course.{Course, Shows}
use Rattle.tp_meaning.specs.Bindings.{Locals, meanings_of}
use Rattle.tp_meaning.specs.Value.{Env, calls_at}
use Rattle.tp_meaning.specs.Holds.{Context, AllHoldBy, CallHolds}
use Rattle.tp_meaning.specs.Direct.{Means}
use Rattle.tp_meaning.specs.Fits.{ExprFits}
use Rattle.tp_meaning.specs.Nexts.{nexts}
use Rattle.tp_meaning.proofs.Unfold.{always_unfolds, while_unfolds, len_unfolds, next_equation_unfolds, assign_unfolds}
use Rattle.tp_eval.specs.Evaluate.{depth_limit}
use Rattle.tp_scene.specs.Scene.{Bindings, Ending, Going, Do, Later, none, leaf, Place}
use Rattle.tp_scene.specs.Says.{Claim, FormulaSays, LeafSays, Says}
use Rattle.tp_scene.specs.Step.{Numbers, PickOutcome, clashes, becomes, vanishes, going, all_do, count_of, length_left, formula_step}
use Rattle.tp_scene.specs.declared.answer.Clash.TheVariants.{False}
use Rattle.tp_scene.proofs.Frame.{Known, Keeps}
use Rattle.tp_scene.proofs.RowForms.{alone, of_alone, raised, turns_into, becomes_one, becomes_formula, gone, marking_row, by_status_row}
use Rattle.tp_scene.proofs.Values.{AreRight, Finds, value_found, one_value, same_value, value_row, truth_row, number_row}

-- what expressions mean is found: `e` is added to the depth where a formula is said again
module _ (w : Context) (state : ℕ) (kinds : List Bool) (facts : List Fact) (nn : Numbers) (e : ℕ) (deep : depth_limit < e) (right : AreRight w kinds facts) where
  -- the step keeps what the formula says
  abbrev pub FormulaKeeps : FormulaTree → Bindings → Place → Course → ℕ → ℕ → Type 0
  FormulaKeeps f env p s a b = Keeps w (length kinds) facts nn.local e (formula_step w.defs w.inputs state facts f env p nn) (FormulaSays w (length kinds) f env) s a b

  module _ (env : Bindings) (p : Place) (s : Course) (a b : ℕ) (le : a ≤ b) (known_place : Known p a b) where
    abbrev Said : FormulaTree → Claim
    Said f = FormulaSays w (length kinds) f env

    abbrev RowOf : FormulaTree → PickOutcome → Type 0
    RowOf f o = Keeps w (length kinds) facts nn.local e o (Said f) s a b

    abbrev env_in : Locals → Env
    env_in σ = meanings_of (length kinds) s σ env

    again : (f : FormulaTree) (d : ℕ) (σ : Locals) (i : ℕ) (S : Shows) → Said f d σ s i b S → Said f (e + d) σ s i b S
    again f d σ i S h = raised w (length kinds) facts nn.local e f env d σ s i b S h

    pub trivial_row : FormulaKeeps trivial env p s a b
    trivial_row = gone w (length kinds) facts nn.local e (Said trivial) s a b (λ d σ S ag h. h) (λ d σ S ag h. h)

    pub test_row : (x : ExprTree) → ExprFits w.defs kinds x (length env) → FormulaKeeps (test x) env p s a b
    test_row x fit = truth_row w kinds facts nn.local e deep right x env fit (Said (test x)) s a b (λ c. if c then vanishes else clashes False) (λ d σ S h. (true, h.0)) tested
      where
        tested : (c : Bool) → Finds w kinds facts nn.local e deep right x env (truth c) → RowOf (test x) (if c then vanishes else clashes False)
        tested true q = gone w (length kinds) facts nn.local e (Said (test x)) s a b (λ d σ S ag h. h.1)
            (λ d σ S ag h. (value_found w kinds facts nn.local e deep right x env fit (truth true) q d σ s a ag, h))
        tested false q = λ d σ S ag h. let r : truth true ≡ truth false = one_value w kinds facts nn.local e deep right x env fit (truth false) q d σ s a ag (truth true) h.0 in absurd (cc)

    pub empty_row : FormulaKeeps empty env p s a b
    empty_row = marking_row w (length kinds) facts nn.local e (Said empty) s a b Ending (p.is Going) p.depth none 0
        (λ y d σ S ag h. let l : a < b = known_place Going y in let r : a ≡ b = h.0 in omega arith) (λ d σ S ag h. (h.0, h.1)) (λ d σ S ag m h. (m, h))

    pub more_row : FormulaKeeps more env p s a b
    more_row = marking_row w (length kinds) facts nn.local e (Said more) s a b Going (p.is Ending) p.depth none 0
        (λ y d σ S ag h. let l : a ≡ b = known_place Ending y in let r : a < b = h.0 in omega arith) (λ d σ S ag h. (h.0, h.1)) (λ d σ S ag m h. (m, h))

    pub next_row : (f : FormulaTree) → FormulaKeeps (next f) env p s a b
    next_row f = marking_row w (length kinds) facts nn.local e (Said (next f)) s a b Going (p.is Ending) p.depth (leaf (nn.item 0) (Later f env) none) 1
        (λ y d σ S ag h. let l : a ≡ b = known_place Ending y in let r : a < b = h.0 in omega arith)
        (λ d σ S ag h. (h.0, alone w (length kinds) facts nn.local e (LeafSays w (length kinds) (Later f env)) d σ s a b S h))
        (λ d σ S ag l h. let x = of_alone w (length kinds) facts nn.local e (LeafSays w (length kinds) (Later f env)) d σ s a b S h in (x.0, again f d σ (suc a) S x.1))

    pub weak_next_row : (f : FormulaTree) → FormulaKeeps (weak_next f) env p s a b
    weak_next_row f = by_status_row w (length kinds) facts nn.local e (Said (weak_next f)) s a b p _ _ known_place
        (λ l. becomes_one w (length kinds) facts nn.local e (Said (weak_next f)) s a b (nn.item 0) (Later f env) 1
        (λ d σ S ag h. elim h [ inl x ↦ absurd (let r = x.0 in omega arith) | inr x ↦ x ])
        (λ d σ S ag h. inr (h.0, again f d σ (suc a) S h.1)))
        (λ q. gone w (length kinds) facts nn.local e (Said (weak_next f)) s a b
        (λ d σ S ag h. elim h [ inl x ↦ x.1 | inr x ↦ absurd (let r = x.0 in omega arith) ])
        (λ d σ S ag h. inl (q, h)))

    pub if_more_row : (f : FormulaTree) → FormulaKeeps (if_more f) env p s a b
    if_more_row f = by_status_row w (length kinds) facts nn.local e (Said (if_more f)) s a b p _ _ known_place
        (λ l. becomes_formula w (length kinds) facts nn.local e (Said (if_more f)) s a b (nn.item 0) f env 1
        (λ d σ S ag h. elim h [ inl x ↦ absurd (let r = x.0 in omega arith) | inr x ↦ x.1 ])
        (λ d σ S ag h. inr (l, h)))
        (λ q. gone w (length kinds) facts nn.local e (Said (if_more f)) s a b
        (λ d σ S ag h. elim h [ inl x ↦ x.1 | inr x ↦ absurd (let r = x.0 in omega arith) ])
        (λ d σ S ag h. inl (q, h)))

    pub if_empty_row : (f : FormulaTree) → FormulaKeeps (if_empty f) env p s a b
    if_empty_row f = by_status_row w (length kinds) facts nn.local e (Said (if_empty f)) s a b p _ _ known_place
        (λ l. gone w (length kinds) facts nn.local e (Said (if_empty f)) s a b
        (λ d σ S ag h. elim h [ inl x ↦ x.1 | inr x ↦ absurd (let r = x.0 in omega arith) ])
        (λ d σ S ag h. inl (l, h)))
        (λ q. becomes_formula w (length kinds) facts nn.local e (Said (if_empty f)) s a b (nn.item 0) f env 1
        (λ d σ S ag h. elim h [ inl x ↦ absurd (let r = x.0 in omega arith) | inr x ↦ x.1 ])
        (λ d σ S ag h. inr (q, h)))

    pub always_row : (f : FormulaTree) → FormulaKeeps (always f) env p s a b
    unfolding Means
    always_row f = turns_into w (length kinds) facts nn.local e (Said (always f)) s a b (leaf (nn.item 0) (Do f env) (leaf (nn.item 1) (Do (weak_next (always f)) env) none)) 2 0
        (λ d σ S ag h. (always_unfolds f w d (env_in σ) s a b S le).0 h)
        (λ d σ S ag h. again (always f) d σ a S ((always_unfolds f w d (env_in σ) s a b S le).1 h))

    all_do_says : (fs : FormulaTrees) (k d : ℕ) (σ : Locals) (S : Shows) → AllHoldBy w (calls_at w.defs d) (CallHolds w d) fs (env_in σ) s a b S → Says w (length kinds) (all_do fs env nn.item k) d σ s a b S
    all_do_says no_formula k d σ S h = h
    all_do_says (formula_then f fs) k d σ S h = (h.0, h.1, h.2, all_do_says fs (suc k) d σ h.1 h.3, h.4)

    all_do_hold : (fs : FormulaTrees) (k d : ℕ) (σ : Locals) (S : Shows) → Says w (length kinds) (all_do fs env nn.item k) d σ s a b S → AllHoldBy w (calls_at w.defs d) (CallHolds w d) fs (env_in σ) s a b S
    all_do_hold no_formula k d σ S h = h
    all_do_hold (formula_then f fs) k d σ S h = (h.0, h.1, h.2, all_do_hold fs (suc k) d σ h.1 h.3, h.4)

    pub conjunction_row : (fs : FormulaTrees) → FormulaKeeps (conjunction fs) env p s a b
    conjunction_row fs = turns_into w (length kinds) facts nn.local e (Said (conjunction fs)) s a b (all_do fs env nn.item 0) (count_of fs) 0
        (λ d σ S ag h. all_do_says fs 0 d σ S h) (λ d σ S ag h. again (conjunction fs) d σ a S (all_do_hold fs 0 d σ S h))

    pub branch_row : (x : ExprTree) (f g : FormulaTree) → ExprFits w.defs kinds x (length env) → FormulaKeeps (branch x f g) env p s a b
    branch_row x f g fit = truth_row w kinds facts nn.local e deep right x env fit (Said (branch x f g)) s a b (λ c. becomes (leaf (nn.item 0) (Do (if c then f else g) env) none) 1)
        (λ d σ S h. elim h [ inl y ↦ (true, y.0) | inr y ↦ (false, y.0) ]) chosen
      where
        chosen : (c : Bool) → Finds w kinds facts nn.local e deep right x env (truth c) → RowOf (branch x f g) (becomes (leaf (nn.item 0) (Do (if c then f else g) env) none) 1)
        chosen true q = becomes_formula w (length kinds) facts nn.local e (Said (branch x f g)) s a b (nn.item 0) f env 1
            (λ d σ S ag h. elim h [ inl y ↦ y.1 | inr y ↦ (let r : truth false ≡ truth true = one_value w kinds facts nn.local e deep right x env fit (truth true) q d σ s a ag (truth false) y.0 in absurd (cc)) ])
            (λ d σ S ag h. inl (value_found w kinds facts nn.local e deep right x env fit (truth true) q d σ s a ag, h))
        chosen false q = becomes_formula w (length kinds) facts nn.local e (Said (branch x f g)) s a b (nn.item 0) g env 1
            (λ d σ S ag h. elim h [ inl y ↦ (let r : truth true ≡ truth false = one_value w kinds facts nn.local e deep right x env fit (truth false) q d σ s a ag (truth true) y.0 in absurd (cc)) | inr y ↦ y.1 ])
            (λ d σ S ag h. inr (value_found w kinds facts nn.local e deep right x env fit (truth false) q d σ s a ag, h))

    pub while_row : (x : ExprTree) (f : FormulaTree) → FormulaKeeps (while x f) env p s a b
    unfolding Means
    while_row x f = becomes_formula w (length kinds) facts nn.local e (Said (while x f)) s a b (nn.item 0) (branch x (chop (conjunction (formulas_of (f ∷ more ∷ []))) (while x f)) empty) env 1
        (λ d σ S ag h. (while_unfolds x f w d (env_in σ) s a b S le).0 h) (λ d σ S ag h. (while_unfolds x f w (e + d) (env_in σ) s a b S le).1 h)

    module _ (x : ExprTree) (fit : ExprFits w.defs kinds x (length env)) where
      pub len_row : FormulaKeeps (len x) env p s a b
      len_row = number_row w kinds facts nn.local e deep right x env fit (Said (len x)) s a b (λ k. length_left k env nn) (λ d σ S h. (pos h.0, h.1)) left
        where
          left : (k : ℤ) → Finds w kinds facts nn.local e deep right x env (num k) → RowOf (len x) (length_left k env nn)
          left (pos zero) q = becomes_formula w (length kinds) facts nn.local e (Said (len x)) s a b (nn.item 0) empty env 1
              (λ d σ S ag h. ((len_unfolds x).ends w d (env_in σ) s a b S le (same_value w kinds facts nn.local e deep right x env fit (num (pos 0)) q d σ s a ag (num (pos h.0)) h.1)).0 h)
              (λ d σ S ag h. ((len_unfolds x).ends w (e + d) (env_in σ) s a b S le (value_found w kinds facts nn.local e deep right x env fit (num (pos 0)) q d σ s a ag)).1 h)
          left (pos (suc k)) q = becomes_formula w (length kinds) facts nn.local e (Said (len x)) s a b (nn.item 0) (next (len (numeral (pos k)))) env 1
              (λ d σ S ag h. ((len_unfolds x).goes k w d (env_in σ) s a b S le (same_value w kinds facts nn.local e deep right x env fit (num (pos (suc k))) q d σ s a ag (num (pos h.0)) h.1)).0 h)
              (λ d σ S ag h. ((len_unfolds x).goes k w (e + d) (env_in σ) s a b S le (value_found w kinds facts nn.local e deep right x env fit (num (pos (suc k))) q d σ s a ag)).1 h)
          left (negsuc k) q = λ d σ S ag h. let r : num (pos h.0) ≡ num (negsuc k) = one_value w kinds facts nn.local e deep right x env fit (num (negsuc k)) q d σ s a ag (num (pos h.0)) h.1 in absurd (cc)

      pub assign_row : (t : ExprTree) → FormulaKeeps (assign t x) env p s a b
      assign_row t = value_row w kinds facts nn.local e deep right x env fit (Said (assign t x)) s a b (λ v. becomes (leaf (nn.item 0) (Do (always (if_empty (equation t (known v)))) env) none) 1) (λ d σ S h. (h.0, h.2))
          (λ v q. becomes_formula w (length kinds) facts nn.local e (Said (assign t x)) s a b (nn.item 0) (always (if_empty (equation t (known v)))) env 1
          (λ d σ S ag h. (assign_unfolds t x v w d (env_in σ) s a b S le (same_value w kinds facts nn.local e deep right x env fit v q d σ s a ag h.0 h.2)).0 h)
          (λ d σ S ag h. (assign_unfolds t x v w (e + d) (env_in σ) s a b S le (value_found w kinds facts nn.local e deep right x env fit v q d σ s a ag)).1 h))

      less_one : (k : ℕ) → k ≡ suc k - 1
      less_one k = omega arith

      pub next_equation_row : (k : ℕ) (t : ExprTree) → 1 ≤ k → FormulaKeeps (next_equation k t x) env p s a b
      next_equation_row zero t l = absurd (omega arith)
      next_equation_row (suc k) t l = value_row w kinds facts nn.local e deep right x env fit (Said (next_equation (suc k) t x)) s a b
          (λ v. going p (leaf (nn.item 0) (Later (nexts (suc k - 1) (equation t (known v))) env) none) 1) (λ d σ S h. (h.0, h.3))
          (λ v q. subst (λ (j : ℕ). RowOf (next_equation (suc k) t x) (going p (leaf (nn.item 0) (Later (nexts j (equation t (known v))) env) none) 1)) (less_one k)
          (marking_row w (length kinds) facts nn.local e (Said (next_equation (suc k) t x)) s a b Going (p.is Ending) p.depth (leaf (nn.item 0) (Later (nexts k (equation t (known v))) env) none) 1
          (λ y d σ S ag h. let l : a ≡ b = known_place Ending y in let r : suc k + a ≤ b = h.1 in omega arith)
          (λ d σ S ag h. let u = (next_equation_unfolds (suc k) t x v w d (env_in σ) s a b S le (same_value w kinds facts nn.local e deep right x env fit v q d σ s a ag h.0 h.3)).0 h in
          (u.0, alone w (length kinds) facts nn.local e (LeafSays w (length kinds) (Later (nexts k (equation t (known v))) env)) d σ s a b S u))
          (λ d σ S ag y h. let u = of_alone w (length kinds) facts nn.local e (LeafSays w (length kinds) (Later (nexts k (equation t (known v))) env)) d σ s a b S h in
          (next_equation_unfolds (suc k) t x v w (e + d) (env_in σ) s a b S le (value_found w kinds facts nn.local e deep right x env fit v q d σ s a ag)).1 (u.0, again (nexts k (equation t (known v))) d σ (suc a) S u.1))))
