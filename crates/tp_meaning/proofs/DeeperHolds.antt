-- What holds at one depth holds at a greater one, with the same shows.
use Rattle.std.proofs.Common.{slice_get, ℤ, pos, ◌+ℤ◌, ℕ, zero, suc, ◌≤◌, arith, inl, inr}
use Rattle.tp_value.specs.Tree.{Tree}
use Rattle.tp_meaning.specs.Syntax.{ExprTree, FormulaTree, trivial, test, equation, next_equation, empty, more, next, weak_next, if_more, if_empty, always, conjunction, branch, len, assign, chop, while, for_from, forall_from, project, exists, call, input, display, FormulaTrees, no_formula, formula_then}
use Rattle.tp_meaning.specs.Course.{Part, Course, Shows}
use Rattle.tp_meaning.specs.Value.{Env, Calls, calls_at}
use Rattle.tp_meaning.specs.Holds.{Context, Pieces, Together, CallMeanings, env_at_cuts, Has, HoldsBy, AllHoldBy, CallHolds, Holds}
use Rattle.tp_meaning.proofs.Deeper.{Keeps, same, bind_keeps, value_keeps, values_keep, arguments_keep, calls_keep}

-- parts may say less
pub pieces_map : (P Q : ℤ → Part) → ((k : ℤ) (i j : ℕ) (T : Shows) → P k i j T → Q k i j T) → (m : ℕ) (k : ℤ) (a b : ℕ) (S : Shows) → Pieces P m k a b S → Pieces Q m k a b S
pieces_map P Q f zero k a b S h = h
pieces_map P Q f (suc m) k a b S h = (h.0, h.1, h.2, h.3, h.4, f k a h.0 h.1 h.5, pieces_map P Q f m (k +ℤ pos 1) h.0 b h.2 h.6, h.7)

pub together_map : (P Q : ℤ → Part) → ((k : ℤ) (i j : ℕ) (T : Shows) → P k i j T → Q k i j T) → (m : ℕ) (k : ℤ) (a b : ℕ) (S : Shows) → Together P m k a b S → Together Q m k a b S
together_map P Q f zero k a b S h = h
together_map P Q f (suc m) k a b S h = (h.0, h.1, f k a b h.0 h.2, together_map P Q f m (k +ℤ pos 1) a b h.1 h.3, h.4)

module _ (w : Context) (calls calls' : Calls) (meanings meanings' : CallMeanings)
    (more_values : (p : ℕ) (args : Env) (s : Course) (j : ℕ) → Keeps (calls p args s j) (calls' p args s j))
    (more_meanings : (p : ℕ) (args : Env) (s : Course) (a b : ℕ) (S : Shows) → meanings p args s a b S → meanings' p args s a b S) where
  has_keeps : (e : ExprTree) (env : Env) (s : Course) (j : ℕ) (v : Tree) → Has w calls meanings e env s j v → Has w calls' meanings' e env s j v
  has_keeps e env s j v = value_keeps w.defs calls calls' more_values e env s j v

  mutual
    pub holds_keeps : (f : FormulaTree) (env : Env) (s : Course) (a b : ℕ) (S : Shows) → HoldsBy w calls meanings f env s a b S → HoldsBy w calls' meanings' f env s a b S
    holds_keeps trivial env s a b S h = h
    holds_keeps (test e) env s a b S h = (has_keeps e env s a _ h.0, h.1)
    holds_keeps (equation l r) env s a b S h = (h.0, has_keeps l env s a _ h.1, has_keeps r env s a _ h.2, h.3)
    holds_keeps (next_equation k t e) env s a b S h = (h.0, h.1, has_keeps t env s _ _ h.2, has_keeps e env s a _ h.3, h.4)
    holds_keeps empty env s a b S h = h
    holds_keeps more env s a b S h = h
    holds_keeps (next f) env s a b S h = (h.0, holds_keeps f env s _ b S h.1)
    holds_keeps (weak_next f) env s a b S h = elim h [ inl x ↦ inl x | inr x ↦ inr (x.0, holds_keeps f env s _ b S x.1) ]
    holds_keeps (if_more f) env s a b S h = elim h [ inl x ↦ inl x | inr x ↦ inr (x.0, holds_keeps f env s a b S x.1) ]
    holds_keeps (if_empty f) env s a b S h = elim h [ inl x ↦ inl x | inr x ↦ inr (x.0, holds_keeps f env s a b S x.1) ]
    holds_keeps (always f) env s a b S h = (h.0, h.1, h.2, (λ i u v. holds_keeps f env s i b _ (h.3 i u v)), h.4)
    holds_keeps (conjunction fs) env s a b S h = all_hold_keep fs env s a b S h
    holds_keeps (branch e f g) env s a b S h = elim h [
      | inl x ↦ inl (has_keeps e env s a _ x.0, holds_keeps f env s a b S x.1)
      | inr x ↦ inr (has_keeps e env s a _ x.0, holds_keeps g env s a b S x.1)
    ]
    holds_keeps (len e) env s a b S h = (h.0, has_keeps e env s a _ h.1, h.2, h.3)
    holds_keeps (assign t e) env s a b S h = (h.0, has_keeps t env s b _ h.1, has_keeps e env s a _ h.2, h.3)
    holds_keeps (chop f g) env s a b S h = (h.0, h.1, h.2, h.3, h.4, holds_keeps f env s _ _ _ h.5, holds_keeps g env s _ _ _ h.6, h.7)
    holds_keeps (while e f) env s a b S h = (h.0, pieces_map _ _ (λ k i j T x. (x.0, has_keeps e env s i _ x.1, holds_keeps f env s i j T x.2)) h.0 _ a b S h.1, has_keeps e env s b _ h.2)
    holds_keeps (for_from name k e f) env s a b S h = (h.0, has_keeps e env s a _ h.1, pieces_map _ _ (λ v i j T x. holds_keeps f _ s i j T x) _ k a b S h.2)
    holds_keeps (forall_from name k e f) env s a b S h = (h.0, has_keeps e env s a _ h.1, together_map _ _ (λ v i j T x. holds_keeps f _ s i j T x) _ k a b S h.2)
    holds_keeps (project f g) env s a b S h = (h.0, h.1, h.2, h.3, h.4, h.5, h.6, (λ j v. holds_keeps f env s _ _ _ (h.7 j v)), holds_keeps g (env_at_cuts h.0 env) (λ k. s (h.0 k)) _ _ h.2 h.8, h.9)
    holds_keeps (exists name lasting f) env s a b S h = (h.0, h.1, holds_keeps f _ s a b S h.2)
    holds_keeps (call p es) env s a b S h = (h.0, bind_keeps _ _ _ _ (same (slice_get w.defs p)) (λ f. arguments_keep w.defs calls calls' more_values es f.parameters env s a) _ h.1, more_meanings p h.0 s a b S h.2)
    holds_keeps (input x port) env s a b S h = (h.0, h.1, has_keeps x env s a _ h.2, h.3)
    holds_keeps (display es) env s a b S h = (h.0, values_keep w.defs calls calls' more_values es env s a _ h.1, h.2)

    pub all_hold_keep : (fs : FormulaTrees) (env : Env) (s : Course) (a b : ℕ) (S : Shows) → AllHoldBy w calls meanings fs env s a b S → AllHoldBy w calls' meanings' fs env s a b S
    all_hold_keep no_formula env s a b S h = h
    all_hold_keep (formula_then f fs) env s a b S h = (h.0, h.1, holds_keeps f env s a b h.0 h.2, all_hold_keep fs env s a b h.1 h.3, h.4)

pub meanings_keep : (w : Context) (d d' : ℕ) → d ≤ d' → (p : ℕ) (args : Env) (s : Course) (a b : ℕ) (S : Shows) → CallHolds w d p args s a b S → CallHolds w d' p args s a b S
meanings_keep w zero d' h p args s a b S m = elim m [ ]
meanings_keep w (suc d) zero h p args s a b S m = absurd (omega arith)
meanings_keep w (suc d) (suc d') h p args s a b S m = (m.0, m.1, holds_keeps w (calls_at w.defs d) (calls_at w.defs d') (CallHolds w d) (CallHolds w d') (calls_keep w.defs d d' (omega arith)) (meanings_keep w d d' (omega arith)) m.0.formula args s a b S m.2)

pub holds_deeper : (w : Context) (d d' : ℕ) → d ≤ d' → (f : FormulaTree) (env : Env) (s : Course) (a b : ℕ) (S : Shows) → Holds w d f env s a b S → Holds w d' f env s a b S
holds_deeper w d d' h = holds_keeps w (calls_at w.defs d) (calls_at w.defs d') (CallHolds w d) (CallHolds w d') (calls_keep w.defs d d' h) (meanings_keep w d d' h)
