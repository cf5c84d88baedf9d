-- A wider formula shows nothing.
use Rattle.std.proofs.Common.{◌≡◌, pos, ℤ, ◌+ℤ◌, ℕ, zero, suc, ◌<◌, ◌∙◌, arith, true, inl, inr}
use Rattle.tp_value.specs.Tree.{truth}
use Rattle.tp_meaning.specs.Course.{Course, Shows, Part, blank}
use Rattle.tp_meaning.specs.Holds.{Pieces}
use Rattle.tp_meaning.proofs.Shows.{joined-blank, total-blank}
use Rattle.tp_verdict.specs.Wide.{WideTree, WideTrees, HasValue, WideHolds, AllHoldWidely, trivial, test, equation, next_equation, empty, more, next, if_more, if_empty, always, conjunction, branch, len, assign, chop, while, disjunction, negation, sometimes, no_formula, formula_then}

pieces_silent : (P : ℤ → Part) → ((k : ℤ) (i j : ℕ) (T : Shows) → P k i j T → T ≡ blank) → (m : ℕ) (k : ℤ) (a b : ℕ) (S : Shows) → Pieces P m k a b S → S ≡ blank
pieces_silent P h zero k a b S p = p.1
pieces_silent P h (suc m) k a b S (i, T, U, lo, hi, first, rest, is) =
    joined-blank S T U is (h k a i T first) (pieces_silent P h m (k +ℤ pos 1) i b U rest)

module _ (s : Course) where
  mutual
    pub silent : (w : WideTree) (a b : ℕ) (S : Shows) → WideHolds w s a b S → S ≡ blank
    silent trivial a b S h = h
    silent (test e) a b S h = h.1
    silent (equation l r) a b S h = h.3
    silent (next_equation k t e) a b S h = h.4
    silent empty a b S h = h.1
    silent more a b S h = h.1
    silent (next w) a b S h = silent w (suc a) b S h.1
    silent (if_more w) a b S h = elim h [ inl z ↦ z.1 | inr z ↦ silent w a b S z.1 ]
    silent (if_empty w) a b S h = elim h [ inl z ↦ z.1 | inr z ↦ silent w a b S z.1 ]
    silent (always w) a b S (m, T, e, each, is) = is ∙ total-blank m a T (λ i u v. silent w i b (T i) (each i u (omega (arith, e, v))))
    silent (conjunction ws) a b S h = all_silent ws a b S h
    silent (branch e w v) a b S h = elim h [ inl z ↦ silent w a b S z.1 | inr z ↦ silent v a b S z.1 ]
    silent (len e) a b S h = h.3
    silent (assign t e) a b S h = h.3
    silent (chop w v) a b S (i, T, U, lo, hi, x, y, is) = joined-blank S T U is (silent w a i T x) (silent v i b U y)
    silent (while e w) a b S h = pieces_silent (λ _ i j T. (i < j) × HasValue e s i (truth true) × WideHolds w s i j T) (λ k i j T p. silent w i j T p.2) h.0 (pos 0) a b S h.1
    silent (disjunction w v) a b S h = h.1
    silent (negation w) a b S h = h.1
    silent (sometimes w) a b S h = h.1

    all_silent : (ws : WideTrees) (a b : ℕ) (S : Shows) → AllHoldWidely ws s a b S → S ≡ blank
    all_silent no_formula a b S h = h
    all_silent (formula_then w ws) a b S (T, U, x, y, is) = joined-blank S T U is (silent w a b T x) (all_silent ws a b U y)
