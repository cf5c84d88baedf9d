-- On each interval a wider formula holds, or it doesn't.
use Rattle.std.proofs.Common.{◌≡◌, ℕ, ◌+◌, ◌-◌, ◌⊎◌, inl, inr, Option, Some, None, [], refl, subst, arith}
use Rattle.tp_value.specs.Tree.{Tree}
use Rattle.tp_kernel.specs.declared.fault.FaultKind.TheVariants.{NoElement}
use Rattle.tp_meaning.specs.Syntax.{ExprTree}
use Rattle.tp_meaning.specs.Course.{Course, Shows, blank}
use Rattle.tp_meaning.specs.Value.{value}
use Rattle.tp_eval.specs.Outcome as found
use Rattle.tp_eval.specs.Outcome.{Outcome}
use Rattle.tp_verdict.specs.Wide.{WideTree, Somehow, WideHolds}
use Rattle.tp_verdict.specs.Verdict.{Verdict, yes, no, undecided}
use Rattle.tp_verdict.specs.Trace.{verdict}
use Rattle.tp_verdict.specs.VerdictLaws.{StaysOpen}
use Rattle.tp_verdict.specs.Logic.{WideFormulasAreDecided}
use Rattle.tp_verdict.proofs.Judged.{Judged, OutcomeSays}
use Rattle.tp_verdict.proofs.Sound.{sound}
use Rattle.tp_verdict.proofs.Undecided.{open_by}

-- the outcome of an expression of which all is known

abbrev by_value : Option Tree → Outcome
by_value (Some t) = found.value t
by_value None = found.fault NoElement

never_open : (o : Option Tree) → StaysOpen (by_value o) → ⊥
never_open (Some t) h = h
never_open None h = h

module _ (s : Course) (a : ℕ) where
  abbrev all_known : ℕ → ExprTree → Outcome
  all_known i e = by_value (value [] 0 e [] s (i + a))

  by_value_right : (e : ExprTree) (j : ℕ) (o : Option Tree) → value [] 0 e [] s j ≡ o → OutcomeSays s (by_value o) e j
  by_value_right e j (Some t) q = q
  by_value_right e j None q = λ v h. let z : None ≡ Some v = trans q h in absurd (cc)
    where
      trans : {v : Tree} → value [] 0 e [] s j ≡ None → value [] 0 e [] s j ≡ Some v → None ≡ Some v
      trans x y = cc

  by_verdict : (w : WideTree) (n : ℕ) (v : Verdict) → verdict all_known w 0 n ≡ v → Judged (verdict all_known w 0 n) (WideHolds w s a (n + a) blank) (Somehow (WideHolds w s) a (n + a))
      → WideHolds w s a (n + a) blank ⊎ ((S : Shows) → WideHolds w s a (n + a) S → ⊥)
  by_verdict w n yes q h = inl (h.holds q)
  by_verdict w n no q h = inr (λ S x. h.fails q (S, x))
  by_verdict w n undecided q h = let r = open_by all_known w 0 n (omega arith) q in absurd (never_open (value [] 0 r.0 [] s (r.2 + a)) r.5)

  decided_from : (w : WideTree) (n : ℕ) → WideHolds w s a (n + a) blank ⊎ ((S : Shows) → WideHolds w s a (n + a) S → ⊥)
  decided_from w n =
      let z : 0 + a ≡ a = omega arith in
      by_verdict w n (verdict all_known w 0 n) refl
      (subst (λ x. Judged (verdict all_known w 0 n) (WideHolds w s x (n + a) blank) (Somehow (WideHolds w s) x (n + a))) z
      (sound s a all_known n w (λ e m i l. by_value_right e (i + a) (value [] 0 e [] s (i + a)) refl) 0 n (omega arith) (omega arith)))

pub wide_formulas_are_decided : WideFormulasAreDecided
wide_formulas_are_decided w s a b l = let z : (b - a) + a ≡ b = omega (arith, l) in
    subst (λ x. WideHolds w s a x blank ⊎ ((S : Shows) → WideHolds w s a x S → ⊥)) z (decided_from s a w (b - a))
