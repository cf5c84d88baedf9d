-- Forms that compose no wider formulas.
use Rattle.std.proofs.Common.{refl, ap, sym, subst, ◌∙◌, ◌≡◌, ◌≢◌, ℕ, ◌<◌, ◌⊎◌, inl, inr, Err, arith}
use Rattle.tp_tree.specs.declared.operator.Form.{Form}
use Rattle.tp_tree.specs.declared.operator.Form.TheVariants as f
use Rattle.tp_tree.specs.Tree.{PhraseTrees, form}
use Rattle.tp_scope.specs.Scope.{VisibleNames}
use Rattle.tp_check.specs.declared.refusal.CheckRefusal.{CheckRefusal}
use Rattle.tp_check.specs.declared.refusal.CheckRefusal.TheVariants.{NotExecutable}
use Rattle.tp_check.specs.Positions.{refusal_of}
use Rattle.tp_monitor.specs.WideOf.{wide_of_kind}

-- `input` and `display` are refused
pub outer_form_refused : (names : VisibleNames) (at : ℕ) (word : Form) (ps : PhraseTrees) (e : CheckRefusal) → (word ≡ f.Input) ⊎ (word ≡ f.Display) → e ≡ refusal_of names at (form word ps) (NotExecutable at)
    → wide_of_kind names at (form word ps) ≡ Err e
outer_form_refused names at word ps e (inl w) h =
    subst (λ (v : Form). wide_of_kind names at (form v ps) ≡ Err (refusal_of names at (form v ps) (NotExecutable at))) (sym w) refl ∙ ap Err (sym h)
outer_form_refused names at word ps e (inr w) h =
    subst (λ (v : Form). wide_of_kind names at (form v ps) ≡ Err (refusal_of names at (form v ps) (NotExecutable at))) (sym w) refl ∙ ap Err (sym h)

-- as many operands are another number than one
pub not_one : (n m : ℕ) → m ≡ n → (n < 1) ⊎ (1 < n) → m ≢ 1
not_one n m e (inl h) = λ one. absurd (omega (arith, e, h, one))
not_one n m e (inr h) = λ one. absurd (omega (arith, e, h, one))
