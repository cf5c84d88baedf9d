use Rattle.std.proofs.Common.{◌≡◌, ℤ, rules, ap, ap₂, sym, ◌∙◌}
use Rattle.std.proofs.lemmas.Int.{to_z-of_z}
use Rattle.std.specs.Prelude.{not}
use Rattle.tp_value.specs.Number.{number_width}
use Rattle.tp_value.specs.Tree.{Tree, num, truth}
use Rattle.tp_value.specs.Equations.{tree_truth}
use Rattle.tp_value.specs.Read.{tree}
use Rattle.tp_kernel.specs.Read.{operator_of}
use Rattle.tp_kernel.specs.declared.formula.Op2.{Op2}
use Rattle.tp_kernel.specs.declared.formula.Op2.TheVariants as op
use Rattle.tp_eval.specs.Reached.{◌>>=◌, gives}
use Rattle.tp_eval.specs.Evaluate.{operate_outcome, number_in}
use Rattle.tp_store.specs.Operand.{operand_tree}
use Rattle.tp_eval.specs.Answers.{Halts}
use Rattle.tp_eval.proofs.Steps.{answers_same, then_gives, halts_then, halts_same, numeric}
use Rattle.tp_eval.proofs.operate.operate.Goals as goal

pub returns-in-Equal : goal.returns-in-Equal
returns-in-Equal c =
    ap (λ (o : Op2). operate_outcome (operator_of o) (operand_tree c.args.a) (operand_tree c.args.b)) c.in-Equal.is
    ∙ ap (λ b. gives (truth b)) (sym c.are_same.ensures) ∙ ap gives (sym (tree_truth c.are_same.result))

pub returns-in-Differs : goal.returns-in-Differs
returns-in-Differs c =
    ap (λ (o : Op2). operate_outcome (operator_of o) (operand_tree c.args.a) (operand_tree c.args.b)) c.in-Differs.is
    ∙ ap (λ b. gives (truth (not b))) (sym c.are_same-in-Differs.ensures) ∙ ap gives (sym (tree_truth (not c.are_same-in-Differs.result)))

-- operators that take numbers, where the first operand is one
second_is_read : (o : Op2) → (o ≡ op.Equal → ⊥) → (o ≡ op.Differs → ⊥) → (o ≡ op.Plus → ⊥) → (s t : Tree) (m : ℤ) → number_in s ≡ gives m →
    operate_outcome (operator_of o) s t ≡ (number_in t >>= λ b. operate_outcome (operator_of o) (num m) (num b))
second_is_read o e d p s t m h = numeric o e d p s t ∙ then_gives (number_in s) m (λ a. number_in t >>= λ b. operate_outcome (operator_of o) (num a) (num b)) h

pub returns-in_err-m-in_default : goal.returns-in_err-m-in_default
returns-in_err-m-in_default c =
    let operation = operator_of c.args.op in
    let s = operand_tree c.args.a in
    let t = operand_tree c.args.b in
    let all = numeric c.args.op c.in_default.not-Equal c.in_default.not-Differs c.in_default.not-Plus s t in
    let stops = halts_same _ _ c.in_err-m-in_default.field-0.0 (ap number_in (sym c.in_ok-first-in_default.ensures)) c.in_err-m-in_default.ensures.value in
    let h : Halts (operate_outcome operation s t) c.in_err-m-in_default.field-0.0 =
    halts_same _ _ c.in_err-m-in_default.field-0.0 all (halts_then (number_in s) c.in_err-m-in_default.field-0.0 (λ a. number_in t >>= λ b. operate_outcome operation (num a) (num b)) stops) in
    search rules

pub returns-in_err-n-in_default : goal.returns-in_err-n-in_default
returns-in_err-n-in_default c =
    let s = operand_tree c.args.a in
    let t = operand_tree c.args.b in
    let left = ap number_in (sym c.in_ok-first-in_default.ensures) ∙ c.in_ok-m-in_default.ensures.value in
    let first = second_is_read c.args.op c.in_default.not-Equal c.in_default.not-Differs c.in_default.not-Plus s t c.in_ok-m-in_default.m left in
    let stops = halts_same _ _ c.in_err-n-in_default.field-0.0 (ap number_in (sym c.in_ok-second-in_default.ensures)) c.in_err-n-in_default.ensures.value in
    let h : Halts (operate_outcome (operator_of c.args.op) s t) c.in_err-n-in_default.field-0.0 =
    halts_same _ _ c.in_err-n-in_default.field-0.0 first (halts_then (number_in t) c.in_err-n-in_default.field-0.0 (λ b. operate_outcome (operator_of c.args.op) (num c.in_ok-m-in_default.m) (num b)) stops) in
    search rules

pub returns-in_ok-n-in_default : goal.returns-in_ok-n-in_default
returns-in_ok-n-in_default c =
    let operation = operator_of c.args.op in
    let s = operand_tree c.args.a in
    let t = operand_tree c.args.b in
    let m = c.in_ok-m-in_default.m in
    let n = c.in_ok-n-in_default.n in
    let left = ap number_in (sym c.in_ok-first-in_default.ensures) ∙ c.in_ok-m-in_default.ensures.value in
    let right = ap number_in (sym c.in_ok-second-in_default.ensures) ∙ c.in_ok-n-in_default.ensures.value in
    let first = second_is_read c.args.op c.in_default.not-Equal c.in_default.not-Differs c.in_default.not-Plus s t m left in
    let second = then_gives (number_in t) n (λ b. operate_outcome operation (num m) (num b)) right in
    let same = ap₂ (λ a b. operate_outcome operation (num a) (num b)) (to_z-of_z number_width m c.in_ok-m-in_default.ensures.fits) (to_z-of_z number_width n c.in_ok-n-in_default.ensures.fits) in
    answers_same tree c.on_numbers.result _ _ (first ∙ second ∙ sym same) c.on_numbers.ensures
