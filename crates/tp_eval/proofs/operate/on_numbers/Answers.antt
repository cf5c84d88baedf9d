use Rattle.std.proofs.Common.{ap, ap₂, sym, ◌∙◌}
use Rattle.std.proofs.lemmas.Int.{to_z-of_z}
use Rattle.std.specs.Prelude.{◌+ℤ◌, ◌-ℤ◌, ◌*ℤ◌}
use Rattle.tp_value.specs.Tree.{num}
use Rattle.tp_value.specs.Read.{tree}
use Rattle.tp_value.specs.Number.{number_width, within_limit, floor_div, floor_mod}
use Rattle.tp_kernel.specs.Read.{operator_of}
use Rattle.tp_kernel.specs.declared.formula.Op2.{Op2}
use Rattle.tp_eval.specs.Evaluate.{operate_outcome, on_divisor_outcome}
use Rattle.tp_eval.specs.Answers.{number_within}
use Rattle.tp_eval.proofs.Steps.{answers_same, number_is}
use Rattle.tp_eval.proofs.operate.on_numbers.Goals as goal

pub returns-in-Plus : goal.returns-in-Plus
returns-in-Plus c =
    let is = ap (λ (o : Op2). operate_outcome (operator_of o) (num c.args.m) (num c.args.n)) c.in-Plus.is in
    let same = c.sum.ensures ∙ ap₂ (λ a b. within_limit (a +ℤ b)) (to_z-of_z number_width c.args.m c.ranges.m) (to_z-of_z number_width c.args.n c.ranges.n) in
    answers_same tree c.within.result _ _ (is ∙ number_is (c.args.m +ℤ c.args.n) ∙ ap number_within (sym same)) c.within.ensures

pub returns-in-Minus : goal.returns-in-Minus
returns-in-Minus c =
    let is = ap (λ (o : Op2). operate_outcome (operator_of o) (num c.args.m) (num c.args.n)) c.in-Minus.is in
    let same = c.difference.ensures ∙ ap₂ (λ a b. within_limit (a -ℤ b)) (to_z-of_z number_width c.args.m c.ranges.m) (to_z-of_z number_width c.args.n c.ranges.n) in
    answers_same tree c.within-in-Minus.result _ _ (is ∙ number_is (c.args.m -ℤ c.args.n) ∙ ap number_within (sym same)) c.within-in-Minus.ensures

pub returns-in-Times : goal.returns-in-Times
returns-in-Times c =
    let is = ap (λ (o : Op2). operate_outcome (operator_of o) (num c.args.m) (num c.args.n)) c.in-Times.is in
    let same = c.product.ensures ∙ ap₂ (λ a b. within_limit (a *ℤ b)) (to_z-of_z number_width c.args.m c.ranges.m) (to_z-of_z number_width c.args.n c.ranges.n) in
    answers_same tree c.within-in-Times.result _ _ (is ∙ number_is (c.args.m *ℤ c.args.n) ∙ ap number_within (sym same)) c.within-in-Times.ensures

pub returns-in-Div : goal.returns-in-Div
returns-in-Div c =
    let is = ap (λ (o : Op2). operate_outcome (operator_of o) (num c.args.m) (num c.args.n)) c.in-Div.is in
    let same = ap₂ (on_divisor_outcome floor_div) (to_z-of_z number_width c.args.m c.ranges.m) (to_z-of_z number_width c.args.n c.ranges.n) in
    answers_same tree c.divide.result _ _ (is ∙ sym same) c.divide.ensures

pub returns-in-Mod : goal.returns-in-Mod
returns-in-Mod c =
    let is = ap (λ (o : Op2). operate_outcome (operator_of o) (num c.args.m) (num c.args.n)) c.in-Mod.is in
    let same = ap₂ (on_divisor_outcome floor_mod) (to_z-of_z number_width c.args.m c.ranges.m) (to_z-of_z number_width c.args.n c.ranges.n) in
    answers_same tree c.reduce.result _ _ (is ∙ sym same) c.reduce.ensures
