use Rattle.std.proofs.Common.{ap, ap₂, sym, ◌∙◌, of_z}
use Rattle.std.proofs.lemmas.Int.{to_z-of_z}
use Rattle.tp_value.specs.Read.{tree}
use Rattle.tp_value.specs.Number.{number_width, within_limit, floor_mod}
use Rattle.tp_eval.specs.Answers.{number_within}
use Rattle.tp_eval.proofs.Steps.{answers_same, by_divisor}
use Rattle.tp_eval.proofs.operate.reduce.Goals as goal

pub returns : goal.returns
returns c =
    let same = c.remainder.ensures ∙ ap₂ (λ a b. within_limit (floor_mod a b)) (to_z-of_z number_width c.args.m c.ranges.m) (to_z-of_z number_width c.args.n c.ranges.n) in
    answers_same tree c.within.result _ _ (by_divisor floor_mod c.args.m c.args.n (λ e. c.if-n-eq0.false (ap (of_z number_width) e)) ∙ ap number_within (sym same)) c.within.ensures
