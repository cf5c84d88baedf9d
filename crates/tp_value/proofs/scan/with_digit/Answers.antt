use Rattle.std.proofs.Common.{◌≡◌, ℤ, pos, ◌+ℤ◌, ◌-ℤ◌, ◌*ℤ◌, cond, Some, ap, ap₂, ◌∙◌}
use Rattle.std.proofs.lemmas.Int.{to_z-of_z}
use Rattle.tp_value.specs.Number.{number_width, within_limit}
use Rattle.tp_value.proofs.Digits.{within_is, within_fits, nines_and_rest}
use Rattle.tp_value.proofs.scan.with_digit.Goals as goal

pub returns : goal.returns
returns c =
    let n = c.args.number in
    let d = c.args.digit in
    let nine_times = n *ℤ pos 9 in
    let with_last = cond c.args.negative (n -ℤ pos d) (n +ℤ pos d) in
    let number_is = to_z-of_z number_width n c.ranges.number in
    let nines : Some c.in_ok-nines.nines ≡ within_limit nine_times = c.in_ok-nines.ensures ∙ ap (λ (k : ℤ). within_limit (k *ℤ pos 9)) number_is in
    let rest : Some c.in_ok-rest.rest ≡ within_limit with_last = c.in_ok-rest.ensures ∙ ap (λ (k : ℤ). within_limit (cond c.args.negative (k -ℤ pos d) (k +ℤ pos d))) number_is in
    let wide = ap₂ (λ (a b : ℤ). a +ℤ b) (to_z-of_z number_width c.in_ok-nines.nines (within_fits _ nine_times nines)) (to_z-of_z number_width c.in_ok-rest.rest (within_fits _ with_last rest)) in
    c.sum.ensures ∙ ap within_limit (wide ∙ nines_and_rest c.args.negative n _ _ d (within_is _ nine_times nines) (within_is _ with_last rest))
