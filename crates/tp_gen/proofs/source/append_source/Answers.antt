use Rattle.std.proofs.Common.{◌≡◌, ◌+◌, ◌-◌, ◌++◌, suc, ap, sym, ◌∙◌, arith, append_assoc}
use Rattle.std.specs.List.{flat_map, range_with_len}
use Rattle.tp_gen.specs.Source.{link_text}
use Rattle.tp_gen.proofs.source.append_source.Goals as goal

pub loop-number-preserved : goal.loop-number-preserved
loop-number-preserved c =
    let at = c.loop-number.number in
    let left = c.args.n - 1 - (at + 1) in
    let later = flat_map link_text (range_with_len (at + 1) left) in
    let split : c.args.n - 1 - at ≡ suc left = omega (arith, c.loop-number-test.true) in
    ap (λ t. t ++ later) c.in_ok-append_link.ensures
    ∙ (append_assoc c.loop-number.out (link_text at) later
    ∙ (ap (λ k. c.loop-number.out ++ flat_map link_text (range_with_len at k)) (sym split) ∙ c.loop-number.invariant))
