use Rattle.std.proofs.Common.{bit_or, slice_index, ap, sym, ◌∙◌, inl, inr, arith}
use Rattle.std.specs.Int.Bits.{or_zero_r}
use Rattle.std.proofs.lemmas.Bool.{cases_lt}
use Rattle.std.proofs.lemmas.List.{get_or_past}
use Rattle.tp_lanes.proofs.rows.join_words.Goals as goal

pub returns-clause-each : goal.returns-clause-each
returns-clause-each c = λ k. elim (cases_lt k c.loop-at.at) [
  | inl less ↦ c.loop-at.invariant.joined k less
  | inr more ↦
      let none = get_or_past c.args.other.now k 0 (omega (arith, more, c.loop-at-test.false)) in
      c.loop-at.invariant.left k more ∙ sym (ap (bit_or (slice_index c.args.words.now.items k)) none ∙ or_zero_r (slice_index c.args.words.now.items k))
]
