use Rattle.std.proofs.Common.{◌≡◌, ℕ, suc, ◌+◌, ◌-◌, ◌^◌, ◌<◌, inl, inr, arith, ap, count_ones}
use Rattle.std.specs.Int.{bit_at}
use Rattle.std.proofs.lemmas.Bool.{cases_lt, eq-eqb}
use Rattle.std.proofs.lemmas.Nat.Bits.{bit_at-lt}
use Rattle.tp_lanes.specs.Planes.{bit_of, passing_below}
use Rattle.tp_lanes.proofs.Words.{bit_as_number, word_ones}
use Rattle.tp_lanes.proofs.members.bit_of_place.Goals as goal

-- one bit further
further : (word at : ℕ) → passing_below (bit_of word) (at + 1) ≡ passing_below (bit_of word) at + bit_at word at
further word at =
    let e : at + 1 ≡ suc at = omega arith in
    let up : passing_below (bit_of word) (at + 1) ≡ passing_below (bit_of word) (suc at) = ap (passing_below (bit_of word)) e in
    let here = bit_as_number word at in
    omega (arith, up, here)

next_within : (word at left place : ℕ) → word < 2 ^ 64 → place < count_ones word → at < 64 → passing_below (bit_of word) (at + 1) + left ≡ place → at + 1 < 64
next_within word at left place small few less before = elim (cases_lt (at + 1) 64) [
  | inl low ↦ low
  | inr more ↦
      let e : at + 1 ≡ 64 = omega (arith, more, less) in
      let all : passing_below (bit_of word) (at + 1) ≡ passing_below (bit_of word) 64 = ap (passing_below (bit_of word)) e in
      let ones = word_ones word small in
      absurd (omega (arith, all, ones, before, few))
]

pub loop-left-preserved : goal.loop-left-preserved
loop-left-preserved c =
    let i = c.loop-left.invariant in
    let word = c.args.word in
    let at = c.loop-left.at in
    let more = further word at in
    let before : passing_below (bit_of word) (at + 1) + (c.loop-left.left - bit_at word at) ≡ c.args.place = omega (arith, more, i.before) in
    record {
      within = next_within word at _ c.args.place (omega arith) c.requires i.within before;
      before = omega (arith, more, i.before);
    }

pub returns-clause-member : goal.returns-clause-member
returns-clause-member c =
    let small = bit_at-lt c.args.word c.loop-left.at in
    eq-eqb (bit_at c.args.word c.loop-left.at) 1 (omega (arith, small))

pub returns-clause-before : goal.returns-clause-before
returns-clause-before c =
    let small = bit_at-lt c.args.word c.loop-left.at in
    omega (arith, small, c.loop-left.invariant)
