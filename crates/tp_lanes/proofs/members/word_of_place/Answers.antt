use Rattle.std.proofs.Common.{ℕ, List, ◌+◌, ◌*◌, ◌<◌, ◌≤◌, refl, inl, inr, arith}
use Rattle.std.proofs.lemmas.Bool.{cases_lt}
use Rattle.tp_lanes.specs.Planes.{bit_in, passing_below}
use Rattle.tp_lanes.proofs.Passing.{upward}
use Rattle.tp_lanes.proofs.Words.{word_has}
use Rattle.tp_lanes.proofs.members.word_of_place.Goals as goal

next_within : (words : List ℕ) (row word all : ℕ) → all < passing_below (bit_in words) (512 * row + 512) → passing_below (bit_in words) (64 * (word + 1)) ≤ all → word + 1 < 8 * row + 8
next_within words row word all few before = elim (cases_lt (word + 1) (8 * row + 8)) [
  | inl low ↦ low
  | inr more ↦
      let up = upward (bit_in words) (512 * row + 512) (64 * (word + 1)) (omega (arith, more)) in
      absurd (omega (arith, up, before, few))
]

pub loop-left-preserved : goal.loop-left-preserved
loop-left-preserved c =
    let i = c.loop-left.invariant in
    let words = c.args.words.now in
    let word = c.loop-left.word in
    let has = word_has words word (64 * word) (64 * (word + 1)) refl (omega arith) (c.type_inv.words word).fits in
    record {
      within = next_within words c.args.row word (passing_below (bit_in words) (512 * c.args.row) + c.args.place) c.requires.some (omega (arith, has, i.before));
      before = omega (arith, has, i.before);
    }
