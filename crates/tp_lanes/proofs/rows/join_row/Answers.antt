use Rattle.std.proofs.Common.{◌≡◌, ℕ, List, ◌+◌, ◌-◌, ◌<◌, ◌≤◌, bit_or, length, get_or, ap₂, subst, ◌∙◌, arith}
use Rattle.std.proofs.lemmas.Simd.{length-chunk, length-zip2, get_or-chunk, get_or-zip2, get_or-put_chunk_at, get_or-put_chunk_below, get_or-put_chunk_above}
use lib.Lanes.{chunk, put_chunk, zip2}
use Rattle.tp_lanes.proofs.rows.join_row.Goals as goal

module _ (xs ys : List ℕ) (at : ℕ) (room : at + 8 ≤ length xs) (other_room : at + 8 ≤ length ys) where
  abbrev joined : List ℕ
  joined = zip2 bit_or (chunk at 8 xs) (chunk at 8 ys)

  pub eight : length joined ≡ 8
  eight =
      let left = length-chunk at 8 xs room in
      let right = length-chunk at 8 ys other_room in
      length-zip2 bit_or (chunk at 8 xs) (chunk at 8 ys) (omega (arith, left, right)) ∙ left

  lane : (j : ℕ) → j < 8 → get_or (put_chunk at xs joined) (at + j) 0 ≡ bit_or (get_or xs (at + j) 0) (get_or ys (at + j) 0)
  lane j less =
      let left = length-chunk at 8 xs room in
      let right = length-chunk at 8 ys other_room in
      get_or-put_chunk_at at xs joined j 0 (omega (arith, eight, less)) (omega (arith, eight, room))
      ∙ (get_or-zip2 bit_or (chunk at 8 xs) (chunk at 8 ys) j 0 0 0 (omega (arith, left, less)) (omega (arith, right, less))
      ∙ ap₂ bit_or (get_or-chunk at 8 xs j 0 less) (get_or-chunk at 8 ys j 0 less))

  pub lane_at : (k : ℕ) → at ≤ k → k < at + 8 → get_or (put_chunk at xs joined) k 0 ≡ bit_or (get_or xs k 0) (get_or ys k 0)
  lane_at k from to =
      let is : at + (k - at) ≡ k = omega (arith, from) in
      subst (λ (i : ℕ). get_or (put_chunk at xs joined) i 0 ≡ bit_or (get_or xs i 0) (get_or ys i 0)) is (lane (k - at) (omega (arith, from, to)))

pub returns-clause-inside : goal.returns-clause-inside
returns-clause-inside c = lane_at c.args.words.now c.args.other.now c.args.at c.requires.room c.requires.other_room

pub returns-clause-below : goal.returns-clause-below
returns-clause-below c = λ k less. get_or-put_chunk_below c.args.at c.args.words.now _ k 0 less

pub returns-clause-above : goal.returns-clause-above
returns-clause-above c = λ k more.
    let long = eight c.args.words.now c.args.other.now c.args.at c.requires.room c.requires.other_room in
    get_or-put_chunk_above c.args.at c.args.words.now _ k 0 (omega (arith, long, more))
