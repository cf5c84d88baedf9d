use Rattle.std.proofs.Common.{◌≡◌, ℕ, ◌<◌, ◌+◌, ◌*◌, List, Bool, true, length, take, count_by, ap, subst, ◌∙◌, inl, inr, arith}
use Rattle.std.specs.List.{sum}
use Rattle.std.proofs.lemmas.Bool.{cases_lt, both_ways}
use Rattle.tp_lanes.specs.Planes.{flags_below, bit_in, passing_below, IsNthMember}
use Rattle.tp_lanes.proofs.Passing.{counted}
use Rattle.tp_lanes.proofs.Planes.{flag_is, count_is, sum_is, sum_rows}
use Rattle.tp_lanes.proofs.plane.Plane.nth.Goals as goal

pub row_of_place-found-requires : goal.row_of_place-found-requires
row_of_place-found-requires c =
    let s = c.self.inside in
    let all = sum_is s.bound s.words.items s.rows.items s.size c.self.invariant in
    let size = count_is s.bound s.words.items s.rows.items s.size c.self.invariant in
    let seen : count_by (λ b. b) (flags_below s.bound s.words.items) ≡ count_by (λ b. b) c.args.self.now = ap (count_by (λ b. b)) c.self.view_is in
    let read : sum c.deref.result.now ≡ sum s.rows.items = ap sum c.deref.ensures.value in
    omega (arith, all, size, seen, read, c.requires)

pub returns-clause-member : goal.returns-clause-member
returns-clause-member c =
    let s = c.self.inside in
    let n = c.member_of_place.result in
    let row = c.row_of_place-found.result.0 in
    let left = c.row_of_place-found.result.1 in
    let member : bit_in s.words.items n ≡ true = subst (λ (ws : List ℕ). bit_in ws n ≡ true) c.deref-2.ensures.value c.member_of_place.ensures.member in
    let below : passing_below (bit_in s.words.items) n ≡ passing_below (bit_in s.words.items) (512 * row) + left =
    subst (λ (ws : List ℕ). passing_below (bit_in ws) n ≡ passing_below (bit_in ws) (512 * row) + left) c.deref-2.ensures.value c.member_of_place.ensures.before in
    let within : row < length s.rows.items = subst (λ (rs : List ℕ). row < length rs) c.deref.ensures.value c.row_of_place-found.ensures.within in
    let before : sum (take row s.rows.items) + left ≡ c.args.place = subst (λ (rs : List ℕ). sum (take row rs) + left ≡ c.args.place) c.deref.ensures.value c.row_of_place-found.ensures.before in
    let rows = sum_rows s.bound s.words.items s.rows.items s.size c.self.invariant row (omega (arith, within)) in
    let less : n < s.bound = elim (cases_lt n s.bound) [
      | inl low ↦ low
      | inr high ↦ absurd (both_ways (bit_in s.words.items n) (c.self.invariant.beyond n high) member)
    ] in
    let count = counted (bit_in s.words.items) s.bound n (omega (arith, less)) in
    subst (λ (xs : List Bool). IsNthMember xs c.args.place n) c.self.view_is (record {
      member = flag_is s.bound s.words.items s.rows.items s.size c.self.invariant n ∙ member;
      before = omega (arith, count, below, rows, before);
    })
