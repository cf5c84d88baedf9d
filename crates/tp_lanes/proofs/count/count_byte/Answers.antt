use Rattle.std.proofs.Common.{◌≡◌, ℕ, List, ◌+◌, ◌≤◌, length, take, drop, count_by, nat_eq, ap, ap₂, sym, ◌∙◌, arith, cond, take-add, rules, zero, suc, [], ◌∷◌}
use Rattle.std.proofs.lemmas.List.Sums.{count_by-le-length, sum_by-append}
use Rattle.tp_lanes.proofs.count.count_byte.Goals as goal

more : (y at : ℕ) (xs : List ℕ) → count_by (λ b. nat_eq b y) (take (at + 16) xs) ≡ count_by (λ b. nat_eq b y) (take at xs) + count_by (λ b. nat_eq b y) (take 16 (drop at xs))
more y at xs = ap (count_by (λ b. nat_eq b y)) (take-add at 16 xs) ∙ sum_by-append (λ b. cond (nat_eq b y) 1 0) (take at xs) (take 16 (drop at xs))

pub by_block-preserved : goal.by_block-preserved
by_block-preserved c = (
  omega (arith, c.by_block-test.true, c.by_block.invariant.0),
  ap₂ (λ a b. a + b) c.by_block.invariant.1 c.count_in-total.ensures ∙ sym (more c.args.byte c.by_block.at c.args.bytes.now),
)

take_short : (n : ℕ) (xs : List ℕ) → length (take n xs) ≤ length xs
take_short zero xs = omega arith
take_short (suc n) [] = omega arith
take_short (suc n) (x ∷ xs) = let r = take_short n xs in omega (arith, r)

at_most : (y at : ℕ) (xs : List ℕ) → count_by (λ b. nat_eq b y) (take at xs) + count_by (λ b. nat_eq b y) (take 16 (drop at xs)) ≤ length xs
at_most y at xs =
    let some = count_by-le-length (λ b. nat_eq b y) (take (at + 16) xs) in
    let both = more y at xs in
    let short = take_short (at + 16) xs in
    omega (arith, some, both, short)

pub overflow_add-total : goal.overflow_add-total
overflow_add-total c =
    let sum = ap₂ (λ a b. a + b) c.by_block.invariant.1 c.count_in-total.ensures in
    let bound = at_most c.args.byte c.by_block.at c.args.bytes.now in
    let low : c.by_block.total + c.count_in-total.result ≤ length c.args.bytes.now = omega (arith, sum, bound) in
    search (rules, low)
