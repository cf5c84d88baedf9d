-- The source of a drill has no more bytes than a source may have.
use Rattle.std.proofs.Common.{◌≡◌, ◌≤◌, ◌<◌, ◌+◌, ◌-◌, ◌*◌, ◌^◌, ℕ, zero, suc, List, ◌++◌, length, arith, codes}
use Rattle.std.specs.Fmt.{decimal}
use Rattle.std.specs.List.{flat_map, range_with_len}
use Rattle.std.proofs.lemmas.List.{length-append}
use Rattle.std.proofs.lemmas.Fmt.{length-decimal-le}
use Rattle.tp_lex.specs.Place.{source_limit}
use Rattle.tp_gen.specs.Source.{numbered_name, beginning_text, link_text, source_text}

name_short : (number : ℕ) → number < 10 ^ 4 → length (numbered_name number) ≤ 5
name_short number small =
    let digits = length-decimal-le 4 number (omega arith) small (omega (arith, small)) in
    let both : length (numbered_name number) ≡ length (codes "X") + length (decimal number) = length-append (codes "X") (decimal number) in
    omega (arith, digits, both)

-- two names with words before, between and behind them
two_short : (first second third : List ℕ) (a b : ℕ) → a < 10 ^ 4 → b < 10 ^ 4
    → length (first ++ numbered_name a ++ second ++ numbered_name b ++ third) ≤ length first + (length second + (length third + 10))
two_short first second third a b small also =
    let one = name_short a small in
    let two = name_short b also in
    let e1 = length-append (first ++ numbered_name a ++ second ++ numbered_name b) third in
    let e2 = length-append (first ++ numbered_name a ++ second) (numbered_name b) in
    let e3 = length-append (first ++ numbered_name a) second in
    let e4 = length-append first (numbered_name a) in
    omega (arith, one, two, e1, e2, e3, e4)

link_short : (number : ℕ) → number < 5000 → length (link_text number) ≤ 26
link_short number small = two_short (codes " and always(") (codes "=") (codes "+1)") number (number + 1) (omega (arith, small)) (omega (arith, small))

links_short : (left at : ℕ) → left + at ≤ 5000 → length (flat_map link_text (range_with_len at left)) ≤ 26 * left
links_short zero at within = omega arith
links_short (suc left) at within =
    let here = link_short at (omega (arith, within)) in
    let later = links_short left (at + 1) (omega (arith, within)) in
    let both : length (flat_map link_text (range_with_len at (suc left))) ≡ length (link_text at) + length (flat_map link_text (range_with_len (at + 1) left)) = length-append (link_text at) (flat_map link_text (range_with_len (at + 1) left)) in
    omega (arith, here, later, both)

beginning_short : (last : ℕ) → last < 5000 → length (beginning_text last) ≤ 43
beginning_short last small =
    let front = two_short (codes "run len(7) and ") (codes "=0 and ") (codes " gets ") last last (omega (arith, small)) (omega (arith, small)) in
    let zero_short = name_short 0 (omega arith) in
    let both = length-append (codes "run len(7) and " ++ numbered_name last ++ codes "=0 and " ++ numbered_name last ++ codes " gets ") (numbered_name 0) in
    omega (arith, front, zero_short, both)

pub source_short : (n : ℕ) → 1 ≤ n → n ≤ 5000 → length (source_text n) ≤ source_limit
source_short n some few =
    let front = beginning_short (n - 1) (omega (arith, some, few)) in
    let links = links_short (n - 1) 0 (omega (arith, few)) in
    let both = length-append (beginning_text (n - 1)) (flat_map link_text (range_with_len 0 (n - 1))) in
    let all = length-append (beginning_text (n - 1) ++ flat_map link_text (range_with_len 0 (n - 1))) (codes ".\n") in
    omega (arith, front, links, both, all, some, few)
