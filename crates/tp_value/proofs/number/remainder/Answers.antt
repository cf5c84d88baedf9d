use Rattle.std.proofs.Common.{◌≡◌, pos, ◌+ℤ◌, of_z, ap, ap₂, sym, ◌∙◌, arith, false}
use Rattle.std.specs.Prelude.{int_lt}
use Rattle.std.specs.Int.{w128, int_rem_euclid}
use Rattle.std.proofs.lemmas.Int.{ints, to_z-of_z}
use Rattle.tp_value.specs.Number.{within_limit}
use Rattle.tp_value.proofs.Quotients.{left_even, left_uneven}
use Rattle.tp_value.proofs.number.remainder.Goals as goal

pub returns-then-rest-eq0 : goal.returns-then-rest-eq0
returns-then-rest-eq0 c =
    let a_is = to_z-of_z w128 c.args.a c.ranges.a in
    let b_is = to_z-of_z w128 c.args.b c.ranges.b in
    let negative : int_lt (pos 0) c.args.b ≡ false = ap (int_lt (pos 0)) (sym b_is) ∙ c.if-b-gt0.false in
    let none_left : c.rem_euclid-rest.result ≡ pos 0 = omega (arith, ints, c.if-rest-eq0.true, c.rem_euclid-rest.type_inv) in
    let even : int_rem_euclid c.args.a c.args.b ≡ pos 0 = sym (c.rem_euclid-rest.ensures.value ∙ ap₂ int_rem_euclid a_is b_is) ∙ none_left in
    ap within_limit (left_even c.args.a c.args.b negative c.requires even)

pub returns-else-rest-eq0 : goal.returns-else-rest-eq0
returns-else-rest-eq0 c =
    let a_is = to_z-of_z w128 c.args.a c.ranges.a in
    let b_is = to_z-of_z w128 c.args.b c.ranges.b in
    let negative : int_lt (pos 0) c.args.b ≡ false = ap (int_lt (pos 0)) (sym b_is) ∙ c.if-b-gt0.false in
    let uneven : int_rem_euclid c.args.a c.args.b ≡ pos 0 → ⊥ = λ e. c.if-rest-eq0.false (ap (of_z w128) (c.rem_euclid-rest.ensures.value ∙ ap₂ int_rem_euclid a_is b_is ∙ e)) in
    c.sum.ensures
    ∙ ap₂ (λ r b. within_limit (r +ℤ b)) (to_z-of_z w128 c.rem_euclid-rest.result (record { sfits = c.rem_euclid-rest.type_inv }) ∙ c.rem_euclid-rest.ensures.value ∙ ap₂ int_rem_euclid a_is b_is) b_is
    ∙ ap within_limit (left_uneven c.args.a c.args.b negative c.requires uneven)
