use Rattle.std.proofs.Common.{◌≡◌, pos, ◌-ℤ◌, of_z, ap, ap₂, sym, ◌∙◌, arith, false}
use Rattle.std.specs.Prelude.{int_lt}
use Rattle.std.specs.Int.{w128, int_div_euclid, int_rem_euclid}
use Rattle.std.proofs.lemmas.Int.{ints, to_z-of_z}
use Rattle.tp_value.specs.Number.{within_limit}
use Rattle.tp_value.proofs.Quotients.{floor_even, floor_uneven}
use Rattle.tp_value.proofs.number.quotient.Goals as goal

pub returns-then-rem_euclid-eq0 : goal.returns-then-rem_euclid-eq0
returns-then-rem_euclid-eq0 c =
    let a_is = to_z-of_z w128 c.args.a c.ranges.a in
    let b_is = to_z-of_z w128 c.args.b c.ranges.b in
    let negative : int_lt (pos 0) c.args.b ≡ false = ap (int_lt (pos 0)) (sym b_is) ∙ c.if-b-gt0.false in
    let none_left : c.rem_euclid.result ≡ pos 0 = omega (arith, ints, c.if-rem_euclid-eq0.true, c.rem_euclid.type_inv) in
    let even : int_rem_euclid c.args.a c.args.b ≡ pos 0 = sym (c.rem_euclid.ensures.value ∙ ap₂ int_rem_euclid a_is b_is) ∙ none_left in
    c.within-then-rem_euclid-eq0.ensures
    ∙ ap within_limit (to_z-of_z w128 c.div_euclid-quotient.result (record { sfits = c.div_euclid-quotient.type_inv }) ∙ c.div_euclid-quotient.ensures ∙ ap₂ int_div_euclid a_is b_is ∙ floor_even c.args.a c.args.b negative c.requires even)

pub returns-else-rem_euclid-eq0 : goal.returns-else-rem_euclid-eq0
returns-else-rem_euclid-eq0 c =
    let a_is = to_z-of_z w128 c.args.a c.ranges.a in
    let b_is = to_z-of_z w128 c.args.b c.ranges.b in
    let negative : int_lt (pos 0) c.args.b ≡ false = ap (int_lt (pos 0)) (sym b_is) ∙ c.if-b-gt0.false in
    let uneven : int_rem_euclid c.args.a c.args.b ≡ pos 0 → ⊥ = λ e. c.if-rem_euclid-eq0.false (ap (of_z w128) (c.rem_euclid.ensures.value ∙ ap₂ int_rem_euclid a_is b_is ∙ e)) in
    c.difference.ensures
    ∙ ap (λ q. within_limit (q -ℤ pos 1)) (to_z-of_z w128 c.div_euclid-quotient.result (record { sfits = c.div_euclid-quotient.type_inv }) ∙ c.div_euclid-quotient.ensures ∙ ap₂ int_div_euclid a_is b_is)
    ∙ ap within_limit (floor_uneven c.args.a c.args.b negative c.requires uneven)
