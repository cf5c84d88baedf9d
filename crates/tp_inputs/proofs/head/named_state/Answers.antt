use Rattle.std.proofs.Common.{refl, ap, sym, ◌∙◌, ◌≡◌, ℕ, Bool, true, false, ◌&&◌, nat_lt, nat_le, List, length, min, Some, arith}
use Rattle.std.specs.Char.{is_ascii_digit}
use Rattle.std.specs.List.{list_all}
use Rattle.std.proofs.lemmas.Bool.Decides.{nat_tests}
use Rattle.tp_value.specs.Spelling.{decimal_value}
use Rattle.tp_inputs.specs.Spans.{is_state, named_state, last_state}
use Rattle.tp_inputs.proofs.StateLemmas.{state_whole}
use Rattle.tp_inputs.proofs.head.named_state.Goals as goal

whole : (z : List ℕ) → is_state z ≡ true → min (decimal_value z) last_state ≡ decimal_value z
whole z e = at (nat_lt 0 (length z)) (nat_le (length z) 8) (list_all is_ascii_digit z) refl refl e
  where
    at : (p q r : Bool) → nat_le (length z) 8 ≡ q → list_all is_ascii_digit z ≡ r → p && (q && r) ≡ true → min (decimal_value z) last_state ≡ decimal_value z
    at true true true x y h = state_whole z y (grind (arith, nat_tests))
    at true true false x y h = absurd cc
    at true false r x y h = absurd cc
    at false q r x y h = absurd cc

pub returns-then-is_state-clause-value : goal.returns-then-is_state-clause-value
unfolding named_state
returns-then-is_state-clause-value c =
    let z = c.args.digits.now in
    let yes : is_state z ≡ true = sym c.is_state.ensures ∙ c.if-is_state.true in
    ap Some (c.bounded.ensures ∙ whole z yes) ∙ sym (rw yes refl)
