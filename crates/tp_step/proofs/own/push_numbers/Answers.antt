-- One more item, before the others.
use Rattle.std.proofs.Common.{◌≡◌, suc, ◌+◌, ◌-◌, ◌++◌, ◌∷◌, [], ap, sym, ◌∙◌, arith}
use Rattle.std.proofs.lemmas.List.{append_assoc}
use Rattle.std.specs.List.{range_with_len}
use Rattle.tp_step.specs.Listing.{backward}
use Rattle.tp_step.proofs.own.push_numbers.Goals as goal

pub loop-left-preserved : goal.loop-left-preserved
loop-left-preserved c =
    let i = c.loop-left.invariant.0 in
    let k = c.loop-left.left - 1 in
    let a = c.loop-left-test.true in
    let n : c.args.count - k ≡ suc (c.args.count - c.loop-left.left) = omega (arith, i, a) in
    let m : c.args.first + c.loop-left.left ≡ c.args.first + k + 1 = omega (arith, a) in (
      omega (arith, i),
      c.in_ok-push.ensures.items
          ∙ (ap (λ l. l ++ (c.args.first + k) ∷ []) c.loop-left.invariant.1
          ∙ (append_assoc c.args.stack.now.items (backward (range_with_len (c.args.first + c.loop-left.left) (c.args.count - c.loop-left.left))) ((c.args.first + k) ∷ [])
          ∙ (ap (λ j. c.args.stack.now.items ++ (backward (range_with_len j (c.args.count - c.loop-left.left)) ++ (c.args.first + k) ∷ [])) m
          ∙ ap (λ j. c.args.stack.now.items ++ backward (range_with_len (c.args.first + k) j)) (sym n)))),
    )
