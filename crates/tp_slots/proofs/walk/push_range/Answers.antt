-- One more item, before those that were to be visited.
use Rattle.std.proofs.Common.{◌-◌, ◌+◌, ◌++◌, ◌∷◌, [], refl, ap, ◌∙◌, arith}
use Rattle.tp_slots.specs.Walk.{visits}
use Rattle.tp_slots.specs.declared.walk.WalkTask.TheVariants.{Visit}
use Rattle.tp_slots.proofs.Lists.{range_before}
use Rattle.tp_slots.proofs.walk.push_range.Goals as goal

pub loop-left-preserved : goal.loop-left-preserved
loop-left-preserved c =
    let i = c.loop-left.invariant.0 in (
      omega (arith, i),
      c.in_ok-push.ensures.items
          ∙ (ap (λ l. l ++ Visit (c.args.first + (c.loop-left.left - 1)) ∷ []) c.loop-left.invariant.1 ∙ range_before visits Visit (λ x xs. refl) c.args.stack.now.items c.args.first c.args.count c.loop-left.left c.loop-left-test.true i),
    )
