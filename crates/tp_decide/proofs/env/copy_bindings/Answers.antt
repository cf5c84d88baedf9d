use Rattle.std.proofs.Common.{◌∙◌, length, get_or, ap, arith}
use Rattle.tp_kernel.specs.Read.{binding_of}
use Rattle.tp_decide.proofs.ListLemmas.{one_more, all_made}
use Rattle.tp_decide.proofs.env.copy_bindings.Goals as goal

pub loop-binding-preserved : goal.loop-binding-preserved
loop-binding-preserved c =
    one_more binding_of binding_of c.args.env.now.items.items c.loop-binding.copies.items c.push.new.self.items c.loop-binding.binding-index c.binding-item.result c.in_ok-copy.copy
    (omega (arith, ap length c.deref-binding-items.ensures.value, c.loop-binding-test.true))
    (c.binding-item.is ∙ ap (λ bs. get_or bs c.loop-binding.binding-index c.binding-item.result) c.deref-binding-items.ensures.value)
    c.in_ok-copy.ensures c.in_ok-push.ensures.items c.loop-binding.invariant

pub returns : goal.returns
returns c = all_made binding_of binding_of c.args.env.now.items.items c.loop-binding.copies.items c.loop-binding.binding-index (omega (arith, ap length c.deref-binding-items.ensures.value, c.loop-binding-test.false)) c.loop-binding.invariant
