use Rattle.std.proofs.Common.{◌≡◌, map, take}
use Rattle.tp_kernel.specs.Read.{binding_of}
use Rattle.tp_decide.proofs.env.copy_bindings.Given as goal

abbrev pub invariant-loop-binding : goal.invariant-loop-binding
invariant-loop-binding l = map binding_of l.copies.items ≡ map binding_of (take l.binding-index l.env.items.items)
