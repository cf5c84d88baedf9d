use Rattle.std.proofs.Common.{◌≡◌, map}
use Rattle.tp_kernel.specs.Read.{bindings_of}
use Rattle.tp_scene.specs.Step as row
use Rattle.tp_decide.specs.Decided.{plain_leaf}
use Rattle.tp_decide.proofs.SharingLemmas.{leaves}
use Rattle.tp_decide.proofs.sharing.item_equations.Given as goal

abbrev pub invariant-loop-i : goal.invariant-loop-i
invariant-loop-i l = map plain_leaf l.news.items ≡ leaves (bindings_of l.env.value) (row.item_equations l.i 0)
