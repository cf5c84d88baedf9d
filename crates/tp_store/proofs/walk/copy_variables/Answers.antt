use Rattle.std.proofs.Common.{arith}
use Rattle.tp_store.proofs.Walks.{no_variables, next_variable, all_variables}
use Rattle.tp_store.proofs.walk.copy_variables.Goals as goal

pub loop-number-init : goal.loop-number-init
loop-number-init c = no_variables c.args.nodes.now c.args.lasting c.requires.tree c.count.ensures.unique c.args.facts.now.items

pub loop-number-preserved : goal.loop-number-preserved
loop-number-preserved c =
    next_variable c.args.nodes.now c.args.lasting c.requires.tree c.count.ensures.unique c.loop-number.number c.args.facts.now.items c.loop-number.facts.items c.copy_variable.new.facts.items c.requires.no_clash
    c.loop-number.invariant c.in_ok-copy_variable.ensures

pub returns : goal.returns
returns c =
    all_variables c.args.nodes.now c.args.lasting c.requires.tree c.count.ensures.unique c.loop-number.number c.args.below c.args.facts.now.items c.loop-number.facts.items
    (omega (arith, c.loop-number.auto.number-end, c.min-number-end.ensures)) (λ k low placed. omega (arith, low, placed, c.loop-number-test.false, c.min-number-end.ensures, c.places.ensures)) c.loop-number.invariant
