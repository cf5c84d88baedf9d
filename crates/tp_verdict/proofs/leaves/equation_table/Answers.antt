use Rattle.std.proofs.Common.{arith}
use Rattle.tp_kernel.specs.Read.{expr_tree}
use Rattle.tp_verdict.proofs.KindLemmas.{from_both}
use Rattle.tp_verdict.proofs.LeafLemmas.{equation_kind}
use Rattle.tp_verdict.proofs.leaves.equation_table.Goals as goal

pub returns-clause-verdicts : goal.returns-clause-verdicts
returns-clause-verdicts c =
    from_both c.next_equation_table.result _ _ _
    (λ table many all. equation_kind c.args.states.now table.rows.items (omega (arith, many)) (expr_tree c.args.first.now) (expr_tree c.args.second.now) all)
    c.next_equation_table.ensures.many c.next_equation_table.ensures.verdicts
