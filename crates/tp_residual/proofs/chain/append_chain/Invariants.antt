use Rattle.std.proofs.Common.{◌≡◌, ◌++◌}
use Rattle.tp_kernel.specs.Read.{formula_tree}
use Rattle.tp_residual.specs.Chain.{naming_all, within_spelling, IsNoDeeper}
use Rattle.tp_residual.specs.Phrases.{Vocabulary}
use Rattle.tp_residual.proofs.chain.append_chain.Given as goal

-- what is left comes behind, under the names so far
abbrev pub invariant-chain : goal.invariant-chain
invariant-chain l =
    ((v : Vocabulary) → l.out ++ within_spelling (naming_all v l.names) (formula_tree l.inner)
    ≡ l.fn.out ++ within_spelling (naming_all v l.fn.names) (formula_tree l.fn.formula))
    × IsNoDeeper l.inner l.fn.formula
