-- The line with the number of reductions, as it is written.
use Rattle.std.proofs.Common.{◌≡◌, ℕ, List, ◌++◌, ap, ◌∙◌, codes}
use Rattle.std.specs.Fmt.{decimal}
use Rattle.std.proofs.lemmas.List.{append_assoc}
use Rattle.tp_residual.specs.Residual.{reductions_line}

pub reductions_written : (out a b new : List ℕ) (n : ℕ) → a ≡ out ++ codes "reductions " → b ≡ a ++ decimal n → new ≡ b ++ codes "\n" → new ≡ out ++ reductions_line n
reductions_written out a b new n e f g =
    g ∙ (ap (λ xs. xs ++ codes "\n") (f ∙ (ap (λ xs. xs ++ decimal n) e ∙ append_assoc out (codes "reductions ") (decimal n)))
    ∙ append_assoc out (codes "reductions " ++ decimal n) (codes "\n"))
