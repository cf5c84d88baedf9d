-- A part of a piece, from its start.
use Rattle.std.proofs.Common.{◌≡◌, ◌≤◌, ℕ, min, List, ◌++◌, length, take, Some, sym, ap, ◌∙◌, arith}
use Rattle.std.proofs.lemmas.List.{take_min}

-- what a failed write kept is as long as the piece at most
pub kept_within : (old new piece : List ℕ) (kept : ℕ) → new ≡ old ++ take kept piece
    → (n : ℕ) × (n ≤ length piece) × (Some new ≡ Some (old ++ take n piece))
kept_within old new piece kept e =
    (min kept (length piece), omega arith, ap Some (e ∙ ap (λ l. old ++ l) (sym (take_min kept piece))))
