use Rattle.std.proofs.Common.{◌≡◌, ◌+◌, ◌-◌, drop, length}
use Rattle.std.specs.Option.{option_map}
use Rattle.tp_lex.specs.First.{first_close}
use Rattle.tp_lex.proofs.first.comment_len.Given as goal

-- no `*/` stands before
abbrev pub invariant-loop-at : goal.invariant-loop-at
invariant-loop-at l = first_close l.text ≡ option_map (λ n. l.at + n) (first_close (drop l.at l.text))

abbrev pub decreases-loop-at : goal.decreases-loop-at
decreases-loop-at l = length l.text - l.at
