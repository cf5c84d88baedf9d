-- Verdicts, and how they are joined.
use Rattle.std.specs.Prelude.{ℕ, zero, suc, Bool, true, false}
use Rattle.tp_value.specs.Tree.{Tree, same_tree}
use Rattle.tp_eval.specs.Outcome.{Outcome, value, wait, fault, over}

-- Something holds, or it doesn't, or what is known decides neither.
pub data Verdict : Type 0 where
  yes no undecided : Verdict

abbrev pub of_truth : Bool → Verdict
of_truth true = yes
of_truth false = no

-- both of two; one of two; the opposite
abbrev pub both_of : Verdict → Verdict → Verdict
both_of yes v = v
both_of no v = no
both_of undecided yes = undecided
both_of undecided no = no
both_of undecided undecided = undecided

abbrev pub one_of : Verdict → Verdict → Verdict
one_of yes v = yes
one_of no v = v
one_of undecided yes = yes
one_of undecided no = undecided
one_of undecided undecided = undecided

abbrev pub opposite_of : Verdict → Verdict
opposite_of yes = no
opposite_of no = yes
opposite_of undecided = undecided

-- all of the m verdicts with the numbers from k on, and one of them
abbrev pub all_from : (m k : ℕ) → (ℕ → Verdict) → Verdict
all_from zero k f = yes
all_from (suc m) k f = both_of (f k) (all_from m (suc k) f)

abbrev pub some_from : (m k : ℕ) → (ℕ → Verdict) → Verdict
some_from zero k f = no
some_from (suc m) k f = one_of (f k) (some_from m (suc k) f)

-- Whether an expression with this outcome has this value. With a fault it has none.
abbrev pub value_verdict : Outcome → Tree → Verdict
value_verdict (value t) v = of_truth (same_tree t v)
value_verdict (wait p) v = undecided
value_verdict (fault k) v = no
value_verdict (over k) v = undecided

abbrev pub no_with_fault : Outcome → Verdict
no_with_fault (value t) = undecided
no_with_fault (wait p) = undecided
no_with_fault (fault k) = no
no_with_fault (over k) = undecided

-- Whether expressions with these outcomes have one value. Where one has a fault they haven't,
-- whatever the other is.
abbrev pub equality_verdict : Outcome → Outcome → Verdict
equality_verdict (value t) o = value_verdict o t
equality_verdict (wait p) o = no_with_fault o
equality_verdict (fault k) o = no
equality_verdict (over k) o = no_with_fault o
