-- Verdicts that follow from a few others.
use Rattle.std.specs.Prelude.{◌≡◌, ◌+◌, ◌-◌, ℕ, suc, pos, eqb, nat_le, nat_lt, List, length, slice_get, if◌then◌else◌}
use Rattle.tp_value.specs.Tree.{num}
use Rattle.tp_eval.specs.declared.outcome.Outcome.{Outcome}
use Rattle.tp_eval.specs.Answers.{outcome_tree}
use Rattle.tp_verdict.specs.Verdict as told
use Rattle.tp_verdict.specs.Verdict.{yes, no, both_of, one_of, opposite_of, value_verdict, equality_verdict}
use Rattle.tp_verdict.specs.Code.{verdict_of}
use Rattle.tp_verdict.specs.Stored.{or_no, stored, verdict_listed}
use Rattle.tp_verdict.specs.declared.rule.Rule.{Rule}
use Rattle.tp_verdict.specs.declared.rule.Rule.TheVariants.{Fixed, ByLength, AtStart, Counted, Paired, Next, IfMore, IfEmpty, Both, Either, Opposite, Branch}

-- whether an outcome is this number; whether outcomes of two lists are equal
abbrev pub length_verdict : List Outcome → ℕ → (n : ℕ) → told.Verdict
length_verdict outcomes i n =
    or_no (λ o. value_verdict (outcome_tree o) (num (pos n))) (slice_get outcomes i)

abbrev pub paired : (ends starts : List Outcome) → (i j : ℕ) → told.Verdict
paired ends starts i j =
    or_no (λ t. or_no (λ e. equality_verdict (outcome_tree t) (outcome_tree e))
    (slice_get starts i)) (slice_get ends j)

-- the verdict that a rule gives on the part from i to j
abbrev pub ruled : Rule → (i j : ℕ) → told.Verdict
ruled (Fixed v) i j = verdict_of v
ruled (ByLength none some) i j = if eqb i j then verdict_of none else verdict_of some
ruled (AtStart ahead vs) i j = if nat_le (ahead + i) j then verdict_listed vs.now i else no
ruled (Counted os) i j = length_verdict os.now i (j - i)
ruled (Paired ts es) i j = paired ts.now es.now i j
ruled (Next t) i j = if nat_lt i j then stored t.now.rows.items (suc i) j else no
ruled (IfMore t) i j = if nat_lt i j then stored t.now.rows.items i j else yes
ruled (IfEmpty t) i j = if nat_lt i j then yes else stored t.now.rows.items i j
ruled (Both t u) i j = both_of (stored t.now.rows.items i j) (stored u.now.rows.items i j)
ruled (Either t u) i j = one_of (stored t.now.rows.items i j) (stored u.now.rows.items i j)
ruled (Opposite t) i j = opposite_of (stored t.now.rows.items i j)
ruled (Branch ts fs t u) i j =
    one_of (both_of (verdict_listed ts.now i) (stored t.now.rows.items i j))
    (both_of (verdict_listed fs.now i) (stored u.now.rows.items i j))

-- The tables that it reads are of n states.
abbrev pub RuleFits : (n : ℕ) → Rule → Type 0
RuleFits n (Fixed v) = Unit {0}
RuleFits n (ByLength none some) = Unit {0}
RuleFits n (AtStart ahead vs) = Unit {0}
RuleFits n (Counted os) = Unit {0}
RuleFits n (Paired ts es) = Unit {0}
RuleFits n (Next t) = length t.now.rows.items ≡ n
RuleFits n (IfMore t) = length t.now.rows.items ≡ n
RuleFits n (IfEmpty t) = length t.now.rows.items ≡ n
RuleFits n (Both t u) = (length t.now.rows.items ≡ n) × (length u.now.rows.items ≡ n)
RuleFits n (Either t u) = (length t.now.rows.items ≡ n) × (length u.now.rows.items ≡ n)
RuleFits n (Opposite t) = length t.now.rows.items ≡ n
RuleFits n (Branch ts fs t u) = (length t.now.rows.items ≡ n) × (length u.now.rows.items ≡ n)
