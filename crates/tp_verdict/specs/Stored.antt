-- The verdicts that rows hold: a row for each start, and in it a verdict for each end.
use Rattle.std.specs.Prelude.{◌≡◌, ◌≤◌, ◌<◌, ◌+◌, ◌/◌, ℕ, List, length, Option, Some, None, slice_get}
use Rattle.tp_verdict.specs.Verdict as told
use Rattle.tp_verdict.specs.Verdict.{no, both_of, some_from}
use Rattle.tp_verdict.specs.Rows.{has_bit}
use Rattle.tp_verdict.specs.Code.{verdict_of, by_bits}
use Rattle.tp_verdict.specs.declared.verdict.Verdict.{Verdict}
use Rattle.tp_verdict.specs.declared.verdict_row.VerdictRow.{VerdictRow}

-- the verdict at a place of the row
abbrev pub verdict_at : VerdictRow → ℕ → told.Verdict
verdict_at row j = by_bits (has_bit row.sure.words.items j) (has_bit row.may.words.items j)

-- how many words a row has
abbrev pub width_of : VerdictRow → ℕ
width_of row = length row.sure.words.items

-- as many words as have bits for the numbers below n
abbrev pub words_for : ℕ → ℕ
words_for n = n / 64 + 1

-- what is told of what is there; no where nothing is
abbrev pub or_no : {A : Type 0} → (A → told.Verdict) → Option A → told.Verdict
or_no f None = no
or_no f (Some a) = f a

-- the verdict in the row of start i at end j, and that with number i in a list
abbrev pub stored : List VerdictRow → (i j : ℕ) → told.Verdict
stored rows i j = or_no (λ row. verdict_at row j) (slice_get rows i)

abbrev pub verdict_listed : List Verdict → ℕ → told.Verdict
verdict_listed verdicts i = or_no verdict_of (slice_get verdicts i)

-- said of each row, with its number
abbrev pub OfEachRow : (ℕ → VerdictRow → Type 0) → List VerdictRow → Type 0
OfEachRow Says rows = (i : ℕ) (row : VerdictRow) → slice_get rows i ≡ Some row → Says i row

-- Each row has bits for n numbers.
abbrev pub HaveWidth : (n : ℕ) → List VerdictRow → Type 0
HaveWidth n rows = OfEachRow (λ i row. width_of row ≡ words_for n) rows

-- The rows hold these verdicts on the parts of a run. Where the end is before the start there is no
-- part, and they hold no.
pub record HaveVerdicts (f : ℕ → ℕ → told.Verdict) (rows : List VerdictRow) : Type 0 where
  pub before : (i j : ℕ) → j < i → stored rows i j ≡ no
  pub parts : (i j : ℕ) → i ≤ j → j < length rows → stored rows i j ≡ f i j

-- one of m, from k on: both of the verdict with this number, and of what the row of this start
-- holds
abbrev pub joined_from : (m k : ℕ) → (ℕ → told.Verdict) → List VerdictRow → ℕ → told.Verdict
joined_from m k f rows j = some_from m k (λ c. both_of (f c) (stored rows c j))
