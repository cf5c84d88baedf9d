-- What a seed chooses.
use Rattle.std.specs.Prelude.{ℕ, zero, suc, ◌+◌, ◌*◌, ◌/◌, ◌%◌, ◌^◌}

-- The words of a seed: the first is the seed itself.
abbrev pub word_after : ℕ → ℕ
word_after x = (x * 6364136223846793005 + 1442695040888963407) % 2 ^ 64

abbrev pub word_at : (seed k : ℕ) → ℕ
word_at s zero = s
word_at s (suc k) = word_after (word_at s k)

-- what a word chooses, and so the k-th choice of a seed
abbrev pub choice_of : (word : ℕ) → ℕ
choice_of x = x / 2 ^ 33

abbrev pub choice_at : (seed k : ℕ) → ℕ
choice_at s k = choice_of (word_at s k)
