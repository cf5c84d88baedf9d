-- The large source, as a text.
use Rattle.std.specs.Prelude.{ℕ, ◌+◌, ◌-◌, List, ◌++◌, codes}
use Rattle.std.specs.Fmt.{decimal}
use Rattle.std.specs.List.{flat_map, range_with_len}

-- the name of the variable with this number
abbrev pub numbered_name : ℕ → List ℕ
numbered_name number = codes "X" ++ decimal number

-- the last variable is 0, and then what the first one was
abbrev pub beginning_text : ℕ → List ℕ
beginning_text last = codes "run len(7) and " ++ numbered_name last
    ++ codes "=0 and " ++ numbered_name last ++ codes " gets " ++ numbered_name 0

-- a variable is one more than the next
abbrev pub link_text : ℕ → List ℕ
link_text number = codes " and always(" ++ numbered_name number
    ++ codes "=" ++ numbered_name (number + 1) ++ codes "+1)"

-- the source with the n variables 0 to n - 1
abbrev pub source_text : ℕ → List ℕ
source_text n = beginning_text (n - 1)
    ++ flat_map link_text (range_with_len 0 (n - 1)) ++ codes ".\n"
