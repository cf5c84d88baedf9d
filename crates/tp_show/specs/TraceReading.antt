-- What the calls that read a trace find.
use Rattle.std.specs.Prelude.{◌≡◌, ℕ, suc, ◌<◌, ◌≤◌, ◌==◌, Bool, true, false, not, ◌&&◌, if◌then◌else◌, nat_le, nat_lt, List, [], ◌∷◌, ◌++◌, length, take, drop, map, slice_index, Option, Some, None, is_none, ◌⊎◌, codes, Vec}
use Rattle.std.specs.Global.{Global}
use Rattle.std.specs.List.{prefix_len}
use Rattle.std.specs.Option.{option_map}
use Rattle.std.specs.Char.{is_ascii_digit, is_ascii_alphabetic}
use Rattle.tp_value.specs.Tree.{Tree}
use Rattle.tp_value.specs.Limits.{index_limit, length_limit, IsWithinLimits}
use Rattle.tp_value.specs.Spelling.{decimal_value, AreDigits, Spells}
use Rattle.tp_value.specs.declared.value.Value.{Value}
use Rattle.tp_value.specs.Read.{tree}
use Rattle.tp_lex.specs.Bytes.{name_limit}
use Rattle.tp_lex.specs.Spelled.{spelled_word}
use Rattle.tp_show.specs.declared.trace_part.NamedPath.{NamedPath}
use Rattle.tp_show.specs.declared.trace_part.ReadPart.{ReadPart}
use Rattle.tp_show.specs.declared.trace_part.ReadPart.TheVariants.{Given, Measured}
use Rattle.tp_show.specs.Trace.{TracePart, has_value, has_length, SpellsIndices, SpellsPath, SpellsPart, SpellsParts, IsStateLine, is_passed_over, ends_trace}
use Rattle.tp_show.specs.declared.named_fact.NamedFact.{NamedFact}
use Rattle.tp_show.specs.declared.trace_line.LineKind.{LineKind}
use Rattle.tp_show.specs.declared.trace_line.LineKind.TheVariants.{State, PassedOver, End, Bad}

-- how many bytes stand before the first one that is this
abbrev pub len_before : ℕ → List ℕ → ℕ
len_before stop z = prefix_len (λ b. not (b == stop)) z

abbrev pub all_digits : List ℕ → Bool
all_digits [] = true
all_digits (b ∷ z) = is_ascii_digit b && all_digits z

-- the number that the whole text spells in digits, where it is within the limit
abbrev pub digits_within : (limit : ℕ) → List ℕ → Option ℕ
digits_within limit z =
    if nat_lt 0 (length z) && (all_digits z && nat_le (decimal_value z) limit)
    then Some (decimal_value z) else None

-- the index in brackets that comes first, and how many bytes it has with its brackets
abbrev pub index_of_len : ℕ → List ℕ → Option (ℕ × ℕ)
index_of_len n z =
    if nat_lt n (length z)
    then option_map (λ i. (i, suc (suc n))) (digits_within index_limit (take n z)) else None

abbrev pub first_index : List ℕ → Option (ℕ × ℕ)
first_index [] = None
first_index (b ∷ z) = if b == 91 then index_of_len (len_before 93 z) z else None

-- a name whose bytes are letters, digits and `_` is one of a variable
abbrev pub is_variable_name : List ℕ → Bool
is_variable_name name =
    is_ascii_alphabetic (slice_index name 0)
    && (nat_le (length name) name_limit && is_none (spelled_word name))

abbrev pub AreIndicesFound : List ℕ → Option (List ℕ) → Type 0
AreIndicesFound z None = (at : List ℕ) → ¬ SpellsIndices z at
AreIndicesFound z (Some at) = SpellsIndices z at

abbrev pub IsPathFound : List ℕ → Option NamedPath → Type 0
IsPathFound z None = (name at : List ℕ) → ¬ SpellsPath z name at
IsPathFound z (Some p) = SpellsPath z p.name p.at

abbrev pub trace_part_of : ReadPart → TracePart
trace_part_of (Given path v) = has_value path.name path.at (tree v)
trace_part_of (Measured path n) = has_length path.name path.at n

abbrev pub trace_parts_of : List ReadPart → List TracePart
trace_parts_of ps = map trace_part_of ps

-- nothing comes, or a space
abbrev pub is_apart : List ℕ → Bool
is_apart [] = true
is_apart (b ∷ z) = b == 32

-- the value that comes first, set apart from what follows
pub record BeginsWithValue (z : List ℕ) (t : Tree) (rest : List ℕ) : Type 0 where
  pub text : List ℕ
  pub split : z ≡ text ++ rest
  pub spelled : Spells text t
  pub limits : IsWithinLimits t
  pub apart : is_apart rest ≡ true

-- and how many bytes it has
abbrev pub IsValueFound : List ℕ → Option (Value × ℕ) → Type 0
IsValueFound z None = (t : Tree) (rest : List ℕ) → ¬ BeginsWithValue z t rest
IsValueFound z (Some x) = (x.1 ≤ length z) × BeginsWithValue z (tree x.0) (drop x.1 z)

-- a part that is cut at its `=`: the value at the path
pub record IsValueAt (path z : List ℕ) (p : TracePart) (rest : List ℕ) : Type 0 where
  pub name : List ℕ
  pub at : List ℕ
  pub value : Tree
  pub is : p ≡ has_value name at value
  pub spelled_path : SpellsPath path name at
  pub spelled : BeginsWithValue z value rest

-- or the length of the list there
pub record IsLengthAt (path z : List ℕ) (p : TracePart) (rest : List ℕ) : Type 0 where
  pub name : List ℕ
  pub at : List ℕ
  pub digits : List ℕ
  pub is : p ≡ has_length name at (decimal_value digits)
  pub spelled_path : SpellsPath path name at
  pub split : z ≡ digits ++ rest
  pub are_digits : AreDigits digits
  pub limit : decimal_value digits ≤ length_limit
  pub apart : is_apart rest ≡ true

-- or either, by what stands in front of the `=`
abbrev pub IsAround : (left z : List ℕ) → TracePart → List ℕ → Type 0
IsAround left z p rest =
    IsValueAt left z p rest
    ⊎ ((path : List ℕ) × (left ≡ codes "|" ++ (path ++ codes "|")) × IsLengthAt path z p rest)

-- a part of such a kind, and how many bytes it has
abbrev pub IsFoundOf : (TracePart → List ℕ → Type 0) → List ℕ → Option (ReadPart × ℕ) → Type 0
IsFoundOf P z None = (p : TracePart) (rest : List ℕ) → ¬ P p rest
IsFoundOf P z (Some x) = (x.1 ≤ length z) × P (trace_part_of x.0) (drop x.1 z)

abbrev pub IsValuePart : (path z : List ℕ) → Option (ReadPart × ℕ) → Type 0
IsValuePart path z found = IsFoundOf (IsValueAt path z) z found

abbrev pub IsLengthPart : (path z : List ℕ) → Option (ReadPart × ℕ) → Type 0
IsLengthPart path z found = IsFoundOf (IsLengthAt path z) z found

abbrev pub IsPartAround : (left z : List ℕ) → Option (ReadPart × ℕ) → Type 0
IsPartAround left z found = IsFoundOf (IsAround left z) z found

-- the text begins with a part, and the rest comes behind it
pub record BeginsWithPart (z : List ℕ) (p : TracePart) (rest : List ℕ) : Type 0 where
  pub text : List ℕ
  pub split : z ≡ text ++ rest
  pub spelled : SpellsPart text p
  pub apart : is_apart rest ≡ true

abbrev pub IsPartFound : List ℕ → Option (ReadPart × ℕ) → Type 0
IsPartFound z found = IsFoundOf (BeginsWithPart z) z found

-- a space comes, and then a part
abbrev pub ComesNext : List ℕ → TracePart → List ℕ → Type 0
ComesNext z p rest = (behind : List ℕ) × (z ≡ codes " " ++ behind) × BeginsWithPart behind p rest

abbrev pub IsNextPart : List ℕ → Option (ReadPart × ℕ) → Type 0
IsNextPart z found = IsFoundOf (ComesNext z) z found

abbrev pub found_parts : Option (Vec ReadPart Global) → Option (List ReadPart)
found_parts None = None
found_parts (Some ps) = Some ps.items

abbrev pub ArePartsFound : List ℕ → Option (List ReadPart) → Type 0
ArePartsFound z None = (ps : List TracePart) → ¬ SpellsParts z ps
ArePartsFound z (Some ps) = SpellsParts z (trace_parts_of ps)

abbrev pub found_facts : Option (Vec NamedFact Global) → Option (List NamedFact)
found_facts None = None
found_facts (Some fs) = Some fs.items

abbrev pub IsStateFound : ℕ → List ℕ → Option (List NamedFact) → Type 0
IsStateFound number line None = (facts : List NamedFact) → ¬ IsStateLine number line facts
IsStateFound number line (Some facts) = IsStateLine number line facts

-- what a line is behind the lines of so many states
abbrev pub IsKindOf : ℕ → List ℕ → LineKind → Type 0
IsKindOf states line (State facts) = IsStateLine states line facts
IsKindOf states line PassedOver = (0 < states) × (is_passed_over line ≡ true)
IsKindOf states line End = (0 < states) × (ends_trace line ≡ true)
IsKindOf states line Bad =
    ((facts : List NamedFact) → ¬ IsStateLine states line facts)
    × (0 < states → (is_passed_over line ≡ false) × (ends_trace line ≡ false))
