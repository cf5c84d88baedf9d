-- How a value's text is read, byte by byte.
use Rattle.std.specs.Prelude.{ℕ, ◌+◌, ◌-◌, ◌==◌, nat_lt, ℤ, pos, ◌+ℤ◌, ◌-ℤ◌, ◌*ℤ◌, Bool, true, false, ◌&&◌, ◌||◌, if◌then◌else◌, List, [], ◌∷◌, ◌++◌, length, slice_index, drop, Option, Some, None, Result, Ok, Err}
use Rattle.std.specs.Char.{is_ascii_digit}
use Rattle.tp_value.specs.declared.reading.ReadValue.{ReadValue}
use Rattle.tp_value.specs.declared.reading.ReadValue.TheVariants.{NoValue, TooLarge, TooLong, TooDeep}
use Rattle.tp_value.specs.declared.phase.Last.{Last}
use Rattle.tp_value.specs.declared.phase.Last.TheVariants.{Bracket, Item, Comma}
use Rattle.tp_value.specs.declared.phase.Phase.{Phase}
use Rattle.tp_value.specs.declared.phase.Phase.TheVariants.{Start, Between, Minus, Digits, Word as InWord}
use Rattle.tp_value.specs.declared.phase.Move.{Move}
use Rattle.tp_value.specs.declared.phase.Move.TheVariants.{Go, Open, Close, Word}
use Rattle.tp_value.specs.Number.{within_limit}
use Rattle.tp_value.specs.Limits.{item_limit, value_depth_limit}
use Rattle.tp_value.specs.Spelling.{is_value_blank, spelling}
use Rattle.tp_value.specs.Tree.{Tree, num, truth, list, of_items}

-- the digit that a byte is, if any
abbrev pub digit_of : ℕ → Option ℕ
digit_of b = if is_ascii_digit b then Some (b - 48) else None

-- whether a value's text may begin with the byte: `<`, `-`, `t`, `f` or a digit
abbrev pub begins_value : ℕ → Bool
begins_value b = b == 60 || b == 45 || b == 116 || b == 102 || is_ascii_digit b

-- the number with one digit more
abbrev pub continued : Bool → ℤ → ℕ → ℤ
continued negative n d = if negative then n *ℤ pos 10 -ℤ pos d else n *ℤ pos 10 +ℤ pos d

-- what the first digit of a number does
abbrev pub number_started : ℕ → ℕ → Option ℕ → Result Move ReadValue
number_started at begun (Some d) = Ok (Go (Digits at false (pos d)) begun)
number_started at begun None = Err (NoValue at)

-- what the first byte of a value does
abbrev pub first_move : ℕ → ℕ → ℕ → ℕ → Result Move ReadValue
first_move at depth begun b =
    if b == 60 then (if nat_lt depth value_depth_limit then Ok (Open begun) else Err (TooDeep at))
    else (if b == 45 then Ok (Go (Minus at) begun)
    else (if b == 116 then Ok (Go (InWord true 1) begun)
    else (if b == 102 then Ok (Go (InWord false 1) begun)
    else number_started at begun (digit_of b))))

-- what the first byte of an item does
abbrev pub item_started : ℕ → ℕ → ℕ → ℕ → Result Move ReadValue
item_started at depth begun b =
    if begins_value b then (if nat_lt begun item_limit then first_move at depth (begun + 1) b
    else Err (TooLong at))
    else Err (NoValue at)

-- what a byte does between the parts of a list
abbrev pub within_list : ℕ → ℕ → ℕ → Last → ℕ → Result Move ReadValue
within_list at depth begun last b =
    if is_value_blank b then Ok (Go (Between last) begun)
    else (if b == 44 then comma last
    else (if b == 62 then close last
    else other last))
  where
    comma : Last → Result Move ReadValue
    comma Bracket = Err (NoValue at)
    comma Item = Ok (Go (Between Comma) begun)
    comma Comma = Err (NoValue at)

    close : Last → Result Move ReadValue
    close Bracket = Ok Close
    close Item = Ok Close
    close Comma = Err (NoValue at)

    other : Last → Result Move ReadValue
    other Bracket = item_started at depth begun b
    other Item = Err (NoValue at)
    other Comma = item_started at depth begun b

-- the longer number, where it is within the limit
abbrev pub lengthened : ℕ → ℕ → Bool → Option ℤ → Result Move ReadValue
lengthened begun begin negative (Some n) = Ok (Go (Digits begin negative n) begun)
lengthened begun begin negative None = Err (TooLarge begin)

-- what a digit, or none, does to a number
abbrev pub digit_read : ℕ → ℕ → ℕ → Bool → ℤ → Option ℕ → Result Move ReadValue
digit_read at begun begin negative n (Some d) =
    lengthened begun begin negative (within_limit (continued negative n d))
digit_read at begun begin negative n None = Err (NoValue at)

-- what a byte of a number does that is no first digit
abbrev pub digits_go_on : ℕ → ℕ → ℕ → Bool → ℤ → ℕ → Result Move ReadValue
digits_go_on at begun begin negative n b = digit_read at begun begin negative n (digit_of b)

-- what a byte of a word does that is not its first
abbrev pub letters_go_on : ℕ → ℕ → Bool → ℕ → ℕ → Result Move ReadValue
letters_go_on at begun word k b =
    if nat_lt k (length (spelling word)) && slice_index (spelling word) k == b then
    (if k + 1 == length (spelling word) then Ok (Word word)
    else Ok (Go (InWord word (k + 1)) begun))
    else Err (NoValue at)

-- what the byte at a place does
abbrev pub next_move : ℕ → ℕ → ℕ → Phase → ℕ → Result Move ReadValue
next_move at depth begun Start b = first_move at depth begun b
next_move at depth begun (Between last) b = within_list at depth begun last b
next_move at depth begun (Minus begin) b = digits_go_on at begun begin true (pos 0) b
next_move at depth begun (Digits begin negative n) b = digits_go_on at begun begin negative n b
next_move at depth begun (InWord word k) b = letters_go_on at begun word k b

-- where reading stands: the items of the open lists, the innermost list first, how many items have
-- begun, and what was read last
pub record ReadingState : Type 0 where
  pub lists : List (List Tree)
  pub begun : ℕ
  pub phase : Phase

-- reading goes on, a value has ended in front of a place, or the bytes are refused
pub data Step : Type 0 where
  goes : ReadingState → Step
  ends : Tree → ℕ → Step
  refuses : ReadValue → Step

-- a value ends in front of a place: it is an item of the innermost list, or the whole
abbrev pub finished : List (List Tree) → ℕ → Tree → ℕ → Step
finished [] begun t after = ends t after
finished (ts ∷ lists) begun t after =
    goes (record { lists = (ts ++ t ∷ []) ∷ lists; begun = begun; phase = Between Item })

-- the innermost list ends
abbrev pub closed : ℕ → List (List Tree) → ℕ → Step
closed at [] begun = refuses (NoValue at)
closed at (ts ∷ lists) begun = finished lists begun (list (of_items ts)) (at + 1)

-- a list begins
abbrev pub opened : List (List Tree) → ℕ → ReadingState
opened lists begun = record { lists = [] ∷ lists; begun = begun; phase = Between Bracket }

-- what a move does
abbrev pub carried : ℕ → ReadingState → Result Move ReadValue → Step
carried at s (Ok (Go phase begun)) = goes (record { lists = s.lists; begun = begun; phase = phase })
carried at s (Ok (Open begun)) = goes (opened s.lists begun)
carried at s (Ok Close) = closed at s.lists s.begun
carried at s (Ok (Word word)) = finished s.lists s.begun (truth word) (at + 1)
carried at s (Err e) = refuses e

-- what the byte at a place does, where no number ends in front of it
abbrev pub moved : ℕ → ReadingState → ℕ → Step
moved at s b = carried at s (next_move at (length s.lists) s.begun s.phase b)

-- the number that was read last
abbrev pub number_read : Phase → Option ℤ
number_read (Digits begin negative n) = Some n
number_read Start = None
number_read (Between last) = None
number_read (Minus begin) = None
number_read (InWord word k) = None

-- the number that ends in front of a byte
abbrev pub number_before : Phase → ℕ → Option ℤ
number_before (Digits begin negative n) b = if is_ascii_digit b then None else Some n
number_before Start b = None
number_before (Between last) b = None
number_before (Minus begin) b = None
number_before (InWord word k) b = None

-- what comes after a step that goes on
abbrev pub then_step : Step → (ReadingState → Step) → Step
then_step (goes s) f = f s
then_step (ends t after) f = ends t after
then_step (refuses e) f = refuses e

-- what the byte at a place does, behind the number that ends in front of it
abbrev pub step_behind : ℕ → ReadingState → ℕ → Option ℤ → Step
step_behind at s b None = moved at s b
step_behind at s b (Some n) = then_step (finished s.lists s.begun (num n) at) (λ t. moved at t b)

abbrev pub step : ℕ → ReadingState → ℕ → Step
step at s b = step_behind at s b (number_before s.phase b)

-- a value with the place after it, or a refusal
pub data Answer : Type 0 where
  found : Tree → ℕ → Answer
  refused : ReadValue → Answer

-- what a step gives, and what reading gives after it
abbrev pub answered : Step → (ReadingState → Answer) → Answer
answered (goes s) f = f s
answered (ends t after) f = found t after
answered (refuses e) f = refused e

-- what the end of the bytes gives
abbrev pub at_end : ℕ → ReadingState → Answer
at_end at s = after (number_read s.phase)
  where
    after : Option ℤ → Answer
    after None = refused (NoValue at)
    after (Some n) = answered (finished s.lists s.begun (num n) at) (λ t. refused (NoValue at))

-- what the bytes from a place on give
abbrev pub reading : ℕ → ReadingState → List ℕ → Answer
reading at s [] = at_end at s
reading at s (b ∷ z) = answered (step at s b) (λ t. reading (at + 1) t z)

-- where reading begins
abbrev pub start_state : ReadingState
start_state = record { lists = []; begun = 0; phase = Start }

-- what reading a value that begins at a place answers
abbrev pub value_answer : List ℕ → ℕ → Answer
value_answer bytes from = reading from start_state (drop from bytes)
