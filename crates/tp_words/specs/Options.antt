-- The words and options that the command line takes, and what each of them asks for.
use Rattle.std.specs.Prelude.{[], ◌∷◌, Some, true, fold, codes, ◌^◌, ℕ, List, Bool, Option, None, length, nat_le, nat_lt, if◌then◌else◌, ◌&&◌, false, option_map}
use Rattle.clap.specs.Words.{App, Rule, Text, new_app, new_rule, with_rule}
use Rattle.clap.specs.Simple.{on_top}
use Rattle.clap.specs.declared.builder.action.ArgAction.TheVariants.{SetTrue}
use Rattle.std.specs.List.{list_all}
use Rattle.std.specs.Char.{is_ascii_digit}
use Rattle.std.specs.Str.Parse.{digits_value}
use Rattle.std.specs.Str.{bytes_eq}
use Rattle.tp_words.specs.declared.mode.Mode.{Mode}
use Rattle.tp_words.specs.declared.mode.Mode.TheVariants.{Run, Print, Convert, Check, Drill}
use Rattle.tp_step.specs.declared.order.Order.{Order}
use Rattle.tp_step.specs.declared.order.Order.TheVariants.{First, Last, Seed}
use Rattle.tp_words.specs.declared.beside.Beside.{Beside}
use Rattle.tp_words.specs.declared.beside.Beside.TheVariants.{Nothing, TraceLines}

-- ---- the command line, as `clap` sees it

-- a word that must be there, an option with a value, and a flag
abbrev pub required_word : Text → Rule
required_word name = record (new_rule name) { required = true }

abbrev pub valued_option : Text → Rule
valued_option name = record (new_rule name) { long = Some name }

abbrev pub plain_flag : Text → Rule
plain_flag name = record (new_rule name) { long = Some name; action = Some SetTrue }

-- a command that is given the words after its name, and knows neither `--help` nor `--version`
abbrev pub bare_app : App
bare_app =
    on_top (λ s. record s {
      no_binary_name = true;
      disable_help_flag = true;
      disable_version_flag = true;
    }) (new_app (codes "tempura"))

-- the command line: MODE FILE [--inputs FILE] [--with FILE] [--states N] [--reductions R]
-- [--order O] [--trace]
abbrev pub the_app : App
the_app = fold with_rule bare_app (required_word (codes "mode")
    ∷ required_word (codes "file")
    ∷ valued_option (codes "inputs")
    ∷ valued_option (codes "with")
    ∷ valued_option (codes "states")
    ∷ valued_option (codes "reductions")
    ∷ valued_option (codes "order")
    ∷ plain_flag (codes "trace") ∷ [])

-- ---- numerals among the words

-- one decimal digit or more, and no more than so many
abbrev pub is_numeral : (most : ℕ) → List ℕ → Bool
is_numeral most text =
    nat_lt 0 (length text) && (nat_le (length text) most && list_all is_ascii_digit text)

-- the number that a text spells by no more than so many digits, below 2 ^ 64
abbrev pub numeral_value : (most : ℕ) → List ℕ → Option ℕ
numeral_value most text =
    if is_numeral most text && nat_lt (digits_value 10 text) (2 ^ 64)
    then Some (digits_value 10 text) else None

-- the number, where it is no less than 1 and no more than the greatest
abbrev pub from_one_to : (greatest : ℕ) → ℕ → Option ℕ
from_one_to greatest n = if nat_le 1 n && nat_le n greatest then Some n else None

-- such a number that a text spells by no more than so many digits
abbrev pub numeral_within : (most greatest : ℕ) → List ℕ → Option ℕ
numeral_within most greatest text =
    if is_numeral most text then from_one_to greatest (digits_value 10 text) else None

-- ---- how many variables the source of a drill has

abbrev pub greatest_size : ℕ
greatest_size = 5000

-- the size that a text of four digits at most spells, no less than 1 and no more than the greatest
abbrev pub size_spelled : List ℕ → Option ℕ
size_spelled = numeral_within 4 greatest_size

-- ---- the limits: how many states a run settles, how many reductions it makes in a state

-- how many digits a limit is written with at most, and the greatest limit
abbrev pub limit_digits : ℕ
limit_digits = 7

abbrev pub greatest_limit : ℕ
greatest_limit = 1000000

-- the limits where the words set none
abbrev pub usual_states : ℕ
usual_states = 1000

abbrev pub usual_reductions : ℕ
usual_reductions = 100000

-- the limit that a text spells, no less than 1 and no more than the greatest
abbrev pub limit_spelled : List ℕ → Option ℕ
limit_spelled = numeral_within limit_digits greatest_limit

-- the limit where an option may have set one
abbrev pub limit_set : ℕ → Option (List ℕ) → Option ℕ
limit_set usual None = Some usual
limit_set usual (Some text) = limit_spelled text

-- ---- what is done with the file, or with a source of a size

abbrev pub mode_text : Mode → List ℕ
mode_text Run = codes "run"
mode_text Print = codes "print"
mode_text Convert = codes "convert"
mode_text Check = codes "check"
mode_text (Drill size) = codes "drill"

-- the mode reads a second file, which the words must name
abbrev pub needs_other : Mode → Bool
needs_other Run = false
needs_other Print = false
needs_other Convert = false
needs_other Check = true
needs_other (Drill size) = false

-- the second file is named, where the mode reads one
abbrev pub has_other : Mode → Option (List ℕ) → Bool
has_other mode (Some name) = true
has_other mode None = if needs_other mode then false else true

-- the mode with this name, where the word after it is the name of a file, or for a drill a size
abbrev pub mode_named : (name subject : List ℕ) → Option Mode
mode_named name subject =
    if bytes_eq name (mode_text Run) then Some Run
    else (if bytes_eq name (mode_text Print) then Some Print
    else (if bytes_eq name (mode_text Convert) then Some Convert
    else (if bytes_eq name (mode_text Check) then Some Check
    else (if bytes_eq name (codes "drill") then option_map Drill (size_spelled subject)
    else None))))

-- ---- the order in which a run takes its items: from the first or the last, or by a seed

-- how many digits a seed is written with at most
abbrev pub seed_digits : ℕ
seed_digits = 20

-- the seed that a text spells, below 2 ^ 64
abbrev pub seed_spelled : List ℕ → Option ℕ
seed_spelled = numeral_value seed_digits

-- the order with this name, or with this seed
abbrev pub order_named : List ℕ → Option Order
order_named text =
    if bytes_eq text (codes "first") then Some First
    else (if bytes_eq text (codes "last") then Some Last else option_map Seed (seed_spelled text))

-- the order where an option may have set one
abbrev pub order_set : Option (List ℕ) → Option Order
order_set None = Some First
order_set (Some text) = order_named text

-- ---- what is written beside the states of a run

-- what is written where a trace is asked for or not
abbrev pub beside_given : (trace : Bool) → Beside
beside_given false = Nothing
beside_given true = TraceLines
