-- What the words of the command line ask for.
use Rattle.std.specs.Prelude.{ℕ, List, [], ◌∷◌, Bool, false, Option, None, Some, if◌then◌else◌, codes}
use Rattle.std.specs.Option.{option_and_then}
use Rattle.std.specs.List.{list_all}
use Rattle.std.specs.Str.{bytes_eq, is_utf8}
use Rattle.clap.specs.Words.{Row, Kinds, first_of, fault_of, matches_of}
use Rattle.tp_step.specs.declared.order.Order.{Order}
use Rattle.tp_words.specs.Options.{the_app, beside_given, limit_set, usual_states, usual_reductions, mode_named, has_other, order_set}
use Rattle.tp_words.specs.declared.beside.Beside.{Beside}
use Rattle.tp_words.specs.declared.mode.Mode.{Mode}

-- What is done, and with which file, which for a drill is the text of its size; of a check the file
-- of the trace; of a run the file of the inputs, and what it writes beside each state; and of a run
-- and a drill the limits on states and on the reductions in a state, and the order in which it
-- takes its items.
pub record Wanted : Type 0 where
  pub mode : Mode
  pub file : List ℕ
  pub inputs : Option (List ℕ)
  pub other : Option (List ℕ)
  pub states : ℕ
  pub reductions : ℕ
  pub order : Order
  pub beside : Beside

-- the value is there and is this text
abbrev pub is_text : List ℕ → Option (List ℕ) → Bool
is_text text None = false
is_text text (Some value) = bytes_eq value text

-- `x ← o` goes on with what is there
infixl 10 ◌>>=◌
abbrev ◌>>=◌ : {A B : Type 0} → Option A → (A → Option B) → Option B
o >>= f = option_and_then f o

-- What the matches of the words ask for, where each of them has the form that it must have, and a
-- second file is named where the mode reads one.
unfoldable pub wanted_in : List Row → Option Wanted
wanted_in rows = do
  name ← first_of (codes "mode") rows
  file ← first_of (codes "file") rows
  mode ← mode_named name file
  states ← limit_set usual_states (first_of (codes "states") rows)
  reductions ← limit_set usual_reductions (first_of (codes "reductions") rows)
  order ← order_set (first_of (codes "order") rows)
  if has_other mode (first_of (codes "with") rows) then Some (record {
    mode = mode;
    file = file;
    inputs = first_of (codes "inputs") rows;
    other = first_of (codes "with") rows;
    states = states;
    reductions = reductions;
    order = order;
    beside = beside_given (is_text (codes "true") (first_of (codes "trace") rows));
  }) else None

-- the same, where the command line has no fault
abbrev pub wanted_without : Kinds → List Row → Option Wanted
wanted_without [] rows = wanted_in rows
wanted_without (kind ∷ kinds) rows = None

-- what texts ask for
unfoldable pub wanted_of_texts : List (List ℕ) → Option Wanted
wanted_of_texts texts = wanted_without (fault_of the_app texts) (matches_of the_app texts)

-- accepted words, and what they mean: each word is UTF-8, and the command line takes them
abbrev pub wanted_of : List (List ℕ) → Option Wanted
wanted_of words = if list_all is_utf8 words then wanted_of_texts words else None
