-- The traces of the examples.
use Rattle.std.proofs.Common.{◌≡◌, inl, inr, ℕ, pos, true, List, [], ◌∷◌, ◌++◌, slice_index, codes, refl, ap, arith}
use Rattle.std.specs.Fmt.{digits as digits_of_number}
use Rattle.std.specs.Char.{is_ascii_digit}
use Rattle.tp_value.specs.Number.{IsNumber}
use Rattle.tp_value.specs.Tree.{Tree, num, truth, list, nil, cons}
use Rattle.tp_value.specs.Limits.{IsWithinLimits}
use Rattle.tp_value.specs.Spelling.{decimal_value, digits}
use Rattle.tp_value.proofs.TextSpelled.{text_spelled}
use Rattle.tp_lex.specs.Spelled.{spelled_word}
use Rattle.tp_lex.proofs.SpellingLemmas.{no_word}
use Rattle.tp_show.specs.Trace.{has_value, has_length, parts_facts, IsVariableName, none, index, SpellsPath, value, list_length, part, IsStateLine, state_opening, state, passed, stop, end, IsFirstBadLine, not_allowed}
use Rattle.tp_show.specs.TraceExamples.{counter_at, TraceExamples}
use Rattle.tp_show.proofs.TraceRuns.{begins_with_nothing, Lines, States, Next, next}

name_A : IsVariableName (codes "A")
unfolding spelled_word
name_A = record { letter = refl; bytes = (refl, tt); short = omega arith; no_word = no_word (codes "A") refl }

name_L : IsVariableName (codes "L")
unfolding spelled_word
name_L = record { letter = refl; bytes = (refl, tt); short = omega arith; no_word = no_word (codes "L") refl }

name_M : IsVariableName (codes "M")
unfolding spelled_word
name_M = record { letter = refl; bytes = (refl, tt); short = omega arith; no_word = no_word (codes "M") refl }

path_A : SpellsPath (codes "A") (codes "A") []
path_A = record { variable_name = name_A; indices = []; split = refl; spelled = none; few = omega arith }

path_L : SpellsPath (codes "L") (codes "L") []
path_L = record { variable_name = name_L; indices = []; split = refl; spelled = none; few = omega arith }

path_M : SpellsPath (codes "M") (codes "M") []
path_M = record { variable_name = name_M; indices = []; split = refl; spelled = none; few = omega arith }

path_M1 : SpellsPath (codes "M[1]") (codes "M") (1 ∷ [])
path_M1 = record { variable_name = name_M; indices = codes "[1]"; split = refl; spelled = index (codes "1") [] [] (refl, tt) (omega arith) none; few = omega arith }

-- ` A=` and a digit
abbrev digit_part : ℕ → List ℕ
digit_part d = codes " A=" ++ d ∷ []

counter_line : (n d : ℕ) → is_ascii_digit d ≡ true → IsWithinLimits (num (pos (decimal_value (d ∷ [])))) → IsStateLine n (state_opening n ++ digit_part d) (counter_at (decimal_value (d ∷ [])))
counter_line n d digit small = record {
  rest = digit_part d;
  opening = refl;
  parts = has_value (codes "A") [] (num (pos (decimal_value (d ∷ [])))) ∷ [];
  spelled = part (codes "A=" ++ d ∷ []) [] (has_value (codes "A") [] (num (pos (decimal_value (d ∷ []))))) [] (value (codes "A") (codes "A") [] (d ∷ []) (num (pos (decimal_value (d ∷ [])))) path_A (digits (d ∷ []) (digit, tt)) small) none;
  given = refl;
  no_clash = refl;
}

small_number : (n : ℕ) → IsNumber (pos n) → IsWithinLimits (num (pos n))
small_number n h = record { items = omega arith; depth = omega arith; numbers = h }

-- `<1,true>`
abbrev some_list : Tree
some_list = list (cons (num (pos 1)) (cons (truth true) nil))

list_within : IsWithinLimits some_list
list_within = record { items = omega arith; depth = omega arith; numbers = (refl, (tt, tt)) }

list_line : IsStateLine 0 (codes "state 0: L=<1,true> |M|=3 M[1]=5") (parts_facts (has_value (codes "L") [] some_list ∷ has_length (codes "M") [] 3 ∷ has_value (codes "M") (1 ∷ []) (num (pos 5)) ∷ []))
unfolding digits_of_number
list_line = record {
  rest = codes " L=<1,true> |M|=3 M[1]=5";
  opening = refl;
  parts = has_value (codes "L") [] some_list ∷ has_length (codes "M") [] 3 ∷ has_value (codes "M") (1 ∷ []) (num (pos 5)) ∷ [];
  spelled =
      part (codes "L=<1,true>") (codes " |M|=3 M[1]=5") (has_value (codes "L") [] some_list) (has_length (codes "M") [] 3 ∷ has_value (codes "M") (1 ∷ []) (num (pos 5)) ∷ [])
      (value (codes "L") (codes "L") [] (codes "<1,true>") some_list path_L (text_spelled some_list list_within.numbers) list_within)
      (part (codes "|M|=3") (codes " M[1]=5") (has_length (codes "M") [] 3) (has_value (codes "M") (1 ∷ []) (num (pos 5)) ∷ [])
      (list_length (codes "M") (codes "M") [] (codes "3") path_M (refl, tt) (omega arith))
      (part (codes "M[1]=5") [] (has_value (codes "M") (1 ∷ []) (num (pos 5))) []
      (value (codes "M[1]") (codes "M") (1 ∷ []) (codes "5") (num (pos 5)) path_M1 (digits (codes "5") (refl, tt)) (small_number 5 refl)) none));
  given = refl;
  no_clash = refl;
}

-- no trace begins with the line of the state 1
no_first : (texts : Lines) (states : States) → Next 0 (codes "state 1: A=0" ∷ texts) states → ⊥
unfolding digits_of_number
no_first texts states (inl s) = let opening : codes "state 1: A=0" ≡ codes "state 0:" ++ s.is_line.rest = s.is_line.opening in let byte : 49 ≡ 48 = ap (λ (z : List ℕ). slice_index z 6) opening in omega (arith, byte)
no_first texts states (inr (inl p)) = omega (arith, p.some)
no_first texts states (inr (inr e)) = omega (arith, e.some)

bad_start : IsFirstBadLine (codes "state 1: A=0" ∷ []) 1
bad_start = not_allowed [] (codes "state 1: A=0") [] begins_with_nothing (λ b. no_first b.0 b.1 (next b.2.lines_told))

pub trace_examples : TraceExamples
unfolding digits_of_number
trace_examples = record {
  counter = record {
    lines_told = state (counter_line 0 48 refl (small_number 0 refl)) (state (counter_line 1 49 refl (small_number 1 refl)) (state (counter_line 2 50 refl (small_number 2 refl)) (state (counter_line 3 51 refl (small_number 3 refl)) (end refl))));
    some_state = omega arith;
  };
  lists = record { lines_told = state list_line (passed refl stop); some_state = omega arith };
  begins_at_one = bad_start;
}
