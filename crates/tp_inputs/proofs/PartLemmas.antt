-- The function that finds the first part answers the one part that a line begins with.
use Rattle.std.proofs.Common.{refl, ap, sym, ◌∙◌, ◌≡◌, ◌≢◌, ℕ, suc, zero, ◌+◌, ◌<◌, ◌≤◌, ◌==◌, Bool, true, false, cond, ◌&&◌, nat_le, List, [], ◌∷◌, length, slice_index, take, Option, Some, None, is_none, Result, Ok, Err, arith}
use Rattle.std.specs.Prelude.{IfOk}
use Rattle.std.specs.List.{prefix_len}
use Rattle.std.specs.Char.{is_ascii_lowercase}
use Rattle.std.proofs.lemmas.Bool.Decides.{nat_tests}
use Rattle.tp_value.specs.declared.refusal.NoMemory.{NoMemory as Want}
use Rattle.tp_value.specs.Spelling.{is_value_blank, IsRead}
use Rattle.tp_value.specs.Reading.{Answer, found, refused, value_answer}
use Rattle.tp_value.proofs.ReadLemmas.{found_read, read_found}
use Rattle.tp_lex.specs.declared.token.Word.{Word}
use Rattle.tp_lex.specs.Bytes.{is_name_byte, name_limit}
use Rattle.tp_lex.specs.Spelled.{spelled_word}
use Rattle.tp_lex.proofs.SpellingLemmas.{word_is, no_word}
use Rattle.tp_meaning.specs.Inputs.{InputTable}
use Rattle.tp_inputs.specs.declared.fault.LineFault.TheVariants as f
use Rattle.tp_inputs.specs.declared.part.FoundPart.{FoundPart}
use Rattle.tp_inputs.specs.declared.span.Span.{Span}
use Rattle.tp_inputs.specs.Spans.{is_given}
use Rattle.tp_inputs.specs.Table.{BeginsPort, IsNewPort, is_set_apart, pair, no_port, twice, no_value, not_apart}
use Rattle.tp_inputs.specs.FirstPart.{InputPart, Blank, Given, Faulty, BeginsPart, port_len, value_part, asked_part, port_part, pair_of_len, pair_part, first_part}

-- what `port_len` found
abbrev FindsPort : List ℕ → Option ℕ → Type 0
FindsPort z (Some n) = BeginsPort z n
FindsPort z None = (n : ℕ) → ¬ BeginsPort z n

tested : (a b : ℕ) (t : Bool) → (a == b) ≡ t → t ≡ true → a ≡ b
tested a b t e s = grind (arith, nat_tests)

port_is : (z : List ℕ) → FindsPort z (port_len z)
unfolding port_len
port_is z = at (is_ascii_lowercase (slice_index z 0)) (nat_le n name_limit) (spelled_word (take n z)) (slice_index z n == 61) refl refl refl refl
  where
    n : ℕ
    n = prefix_len is_name_byte z

    at : (lower short : Bool) (word : Option Word) (equals : Bool) → is_ascii_lowercase (slice_index z 0) ≡ lower → nat_le n name_limit ≡ short → spelled_word (take n z) ≡ word → (slice_index z n == 61) ≡ equals
        → FindsPort z (cond (lower && (short && (is_none word && equals))) (Some n) None)
    at true true None true e1 e2 e3 e4 = record { lower = e1; longest = refl; short = grind (arith, nat_tests); no_word = no_word (take n z) e3; equals = tested (slice_index z n) 61 true e4 refl }
    at true true None false e1 e2 e3 e4 = λ m is. let l = is.longest in let q = is.equals in let here : slice_index z n ≡ 61 = ap (slice_index z) (sym l) ∙ q in absurd (grind (arith, nat_tests))
    at true true (Some word) equals e1 e2 e3 e4 = λ m is. is.no_word word (ap (λ k. take k z) is.longest ∙ word_is (take n z) word e3)
    at true false word equals e1 e2 e3 e4 = λ m is. let l = is.longest in let q = is.short in absurd (grind (arith, nat_tests))
    at false short word equals e1 e2 e3 e4 = λ m is. let q = is.lower in absurd (cc)

stands : (z : List ℕ) (n : ℕ) → slice_index z n ≡ 61 → n < length z
stands [] n e = absurd (omega arith)
stands (b ∷ z) zero e = omega arith
stands (b ∷ z) (suc n) e = let below = stands z n e in omega arith

port_within : (z : List ℕ) (n : ℕ) → BeginsPort z n → n < length z
port_within z n is = stands z n is.equals

port_from : (z : List ℕ) (n : ℕ) → BeginsPort z n → port_len z ≡ Some n
port_from z n is = at (port_len z) (port_is z)
  where
    at : (o : Option ℕ) → FindsPort z o → o ≡ Some n
    at (Some m) other = ap Some (other.longest ∙ sym is.longest)
    at None never = absurd (never n is)

port_none : (z : List ℕ) → ((n : ℕ) → ¬ BeginsPort z n) → port_len z ≡ None
port_none z never = at (port_len z) (port_is z)
  where
    at : (o : Option ℕ) → FindsPort z o → o ≡ None
    at (Some m) is = absurd (never m is)
    at None e = refl

-- ---- the function answers a part that the line begins with

module _ (span : Span) (table : InputTable) where
  value_begins : (z : List ℕ) (n : ℕ) → BeginsPort z n → IsNewPort span table (take n z) → (a : Answer) → value_answer z (n + 1) ≡ a → BeginsPart span table z (value_part z (take n z) a)
  value_begins z n is new (refused e) told = no_value is new told
  value_begins z n is new (found t m) told = at (is_set_apart z m) refl
    where
      read : IsRead z (n + 1) t m
      read = let low = port_within z n is in found_read z (n + 1) m t (omega arith) told

      at : (b : Bool) → is_set_apart z m ≡ b → BeginsPart span table z (cond b (Given (take n z) t m) (Faulty f.Bad))
      at true e = pair is new read e
      at false e = not_apart is new read e

  port_begins : (z : List ℕ) (n : ℕ) → BeginsPort z n → (b : Bool) → is_given table span (take n z) ≡ b → BeginsPart span table z (port_part z n b)
  port_begins z n is false new = value_begins z n is new (value_answer z (n + 1)) refl
  port_begins z n is true given = twice is given

  pair_begins : (z : List ℕ) → z ≢ [] → is_value_blank (slice_index z 0) ≡ false → (o : Option ℕ) → FindsPort z o → BeginsPart span table z (pair_of_len span table z o)
  pair_begins z some no_blank None never = no_port some no_blank never
  pair_begins z some no_blank (Some n) is = port_begins z n is (is_given table span (take n z)) refl

  pub part_is : (z : List ℕ) → z ≢ [] → BeginsPart span table z (first_part span table z)
  unfolding first_part pair_part
  part_is z some = at (is_value_blank (slice_index z 0)) refl
    where
      at : (b : Bool) → is_value_blank (slice_index z 0) ≡ b → BeginsPart span table z (cond b Blank (pair_of_len span table z (port_len z)))
      at true e = e
      at false e = pair_begins z some e (port_len z) (port_is z)

  -- ---- and no other

  lower_no_blank : (b : ℕ) → is_ascii_lowercase b ≡ true → is_value_blank b ≡ false
  lower_no_blank b e = grind (arith, nat_tests)

  ported : (z : List ℕ) (n : ℕ) → BeginsPort z n → first_part span table z ≡ port_part z n (is_given table span (take n z))
  unfolding first_part pair_part
  ported z n is = rw (lower_no_blank (slice_index z 0) is.lower) (ap (pair_of_len span table z) (port_from z n is))

  fresh_part : (z : List ℕ) (n : ℕ) (a : Answer) → BeginsPort z n → IsNewPort span table (take n z) → value_answer z (n + 1) ≡ a → first_part span table z ≡ value_part z (take n z) a
  fresh_part z n a is new told = ported z n is ∙ (ap (port_part z n) new ∙ ap (value_part z (take n z)) told)

  blank_part : (z : List ℕ) → is_value_blank (slice_index z 0) ≡ true → first_part span table z ≡ Blank
  unfolding first_part
  blank_part z e = rw e refl

  no_port_part : (z : List ℕ) → is_value_blank (slice_index z 0) ≡ false → ((n : ℕ) → ¬ BeginsPort z n) → first_part span table z ≡ Faulty f.Bad
  unfolding first_part pair_part
  no_port_part z e never = rw e (ap (pair_of_len span table z) (port_none z never))

  pub part_one : (z : List ℕ) (p : InputPart) → BeginsPart span table z p → p ≡ first_part span table z
  part_one z Blank e = sym (blank_part z e)
  part_one z (Given _ _ _) (pair {n = n} {m = m} {t = t} is new read e) = sym (fresh_part z n (found t m) is new (read_found z (n + 1) m t read) ∙ ap (λ b. cond b (Given (take n z) t m) (Faulty f.Bad)) e)
  part_one z (Faulty _) (no_port some e never) = sym (no_port_part z e never)
  part_one z (Faulty _) (twice {n = n} is given) = sym (ported z n is ∙ ap (port_part z n) given)
  part_one z (Faulty _) (no_value {n = n} {e = e} is new told) = sym (fresh_part z n (refused e) is new told)
  part_one z (Faulty _) (not_apart {n = n} {m = m} {t = t} is new read e) = sym (fresh_part z n (found t m) is new (read_found z (n + 1) m t read) ∙ ap (λ b. cond b (Given (take n z) t m) (Faulty f.Bad)) e)

-- ---- what is found where the ports aren't asked, of a port that is given already or is new

pub asked_first : (z port : List ℕ) (n : ℕ) (span : Span) (table : InputTable) → port_len z ≡ Some n → port ≡ take n z → asked_part z port (value_answer z (n + 1)) (is_given table span port) ≡ pair_part span table z
unfolding pair_part
asked_first z port n span table e same = ap (λ p. asked_part z p (value_answer z (n + 1)) (is_given table span p)) same ∙ ap (pair_of_len span table z) (sym e)

-- what was found has what follows from what is said of it
pub each_found : {P Q : FoundPart → Type 0} (r : Result FoundPart Want) → ((p : FoundPart) → P p → Q p) → IfOk r P → IfOk r Q
each_found (Ok p) f is = f p is
each_found (Err w) f is = tt

-- ---- each part but a fault has some bytes of the line

abbrev pub Takes : InputPart → ℕ → Type 0
Takes Blank most = 1 ≤ most
Takes (Given port t n) most = (0 < n) × (n ≤ most)
Takes (Faulty fault) most = 0 < most

some_blank : (z : List ℕ) → is_value_blank (slice_index z 0) ≡ true → 1 ≤ length z
some_blank [] e = absurd cc
some_blank (b ∷ rest) e = omega arith

filled : (z : List ℕ) → z ≢ [] → 0 < length z
filled [] full = absurd (full refl)
filled (b ∷ z) full = omega arith

pub takes : (span : Span) (table : InputTable) (z : List ℕ) (p : InputPart) → BeginsPart span table z p → Takes p (length z)
takes span table z Blank e = some_blank z e
takes span table z (Given _ _ _) (pair is new read e) =
    let ordered = read.ordered in
    let inside = read.inside in
    (omega arith, omega arith)
takes span table z (Faulty _) (no_port some e never) = filled z some
takes span table z (Faulty _) (twice {n = n} is given) = let low = port_within z n is in omega arith
takes span table z (Faulty _) (no_value {n = n} is new told) = let low = port_within z n is in omega arith
takes span table z (Faulty _) (not_apart {n = n} is new read e) = let low = port_within z n is in omega arith

pub no_more : {A : Type 0} (z : List A) → length z ≡ 0 → z ≡ []
no_more [] e = refl
no_more (b ∷ z) e = absurd (omega arith)
