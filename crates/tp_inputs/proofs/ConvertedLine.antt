-- A line that is written is read.
use Rattle.std.proofs.Common.{refl, ap, sym, subst, ◌∙◌, ◌≡◌, ℕ, zero, suc, ◌+◌, ◌/◌, ◌%◌, ◌<◌, ◌≤◌, ◌==◌, ltb, ℤ, pos, negsuc, Bool, true, false, cond, List, [], ◌∷◌, ◌++◌, length, take, slice_index, codes, arith, tests}
use Rattle.std.specs.List.{prefix_len}
use Rattle.std.specs.Char.{is_ascii_lowercase}
use Rattle.std.specs.Fmt.{digits, digits_onto, digit_glyph, decimal, signed_decimal}
use Rattle.std.proofs.Math.Seq.{take-append_seam, drop-append-add, drop-length}
use Rattle.std.proofs.lemmas.Bool.{eq-eqb}
use Rattle.std.proofs.lemmas.Bool.Decides.{nat_tests}
use Rattle.std.proofs.lemmas.List.{append-nil, length-append}
use Rattle.std.proofs.lemmas.List.Folds.{length-prefix_len}
use Rattle.tp_value.specs.Tree.{Tree, Trees, num, truth, list, nil, cons}
use Rattle.tp_value.specs.Limits.{IsWithinLimits}
use Rattle.tp_value.specs.Spelling.{IsRead}
use Rattle.tp_value.specs.Answers.{CannotContinue}
use Rattle.tp_value.specs.Written.{text_of, items_text, later_text}
use Rattle.tp_value.proofs.ReadLemmas.{found_read, written_found}
use Rattle.tp_lex.specs.Bytes.{is_name_byte, name_limit}
use Rattle.tp_lex.specs.Pieces.{IsNoWord}
use Rattle.tp_meaning.specs.Inputs.{InputTable}
use Rattle.tp_inputs.specs.declared.span.Span.{Span}
use Rattle.tp_inputs.specs.declared.span.LineHead.{LineHead}
use Rattle.tp_inputs.specs.Spans.{ranged_head, is_given, GivesValue}
use Rattle.tp_inputs.specs.Table.{BeginsPort, is_set_apart, BeginsPair, pair, blank, given, ReadsPairs, here, passes, IsLine}
use Rattle.tp_inputs.specs.Converted.{valued_text}
use Rattle.tp_inputs.proofs.ConvertedHeads.{AllPass, passes_append, is_plain, NamesSpan, prefix_made, head_made}

-- ---- names of ports

pub record IsPortName (port : List ℕ) : Type 0 where
  pub lower : is_ascii_lowercase (slice_index port 0) ≡ true
  pub bytes : AllPass is_name_byte port
  pub short : length port ≤ name_limit
  pub no_word : IsNoWord port

passed_bytes : (test : ℕ → Bool) (z : List ℕ) → AllPass test (take (prefix_len test z) z)
passed_bytes test [] = tt
passed_bytes test (b ∷ z) = at (test b) refl (passed_bytes test z)
  where
    at : (c : Bool) → test b ≡ c → AllPass test (take (prefix_len test z) z) → AllPass test (take (cond c (1 + prefix_len test z) 0) (b ∷ z))
    at true e below = let one : 1 + prefix_len test z ≡ suc (prefix_len test z) = omega arith in subst (λ (n : ℕ). AllPass test (take n (b ∷ z))) (sym one) (e, below)
    at false e below = tt

taken_first : (z : List ℕ) (n : ℕ) → 0 < n → slice_index (take n z) 0 ≡ slice_index z 0
taken_first z zero h = absurd (omega arith)
taken_first [] (suc n) h = refl
taken_first (b ∷ z) (suc n) h = refl

some_name : (z : List ℕ) → is_ascii_lowercase (slice_index z 0) ≡ true → 0 < prefix_len is_name_byte z
some_name [] h = absurd (cc)
some_name (b ∷ z) h = let lower : is_ascii_lowercase b ≡ true = h in let named : is_name_byte b ≡ true = grind (arith, nat_tests) in rw named (omega arith)

-- what a port that is read is
pub port_named : (z : List ℕ) (n : ℕ) → BeginsPort z n → IsPortName (take n z)
port_named z n is = record {
  lower = let long = is.longest in let some = some_name z is.lower in ap is_ascii_lowercase (taken_first z n (omega (arith, long, some))) ∙ is.lower;
  bytes = subst (λ (k : ℕ). AllPass is_name_byte (take k z)) (sym is.longest) (passed_bytes is_name_byte z);
  short = let long = ap (λ k. length (take k z)) is.longest ∙ length-prefix_len is_name_byte z in let low = is.short in let same = is.longest in omega (arith, long, low, same);
  no_word = is.no_word;
}

begins_lower : (port y : List ℕ) → is_ascii_lowercase (slice_index port 0) ≡ true → is_ascii_lowercase (slice_index (port ++ y) 0) ≡ true
begins_lower [] y h = absurd (cc)
begins_lower (b ∷ port) y h = h

next_byte : (z y : List ℕ) (b : ℕ) → slice_index (z ++ b ∷ y) (length z) ≡ b
next_byte [] y b = refl
next_byte (x ∷ z) y b = next_byte z y b

port_begins : (port y : List ℕ) → IsPortName port → BeginsPort (port ++ 61 ∷ y) (length port)
port_begins port y is = record {
  lower = begins_lower port (61 ∷ y) is.lower;
  longest = sym (prefix_made is_name_byte port 61 y is.bytes refl);
  short = is.short;
  no_word = subst IsNoWord (sym (take-append_seam port (61 ∷ y))) is.no_word;
  equals = next_byte port y 61;
}

-- ---- pairs

none_follows : (t : Tree) → CannotContinue t []
none_follows (num n) = tt
none_follows (truth b) = tt
none_follows (list ts) = tt

module _ (port : List ℕ) (v : Tree) (named : IsPortName port) (within : IsWithinLimits v) where
  text : List ℕ
  text = port ++ 61 ∷ text_of v

  long : length text ≡ length port + 1 + length (text_of v)
  unfolding text
  long = let both = length-append port (61 ∷ text_of v) in omega (arith, both)

  value_read : IsRead text (length port + 1) v (length port + 1 + length (text_of v))
  unfolding text
  value_read =
      let size = long in
      found_read text (length port + 1) (length port + 1 + length (text_of v)) v (omega (arith, size))
      (written_found text (length port + 1) v [] within (none_follows v) (drop-append-add port (61 ∷ text_of v) 1 ∙ sym (append-nil (text_of v))))

  pair_begins : (span : Span) (table : InputTable) → is_given table span port ≡ false → BeginsPair span table text port v (length text)
  unfolding text
  pair_begins span table new =
      let back = take-append_seam port (61 ∷ text_of v) in
      let apart : is_set_apart text (length port + 1 + length (text_of v)) ≡ true = let end = eq-eqb (length port + 1 + length (text_of v)) (length text) (sym long) in rw end refl in
      subst (λ (n : ℕ). BeginsPair span table text port v n) (sym long)
      (subst (λ (q : List ℕ). BeginsPair span table text q v (length port + 1 + length (text_of v))) back
      (pair (port_begins port (text_of v) named) (ap (is_given table span) back ∙ new) value_read apart))

  pairs_read : (span : Span) (table more : InputTable) → is_given table span port ≡ false → GivesValue span port v table more → ReadsPairs span (32 ∷ text) table [] more
  pairs_read span table more new g =
      passes (blank refl) (passes {n = length text} (given (pair_begins span table new) g) (subst (λ (z : List ℕ). ReadsPairs span z more [] more) (sym (drop-length text)) here))

  pub line_made : (range : List ℕ) (span : Span) (table more : InputTable) → NamesSpan range span → is_given table span port ≡ false → GivesValue span port v table more
      → IsLine (ranged_head (range ++ valued_text port v)) (range ++ valued_text port v) table more
  unfolding text
  line_made range span table more is new g =
      subst (λ (h : LineHead). IsLine h (range ++ valued_text port v) table more) (sym (head_made range (32 ∷ text) span is))
      (subst (λ (z : List ℕ). ReadsPairs span z table [] more) (sym (drop-append-add range (58 ∷ 32 ∷ text) 1)) (pairs_read span table more new g))

-- ---- no control characters

glyph_plain : (d : ℕ) (c : Bool) → ltb 31 (cond c (48 + d) (87 + d)) ≡ true
glyph_plain d true = grind (arith, tests)
glyph_plain d false = grind (arith, tests)

onto_plain : (k n : ℕ) (acc : List ℕ) → AllPass is_plain acc → AllPass is_plain (digits_onto k 10 false n acc)
onto_plain zero n acc h = h
onto_plain (suc k) n acc h =
    let first : AllPass is_plain (digit_glyph false (n % 10) ∷ acc) = (glyph_plain (n % 10) (ltb (n % 10) 10), h) in
    by (n / 10 == 0) first (onto_plain k (n / 10) (digit_glyph false (n % 10) ∷ acc) first)
  where
    by : (c : Bool) → AllPass is_plain (digit_glyph false (n % 10) ∷ acc) → AllPass is_plain (digits_onto k 10 false (n / 10) (digit_glyph false (n % 10) ∷ acc))
        → AllPass is_plain (cond c (digit_glyph false (n % 10) ∷ acc) (digits_onto k 10 false (n / 10) (digit_glyph false (n % 10) ∷ acc)))
    by true one more = one
    by false one more = more

decimal_plain : (n : ℕ) → AllPass is_plain (decimal n)
unfolding digits
decimal_plain n = onto_plain 64 n [] tt

signed_plain : (n : ℤ) → AllPass is_plain (signed_decimal n)
signed_plain (pos n) = decimal_plain n
signed_plain (negsuc n) = (refl, decimal_plain (suc n))

mutual
  text_plain : (t : Tree) → AllPass is_plain (text_of t)
  text_plain (num n) = signed_plain n
  text_plain (truth true) = (refl, (refl, (refl, (refl, tt))))
  text_plain (truth false) = (refl, (refl, (refl, (refl, (refl, tt)))))
  text_plain (list ts) = (refl, passes_append is_plain (items_text ts) (codes ">") (items_plain ts) (refl, tt))

  items_plain : (ts : Trees) → AllPass is_plain (items_text ts)
  items_plain nil = tt
  items_plain (cons t ts) = passes_append is_plain (text_of t) (later_text ts) (text_plain t) (later_plain ts)

  later_plain : (ts : Trees) → AllPass is_plain (later_text ts)
  later_plain nil = tt
  later_plain (cons t ts) = (refl, passes_append is_plain (text_of t) (later_text ts) (text_plain t) (later_plain ts))

name_plain : (z : List ℕ) → AllPass is_name_byte z → AllPass is_plain z
name_plain [] h = tt
name_plain (b ∷ z) h = (let named : is_name_byte b ≡ true = h.0 in grind (arith, tests), name_plain z h.1)

pub line_plain : (range port : List ℕ) (v : Tree) → AllPass is_plain range → IsPortName port → AllPass is_plain (range ++ valued_text port v)
line_plain range port v h is =
    passes_append is_plain range (valued_text port v) h (refl, (refl, passes_append is_plain port (61 ∷ text_of v) (name_plain port is.bytes) (refl, text_plain v)))
