-- What holds of the ranges that a line may name holds of its head; so its states are in order.
use Rattle.std.proofs.Common.{refl, ◌≡◌, ℕ, zero, suc, ◌+◌, ◌≤◌, ◌==◌, Bool, true, false, nat_le, cond, List, length, take, drop, slice_index, Option, Some, None, codes, arith}
use Rattle.std.specs.List.{position, prefix_len}
use Rattle.std.specs.Str.{bytes_eq}
use Rattle.std.proofs.lemmas.Bool.{leb-true}
use Rattle.tp_value.specs.Spelling.{is_value_blank}
use Rattle.tp_inputs.specs.declared.span.Span.{Span}
use Rattle.tp_inputs.specs.declared.span.Span.TheVariants.{States, Others}
use Rattle.tp_inputs.specs.declared.span.LineHead.{LineHead}
use Rattle.tp_inputs.specs.declared.span.LineHead.TheVariants.{Speaks, Silent, Unheard}
use Rattle.tp_inputs.specs.Spans.{named_state, between, end_of, cut_range, range_of, is_range_byte, range_head, colon_head, ranged_head, head_of}

module _ (P : Span → Type 0) where
  abbrev pub RangeHas : Option Span → Type 0
  RangeHas None = Unit {0}
  RangeHas (Some span) = P span

  abbrev pub HeadHas : LineHead → Type 0
  HeadHas (Speaks span n) = P span
  HeadHas Silent = Unit {0}
  HeadHas Unheard = Unit {0}

  at_has : (o : Option Span) (n : ℕ) → RangeHas o → HeadHas (range_head o n)
  at_has None n is = tt
  at_has (Some span) n is = is

  test_has : (t : Bool) (h : LineHead) → HeadHas h → HeadHas (cond t h Unheard)
  test_has true h is = is
  test_has false h is = tt

  blank_has : (t : Bool) (h : LineHead) → HeadHas h → HeadHas (cond t Silent h)
  blank_has true h is = tt
  blank_has false h is = is

  module _ (others : P Others) (cuts : (z : List ℕ) (o : Option ℕ) → RangeHas (cut_range z o)) where
    range_has : (z : List ℕ) → RangeHas (range_of z)
    unfolding range_of
    range_has z = at (bytes_eq z (codes "*"))
      where
        at : (t : Bool) → RangeHas (cond t (Some Others) (cut_range z (position (λ b. b == 45) z)))
        at true = others
        at false = cuts z (position (λ b. b == 45) z)

    colon_has : (line : List ℕ) (blanks : ℕ) → HeadHas (colon_head line blanks)
    colon_has line blanks =
        let rest = drop blanks line in
        let n = prefix_len is_range_byte rest in
        let after = drop n rest in
        let more = prefix_len is_value_blank after in
        test_has (slice_index after more == 58) (range_head (range_of (take n rest)) (blanks + n + more + 1)) (at_has (range_of (take n rest)) (blanks + n + more + 1) (range_has (take n rest)))

    pub ranged_has : (line : List ℕ) → HeadHas (ranged_head line)
    unfolding ranged_head
    ranged_has line = let blanks = prefix_len is_value_blank line in blank_has (blanks == length line) (colon_head line blanks) (colon_has line blanks)

-- a first state that isn't past the last
abbrev pub IsOrdered : Span → Type 0
IsOrdered (States a b) = a ≤ b
IsOrdered Others = Unit {0}

between_ordered : (a b : Option ℕ) → RangeHas IsOrdered (between a b)
between_ordered None b = tt
between_ordered (Some a) None = tt
between_ordered (Some a) (Some b) = at (nat_le a b) refl
  where
    at : (t : Bool) → nat_le a b ≡ t → RangeHas IsOrdered (cond t (Some (States a b)) None)
    at true e = leb-true a b e
    at false e = tt

cut_ordered : (z : List ℕ) (o : Option ℕ) → RangeHas IsOrdered (cut_range z o)
cut_ordered z None = between_ordered (named_state z) (named_state z)
cut_ordered z (Some i) = between_ordered (named_state (take i z)) (end_of (drop (i + 1) z))

pub head_ordered : (second : Bool) (k : ℕ) (line : List ℕ) → HeadHas IsOrdered (head_of second k line)
head_ordered false k line = omega arith
head_ordered true zero line = tt
head_ordered true (suc k) line = ranged_has IsOrdered tt cut_ordered line
