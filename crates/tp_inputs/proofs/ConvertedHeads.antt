-- How the text of a table is cut into its lines, and what each of them begins with.
use Rattle.std.proofs.Common.{refl, ap, ap₂, sym, subst, ◌∙◌, ◌≡◌, ℕ, zero, suc, ◌+◌, ◌-◌, ◌<◌, ◌≤◌, ◌==◌, ltb, Bool, true, false, cond, nat_le, nat_lt, nat_eq, List, [], ◌∷◌, ◌++◌, length, take, drop, slice_index, position, codes, All, Option, Some, None, arith, tests, append_assoc}
use Rattle.std.specs.List.{flat_map, list_all, prefix_len, position_or_len, AllByRecursion}
use Rattle.std.specs.Str.{bytes_eq}
use Rattle.std.specs.Str.Lines.{lines, lines_of_parts, strip_carriage_return}
use Rattle.std.specs.Char.{is_ascii_digit}
use Rattle.std.specs.Fmt.{decimal}
use Rattle.std.proofs.lemmas.Bool.Decides.{nat_tests}
use Rattle.std.proofs.lemmas.Fmt.{length-decimal-le_wide}
use Rattle.std.proofs.Math.Seq.{take-append_seam, drop-append_seam, drop-append-add}
use Rattle.std.proofs.lemmas.List.{append-nil, length-append}
use Rattle.std.proofs.lemmas.List.Elements.{All-nil, All-cons}
use Rattle.std.proofs.lemmas.List.Splits.{slice_split_at}
use Rattle.tp_value.specs.Spelling.{is_value_blank, AllDigits, AreDigits, decimal_value}
use Rattle.tp_value.proofs.ToldWithin.{all_digits}
use Rattle.tp_value.proofs.TextSpelled.{decimal_written}
use Rattle.tp_lex.proofs.FeedLemmas.{feed, more_parts}
use Rattle.tp_inputs.specs.declared.span.Span.{Span}
use Rattle.tp_inputs.specs.declared.span.Span.TheVariants.{States, Others}
use Rattle.tp_inputs.specs.declared.span.LineHead.TheVariants.{Speaks}
use Rattle.tp_inputs.specs.Spans.{last_state, named_state, between, end_of, cut_range, range_of, is_range_byte, range_head, colon_head, ranged_head}
use Rattle.tp_inputs.specs.Converted.{range_text, with_feed}

-- each byte passes
abbrev pub AllPass : (ℕ → Bool) → List ℕ → Type 0
AllPass test z = AllByRecursion (λ b. test b ≡ true) z

pub passes_append : (test : ℕ → Bool) (xs ys : List ℕ) → AllPass test xs → AllPass test ys → AllPass test (xs ++ ys)
passes_append test [] ys h k = k
passes_append test (x ∷ xs) ys h k = (h.0, passes_append test xs ys h.1 k)

-- ---- lines

-- no control character
abbrev pub is_plain : ℕ → Bool
is_plain b = ltb 31 b

plain_apart : (z : List ℕ) → AllPass is_plain z → All (λ b. feed b ≡ false) z
plain_apart [] h = All-nil (λ b. feed b ≡ false)
plain_apart (b ∷ z) h = All-cons (λ b. feed b ≡ false) b z (let plain : ltb 31 b ≡ true = h.0 in grind (arith, tests)) (plain_apart z h.1)

plain_at : (z : List ℕ) (k : ℕ) → AllPass is_plain z → (slice_index z k == 13) ≡ false
plain_at [] k h = refl
plain_at (b ∷ z) zero h = let plain : ltb 31 b ≡ true = h.0 in grind (arith, tests)
plain_at (b ∷ z) (suc k) h = plain_at z k h.1

plain_whole : (z : List ℕ) → AllPass is_plain z → strip_carriage_return z ≡ z
plain_whole z h = ap (λ c. cond c (take (length z - 1) z) z) (plain_at z (length z - 1) h)

pub lines_made : (texts : List (List ℕ)) → AllByRecursion (AllPass is_plain) texts → lines (flat_map with_feed texts) ≡ texts
lines_made [] h = refl
lines_made (line ∷ texts) h =
    ap lines (append_assoc line (codes "\n") (flat_map with_feed texts))
    ∙ ap lines_of_parts (slice_split_at feed line 10 (flat_map with_feed texts) (plain_apart line h.0) refl)
    ∙ more_parts line (flat_map with_feed texts)
    ∙ ap₂ (λ x xs. x ∷ xs) (plain_whole line h.0) (lines_made texts h.1)

-- ---- states

pub digits_pass : (test : ℕ → Bool) → ((b : ℕ) → is_ascii_digit b ≡ true → test b ≡ true) → (ds : List ℕ) → AllDigits ds → AllPass test ds
digits_pass test all [] h = tt
digits_pass test all (d ∷ ds) h = (all d h.0, digits_pass test all ds h.1)

digits_all : (ds : List ℕ) → AllDigits ds → list_all is_ascii_digit ds ≡ true
digits_all [] h = refl
digits_all (d ∷ ds) h = rw h.0 (digits_all ds h.1)

some_digits : (ds : List ℕ) → AreDigits ds → nat_lt 0 (length ds) ≡ true
some_digits [] h = absurd h
some_digits (d ∷ ds) h = grind (arith, nat_tests)

spelled_state : (ds : List ℕ) (n : ℕ) → AreDigits ds → nat_le (length ds) 8 ≡ true → decimal_value ds ≡ n → named_state ds ≡ Some n
unfolding named_state
spelled_state ds n are short value = rw (some_digits ds are, short, digits_all ds (all_digits ds are)) (ap Some value)

pub digits_of_state : (n : ℕ) → n ≤ last_state → AreDigits (decimal n)
digits_of_state n h = (decimal_written n (omega arith)).0

state_spelled : (n : ℕ) → n ≤ last_state → named_state (decimal n) ≡ Some n
state_spelled n h =
    let few = length-decimal-le_wide 8 n (omega arith) (omega arith) (omega arith) in
    spelled_state (decimal n) n (digits_of_state n h) (grind (arith, nat_tests)) (decimal_written n (omega arith)).1

-- ---- ranges

abbrev dash : ℕ → Bool
dash b = b == 45

no_dash : (b : ℕ) → is_ascii_digit b ≡ true → dash b ≡ false
no_dash b h = grind (arith, nat_tests)

dash_at : (ds z : List ℕ) → AllDigits ds → position_or_len dash (ds ++ 45 ∷ z) ≡ length ds
dash_at [] z h = refl
dash_at (d ∷ ds) z h = let none = no_dash d h.0 in let below = dash_at ds z h.1 in rw none (omega (arith, below))

dash_nowhere : (ds : List ℕ) → AllDigits ds → position_or_len dash ds ≡ length ds
dash_nowhere [] h = refl
dash_nowhere (d ∷ ds) h = let none = no_dash d h.0 in let below = dash_nowhere ds h.1 in rw none (omega (arith, below))

cut_at : (ds z : List ℕ) → AllDigits ds → position dash (ds ++ 45 ∷ z) ≡ Some (length ds)
cut_at ds z h =
    let long = length-append ds (45 ∷ z) in
    let low : nat_lt (length ds) (length (ds ++ 45 ∷ z)) ≡ true = grind (arith, nat_tests) in
    rw (dash_at ds z h, low) refl

cut_nowhere : (ds : List ℕ) → AllDigits ds → position dash ds ≡ None
cut_nowhere ds h = let high : nat_lt (length ds) (length ds) ≡ false = grind (arith, nat_tests) in rw (dash_nowhere ds h, high) refl

range_cut : (z : List ℕ) (o : Option ℕ) → bytes_eq z (codes "*") ≡ false → position dash z ≡ o → range_of z ≡ cut_range z o
unfolding range_of
range_cut z o e f = rw e (ap (cut_range z) f)

no_star : (ds z : List ℕ) → AreDigits ds → bytes_eq (ds ++ z) (codes "*") ≡ false
no_star [] z h = absurd h
no_star (d ∷ ds) z h = let is = h.0 in let no : nat_eq d 42 ≡ false = grind (arith, nat_tests, is) in rw no refl

cut_is : (ds z : List ℕ) → cut_range (ds ++ 45 ∷ z) (Some (length ds)) ≡ between (named_state ds) (end_of z)
cut_is ds z = ap₂ (λ x y. between (named_state x) (end_of y)) (take-append_seam ds (45 ∷ z)) (drop-append-add ds (45 ∷ z) 1)

end_is : (ds : List ℕ) → AreDigits ds → end_of ds ≡ named_state ds
end_is [] h = absurd h
end_is (d ∷ ds) h = refl

in_order : (a b : ℕ) → a ≤ b → between (Some a) (Some b) ≡ Some (States a b)
in_order a b h = let low : nat_le a b ≡ true = grind (arith, nat_tests) in rw low refl

one_state : (a : ℕ) → a ≤ last_state → range_of (decimal a) ≡ Some (States a a)
one_state a h =
    let are = digits_of_state a h in
    let none : bytes_eq (decimal a) (codes "*") ≡ false = subst (λ z. bytes_eq z (codes "*") ≡ false) (append-nil (decimal a)) (no_star (decimal a) [] are) in
    range_cut (decimal a) None none (cut_nowhere (decimal a) (all_digits (decimal a) are))
    ∙ ap (λ o. between o o) (state_spelled a h)
    ∙ in_order a a (omega arith)

two_states : (a b : ℕ) (z : List ℕ) → a ≤ b → b ≤ last_state → end_of z ≡ Some b → range_of (decimal a ++ 45 ∷ z) ≡ Some (States a b)
two_states a b z h k e =
    let are = digits_of_state a (omega arith) in
    range_cut (decimal a ++ 45 ∷ z) (Some (length (decimal a))) (no_star (decimal a) (45 ∷ z) are) (cut_at (decimal a) z (all_digits (decimal a) are))
    ∙ cut_is (decimal a) z
    ∙ ap₂ between (state_spelled a (omega arith)) e
    ∙ in_order a b h

-- a text of a range that speaks for these states
pub record NamesSpan (range : List ℕ) (span : Span) : Type 0 where
  pub some : 0 < length range
  pub first : is_value_blank (slice_index range 0) ≡ false
  pub bytes : AllPass is_range_byte range
  pub plain : AllPass is_plain range
  pub is : range_of range ≡ Some span

digit_in_range : (b : ℕ) → is_ascii_digit b ≡ true → is_range_byte b ≡ true
digit_in_range b h = rw h refl

digit_plain : (b : ℕ) → is_ascii_digit b ≡ true → is_plain b ≡ true
digit_plain b h = grind (arith, tests)

digit_no_blank : (b : ℕ) → is_ascii_digit b ≡ true → is_value_blank b ≡ false
digit_no_blank b h = grind (arith, nat_tests)

filled : (ds z : List ℕ) → AreDigits ds → 0 < length (ds ++ z)
filled [] z h = absurd h
filled (d ∷ ds) z h = omega arith

no_blank : (ds z : List ℕ) → AreDigits ds → is_value_blank (slice_index (ds ++ z) 0) ≡ false
no_blank [] z h = absurd h
no_blank (d ∷ ds) z h = digit_no_blank d h.0

names_from : (ds z : List ℕ) (span : Span) → AreDigits ds → AllPass is_range_byte z → AllPass is_plain z → range_of (ds ++ z) ≡ Some span → NamesSpan (ds ++ z) span
names_from ds z span are bytes plain is = record {
  some = filled ds z are;
  first = no_blank ds z are;
  bytes = passes_append is_range_byte ds z (digits_pass is_range_byte digit_in_range ds (all_digits ds are)) bytes;
  plain = passes_append is_plain ds z (digits_pass is_plain digit_plain ds (all_digits ds are)) plain;
  is = is;
}

pub range_named : (a b : ℕ) → a ≤ b → b ≤ last_state → NamesSpan (range_text a b) (States a b)
range_named a b h k = at (b == a) (b == last_state) refl refl
  where
    are : AreDigits (decimal a)
    are = digits_of_state a (omega arith)

    last : AreDigits (decimal b)
    last = digits_of_state b k

    at : (p q : Bool) → (b == a) ≡ p → (b == last_state) ≡ q → NamesSpan (cond p (decimal a) (cond q (decimal a ++ codes "-") (decimal a ++ (codes "-" ++ decimal b)))) (States a b)
    at true q e f =
        let same : b ≡ a = grind (arith, nat_tests) in
        subst (λ z. NamesSpan z (States a b)) (append-nil (decimal a))
        (names_from (decimal a) [] (States a b) are tt tt (ap range_of (append-nil (decimal a)) ∙ one_state a (omega arith) ∙ ap (λ m. Some (States a m)) (sym same)))
    at false true e f =
        let same : b ≡ last_state = grind (arith, nat_tests) in
        names_from (decimal a) (45 ∷ []) (States a b) are (refl, tt) (refl, tt) (two_states a b [] h k (ap Some (sym same)))
    at false false e f =
        names_from (decimal a) (45 ∷ decimal b) (States a b) are
        (refl, digits_pass is_range_byte digit_in_range (decimal b) (all_digits (decimal b) last))
        (refl, digits_pass is_plain digit_plain (decimal b) (all_digits (decimal b) last))
        (two_states a b (decimal b) h k (end_is (decimal b) last ∙ state_spelled b k))

pub others_named : NamesSpan (codes "*") Others
unfolding range_of
others_named = record { some = omega arith; first = refl; bytes = (refl, tt); plain = (refl, tt); is = refl }

-- ---- heads

-- the bytes that pass, up to one that does not
pub prefix_made : (test : ℕ → Bool) (z : List ℕ) (b : ℕ) (rest : List ℕ) → AllPass test z → test b ≡ false → prefix_len test (z ++ b ∷ rest) ≡ length z
prefix_made test [] b rest h e = rw e refl
prefix_made test (x ∷ z) b rest h e = let below = prefix_made test z b rest h.1 e in let is : test x ≡ true = h.0 in rw is (omega (arith, below))

begins_unblank : (z y : List ℕ) → 0 < length z → is_value_blank (slice_index z 0) ≡ false → prefix_len is_value_blank (z ++ y) ≡ 0
begins_unblank [] y h e = absurd (omega arith)
begins_unblank (b ∷ z) y h e = let no : is_value_blank b ≡ false = e in rw no refl

unblank_head : (line : List ℕ) → prefix_len is_value_blank line ≡ 0 → 0 < length line → ranged_head line ≡ colon_head line 0
unfolding ranged_head
unblank_head line e h = let some : (0 == length line) ≡ false = grind (arith, nat_tests) in rw (e, some) refl

colon_made : (line after : List ℕ) (n : ℕ) → prefix_len is_range_byte line ≡ n → drop n line ≡ 58 ∷ after → colon_head line 0 ≡ range_head (range_of (take n line)) (0 + n + 0 + 1)
colon_made line after n e f = rw (e, f) refl

pub head_made : (range rest : List ℕ) (span : Span) → NamesSpan range span → ranged_head (range ++ 58 ∷ rest) ≡ Speaks span (length range + 1)
head_made range rest span is =
    let line = range ++ 58 ∷ rest in
    let long = length-append range (58 ∷ rest) in
    let some = is.some in
    let sum : 0 + length range + 0 + 1 ≡ length range + 1 = omega arith in
    unblank_head line (begins_unblank range (58 ∷ rest) is.some is.first) (omega arith)
    ∙ colon_made line rest (length range) (prefix_made is_range_byte range 58 rest is.bytes refl) (drop-append_seam range (58 ∷ rest))
    ∙ ap₂ range_head (ap range_of (take-append_seam range (58 ∷ rest)) ∙ is.is) sum
