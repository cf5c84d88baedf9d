-- The clauses of reading a value.
use Rattle.std.proofs.Common.{◌≡◌, ◌≢◌, Result, Ok, Err, ℕ, ℤ, pos, neg_ℤ, Bool, true, false, ◌+◌, ◌<◌, ◌≤◌, inl, inr, List, [], ◌∷◌, ◌++◌, length, drop, refl, sym, ap, ◌∙◌, subst, arith, append_assoc, length-append, length-drop}
use Rattle.std.specs.Prelude.{slice_range, IfOk, IfErr}
use Rattle.std.specs.Char.{is_ascii_digit}
use Rattle.std.proofs.lemmas.List.{append-nil}
use Rattle.std.proofs.lemmas.List.Folds.{drop_split}
use Rattle.tp_value.specs.declared.reading.ReadValue.{ReadValue}
use Rattle.tp_value.specs.declared.reading.ReadValue.TheVariants.{NoValue, TooLarge, TooLong, TooDeep, NoMemory}
use Rattle.tp_value.specs.declared.value.Value.{Value}
use Rattle.tp_value.specs.Read.{tree}
use Rattle.tp_value.specs.Tree.{Tree, num, truth, list}
use Rattle.tp_value.specs.Limits.{IsWithinLimits}
use Rattle.tp_value.specs.Spelling.{Spells, digits, minus, decimal_value, IsRead}
use Rattle.tp_value.specs.Written.{text_of}
use Rattle.tp_value.specs.Reading.{Answer, found, refused, start_state, reading, value_answer}
use Rattle.tp_value.specs.Answers.{IsNoValue, IsReadRefused, EndsNumber, CannotContinue, IsReadBack}
use Rattle.tp_value.proofs.Digits.{IsOver}
use Rattle.tp_value.proofs.Completes.{Fits, Goes, value_goes}
use Rattle.tp_value.proofs.Longest.{ComesTo, reads_on}
use Rattle.tp_value.proofs.ToldWithin.{more_digits, all_digits}
use Rattle.tp_value.proofs.TextSpelled.{text_spelled}
use Rattle.tp_value.proofs.Right.{Right, Ends, Stops, start_right, range_is}

right : (bytes : List ℕ) (from : ℕ) (x : Answer) → from ≤ length bytes → value_answer bytes from ≡ x → Right bytes from x
right bytes from x h e = subst (Right bytes from) e (start_right bytes from h)

range_long : (bytes : List ℕ) (from to : ℕ) → from ≤ to → to ≤ length bytes → from + length (slice_range bytes from to) ≡ to
range_long bytes from to h k = let parts = ap length (drop_split bytes from to h) in omega (arith, parts, length-append (slice_range bytes from to) (drop to bytes), length-drop from bytes, length-drop to bytes)

-- reading comes to the end of any bytes that spell a value
comes : (bytes : List ℕ) (from to : ℕ) (t : Tree) → from ≤ to → to ≤ length bytes → Spells (slice_range bytes from to) t → ComesTo to (value_answer bytes from)
comes bytes from to t h k s =
    subst (λ (z : List ℕ). ComesTo to (reading from start_state z)) (sym (drop_split bytes from to h))
    (subst (λ (n : ℕ). ComesTo n (reading from start_state (slice_range bytes from to ++ drop to bytes))) (range_long bytes from to h k) (reads_on s from (drop to bytes)))

-- a number's text with a digit more
longer_number : {s : List ℕ} {m : ℤ} (b : ℕ) → Spells s (num m) → is_ascii_digit b ≡ true → (k : ℤ) × Spells (s ++ b ∷ []) (num k)
longer_number b (digits ds a) h = (pos (decimal_value (ds ++ b ∷ [])), digits (ds ++ b ∷ []) (more_digits ds b (all_digits ds a) h))
longer_number b (minus ds a) h = (neg_ℤ (pos (decimal_value (ds ++ b ∷ []))), minus (ds ++ b ∷ []) (more_digits ds b (all_digits ds a) h))

-- where a value is found, no longer number stands
no_digit_more : (bytes : List ℕ) (from after : ℕ) (m : ℤ) (b : ℕ) (z : List ℕ) (c : Bool) → is_ascii_digit b ≡ c → drop after bytes ≡ b ∷ z → value_answer bytes from ≡ found (num m) after → Ends bytes from (num m) after → is_ascii_digit b ≡ false
no_digit_more bytes from after m b z false d split e x = d
no_digit_more bytes from after m b z true d split e x =
    let s = slice_range bytes from after in
    let more = longer_number b x.spelled d in
    let all : (s ++ b ∷ []) ++ z ≡ drop from bytes = append_assoc s (b ∷ []) z ∙ ap (λ y. s ++ y) (sym split) ∙ sym (drop_split bytes from after x.ordered) in
    let on : after < from + length (s ++ b ∷ []) = omega (arith, range_long bytes from after x.ordered x.inside, length-append s (b ∷ [])) in
    let there : from + length (s ++ b ∷ []) ≤ after = subst (ComesTo (from + length (s ++ b ∷ []))) (ap (reading from start_state) all ∙ e) (reads_on more.1 from z) in
    absurd (omega arith)

ends_number : (bytes : List ℕ) (from after : ℕ) (m : ℤ) (z : List ℕ) → drop after bytes ≡ z → value_answer bytes from ≡ found (num m) after → Ends bytes from (num m) after → EndsNumber z
ends_number bytes from after m [] split e x = tt
ends_number bytes from after m (b ∷ z) split e x = no_digit_more bytes from after m b z (is_ascii_digit b) refl split e x

ends_or_not : (t : Tree) (bytes : List ℕ) (from after : ℕ) → value_answer bytes from ≡ found t after → Ends bytes from t after → CannotContinue t (drop after bytes)
ends_or_not (num m) bytes from after e x = ends_number bytes from after m (drop after bytes) refl e x
ends_or_not (truth b) bytes from after e x = tt
ends_or_not (list ts) bytes from after e x = tt

found_goes : (bytes : List ℕ) (from after : ℕ) (t : Tree) → value_answer bytes from ≡ found t after → Ends bytes from t after → CannotContinue t (drop after bytes) → Fits [] 0 t
found_goes bytes from after t e x c = by_goes (value_goes x.spelled from [] 0 (drop after bytes) c (omega arith) (omega arith))
  where
    same : reading from start_state (slice_range bytes from after ++ drop after bytes) ≡ found t after
    same = ap (reading from start_state) (sym (drop_split bytes from after x.ordered)) ∙ e

    by_goes : Goes from [] 0 (slice_range bytes from after) t (drop after bytes) → Fits [] 0 t
    by_goes (inl g) = g.1
    by_goes (inr g) = absurd (subst IsOver same g.0)

-- what is found is read
pub found_read : (bytes : List ℕ) (from after : ℕ) (t : Tree) → from ≤ length bytes → value_answer bytes from ≡ found t after → IsRead bytes from t after
found_read bytes from after t h e =
    let x = right bytes from (found t after) h e in
    let fits = found_goes bytes from after t e x (ends_or_not t bytes from after e x) in
    record {
      ordered = x.ordered;
      inside = x.inside;
      spelled = x.spelled;
      longest = λ later u more inside s. absurd (omega (arith, more, subst (ComesTo later) e (comes bytes from later u (omega (arith, x.ordered, more)) inside s)));
      limits = record { items = omega (arith, fits.items); depth = omega (arith, fits.depth); numbers = fits.numbers };
    }

nothing_stops : (bytes : List ℕ) (from at : ℕ) → value_answer bytes from ≡ refused (NoValue at) → Stops bytes from at → IsNoValue bytes from at
nothing_stops bytes from at e x = record {
  ordered = x.ordered;
  inside = x.inside;
  so_far = x.so_far;
  stops = λ l begun.
      let comes_on = reads_on begun.2 from [] in
      let all : ((slice_range bytes from (at + 1) ++ begun.0) ++ []) ≡ slice_range bytes from (at + 1) ++ begun.0 = append-nil _ in
      subst (ComesTo (from + length (slice_range bytes from (at + 1) ++ begun.0))) (ap (reading from start_state) all ∙ x.always l begun.0) comes_on;
  nothing = λ to t h k s. subst (ComesTo to) e (comes bytes from to t h k s);
}

-- what is refused is refused rightly
pub refused_right : (bytes : List ℕ) (from : ℕ) (e : ReadValue) → from ≤ length bytes → value_answer bytes from ≡ refused e → IsReadRefused bytes from e
refused_right bytes from (NoValue at) h e = nothing_stops bytes from at e (right bytes from (refused (NoValue at)) h e)
refused_right bytes from (TooLarge at) h e = right bytes from (refused (TooLarge at)) h e
refused_right bytes from (TooLong at) h e = right bytes from (refused (TooLong at)) h e
refused_right bytes from (TooDeep at) h e = right bytes from (refused (TooDeep at)) h e
refused_right bytes from NoMemory h e = tt

-- a refusal is never for want of memory
pub never_memory : (bytes : List ℕ) (from : ℕ) (e : ReadValue) → from ≤ length bytes → value_answer bytes from ≡ refused e → e ≢ NoMemory
never_memory bytes from e h told is = right bytes from (refused NoMemory) h (told ∙ ap refused is)

-- where a value is read, no longer number stands
read_ends_number : (bytes : List ℕ) (from after : ℕ) (m : ℤ) (b : ℕ) (z : List ℕ) (c : Bool) → is_ascii_digit b ≡ c → drop after bytes ≡ b ∷ z → IsRead bytes from (num m) after → is_ascii_digit b ≡ false
read_ends_number bytes from after m b z false d split x = d
read_ends_number bytes from after m b z true d split x =
    let s = slice_range bytes from after in
    let more = longer_number b x.spelled d in
    let all : drop from bytes ≡ (s ++ b ∷ []) ++ z = drop_split bytes from after x.ordered ∙ (ap (λ y. s ++ y) split ∙ sym (append_assoc s (b ∷ []) z)) in
    let long = range_long bytes from after x.ordered x.inside in
    let here : slice_range bytes from (after + 1) ≡ s ++ b ∷ [] = range_is bytes from (after + 1) (s ++ b ∷ []) z all (omega (arith, length-append s (b ∷ []))) in
    let left = ap length split in
    absurd (x.longest (after + 1) (num more.0) (omega arith) (omega (arith, length-drop after bytes)) (subst (λ (p : List ℕ). Spells p (num more.0)) (sym here) more.1))

read_ends : (t : Tree) (bytes : List ℕ) (from after : ℕ) (z : List ℕ) → drop after bytes ≡ z → IsRead bytes from t after → CannotContinue t z
read_ends (num m) bytes from after [] split x = tt
read_ends (num m) bytes from after (b ∷ z) split x = read_ends_number bytes from after m b z (is_ascii_digit b) refl split x
read_ends (truth b) bytes from after z split x = tt
read_ends (list ts) bytes from after z split x = tt

-- what is read is found
pub read_found : (bytes : List ℕ) (from after : ℕ) (t : Tree) → IsRead bytes from t after → value_answer bytes from ≡ found t after
read_found bytes from after t x =
    ap (reading from start_state) (drop_split bytes from after x.ordered) ∙ by_goes (value_goes x.spelled from [] 0 (drop after bytes) (read_ends t bytes from after (drop after bytes) refl x) (omega arith) (omega arith))
  where
    by_goes : Goes from [] 0 (slice_range bytes from after) t (drop after bytes) → reading from start_state (slice_range bytes from after ++ drop after bytes) ≡ found t after
    by_goes (inl g) = g.0 ∙ ap (found t) (range_long bytes from after x.ordered x.inside)
    by_goes (inr g) = absurd (g.1 (record { items = omega (arith, x.limits.items); depth = omega (arith, x.limits.depth); numbers = x.limits.numbers }))

-- what was written is read back
pub written_found : (bytes : List ℕ) (from : ℕ) (t : Tree) (rest : List ℕ) → IsWithinLimits t → CannotContinue t rest → drop from bytes ≡ text_of t ++ rest → value_answer bytes from ≡ found t (from + length (text_of t))
written_found bytes from t rest l c e = ap (reading from start_state) e ∙ by_goes (value_goes (text_spelled t l.numbers) from [] 0 rest c (omega arith) (omega arith))
  where
    by_goes : Goes from [] 0 (text_of t) t rest → reading from start_state (text_of t ++ rest) ≡ found t (from + length (text_of t))
    by_goes (inl g) = g.0
    by_goes (inr g) = absurd (g.1 (record { items = omega (arith, l.items); depth = omega (arith, l.depth); numbers = l.numbers }))

-- what the code tells of a value, and of a refusal
abbrev pub TellsValue : List ℕ → ℕ → Result (Value × ℕ) ReadValue → Type 0
TellsValue bytes from r = IfOk r (λ p. value_answer bytes from ≡ found (tree p.0) p.1)

abbrev pub TellsRefusal : List ℕ → ℕ → Result (Value × ℕ) ReadValue → Type 0
TellsRefusal bytes from r = IfErr r (λ e. e ≢ NoMemory → value_answer bytes from ≡ refused e)

pub value_clause : (bytes : List ℕ) (from : ℕ) (r : Result (Value × ℕ) ReadValue) → from ≤ length bytes → TellsValue bytes from r → IfOk r (λ p. IsRead bytes from (tree p.0) p.1)
value_clause bytes from (Ok p) h told = found_read bytes from p.1 (tree p.0) h told
value_clause bytes from (Err e) h told = tt

pub refused_clause : (bytes : List ℕ) (from : ℕ) (r : Result (Value × ℕ) ReadValue) → from ≤ length bytes → TellsRefusal bytes from r → IfErr r (λ e. IsReadRefused bytes from e)
refused_clause bytes from (Ok p) h told = tt
refused_clause bytes from (Err (NoValue at)) h told = refused_right bytes from (NoValue at) h (told (λ q. absurd (cc)))
refused_clause bytes from (Err (TooLarge at)) h told = refused_right bytes from (TooLarge at) h (told (λ q. absurd (cc)))
refused_clause bytes from (Err (TooLong at)) h told = refused_right bytes from (TooLong at) h (told (λ q. absurd (cc)))
refused_clause bytes from (Err (TooDeep at)) h told = refused_right bytes from (TooDeep at) h (told (λ q. absurd (cc)))
refused_clause bytes from (Err NoMemory) h told = tt

pub read_back_clause : (bytes : List ℕ) (from : ℕ) (r : Result (Value × ℕ) ReadValue) (t : Tree) (after : ℕ) → TellsValue bytes from r → TellsRefusal bytes from r → value_answer bytes from ≡ found t after → IsReadBack t after r
read_back_clause bytes from (Ok p) t after value refusal e = let same : found (tree p.0) p.1 ≡ found t after = sym value ∙ e in (cc, cc)
read_back_clause bytes from (Err (NoValue at)) t after value refusal e = let f : refused (NoValue at) ≡ found t after = sym (refusal (λ q. absurd (cc))) ∙ e in absurd (cc)
read_back_clause bytes from (Err (TooLarge at)) t after value refusal e = let f : refused (TooLarge at) ≡ found t after = sym (refusal (λ q. absurd (cc))) ∙ e in absurd (cc)
read_back_clause bytes from (Err (TooLong at)) t after value refusal e = let f : refused (TooLong at) ≡ found t after = sym (refusal (λ q. absurd (cc))) ∙ e in absurd (cc)
read_back_clause bytes from (Err (TooDeep at)) t after value refusal e = let f : refused (TooDeep at) ≡ found t after = sym (refusal (λ q. absurd (cc))) ∙ e in absurd (cc)
read_back_clause bytes from (Err NoMemory) t after value refusal e = refl
