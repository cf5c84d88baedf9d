-- What reading answers is right.
use Rattle.std.proofs.Common.{◌≡◌, ℕ, zero, suc, ◌+◌, ◌-◌, ◌<◌, ◌≤◌, ℤ, pos, Bool, true, false, ◌&&◌, List, [], ◌∷◌, ◌++◌, length, take, drop, fold, Option, Some, None, cond, refl, sym, ap, ◌∙◌, subst, arith, append_assoc, length-append, length-drop}
use Rattle.std.specs.Prelude.{◌==◌, ◌||◌, slice_index, slice_range}
use Rattle.std.specs.Char.{is_ascii_digit}
use Rattle.std.proofs.lemmas.List.Sums.{fold-append}
use Rattle.std.proofs.lemmas.List.{append-nil, drop-drop}
use Rattle.std.proofs.Math.Seq.{take-append_seam, drop-append_seam}
use Rattle.tp_value.specs.declared.phase.Last.TheVariants.{Item}
use Rattle.tp_value.specs.declared.phase.Phase.TheVariants.{Start, Minus, Digits}
use Rattle.tp_value.specs.declared.reading.ReadValue.{ReadValue}
use Rattle.tp_value.specs.declared.reading.ReadValue.TheVariants.{NoValue, TooLarge, TooLong, TooDeep, NoMemory}
use Rattle.tp_value.specs.Number.{number_limit}
use Rattle.tp_value.specs.Tree.{Tree, num}
use Rattle.tp_value.specs.Limits.{item_limit, value_depth_limit}
use Rattle.tp_value.specs.Spelling.{is_value_blank, AreDigits, decimal_value, Spells, item}
use Rattle.tp_value.specs.Reading.{ReadingState, Step, goes, ends, refuses, Answer, found, refused, answered, start_state, begins_value, digit_read, carried, moved, finished, step_behind, then_step, step, at_end, reading}
use Rattle.tp_value.specs.Answers.{BeginsValue, occurrences, Begun, with_byte, begun_in, BeginsWithinLimits, IsWithinSoFar, IsTooLarge, IsTooLong, IsTooDeep}
use Rattle.tp_value.proofs.Digits.{signed, in_digits, a_number}
use Rattle.tp_value.proofs.Completes.{within}
use Rattle.tp_value.proofs.Stands.{Room, Outer, none, inner, sign, Stands, at_start, part, signs, number, letters, spells_signed, begins, leaf_room, room_more}
use Rattle.tp_value.proofs.Sound.{tally, Tallied, IsLarge, IsLong, IsDeep, Refuses, Ended, Told}
use Rattle.tp_value.proofs.Told.{started_told}
use Rattle.tp_value.proofs.ToldWithin.{within_told, digit_told, letter_told, all_digits}

-- the same counts give the same account
retold : (from : ℕ) (p : List ℕ) (s t : ReadingState) (b : ℕ) (x : Step) → length s.lists ≡ length t.lists → tally s ≡ tally t → Told from p s b x → Told from p t b x
retold from p s t b (goes next) same counts r =
    (r.0, record { brackets = ap (λ n. (cond (b == 60) 1 0) + n) (sym same) ∙ r.1.brackets; begun = ap (λ c. with_byte c b) (sym counts) ∙ r.1.begun; small = r.1.small })
retold from p s t b (ends v after) same counts r = r
retold from p s t b (refuses (NoValue at)) same counts r = r
retold from p s t b (refuses (TooLarge at)) same counts r =
    record { front = r.front; text = r.text; number = r.number; split = r.split; place = r.place; so_far = r.so_far; starts = r.starts; spelled = r.spelled; large = r.large; goes_on = r.goes_on; count = subst (λ (c : Begun). (with_byte c b).count ≤ item_limit) counts r.count }
retold from p s t b (refuses (TooLong at)) same counts r =
    record { place = r.place; so_far = r.so_far; goes_on = r.goes_on; count = subst (λ (c : Begun). (with_byte c b).count ≡ item_limit + 1) counts r.count }
retold from p s t b (refuses (TooDeep at)) same counts r =
    record { place = r.place; so_far = r.so_far; goes_on = r.goes_on; bracket = r.bracket; depth = sym same ∙ r.depth; count = subst (λ (c : Begun). (with_byte c b).count ≤ item_limit) counts r.count }
retold from p s t b (refuses NoMemory) same counts r = r

-- a byte behind a number that has ended
behind_number : (from n : ℕ) {q : List ℕ} {lists : List (List Tree)} (begun begin : ℕ) (negative : Bool) (text : List ℕ) (m : ℤ) (b : ℕ) → Outer q lists → Spells text (num m) → Room lists (num m) → n ≡ from + length (q ++ text) → begun ≤ item_limit
    → Told from (q ++ text) (in_digits lists begun begin negative m) b (then_step (finished lists begun (num m) n) (λ t. moved n t b))
behind_number from n begun begin negative text m b none h room place small = record { text = text; rest = b ∷ []; split = refl; spelled = h; place = place }
behind_number from n begun begin negative text m b (inner q lists s ts last o u k r) h room place small =
    let next : List Tree = ts ++ num m ∷ [] in
    let shape : q ++ (s ++ text) ≡ (q ++ s) ++ text = sym (append_assoc q s text) in
    let told : Told from (q ++ (s ++ text)) (within lists begun next Item) b (moved n (within lists begun next Item) b) =
    within_told from n q (s ++ text) lists begun next o (room_more lists ts (num m) r room) (place ∙ ap (λ z. from + length z) (sym shape)) small Item b (item s ts last text (num m) u k h) in
    retold from ((q ++ s) ++ text) (within lists begun next Item) (in_digits (ts ∷ lists) begun begin negative m) b _ refl refl
    (subst (λ (z : List ℕ). Told from z (within lists begun next Item) b (moved n (within lists begun next Item) b)) shape told)

number_told : (from n : ℕ) (q : List ℕ) (lists : List (List Tree)) (begun : ℕ) (negative : Bool) (ds : List ℕ) (b : ℕ) (c : Bool) → is_ascii_digit b ≡ c → Outer q lists → AreDigits ds → decimal_value ds ≤ number_limit → n ≡ from + length (q ++ (sign negative ++ ds)) → begun ≤ item_limit
    → Told from (q ++ (sign negative ++ ds)) (in_digits lists begun (from + length q) negative (signed negative (decimal_value ds))) b (step n (in_digits lists begun (from + length q) negative (signed negative (decimal_value ds))) b)
number_told from n q lists begun negative ds b true e o a little place small =
    let m = signed negative (decimal_value ds) in
    let s : ReadingState = in_digits lists begun (from + length q) negative m in
    subst (λ (x : Bool). Told from (q ++ (sign negative ++ ds)) s b (step_behind n s b (cond x None (Some m)))) (sym e)
    (digit_told from n (from + length q) q ds lists begun negative (Digits (from + length q) negative m) o (all_digits ds a) refl small refl b e)
number_told from n q lists begun negative ds b false e o a little place small =
    let m = signed negative (decimal_value ds) in
    let s : ReadingState = in_digits lists begun (from + length q) negative m in
    subst (λ (x : Bool). Told from (q ++ (sign negative ++ ds)) s b (step_behind n s b (cond x None (Some m)))) (sym e)
    (behind_number from n begun (from + length q) negative (sign negative ++ ds) m b o (spells_signed negative ds a) (leaf_room o (num m) refl (a_number negative (decimal_value ds) little)) place small)

minus_told : (from n : ℕ) (q : List ℕ) (lists : List (List Tree)) (begun : ℕ) (b : ℕ) (c : Bool) → is_ascii_digit b ≡ c → Outer q lists → n ≡ from + length (q ++ sign true) → begun ≤ item_limit
    → Told from (q ++ sign true) (record { lists = lists; begun = begun; phase = Minus (from + length q) }) b (step n (record { lists = lists; begun = begun; phase = Minus (from + length q) }) b)
minus_told from n q lists begun b true e o place small = digit_told from n (from + length q) q [] lists begun true (Minus (from + length q)) o tt refl small refl b e
minus_told from n q lists begun b false e o place small =
    let s : ReadingState = record { lists = lists; begun = begun; phase = Minus (from + length q) } in
    subst (λ (x : Option ℕ). Told from (q ++ sign true) s b (carried n s (digit_read n begun (from + length q) true (pos 0) x))) (sym (ap (λ x. cond x (Some (b - 48)) None) e)) (place, begins {from = from} (signs q lists begun o))

-- each byte does what is right of the bytes up to it
pub step_told : (from n : ℕ) (b : ℕ) {p : List ℕ} {s : ReadingState} → Stands from p s → n ≡ from + length p → s.begun ≤ item_limit → Told from p s b (step n s b)
step_told from n b at_start place small = started_told from n [] [] 0 0 Start none place (omega arith) b (λ h. refl)
step_told from n b (part q s lists begun ts last o u r) place small = within_told from n q s lists begun ts o r place small last b u
step_told from n b (signs q lists begun o) place small = minus_told from n q lists begun b (is_ascii_digit b) refl o place small
step_told from n b (number q lists begun negative ds o a little) place small = number_told from n q lists begun negative ds b (is_ascii_digit b) refl o a little place small
step_told from n b (letters q lists begun w k o short) place small = letter_told from n q lists begun w k o short place small b

-- what was counted so far
pub record Counts (p : List ℕ) (s : ReadingState) : Type 0 where
  pub brackets : occurrences 60 p ≡ occurrences 62 p + length s.lists
  pub begun : begun_in p ≡ tally s
  pub small : s.begun ≤ item_limit

occurrences_more : (c : ℕ) (p : List ℕ) (b : ℕ) → occurrences c (p ++ b ∷ []) ≡ occurrences c p + (cond (b == c) 1 0)
occurrences_more c [] b = omega arith
occurrences_more c (d ∷ p) b = let more = occurrences_more c p b in omega arith

begun_more : (p : List ℕ) (b : ℕ) → begun_in (p ++ b ∷ []) ≡ with_byte (begun_in p) b
begun_more p b = fold-append with_byte (record { count = 0; due = false }) p (b ∷ [])

counts_more : (p : List ℕ) (s t : ReadingState) (b : ℕ) → Counts p s → Tallied s b t → Counts (p ++ b ∷ []) t
counts_more p s t b c x = record {
  brackets = omega (arith, occurrences_more 60 p b, occurrences_more 62 p b, c.brackets, x.brackets);
  begun = begun_more p b ∙ ap (λ y. with_byte y b) c.begun ∙ x.begun;
  small = x.small;
}

-- the bytes from a place on begin with a text
pub range_is : (bytes : List ℕ) (from to : ℕ) (text rest : List ℕ) → drop from bytes ≡ text ++ rest → to ≡ from + length text → slice_range bytes from to ≡ text
range_is bytes from to text rest e place =
    let long : to - from ≡ length text = omega arith in
    ap (λ n. take n (drop from bytes)) long ∙ ap (take (length text)) e ∙ take-append_seam text rest

range_inside : (bytes : List ℕ) (from to : ℕ) (text rest : List ℕ) → from ≤ length bytes → drop from bytes ≡ text ++ rest → to ≡ from + length text → to + length rest ≡ length bytes
range_inside bytes from to text rest h e place = omega (arith, length-drop from bytes, ap length e, length-append text rest)

so_far : (p : List ℕ) → BeginsWithinLimits p → (begun_in p).count ≤ item_limit → IsWithinSoFar p
so_far p b h = record { begins = b; items = h }

-- the bytes up to a place spell the value
pub record Ends (bytes : List ℕ) (from : ℕ) (t : Tree) (after : ℕ) : Type 0 where
  pub ordered : from ≤ after
  pub inside : after ≤ length bytes
  pub spelled : Spells (slice_range bytes from after) t

-- whatever follows the byte at the place, or its end, nothing is read
pub record Stops (bytes : List ℕ) (from at : ℕ) : Type 0 where
  pub ordered : from ≤ at
  pub inside : at ≤ length bytes
  pub so_far : IsWithinSoFar (slice_range bytes from at)
  pub always : at < length bytes → (rest : List ℕ) → reading from start_state (slice_range bytes from (at + 1) ++ rest) ≡ refused (NoValue at)

abbrev pub Right : List ℕ → ℕ → Answer → Type 0
Right bytes from (found t after) = Ends bytes from t after
Right bytes from (refused (NoValue at)) = Stops bytes from at
Right bytes from (refused (TooLarge at)) = IsTooLarge bytes from at
Right bytes from (refused (TooLong at)) = IsTooLong bytes from at
Right bytes from (refused (TooDeep at)) = IsTooDeep bytes from at
Right bytes from (refused NoMemory) = ⊥

by_bool : (c : Bool) (P : Bool → Type 0) → P true → P false → P c
by_bool true P x y = x
by_bool false P x y = y

byte_grows : (s : Begun) (b : ℕ) → s.count ≤ (with_byte s b).count
byte_grows s b =
    let whole : Begun = record { count = cond (s.due && begins_value b) (s.count + 1) s.count; due = b == 60 || b == 44 } in
    let grown : s.count ≤ whole.count = by_bool (s.due && begins_value b) (λ c. s.count ≤ cond c (s.count + 1) s.count) (omega arith) (omega arith) in
    by_bool (is_value_blank b) (λ c. s.count ≤ (cond c s whole).count) (omega arith) grown

begun_grows : (z : List ℕ) (s : Begun) → s.count ≤ (fold with_byte s z).count
begun_grows [] s = omega arith
begun_grows (b ∷ z) s = let here = byte_grows s b in let more = begun_grows z (with_byte s b) in omega arith

index_is : (bytes : List ℕ) (at b : ℕ) (z : List ℕ) → drop at bytes ≡ b ∷ z → slice_index bytes at ≡ b
index_is [] zero b z e = absurd (cc)
index_is [] (suc at) b z e = absurd (cc)
index_is (c ∷ bytes) zero b z e = cc
index_is (c ∷ bytes) (suc at) b z e = index_is bytes at b z e

rest_is : (bytes : List ℕ) (from at : ℕ) (text rest : List ℕ) → drop from bytes ≡ text ++ rest → at ≡ from + length text → drop at bytes ≡ rest
rest_is bytes from at text rest e place = ap (λ n. drop n bytes) place ∙ both ∙ ap (drop (length text)) e ∙ drop-append_seam text rest
  where
    both : drop (from + length text) bytes ≡ drop (length text) (drop from bytes)
    both = grind (arith, drop-drop)

module _ (bytes : List ℕ) (from n : ℕ) (p : List ℕ) (s : ReadingState) (b : ℕ) (z : List ℕ) (within_bytes : from ≤ length bytes) (split : drop from bytes ≡ p ++ (b ∷ z)) (at_n : n ≡ from + length p) (counts : Counts p s) where
  longer : drop from bytes ≡ (p ++ b ∷ []) ++ z
  longer = split ∙ sym (append_assoc p (b ∷ []) z)

  next_place : n + 1 ≡ from + length (p ++ b ∷ [])
  next_place = omega (arith, at_n, length-append p (b ∷ []))

  before : slice_range bytes from n ≡ p
  before = range_is bytes from n p (b ∷ z) split at_n

  behind : slice_range bytes from (n + 1) ≡ p ++ b ∷ []
  behind = range_is bytes from (n + 1) (p ++ b ∷ []) z longer next_place

  inside : n < length bytes
  inside = let all = range_inside bytes from n p (b ∷ z) within_bytes split at_n in omega (arith, all)

  few : (begun_in p).count ≤ item_limit
  few = subst (λ (c : Begun). c.count ≤ item_limit) (sym counts.begun) counts.small

  until : BeginsWithinLimits p → IsWithinSoFar (slice_range bytes from n)
  until x = subst IsWithinSoFar (sym before) (so_far p x few)

  counted_behind : begun_in (slice_range bytes from (n + 1)) ≡ with_byte (tally s) b
  counted_behind = ap begun_in behind ∙ begun_more p b ∙ ap (λ c. with_byte c b) counts.begun

  large_right : (at : ℕ) → IsLarge from p s b at → IsTooLarge bytes from at
  large_right at x =
      let e : drop from bytes ≡ x.front ++ (x.text ++ z) = longer ∙ ap (λ y. y ++ z) x.split ∙ append_assoc x.front x.text z in
      let e2 : drop from bytes ≡ (x.front ++ x.text) ++ z = longer ∙ ap (λ y. y ++ z) x.split in
      let to = at + length x.text in
      let place2 : to ≡ from + length (x.front ++ x.text) = omega (arith, x.place, length-append x.front x.text) in
      let front_is : slice_range bytes from at ≡ x.front = range_is bytes from at x.front (x.text ++ z) e x.place in
      let all_is : slice_range bytes from to ≡ x.front ++ x.text = range_is bytes from to (x.front ++ x.text) z e2 place2 in
      let text_is : slice_range bytes at to ≡ x.text = range_is bytes at to x.text z (rest_is bytes from at x.front (x.text ++ z) e x.place) refl in
      let count : begun_in (x.front ++ x.text) ≡ with_byte (tally s) b = ap begun_in (sym x.split) ∙ begun_more p b ∙ ap (λ c. with_byte c b) counts.begun in
      let most : (begun_in (x.front ++ x.text)).count ≤ item_limit = subst (λ (c : Begun). c.count ≤ item_limit) (sym count) x.count in
      let parts : begun_in (x.front ++ x.text) ≡ fold with_byte (begun_in x.front) x.text = fold-append with_byte (record { count = 0; due = false }) x.front x.text in
      let grows : (begun_in x.front).count ≤ (fold with_byte (begun_in x.front) x.text).count = begun_grows x.text (begun_in x.front) in
      let first : (begun_in x.front).count ≤ item_limit = omega (arith, grows, ap (λ (c : Begun). c.count) parts, most) in
      record {
        ordered = omega (arith, x.place);
        so_far = subst IsWithinSoFar (sym front_is) (so_far x.front x.so_far first);
        starts = λ l. subst (λ (y : List ℕ). (begun_in y).due ≡ true) (sym front_is) (x.starts (omega (arith, l, x.place)));
        to = to;
        inside = let all = range_inside bytes from to (x.front ++ x.text) z within_bytes e2 place2 in omega (arith, all);
        number = (x.number, subst (λ (y : List ℕ). Spells y (num x.number)) (sym text_is) x.spelled, x.large);
        goes_on = subst BeginsValue (sym all_is) x.goes_on;
        items = subst (λ (y : List ℕ). (begun_in y).count ≤ item_limit) (sym all_is) most;
      }

  -- what holds of the next byte's place
  at_next : (P : ℕ → Type 0) (at : ℕ) → at ≡ from + length p → P n → P at
  at_next P at place holds = subst P (at_n ∙ sym place) holds

  past_from : from ≤ n
  past_from = omega (arith, at_n)

  on_behind : BeginsValue (p ++ b ∷ []) → BeginsValue (slice_range bytes from (n + 1))
  on_behind begins = subst BeginsValue (sym behind) begins

  long_right : (at : ℕ) → IsLong from p s b at → IsTooLong bytes from at
  long_right at x = at_next (IsTooLong bytes from) at x.place (record { ordered = past_from; inside = inside; so_far = until x.so_far; goes_on = on_behind x.goes_on; item = ap (λ (c : Begun). c.count) counted_behind ∙ x.count })

  deep_right : (at : ℕ) → IsDeep from p s b at → IsTooDeep bytes from at
  deep_right at x =
      let bracket : slice_index bytes n ≡ 60 = index_is bytes n b z (rest_is bytes from n p (b ∷ z) split at_n) ∙ x.bracket in
      let open_lists = ap (occurrences 60) before ∙ counts.brackets ∙ ap (λ k. occurrences 62 p + k) x.depth ∙ ap (λ y. occurrences 62 y + value_depth_limit) (sym before) in
      let items = subst (λ (c : Begun). c.count ≤ item_limit) (sym counted_behind) x.count in
      at_next (IsTooDeep bytes from) at x.place (record { ordered = past_from; inside = inside; so_far = until x.so_far; goes_on = on_behind x.goes_on; bracket = bracket; open_lists = open_lists; items = items })

  nothing_right : (at : ℕ) → (at ≡ from + length p) × BeginsWithinLimits p → ((rest : List ℕ) → reading from start_state ((p ++ b ∷ []) ++ rest) ≡ refused (NoValue at)) → Stops bytes from at
  nothing_right at x always =
      let here : n ≡ at = at_n ∙ sym x.0 in
      let same : (rest : List ℕ) → reading from start_state ((p ++ b ∷ []) ++ rest) ≡ refused (NoValue n) = λ rest. always rest ∙ ap (λ k. refused (NoValue k)) (sym here) in
      subst (Stops bytes from) here (record {
        ordered = omega (arith, at_n);
        inside = let h = inside in omega arith;
        so_far = until x.1;
        always = λ h rest. ap (λ y. reading from start_state (y ++ rest)) behind ∙ same rest;
      })

  pub refusal_right : (e : ReadValue) → Refuses from p s b e → ((rest : List ℕ) → reading from start_state ((p ++ b ∷ []) ++ rest) ≡ refused e) → Right bytes from (refused e)
  refusal_right (NoValue at) x always = nothing_right at x always
  refusal_right (TooLarge at) x always = large_right at x
  refusal_right (TooLong at) x always = long_right at x
  refusal_right (TooDeep at) x always = deep_right at x
  refusal_right NoMemory x always = x

-- a value that has ended
ended_right : (bytes : List ℕ) (from : ℕ) (all z : List ℕ) (t : Tree) (after : ℕ) → from ≤ length bytes → drop from bytes ≡ all ++ z → Ended from all t after → Ends bytes from t after
ended_right bytes from all z t after h e x =
    let split : drop from bytes ≡ x.text ++ (x.rest ++ z) = e ∙ ap (λ y. y ++ z) x.split ∙ append_assoc x.text x.rest z in
    record {
      ordered = omega (arith, x.place);
      inside = let whole = range_inside bytes from after x.text (x.rest ++ z) h split x.place in omega (arith, whole);
      spelled = subst (λ (y : List ℕ). Spells y t) (sym (range_is bytes from after x.text (x.rest ++ z) split x.place)) x.spelled;
    }

-- the end of the bytes
end_none : (bytes : List ℕ) (from n : ℕ) (p : List ℕ) {s : ReadingState} → from ≤ length bytes → drop from bytes ≡ p ++ [] → n ≡ from + length p → Counts p s → Stands from p s → Right bytes from (refused (NoValue n))
end_none bytes from n p h e place c st =
    let whole = range_inside bytes from n p [] h e place in
    record {
      ordered = omega (arith, place);
      inside = omega (arith, whole);
      so_far = subst IsWithinSoFar (sym (range_is bytes from n p [] e place)) (so_far p (begins st) (subst (λ (x : Begun). x.count ≤ item_limit) (sym c.begun) c.small));
      always = λ l rest. absurd (omega (arith, whole));
    }

end_number : (bytes : List ℕ) (from n : ℕ) (q text : List ℕ) {lists : List (List Tree)} (begun begin : ℕ) (negative : Bool) (m : ℤ) → Outer q lists → Spells text (num m) → from ≤ length bytes → drop from bytes ≡ (q ++ text) ++ [] → n ≡ from + length (q ++ text)
    → Right bytes from (refused (NoValue n)) → Right bytes from (at_end n (in_digits lists begun begin negative m))
end_number bytes from n q text begun begin negative m none h w e place r = ended_right bytes from text [] (num m) n w e (record { text = text; rest = []; split = sym (append-nil text); spelled = h; place = place })
end_number bytes from n q text begun begin negative m (inner p lists s ts last o u k room) h w e place r = r

end_right : (bytes : List ℕ) (from n : ℕ) {p : List ℕ} {s : ReadingState} → from ≤ length bytes → drop from bytes ≡ p ++ [] → n ≡ from + length p → Counts p s → Stands from p s → Right bytes from (at_end n s)
end_right bytes from n h e place c at_start = end_none bytes from n [] h e place c at_start
end_right bytes from n h e place c (part q s lists begun ts last o u r) = end_none bytes from n (q ++ s) h e place c (part q s lists begun ts last o u r)
end_right bytes from n h e place c (signs q lists begun o) = end_none bytes from n _ h e place c (signs q lists begun o)
end_right bytes from n h e place c (number q lists begun negative ds o a little) =
    end_number bytes from n q (sign negative ++ ds) begun (from + length q) negative (signed negative (decimal_value ds)) o (spells_signed negative ds a) h e place (end_none bytes from n _ h e place c (number q lists begun negative ds o a little))
end_right bytes from n h e place c (letters q lists begun w k o short) = end_none bytes from n _ h e place c (letters q lists begun w k o short)

after_step : (bytes : List ℕ) (from : ℕ) → from ≤ length bytes → (n : ℕ) (p : List ℕ) (s : ReadingState) (b : ℕ) (z : List ℕ) → drop from bytes ≡ p ++ (b ∷ z) → n ≡ from + length p → Counts p s → (x : Step) → Told from p s b x
    → ((rest : List ℕ) → reading from start_state ((p ++ b ∷ []) ++ rest) ≡ answered x (λ t. reading (n + 1) t rest))
    → ((t : ReadingState) → drop from bytes ≡ (p ++ b ∷ []) ++ z → Stands from (p ++ b ∷ []) t → Counts (p ++ b ∷ []) t → ((rest : List ℕ) → reading from start_state ((p ++ b ∷ []) ++ rest) ≡ reading (n + 1) t rest) → Right bytes from (reading (n + 1) t z))
    → Right bytes from (answered x (λ t. reading (n + 1) t z))
after_step bytes from h n p s b z e place c (goes t) told reached more = more t (e ∙ sym (append_assoc p (b ∷ []) z)) told.0 (counts_more p s t b c told.1) reached
after_step bytes from h n p s b z e place c (ends t after) told reached more = ended_right bytes from (p ++ b ∷ []) z t after h (e ∙ sym (append_assoc p (b ∷ []) z)) told
after_step bytes from h n p s b z e place c (refuses r) told reached more = refusal_right bytes from n p s b z h e place c r told reached

-- the rest of the bytes, where reading has come to a state
pub reading_right : (bytes : List ℕ) (from : ℕ) → from ≤ length bytes → (z : List ℕ) (n : ℕ) (p : List ℕ) (s : ReadingState) → drop from bytes ≡ p ++ z → n ≡ from + length p → Stands from p s → Counts p s
    → ((rest : List ℕ) → reading from start_state (p ++ rest) ≡ reading n s rest) → Right bytes from (reading n s z)
reading_right bytes from h [] n p s e place st c reached = end_right bytes from n h e place c st
reading_right bytes from h (b ∷ z) n p s e place st c reached =
    after_step bytes from h n p s b z e place c (step n s b) (step_told from n b st place c.small)
    (λ rest. ap (reading from start_state) (append_assoc p (b ∷ []) rest) ∙ reached (b ∷ rest))
    (λ t e2 st2 c2 reached2. reading_right bytes from h z (n + 1) (p ++ b ∷ []) t e2 (omega (arith, place, length-append p (b ∷ []))) st2 c2 reached2)

pub start_right : (bytes : List ℕ) (from : ℕ) → from ≤ length bytes → Right bytes from (reading from start_state (drop from bytes))
start_right bytes from h =
    reading_right bytes from h (drop from bytes) from [] start_state refl (omega arith) at_start (record { brackets = refl; begun = refl; small = omega arith }) (λ rest. refl)
