-- Each byte within a value's text does what is right.
use Rattle.std.proofs.Common.{fold, ◌≡◌, ℕ, zero, suc, ◌+◌, ◌-◌, ◌<◌, ◌≤◌, ◌⊎◌, inl, inr, ℤ, pos, neg_ℤ, Bool, true, false, ◌&&◌, ◌||◌, List, [], ◌∷◌, ◌++◌, length, take, Option, Some, None, Result, Ok, Err, cond, refl, sym, ap, ◌∙◌, subst, arith, append_assoc, length-append}
use Rattle.std.specs.Prelude.{codes, ◌==◌, nat_lt, slice_index}
use Rattle.std.specs.Char.{is_ascii_digit}
use Rattle.std.proofs.lemmas.Bool.{cases_lt, eqb-true}
use Rattle.std.proofs.lemmas.Bool.Decides.{nat_tests}
use Rattle.std.proofs.lemmas.List.Sums.{fold-append}
use Rattle.std.proofs.lemmas.List.{append-nil}
use Rattle.std.proofs.Math.Seq.{take-length}
use Rattle.tp_value.specs.declared.phase.Last.{Last}
use Rattle.tp_value.specs.declared.phase.Last.TheVariants.{Bracket, Item, Comma}
use Rattle.tp_value.specs.declared.phase.Phase.{Phase}
use Rattle.tp_value.specs.declared.phase.Phase.TheVariants.{Between, Word as InWord}
use Rattle.tp_value.specs.declared.phase.Move.{Move}
use Rattle.tp_value.specs.declared.phase.Move.TheVariants.{Go, Close, Word}
use Rattle.tp_value.specs.declared.reading.ReadValue.{ReadValue}
use Rattle.tp_value.specs.declared.reading.ReadValue.TheVariants.{NoValue}
use Rattle.tp_value.specs.Number.{number_limit, within_limit}
use Rattle.tp_value.specs.Tree.{Tree, num, truth, list, nil, of_items}
use Rattle.tp_value.specs.Limits.{item_limit}
use Rattle.tp_value.specs.Spelling.{is_value_blank, AllDigits, AreDigits, with_digit, decimal_value, spelling, CanClose, TakesItem, Spells, digits, minus, word, closed, Unfinished, bracket, blank, item, comma}
use Rattle.tp_value.specs.Reading.{ReadingState, begins_value, item_started, within_list, digits_go_on, digit_read, lengthened, letters_go_on, carried, finished}
use Rattle.tp_value.specs.Answers.{Begun, with_byte, begun_in}
use Rattle.tp_value.proofs.Digits.{signed, in_digits, no_number, continued_signed, signed_small, signed_large, digit_is}
use Rattle.tp_value.proofs.Completes.{within}
use Rattle.tp_value.proofs.Stands.{Room, Outer, none, inner, sign, Stands, part, number, letters, spells_signed, begins, complete, begins_outer, leaf_room, room_more}
use Rattle.tp_value.proofs.Sound.{due_of, tally, Tallied, Told, by_test, digit_plain, letter_plain, plain_byte, plain_tallied}
use Rattle.tp_value.proofs.Told.{started_told, outer_begins}

-- a value that ends
pub finished_told : (from : ℕ) (p : List ℕ) (b : ℕ) (s : ReadingState) {q : List ℕ} {lists : List (List Tree)} (text : List ℕ) (t : Tree) (begun after : ℕ) → Outer q lists → Spells text t → Room lists t → p ++ b ∷ [] ≡ q ++ text
    → after ≡ from + length (q ++ text) → ((ts : List Tree) (ls : List (List Tree)) → lists ≡ ts ∷ ls → Tallied s b (within ls begun (ts ++ t ∷ []) Item)) → Told from p s b (finished lists begun t after)
finished_told from p b s text t begun after none h room e place tallied = record { text = text; rest = []; split = e ∙ sym (append-nil text); spelled = h; place = place }
finished_told from p b s text t begun after (inner q lists s0 ts last o u k r) h room e place tallied =
    let shape : q ++ (s0 ++ text) ≡ p ++ b ∷ [] = sym (append_assoc q s0 text) ∙ sym e in
    let next : ReadingState = within lists begun (ts ++ t ∷ []) Item in
    (subst (λ (z : List ℕ). Stands from z next) shape (part q (s0 ++ text) lists begun (ts ++ t ∷ []) Item o (item s0 ts last text t u k h) (room_more lists ts t r room)), tallied ts lists refl)

cases_bool : {X : Type 0} (c : Bool) → (c ≡ true → X) → (c ≡ false → X) → X
cases_bool true f g = f refl
cases_bool false f g = g refl

-- some value begins with the byte
value_from : (b : ℕ) → begins_value b ≡ true → (z : List ℕ) × (t : Tree) × Spells (b ∷ z) t
value_from b h =
    cases_bool (b == 60) (λ e. at_byte 60 e (codes ">", list nil, closed (codes "<") [] Bracket bracket tt))
    (λ e1. cases_bool (b == 45) (λ e. at_byte 45 e (codes "0", num (neg_ℤ (pos 0)), minus (codes "0") (refl, tt)))
    (λ e2. cases_bool (b == 116) (λ e. at_byte 116 e (codes "rue", truth true, word true))
    (λ e3. cases_bool (b == 102) (λ e. at_byte 102 e (codes "alse", truth false, word false))
    (λ e4. cases_bool (is_ascii_digit b) (λ e. ([], num (pos (decimal_value (b ∷ []))), digits (b ∷ []) (e, tt)))
    (λ e5. absurd (grind (arith, nat_tests)))))))
  where
    at_byte : (k : ℕ) → (b == k) ≡ true → (z : List ℕ) × (t : Tree) × Spells (k ∷ z) t → (z : List ℕ) × (t : Tree) × Spells (b ∷ z) t
    at_byte k e r = subst (λ (c : ℕ). (z : List ℕ) × (t : Tree) × Spells (c ∷ z) t) (sym (eqb-true b k e)) r

item_count : (b c : ℕ) → begins_value b ≡ true → (with_byte (record { count = c; due = true }) b).count ≡ c + 1
item_count b c h = grind (arith, nat_tests)

module _ (from n : ℕ) (q s : List ℕ) (lists : List (List Tree)) (begun : ℕ) (ts : List Tree) (o : Outer q lists) (r : Room lists (list (of_items ts))) (place : n ≡ from + length (q ++ s)) (small : begun ≤ item_limit) where
  abbrev RightIn : Last → ℕ → Result Move ReadValue → Type 0
  RightIn last b m = Told from (q ++ s) (within lists begun ts last) b (carried n (within lists begun ts last) m)

  blank_told : (last : Last) (b : ℕ) → Unfinished s ts last → is_value_blank b ≡ true → RightIn last b (Ok (Go (Between last) begun))
  blank_told last b u e =
      let same : ReadingState = within lists begun ts last in (
        subst (λ (z : List ℕ). Stands from z same) (sym (append_assoc q s (b ∷ []))) (part q (s ++ b ∷ []) lists begun ts last o (blank s ts last b u e) r),
        record { brackets = grind (arith, nat_tests); begun = ap (λ c. cond c (tally same) (record { count = cond (due_of (Between last) && begins_value b) (begun + 1) begun; due = b == 60 || b == 44 })) e; small = small },
      )

  nothing_told : (last : Last) (b : ℕ) → Unfinished s ts last → RightIn last b (Err (NoValue n))
  nothing_told last b u = (place, begins {from = from} (part q s lists begun ts last o u r))

  comma_told : Unfinished s ts Item → RightIn Item 44 (Ok (Go (Between Comma) begun))
  comma_told u = (
    subst (λ (z : List ℕ). Stands from z (within lists begun ts Comma)) (sym (append_assoc q s (codes ","))) (part q (s ++ codes ",") lists begun ts Comma o (comma s ts u) r),
    record { brackets = refl; begun = refl; small = small },
  )

  close_told : (last : Last) → Unfinished s ts last → CanClose last → (with_byte (tally (within lists begun ts last)) 62 ≡ record { count = begun; due = false }) → RightIn last 62 (Ok Close)
  close_told last u k count =
      finished_told from (q ++ s) 62 (within lists begun ts last) (s ++ codes ">") (list (of_items ts)) begun (n + 1) o (closed s ts last u k) r (append_assoc q s (codes ">"))
      (omega (arith, place, length-append q s, length-append q (s ++ codes ">"), length-append s (codes ">")))
      (λ us ls e. record { brackets = let shorter = ap length e in omega arith; begun = count; small = small })

  item_told : (last : Last) (b : ℕ) → Unfinished s ts last → TakesItem last → due_of (Between last) ≡ true → RightIn last b (item_started n (length (ts ∷ lists)) begun b)
  item_told last b u k due =
      let inside = inner q lists s ts last o u k r in
      by_test (RightIn last b) (begins_value b) _ _
      (λ h. by_test (RightIn last b) (nat_lt begun item_limit) _ _
      (λ room. started_told from n (q ++ s) (ts ∷ lists) begun (begun + 1) (Between last) inside place (grind (arith, nat_tests)) b (λ _. ap (λ c. cond (c && begins_value b) (begun + 1) begun) due ∙ ap (λ c. cond c (begun + 1) begun) h))
      (λ full.
      let v = value_from b h in
      let most : begun ≡ item_limit = grind (arith, nat_tests) in
      record { place = place; so_far = begins_outer inside; goes_on = outer_begins b v.0 v.1 inside v.2; count = ap (λ d. (with_byte (record { count = begun; due = d }) b).count) due ∙ item_count b begun h ∙ ap (λ c. c + 1) most }))
      (λ h. (place, begins_outer inside))

  pub within_told : (last : Last) (b : ℕ) → Unfinished s ts last → RightIn last b (within_list n (length (ts ∷ lists)) begun last b)
  within_told Bracket b u =
      by_test (RightIn Bracket b) (is_value_blank b) _ _ (blank_told Bracket b u)
      (λ _. by_test (RightIn Bracket b) (b == 44) _ _ (λ _. nothing_told Bracket b u)
      (λ _. by_test (RightIn Bracket b) (b == 62) _ _ (λ e. subst (λ (c : ℕ). RightIn Bracket c (Ok Close)) (sym (eqb-true b 62 e)) (close_told Bracket u tt refl)) (λ _. item_told Bracket b u tt refl)))
  within_told Item b u =
      by_test (RightIn Item b) (is_value_blank b) _ _ (blank_told Item b u)
      (λ _. by_test (RightIn Item b) (b == 44) _ _ (λ e. subst (λ (c : ℕ). RightIn Item c (Ok (Go (Between Comma) begun))) (sym (eqb-true b 44 e)) (comma_told u))
      (λ _. by_test (RightIn Item b) (b == 62) _ _ (λ e. subst (λ (c : ℕ). RightIn Item c (Ok Close)) (sym (eqb-true b 62 e)) (close_told Item u tt refl)) (λ _. nothing_told Item b u)))
  within_told Comma b u =
      by_test (RightIn Comma b) (is_value_blank b) _ _ (blank_told Comma b u)
      (λ _. by_test (RightIn Comma b) (b == 44) _ _ (λ _. nothing_told Comma b u)
      (λ _. by_test (RightIn Comma b) (b == 62) _ _ (λ _. nothing_told Comma b u) (λ _. item_told Comma b u tt refl)))

pub all_digits : (ds : List ℕ) → AreDigits ds → AllDigits ds
all_digits [] a = absurd a
all_digits (b ∷ z) a = a

-- whether an item is due behind what spells a value, and behind an unfinished list
digits_due : (z : List ℕ) → AllDigits z → (x : Begun) → x.due ≡ false → (fold with_byte x z).due ≡ false
digits_due [] a x e = e
digits_due (b ∷ z) a x e = digits_due z a.1 (with_byte x b) (ap (λ (y : Begun). y.due) (plain_byte x b (digit_plain b a.0)))

number_due : (ds : List ℕ) → AreDigits ds → (x : Begun) → (fold with_byte x ds).due ≡ false
number_due [] a x = absurd a
number_due (b ∷ z) a x = digits_due z a.1 (with_byte x b) (ap (λ (y : Begun). y.due) (plain_byte x b (digit_plain b a.0)))

value_due : {s : List ℕ} {t : Tree} → Spells s t → (x : Begun) → (fold with_byte x s).due ≡ false
value_due (digits ds a) x = number_due ds a x
value_due (minus ds a) x = number_due ds a (with_byte x 45)
value_due (word true) x = refl
value_due (word false) x = refl
value_due (closed s ts last u k) x = ap (λ (y : Begun). y.due) (fold-append with_byte x s (codes ">"))

list_due : {s : List ℕ} {ts : List Tree} {last : Last} → Unfinished s ts last → (x : Begun) → (fold with_byte x s).due ≡ due_of (Between last)
list_due bracket x = refl
list_due (blank s ts last b u e) x =
    let before = fold with_byte x s in
    let same : with_byte before b ≡ before = ap (λ c. cond c before (record { count = cond (before.due && begins_value b) (before.count + 1) before.count; due = b == 60 || b == 44 })) e in
    ap (λ (y : Begun). y.due) (fold-append with_byte x s (b ∷ []) ∙ same) ∙ list_due u x
list_due (item s ts last r t u k h) x = ap (λ (y : Begun). y.due) (fold-append with_byte x s r) ∙ value_due h (fold with_byte x s)
list_due (comma s ts u) x = ap (λ (y : Begun). y.due) (fold-append with_byte x s (codes ","))

takes_due : (last : Last) → TakesItem last → due_of (Between last) ≡ true
takes_due Bracket k = refl
takes_due Item k = absurd k
takes_due Comma k = refl

outer_due : {q : List ℕ} {lists : List (List Tree)} → Outer q lists → 0 < length q → (begun_in q).due ≡ true
outer_due none h = absurd (omega arith)
outer_due (inner q lists s ts last o u k r) h = ap (λ (y : Begun). y.due) (fold-append with_byte (record { count = 0; due = false }) q s) ∙ list_due u (begun_in q) ∙ takes_due last k

-- digits with one more
pub more_digits : (ds : List ℕ) (b : ℕ) → AllDigits ds → is_ascii_digit b ≡ true → AreDigits (ds ++ b ∷ [])
more_digits [] b a h = (h, tt)
more_digits (d ∷ ds) b a h = (a.0, all_more ds a.1)
  where
    all_more : (z : List ℕ) → AllDigits z → AllDigits (z ++ b ∷ [])
    all_more [] k = (h, tt)
    all_more (c ∷ z) k = (k.0, all_more z k.1)

pub value_more : (ds : List ℕ) (b : ℕ) → decimal_value (ds ++ b ∷ []) ≡ with_digit (decimal_value ds) b
value_more ds b = fold-append with_digit 0 ds (b ∷ [])

module _ (from n begin : ℕ) (q ds : List ℕ) (lists : List (List Tree)) (begun : ℕ) (negative : Bool) (phase : Phase) (o : Outer q lists) (a : AllDigits ds) (begins_at : begin ≡ from + length q) (small : begun ≤ item_limit)
    (none_due : due_of phase ≡ false) where
  abbrev at_digits : ReadingState
  at_digits = record { lists = lists; begun = begun; phase = phase }

  abbrev RightDigits : ℕ → Result Move ReadValue → Type 0
  RightDigits b m = Told from (q ++ (sign negative ++ ds)) at_digits b (carried n at_digits m)

  not_counted : (b : ℕ) → cond (due_of phase && begins_value b) (begun + 1) begun ≡ begun
  not_counted b = ap (λ d. cond (d && begins_value b) (begun + 1) begun) none_due

  joined : (b : ℕ) → (q ++ (sign negative ++ ds)) ++ b ∷ [] ≡ q ++ (sign negative ++ (ds ++ b ∷ []))
  joined b = append_assoc q (sign negative ++ ds) (b ∷ []) ∙ ap (λ z. q ++ z) (append_assoc (sign negative) ds (b ∷ []))

  pub digit_told : (b : ℕ) → is_ascii_digit b ≡ true → RightDigits b (digits_go_on n begun begin negative (signed negative (decimal_value ds)) b)
  digit_told b h =
      let v = decimal_value ds in
      let w = with_digit v b in
      let value : decimal_value (ds ++ b ∷ []) ≡ w = value_more ds b in
      let are = more_digits ds b a h in
      let read : (o : Option ℤ) → within_limit (signed negative w) ≡ o → RightDigits b (lengthened begun begin negative o) → RightDigits b (digits_go_on n begun begin negative (signed negative v) b) =
      λ x e right. subst (λ (m : Option ℕ). RightDigits b (digit_read n begun begin negative (signed negative v) m)) (sym (digit_is b h))
      (subst (λ (m : Option ℤ). RightDigits b (lengthened begun begin negative m)) (sym (ap within_limit (continued_signed negative v (b - 48)) ∙ e)) right) in
      by_size (cases_lt number_limit w) read value are
    where
      by_size : (number_limit < with_digit (decimal_value ds) b) ⊎ (with_digit (decimal_value ds) b ≤ number_limit)
          → ((o : Option ℤ) → within_limit (signed negative (with_digit (decimal_value ds) b)) ≡ o → RightDigits b (lengthened begun begin negative o) → RightDigits b (digits_go_on n begun begin negative (signed negative (decimal_value ds)) b))
          → decimal_value (ds ++ b ∷ []) ≡ with_digit (decimal_value ds) b → AreDigits (ds ++ b ∷ []) → RightDigits b (digits_go_on n begun begin negative (signed negative (decimal_value ds)) b)
      by_size (inl large) read value are =
          let c = complete o (spells_signed negative (ds ++ b ∷ []) are) in
          read None (signed_large negative _ large) (record {
            front = q;
            text = sign negative ++ (ds ++ b ∷ []);
            number = signed negative (decimal_value (ds ++ b ∷ []));
            split = joined b;
            place = begins_at;
            so_far = begins_outer o;
            starts = outer_due o;
            spelled = spells_signed negative (ds ++ b ∷ []) are;
            large = no_number negative _ (subst (λ (k : ℕ). number_limit < k) (sym value) large);
            goes_on = (c.rest, c.value, c.spelled);
            count = subst (λ (k : ℕ). k ≤ item_limit) (sym (ap (λ (x : Begun). x.count) (plain_byte (tally at_digits) b (digit_plain b h)) ∙ not_counted b)) small;
          })
      by_size (inr little) read value are =
          let next : ℕ → ReadingState = λ k. in_digits lists begun begin negative (signed negative k) in
          let stands : Stands from (q ++ (sign negative ++ (ds ++ b ∷ []))) (in_digits lists begun (from + length q) negative (signed negative (decimal_value (ds ++ b ∷ [])))) =
          number q lists begun negative (ds ++ b ∷ []) o are (subst (λ (k : ℕ). k ≤ number_limit) (sym value) little) in
          let placed : Stands from (q ++ (sign negative ++ (ds ++ b ∷ []))) (next (decimal_value (ds ++ b ∷ []))) =
          subst (λ (k : ℕ). Stands from (q ++ (sign negative ++ (ds ++ b ∷ []))) (in_digits lists begun k negative (signed negative (decimal_value (ds ++ b ∷ []))))) (sym begins_at) stands in
          let valued : Stands from (q ++ (sign negative ++ (ds ++ b ∷ []))) (next (with_digit (decimal_value ds) b)) = subst (λ (k : ℕ). Stands from (q ++ (sign negative ++ (ds ++ b ∷ []))) (next k)) value placed in
          read (Some (signed negative (with_digit (decimal_value ds) b))) (signed_small negative _ little) (
            subst (λ (z : List ℕ). Stands from z (next (with_digit (decimal_value ds) b))) (sym (joined b)) valued,
            plain_tallied at_digits (next (with_digit (decimal_value ds) b)) b (digit_plain b h) refl (not_counted b) refl small,
          )

-- one byte more of a list
take_more : (xs : List ℕ) (k : ℕ) → k < length xs → take k xs ++ slice_index xs k ∷ [] ≡ take (k + 1) xs
take_more [] k h = absurd (omega arith)
take_more (x ∷ xs) zero h = refl
take_more (x ∷ xs) (suc k) h =
    let next : suc k + 1 ≡ suc (k + 1) = omega arith in
    ap (λ z. x ∷ z) (take_more xs k (omega arith)) ∙ ap (λ m. take m (x ∷ xs)) (sym next)

module _ (from n : ℕ) (q : List ℕ) (lists : List (List Tree)) (begun : ℕ) (w : Bool) (k : ℕ) (o : Outer q lists) (short : k < length (spelling w)) (place : n ≡ from + length (q ++ take k (spelling w))) (small : begun ≤ item_limit) where
  abbrev at_letters : ReadingState
  at_letters = record { lists = lists; begun = begun; phase = InWord w k }

  abbrev RightLetters : ℕ → Result Move ReadValue → Type 0
  RightLetters b m = Told from (q ++ take k (spelling w)) at_letters b (carried n at_letters m)

  with_letter : (q ++ take k (spelling w)) ++ slice_index (spelling w) k ∷ [] ≡ q ++ take (k + 1) (spelling w)
  with_letter = append_assoc q (take k (spelling w)) _ ∙ ap (λ z. q ++ z) (take_more (spelling w) k short)

  last_letter : (k + 1 == length (spelling w)) ≡ true → RightLetters (slice_index (spelling w) k) (Ok (Word w))
  last_letter e =
      let all : take (k + 1) (spelling w) ≡ spelling w = ap (λ m. take m (spelling w)) (eqb-true (k + 1) (length (spelling w)) e) ∙ take-length (spelling w) in
      let whole : (q ++ take k (spelling w)) ++ slice_index (spelling w) k ∷ [] ≡ q ++ spelling w = with_letter ∙ ap (λ z. q ++ z) all in
      finished_told from (q ++ take k (spelling w)) (slice_index (spelling w) k) at_letters (spelling w) (truth w) begun (n + 1) o (word w) (leaf_room o (truth w) refl tt) whole
      (let l = ap length whole in omega (arith, place, length-append (q ++ take k (spelling w)) (slice_index (spelling w) k ∷ []), l))
      (λ ts ls e. plain_tallied at_letters (within ls begun (ts ++ truth w ∷ []) Item) (slice_index (spelling w) k) (letter_plain w k short) (ap length e) refl refl small)

  next_letter : (k + 1 == length (spelling w)) ≡ false → RightLetters (slice_index (spelling w) k) (Ok (Go (InWord w (k + 1)) begun))
  next_letter e =
      let longer : k + 1 < length (spelling w) = grind (arith, nat_tests) in
      let next : ReadingState = record { lists = lists; begun = begun; phase = InWord w (k + 1) } in (
        subst (λ (z : List ℕ). Stands from z next) (sym with_letter) (letters q lists begun w (k + 1) o longer),
        plain_tallied at_letters next (slice_index (spelling w) k) (letter_plain w k short) refl refl refl small,
      )

  pub letter_told : (b : ℕ) → RightLetters b (letters_go_on n begun w k b)
  letter_told b =
      by_test (RightLetters b) (nat_lt k (length (spelling w)) && slice_index (spelling w) k == b) _ _
      (λ e.
      let same : slice_index (spelling w) k ≡ b = grind (arith, nat_tests) in
      subst (λ (c : ℕ). RightLetters c (cond (k + 1 == length (spelling w)) (Ok (Word w)) (Ok (Go (InWord w (k + 1)) begun)))) same
      (by_test (RightLetters (slice_index (spelling w) k)) (k + 1 == length (spelling w)) _ _ last_letter next_letter))
      (λ _. (place, begins {from = from} (letters q lists begun w k o short)))
