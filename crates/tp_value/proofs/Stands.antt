-- What the bytes so far are, where reading stands somewhere.
use Rattle.std.proofs.Common.{◌≡◌, ℕ, ◌+◌, ◌<◌, ◌≤◌, pos, neg_ℤ, Bool, true, false, List, [], ◌∷◌, ◌++◌, length, take, drop, refl, sym, ap, ◌∙◌, subst, arith, append_assoc}
use Rattle.std.specs.Prelude.{codes}
use Rattle.std.proofs.lemmas.List.{append-nil, take-append-drop}
use Rattle.tp_value.specs.declared.phase.Last.{Last}
use Rattle.tp_value.specs.declared.phase.Last.TheVariants.{Bracket, Item, Comma}
use Rattle.tp_value.specs.declared.phase.Phase.TheVariants.{Minus, Word as InWord}
use Rattle.tp_value.specs.Number.{number_limit}
use Rattle.tp_value.specs.Tree.{Tree, num, truth, list, of_items}
use Rattle.tp_value.specs.Limits.{value_depth_limit, depth_of, HasNumbers}
use Rattle.tp_value.specs.Spelling.{AreDigits, decimal_value, spelling, TakesItem, Spells, digits, minus, word, closed, Unfinished, item}
use Rattle.tp_value.specs.Reading.{ReadingState, start_state}
use Rattle.tp_value.specs.Answers.{BeginsWithinLimits}
use Rattle.tp_value.proofs.Digits.{signed, in_digits, a_number}
use Rattle.tp_value.proofs.Completes.{within, depth_more, numbers_more}

-- there is room for the value where these lists are open
pub record Room (lists : List (List Tree)) (t : Tree) : Type 0 where
  pub depth : length lists + depth_of t ≤ value_depth_limit
  pub numbers : HasNumbers t

-- the bytes are those of open lists in each of which an item is due
pub data Outer : List ℕ → List (List Tree) → Type 0 where
  none : Outer [] []
  inner : (q : List ℕ) (lists : List (List Tree)) (s : List ℕ) (ts : List Tree) (last : Last) → Outer q lists → Unfinished s ts last → TakesItem last → Room lists (list (of_items ts)) → Outer (q ++ s) (ts ∷ lists)

abbrev pub sign : Bool → List ℕ
sign true = codes "-"
sign false = []

-- the bytes lead to the state; `from` is the place of the first
pub data Stands (from : ℕ) : List ℕ → ReadingState → Type 0 where
  at_start : Stands from [] start_state
  part : (q s : List ℕ) (lists : List (List Tree)) (begun : ℕ) (ts : List Tree) (last : Last) → Outer q lists → Unfinished s ts last → Room lists (list (of_items ts)) → Stands from (q ++ s) (within lists begun ts last)
  signs : (q : List ℕ) (lists : List (List Tree)) (begun : ℕ) → Outer q lists → Stands from (q ++ codes "-") (record { lists = lists; begun = begun; phase = Minus (from + length q) })
  number : (q : List ℕ) (lists : List (List Tree)) (begun : ℕ) (negative : Bool) (ds : List ℕ) → Outer q lists → AreDigits ds → decimal_value ds ≤ number_limit
      → Stands from (q ++ (sign negative ++ ds)) (in_digits lists begun (from + length q) negative (signed negative (decimal_value ds)))
  letters : (q : List ℕ) (lists : List (List Tree)) (begun : ℕ) (b : Bool) (k : ℕ) → Outer q lists → k < length (spelling b) → Stands from (q ++ take k (spelling b)) (record { lists = lists; begun = begun; phase = InWord b k })

pub outer_depth : {q : List ℕ} {lists : List (List Tree)} → Outer q lists → length lists ≤ value_depth_limit
outer_depth none = omega arith
outer_depth (inner q lists s ts last o u k r) = omega (arith, r.depth)

pub spells_signed : (negative : Bool) (ds : List ℕ) → AreDigits ds → Spells (sign negative ++ ds) (num (signed negative (decimal_value ds)))
spells_signed true ds a = minus ds a
spells_signed false ds a = digits ds a

-- a value's text goes on to that of a whole value
pub record Completed (q s : List ℕ) (lists : List (List Tree)) (t : Tree) : Type 0 where
  pub rest : List ℕ
  pub value : Tree
  pub spelled : Spells ((q ++ s) ++ rest) value
  pub room : Room lists t → Room [] value

pub room_more : (lists : List (List Tree)) (ts : List Tree) (t : Tree) → Room lists (list (of_items ts)) → Room (ts ∷ lists) t → Room lists (list (of_items (ts ++ t ∷ [])))
room_more lists ts t r w = record { depth = omega (arith, r.depth, w.depth, depth_more ts t); numbers = numbers_more ts t r.numbers w.numbers }

pub complete : {q : List ℕ} {lists : List (List Tree)} {s : List ℕ} {t : Tree} → Outer q lists → Spells s t → Completed q s lists t
complete {s = s} {t = t} none h = record { rest = []; value = t; spelled = subst (λ (z : List ℕ). Spells z t) (sym (append-nil s)) h; room = λ r. r }
complete {s = s} {t = t} (inner q lists s0 ts last o u k r) h =
    let whole = closed _ _ Item (item s0 ts last s t u k h) tt in
    let c = complete o whole in
    let shape : (q ++ ((s0 ++ s) ++ codes ">")) ++ c.rest ≡ ((q ++ s0) ++ s) ++ (codes ">" ++ c.rest) = simp append_assoc in
    record { rest = codes ">" ++ c.rest; value = c.value; spelled = subst (λ (z : List ℕ). Spells z c.value) shape c.spelled; room = λ w. c.room (room_more lists ts t r w) }

begins_by : (p q s r : List ℕ) (lists : List (List Tree)) (t : Tree) → p ++ r ≡ q ++ s → Room lists t → Completed q s lists t → BeginsWithinLimits p
begins_by p q s r lists t e room c =
    let w = c.room room in
    let shape : (q ++ s) ++ c.rest ≡ p ++ (r ++ c.rest) = ap (λ z. z ++ c.rest) (sym e) ∙ append_assoc p r c.rest in
    record { rest = r ++ c.rest; value = c.value; spelled = subst (λ (z : List ℕ). Spells z c.value) shape c.spelled; depth = omega (arith, w.depth); numbers = w.numbers }

zero_text : Spells (codes "0") (num (pos 0))
zero_text = digits (codes "0") (refl, tt)

pub begins_outer : {q : List ℕ} {lists : List (List Tree)} → Outer q lists → BeginsWithinLimits q
begins_outer {q = q} {lists = lists} o =
    let room : Room lists (num (pos 0)) = record { depth = omega (arith, outer_depth o); numbers = refl } in
    begins_by q q (codes "0") (codes "0") lists (num (pos 0)) refl room (complete o zero_text)

-- an open list may be closed, perhaps behind one more item
pub record Closes (s : List ℕ) (lists : List (List Tree)) : Type 0 where
  pub rest : List ℕ
  pub value : Tree
  pub spelled : Spells (s ++ rest) value
  pub room : Room lists value

list_closes : (s : List ℕ) (lists : List (List Tree)) (ts : List Tree) (last : Last) → Unfinished s ts last → Room lists (list (of_items ts)) → Room (ts ∷ lists) (num (pos 0)) → Closes s lists
list_closes s lists ts Bracket u r w = record { rest = codes ">"; value = list (of_items ts); spelled = closed s ts Bracket u tt; room = r }
list_closes s lists ts Item u r w = record { rest = codes ">"; value = list (of_items ts); spelled = closed s ts Item u tt; room = r }
list_closes s lists ts Comma u r w =
    let t : Tree = num (pos 0) in
    record {
      rest = codes "0>";
      value = list (of_items (ts ++ t ∷ []));
      spelled = subst (λ (z : List ℕ). Spells z (list (of_items (ts ++ t ∷ [])))) (append_assoc s (codes "0") (codes ">")) (closed _ _ Item (item s ts Comma (codes "0") t u tt zero_text) tt);
      room = room_more lists ts t r w;
    }

pub leaf_room : {q : List ℕ} {lists : List (List Tree)} → Outer q lists → (t : Tree) → depth_of t ≡ 0 → HasNumbers t → Room lists t
leaf_room o t e h = record { depth = omega (arith, outer_depth o); numbers = h }

word_split : (b : Bool) (k : ℕ) → take k (spelling b) ++ drop k (spelling b) ≡ spelling b
word_split b k = take-append-drop k (spelling b)

-- where bytes lead to a state, they begin a value
pub begins : {from : ℕ} {p : List ℕ} {s : ReadingState} → Stands from p s → BeginsWithinLimits p
begins at_start = record { rest = codes "0"; value = num (pos 0); spelled = zero_text; depth = omega arith; numbers = refl }
begins (part q s lists begun ts last o u r) =
    let c = list_closes s lists ts last u r (record { depth = omega (arith, r.depth); numbers = refl }) in
    begins_by (q ++ s) q (s ++ c.rest) c.rest lists c.value (append_assoc q s c.rest) c.room (complete o c.spelled)
begins (signs q lists begun o) =
    let t : Tree = num (neg_ℤ (pos 0)) in
    begins_by (q ++ codes "-") q (codes "-0") (codes "0") lists t (append_assoc q (codes "-") (codes "0")) (leaf_room o t refl refl) (complete o (minus (codes "0") (refl, tt)))
begins (number q lists begun negative ds o a small) =
    let t : Tree = num (signed negative (decimal_value ds)) in
    begins_by (q ++ (sign negative ++ ds)) q (sign negative ++ ds) [] lists t (append-nil _) (leaf_room o t refl (a_number negative (decimal_value ds) small)) (complete o (spells_signed negative ds a))
begins (letters q lists begun b k o h) =
    begins_by (q ++ take k (spelling b)) q (spelling b) (drop k (spelling b)) lists (truth b) (append_assoc q (take k (spelling b)) (drop k (spelling b)) ∙ ap (λ z. q ++ z) (word_split b k)) (leaf_room o (truth b) refl tt)
    (complete o (word b))
