-- What each byte does is right of the bytes up to it.
use Rattle.std.proofs.Common.{◌≡◌, ℕ, zero, suc, ◌+◌, ◌<◌, ◌≤◌, ℤ, Bool, true, false, ◌&&◌, ◌||◌, List, [], ◌∷◌, ◌++◌, length, cond, refl, sym, ap, ◌∙◌, arith}
use Rattle.std.specs.Prelude.{◌==◌, slice_index}
use Rattle.std.specs.Char.{is_ascii_digit}
use Rattle.std.proofs.lemmas.Bool.Decides.{nat_tests}
use Rattle.tp_value.specs.declared.phase.Last.TheVariants.{Bracket, Item, Comma}
use Rattle.tp_value.specs.declared.phase.Phase.{Phase}
use Rattle.tp_value.specs.declared.phase.Phase.TheVariants.{Start, Between, Minus, Digits, Word as InWord}
use Rattle.tp_value.specs.declared.reading.ReadValue.{ReadValue}
use Rattle.tp_value.specs.declared.reading.ReadValue.TheVariants.{NoValue, TooLarge, TooLong, TooDeep, NoMemory}
use Rattle.tp_value.specs.Number.{IsNumber}
use Rattle.tp_value.specs.Tree.{Tree, num}
use Rattle.tp_value.specs.Limits.{item_limit, value_depth_limit}
use Rattle.tp_value.specs.Spelling.{is_value_blank, spelling, Spells}
use Rattle.tp_value.specs.Reading.{ReadingState, Step, goes, ends, refuses, begins_value}
use Rattle.tp_value.specs.Answers.{BeginsValue, Begun, with_byte, begun_in, BeginsWithinLimits}
use Rattle.tp_value.proofs.Stands.{Stands}

-- an item is due
abbrev pub due_of : Phase → Bool
due_of Start = false
due_of (Between Bracket) = true
due_of (Between Item) = false
due_of (Between Comma) = true
due_of (Minus begin) = false
due_of (Digits begin negative n) = false
due_of (InWord b k) = false

abbrev pub tally : ReadingState → Begun
tally s = record { count = s.begun; due = due_of s.phase }

-- what is counted changes by one byte
pub record Tallied (s : ReadingState) (b : ℕ) (t : ReadingState) : Type 0 where
  pub brackets : (cond (b == 60) 1 0) + length s.lists ≡ (cond (b == 62) 1 0) + length t.lists
  pub begun : with_byte (tally s) b ≡ tally t
  pub small : t.begun ≤ item_limit

-- a number past the limit
pub record IsLarge (from : ℕ) (p : List ℕ) (s : ReadingState) (b at : ℕ) : Type 0 where
  pub front : List ℕ
  pub text : List ℕ
  pub number : ℤ
  pub split : p ++ b ∷ [] ≡ front ++ text
  pub place : at ≡ from + length front
  pub so_far : BeginsWithinLimits front
  pub starts : 0 < length front → (begun_in front).due ≡ true
  pub spelled : Spells text (num number)
  pub large : ¬ IsNumber number
  pub goes_on : BeginsValue (front ++ text)
  pub count : (with_byte (tally s) b).count ≤ item_limit

pub record IsLong (from : ℕ) (p : List ℕ) (s : ReadingState) (b at : ℕ) : Type 0 where
  pub place : at ≡ from + length p
  pub so_far : BeginsWithinLimits p
  pub goes_on : BeginsValue (p ++ b ∷ [])
  pub count : (with_byte (tally s) b).count ≡ item_limit + 1

pub record IsDeep (from : ℕ) (p : List ℕ) (s : ReadingState) (b at : ℕ) : Type 0 where
  pub place : at ≡ from + length p
  pub so_far : BeginsWithinLimits p
  pub goes_on : BeginsValue (p ++ b ∷ [])
  pub bracket : b ≡ 60
  pub depth : length s.lists ≡ value_depth_limit
  pub count : (with_byte (tally s) b).count ≤ item_limit

-- why a byte is refused
abbrev pub Refuses : ℕ → List ℕ → ReadingState → ℕ → ReadValue → Type 0
Refuses from p s b (NoValue at) = (at ≡ from + length p) × BeginsWithinLimits p
Refuses from p s b (TooLarge at) = IsLarge from p s b at
Refuses from p s b (TooLong at) = IsLong from p s b at
Refuses from p s b (TooDeep at) = IsDeep from p s b at
Refuses from p s b NoMemory = ⊥

-- a value has ended, with the byte or in front of it
pub record Ended (from : ℕ) (all : List ℕ) (t : Tree) (after : ℕ) : Type 0 where
  pub text : List ℕ
  pub rest : List ℕ
  pub split : all ≡ text ++ rest
  pub spelled : Spells text t
  pub place : after ≡ from + length text

-- what one byte does is right
abbrev pub Told : ℕ → List ℕ → ReadingState → ℕ → Step → Type 0
Told from p s b (goes t) = Stands from (p ++ b ∷ []) t × Tallied s b t
Told from p s b (ends t after) = Ended from (p ++ b ∷ []) t after
Told from p s b (refuses e) = Refuses from p s b e

pub by_test : {A : Type 0} (P : A → Type 0) (c : Bool) (x y : A) → (c ≡ true → P x) → (c ≡ false → P y) → P (cond c x y)
by_test P true x y f g = f refl
by_test P false x y f g = g refl

-- a byte that is no bracket, comma or blank
pub record Plain (b : ℕ) : Type 0 where
  pub opens : (b == 60) ≡ false
  pub closes : (b == 62) ≡ false
  pub comma : (b == 44) ≡ false
  pub blank : is_value_blank b ≡ false

pub digit_plain : (b : ℕ) → is_ascii_digit b ≡ true → Plain b
digit_plain b h = record { opens = grind (arith, nat_tests); closes = grind (arith, nat_tests); comma = grind (arith, nat_tests); blank = grind (arith, nat_tests) }

pub letter_plain : (w : Bool) (k : ℕ) → k < length (spelling w) → Plain (slice_index (spelling w) k)
letter_plain true zero h = record { opens = refl; closes = refl; comma = refl; blank = refl }
letter_plain true (suc zero) h = record { opens = refl; closes = refl; comma = refl; blank = refl }
letter_plain true (suc (suc zero)) h = record { opens = refl; closes = refl; comma = refl; blank = refl }
letter_plain true (suc (suc (suc zero))) h = record { opens = refl; closes = refl; comma = refl; blank = refl }
letter_plain true (suc (suc (suc (suc k)))) h = absurd (omega arith)
letter_plain false zero h = record { opens = refl; closes = refl; comma = refl; blank = refl }
letter_plain false (suc zero) h = record { opens = refl; closes = refl; comma = refl; blank = refl }
letter_plain false (suc (suc zero)) h = record { opens = refl; closes = refl; comma = refl; blank = refl }
letter_plain false (suc (suc (suc zero))) h = record { opens = refl; closes = refl; comma = refl; blank = refl }
letter_plain false (suc (suc (suc (suc zero)))) h = record { opens = refl; closes = refl; comma = refl; blank = refl }
letter_plain false (suc (suc (suc (suc (suc k))))) h = absurd (omega arith)

pub plain_byte : (s : Begun) (b : ℕ) → Plain b → with_byte s b ≡ record { count = cond (s.due && begins_value b) (s.count + 1) s.count; due = false }
plain_byte s b p =
    let count = cond (s.due && begins_value b) (s.count + 1) s.count in
    ap (λ c. cond c s (record { count = count; due = b == 60 || b == 44 })) p.blank ∙ ap (λ d. record { count = count; due = d || b == 44 }) p.opens ∙ ap (λ d. record { count = count; due = d }) p.comma

pub plain_tallied : (s t : ReadingState) (b : ℕ) → Plain b → length s.lists ≡ length t.lists → cond (due_of s.phase && begins_value b) (s.begun + 1) s.begun ≡ t.begun → due_of t.phase ≡ false → t.begun ≤ item_limit → Tallied s b t
plain_tallied s t b p same count due small = record {
  brackets = ap (λ c. (cond c 1 0) + length s.lists) p.opens ∙ ap (λ n. 0 + n) same ∙ ap (λ c. (cond c 1 0) + length t.lists) (sym p.closes);
  begun = plain_byte (tally s) b p ∙ ap (λ n. record { count = n; due = false }) count ∙ ap (λ d. record { count = t.begun; due = d }) (sym due);
  small = small;
}
