-- Paths: a name, and indices behind it.
use Rattle.std.proofs.Common.{◌≡◌, ℕ, ◌<◌, ◌≤◌, leb, Bool, true, false, not, ◌&&◌, List, [], ◌∷◌, ◌++◌, length, take, drop, slice_index, Option, Some, None, is_none, refl, sym, ap, ◌∙◌, subst, arith, tests, ◌==◌}
use Rattle.std.specs.List.{prefix_len}
use Rattle.std.specs.Char.{is_ascii_alphabetic}
use Rattle.std.proofs.lemmas.Bool.{and_parts}
use Rattle.std.proofs.lemmas.List.{take_at, drop_at, take-append-drop}
use Rattle.tp_value.specs.Limits.{path_limit}
use Rattle.tp_lex.specs.Bytes.{is_name_byte, name_limit}
use Rattle.tp_lex.specs.Spelled.{spelled_word}
use Rattle.tp_lex.proofs.SpellingLemmas.{word_none, no_word}
use Rattle.tp_lex.specs.declared.token.Word.{Word}
use Rattle.tp_show.specs.Trace.{AreNameBytes, IsVariableName, SpellsIndices, none, index, SpellsPath}
use Rattle.tp_show.specs.TraceReading.{is_variable_name}
use Rattle.tp_show.proofs.TraceDigits.{AllPass, Stops, front_len, front_passes, pass_another, no_digit}
use Rattle.tp_show.proofs.TracePaths.{indices_unique}

pass_from : (z : List ℕ) → AreNameBytes z → AllPass is_name_byte z
pass_from [] h = tt
pass_from (b ∷ z) h = (h.0, pass_from z h.1)

from_pass : (z : List ℕ) → AllPass is_name_byte z → AreNameBytes z
from_pass [] h = tt
from_pass (b ∷ z) h = (h.0, from_pass z h.1)

indices_stop : {z at : List ℕ} → SpellsIndices z at → Stops is_name_byte z
indices_stop none = tt
indices_stop (index ds z is h small s) = refl

pub name_true : (name : List ℕ) → IsVariableName name → is_variable_name name ≡ true
name_true name v =
    let short : leb (length name) name_limit ≡ true = (let l = v.short in grind (arith, tests)) in
    let free : is_none (spelled_word name) ≡ true = ap is_none (word_none name v.no_word) in
    ap (λ c. c && (leb (length name) name_limit && is_none (spelled_word name))) v.letter ∙ (ap (λ c. c && is_none (spelled_word name)) short ∙ free)

none_is : (o : Option Word) → is_none o ≡ true → o ≡ None
none_is None e = refl
none_is (Some w) e = absurd cc

pub name_is : (name : List ℕ) → AreNameBytes name → is_variable_name name ≡ true → IsVariableName name
name_is name bytes e =
    let one = and_parts (is_ascii_alphabetic (slice_index name 0)) (leb (length name) name_limit && is_none (spelled_word name)) e in
    let two = and_parts (leb (length name) name_limit) (is_none (spelled_word name)) one.1 in
    let low : leb (length name) name_limit ≡ true = two.0 in
    record { letter = one.0; bytes = bytes; short = grind (arith, tests); no_word = no_word name (none_is (spelled_word name) two.1) }

-- how many bytes of a text are those of a name
abbrev pub name_part : List ℕ → ℕ
name_part text = prefix_len is_name_byte text

pub record PathParts (text name at : List ℕ) : Type 0 where
  pub front : name ≡ take (name_part text) text
  pub back : SpellsIndices (drop (name_part text) text) at
  pub is_name : is_variable_name (take (name_part text) text) ≡ true
  pub few : length at ≤ path_limit

pub path_parts : (text name at : List ℕ) → SpellsPath text name at → PathParts text name at
path_parts text name at s =
    let n : name_part text ≡ length name = ap name_part s.split ∙ front_len is_name_byte name s.indices (pass_from name s.variable_name.bytes) (indices_stop s.spelled) in
    let front : take (name_part text) text ≡ name = ap (λ k. take k text) n ∙ (ap (take (length name)) s.split ∙ take_at name s.indices (length name) refl) in
    let back : drop (name_part text) text ≡ s.indices = ap (λ k. drop k text) n ∙ (ap (drop (length name)) s.split ∙ drop_at name s.indices (length name) refl) in
    record {
      front = sym front;
      back = subst (λ (z : List ℕ). SpellsIndices z at) (sym back) s.spelled;
      is_name = ap is_variable_name front ∙ name_true name s.variable_name;
      few = s.few;
    }

pub path_whole : (text at : List ℕ) → is_variable_name (take (name_part text) text) ≡ true → SpellsIndices (drop (name_part text) text) at → length at ≤ path_limit → SpellsPath text (take (name_part text) text) at
path_whole text at e s few = record {
  variable_name = name_is (take (name_part text) text) (from_pass (take (name_part text) text) (front_passes is_name_byte text)) e;
  indices = drop (name_part text) text;
  split = sym (take-append-drop (name_part text) text);
  spelled = s;
  few = few;
}

-- what is found of a text's front and of what follows it
module _ (text front back : List ℕ) (k : ℕ) (taken : front ≡ take k text) (left : back ≡ drop k text) (n : k ≡ name_part text) where
  front_is : take (name_part text) text ≡ front
  front_is = ap (λ j. take j text) (sym n) ∙ sym taken

  back_is : drop (name_part text) text ≡ back
  back_is = ap (λ j. drop j text) (sym n) ∙ sym left

  pub no_name_there : is_variable_name front ≡ false → (name at : List ℕ) → ¬ SpellsPath text name at
  no_name_there e name at s = let yes : is_variable_name front ≡ true = ap is_variable_name (sym front_is) ∙ (path_parts text name at s).is_name in absurd (cc)

  pub no_indices_there : ((at : List ℕ) → ¬ SpellsIndices back at) → (name at : List ℕ) → ¬ SpellsPath text name at
  no_indices_there never name at s = never at (subst (λ (z : List ℕ). SpellsIndices z at) back_is (path_parts text name at s).back)

  pub too_many_there : (is : List ℕ) → SpellsIndices back is → path_limit < length is → (name at : List ℕ) → ¬ SpellsPath text name at
  too_many_there is spelled many name at s =
      let p = path_parts text name at s in
      let same : at ≡ is = indices_unique (subst (λ (z : List ℕ). SpellsIndices z at) back_is p.back) spelled in
      let few = p.few in
      absurd (omega (arith, few, many, ap length same))

  pub path_there : (is : List ℕ) → is_variable_name front ≡ true → SpellsIndices back is → length is ≤ path_limit → SpellsPath text front is
  path_there is e spelled few =
      subst (λ (name : List ℕ). SpellsPath text name is) front_is (path_whole text is (ap is_variable_name front_is ∙ e) (subst (λ (z : List ℕ). SpellsIndices z is) (sym back_is) spelled) few)

-- a text spells one path
pub path_unique : (text name at other more : List ℕ) → SpellsPath text name at → SpellsPath text other more → (name ≡ other) × (at ≡ more)
path_unique text name at other more s t =
    let a = path_parts text name at s in
    let b = path_parts text other more t in
    (a.front ∙ sym b.front, indices_unique a.back b.back)

-- no byte of a path is this one
pub passes_append : (p : ℕ → Bool) (xs ys : List ℕ) → AllPass p xs → AllPass p ys → AllPass p (xs ++ ys)
passes_append p [] ys h k = k
passes_append p (x ∷ xs) ys h k = (h.0, passes_append p xs ys h.1 k)

indices_pass : {z at : List ℕ} → SpellsIndices z at → AllPass (λ b. not (b == 61)) z
indices_pass none = tt
indices_pass (index ds z is h small s) = (refl, passes_append (λ b. not (b == 61)) ds (93 ∷ z) (no_digit 61 ds refl h) (refl, indices_pass s))

pub path_passes : (text name at : List ℕ) → SpellsPath text name at → AllPass (λ b. not (b == 61)) text
path_passes text name at s =
    subst (AllPass (λ b. not (b == 61))) (sym s.split) (passes_append (λ b. not (b == 61)) name s.indices (pass_another is_name_byte 61 name refl (pass_from name s.variable_name.bytes)) (indices_pass s.spelled))

-- a path doesn't begin with `|`
pub no_bar_first : (z name at : List ℕ) → ¬ SpellsPath (124 ∷ z) name at
no_bar_first z name at s = by name s.variable_name.letter s.split
  where
    by : (name : List ℕ) → is_ascii_alphabetic (slice_index name 0) ≡ true → 124 ∷ z ≡ name ++ s.indices → ⊥
    by [] letter e = absurd cc
    by (b ∷ y) letter e = let same : 124 ≡ b = cc in let bad : is_ascii_alphabetic 124 ≡ true = subst (λ (x : ℕ). is_ascii_alphabetic x ≡ true) (sym same) letter in absurd cc
