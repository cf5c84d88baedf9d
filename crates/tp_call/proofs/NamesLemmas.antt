-- The names of a program's variables are words, and none stands twice.
use Rattle.std.proofs.Common.{◌≡◌, ◌<◌, ◌+◌, ℕ, zero, suc, Bool, true, false, cond, IsTrue, List, [], ◌∷◌, length, All, Contains, refl, ap, sym, arith}
use Rattle.std.specs.List.{list_any, prefix_len}
use Rattle.std.specs.Str.{bytes_eq}
use Rattle.std.proofs.lemmas.Bool.{or_parts}
use Rattle.std.proofs.lemmas.Bool.Decides.{nat_tests}
use Rattle.std.proofs.lemmas.List.Elements.{All-head, All-tail, All-contains}
use Rattle.std.proofs.lemmas.Slice.Eq.{bytes_eq-Decides}
use Rattle.tp_lex.specs.Bytes.{is_name_byte}
use Rattle.tp_lex.specs.Names.{token_names, IsNameText}
use Rattle.tp_lex.proofs.NameLemmas.{names_are_spelled}
use Rattle.tp_tree.specs.Names.{source_names}
use Rattle.tp_parse.proofs.NameLemmas.{names_are_tokens}
use Rattle.tp_meaning.specs.Interval.{ProgramTree}
use Rattle.tp_scope.specs.Names.{has_repeat, AreApart}
use Rattle.tp_check.proofs.NameLaws.{globals_stand_in_source, globals_are_apart}
use Rattle.tp_show.specs.Texts.{global_name}
use Rattle.tp_call.specs.Source.{IsProgram}
use Rattle.tp_show.specs.Told.{is_word_byte, IsWord, AreNames}

name_byte_in_word : (c : ℕ) → is_name_byte c ≡ true → IsTrue (is_word_byte c)
name_byte_in_word c e = grind (arith, nat_tests)

word_from : (x : List ℕ) → length x ≡ prefix_len is_name_byte x → IsWord x
word_from [] e = tt
word_from (c ∷ cs) e = by (is_name_byte c) refl (word_from cs) e
  where
    by : (b : Bool) → is_name_byte c ≡ b → (length cs ≡ prefix_len is_name_byte cs → IsWord cs) → length (c ∷ cs) ≡ cond b (1 + prefix_len is_name_byte cs) 0 → IsWord (c ∷ cs)
    by true is later count = (name_byte_in_word c is, later (omega (arith, count)))
    by false is later count = absurd (omega (arith, count))

-- what holds of all of them holds of the one with that number
name_held : (P : List ℕ → Type 0) (names : List (List ℕ)) (i : ℕ) → All P names → i < length names → P (global_name names i)
name_held P [] i are within = absurd (omega (arith, within))
name_held P (x ∷ xs) zero are within = All-head P x xs are
name_held P (x ∷ xs) (suc i) are within = name_held P xs i (All-tail P x xs are) (omega (arith, within))

-- a name that is none of them is not the one with that number
differs : (x : List ℕ) (names : List (List ℕ)) (i : ℕ) → list_any (bytes_eq x) names ≡ false → i < length names → x ≡ global_name names i → ⊥
differs x [] i none within e = absurd (omega (arith, within))
differs x (y ∷ ys) zero none within e =
    let here = (or_parts (bytes_eq x y) (list_any (bytes_eq x) ys) none).0 in
    let same : bytes_eq x y ≡ true = (bytes_eq-Decides x y).1 e in
    absurd cc
differs x (y ∷ ys) (suc i) none within e = differs x ys i (or_parts (bytes_eq x y) (list_any (bytes_eq x) ys) none).1 (omega (arith, within)) e

one_number : (names : List (List ℕ)) → AreApart names → (i j : ℕ) → i < length names → j < length names → global_name names i ≡ global_name names j → i ≡ j
one_number [] apart i j p q e = absurd (omega (arith, p))
one_number (x ∷ xs) apart zero zero p q e = refl
one_number (x ∷ xs) apart zero (suc j) p q e = absurd (differs x xs j (or_parts (list_any (bytes_eq x) xs) (has_repeat xs) apart).0 (omega (arith, q)) e)
one_number (x ∷ xs) apart (suc i) zero p q e = absurd (differs x xs i (or_parts (list_any (bytes_eq x) xs) (has_repeat xs) apart).0 (omega (arith, p)) (sym e))
one_number (x ∷ xs) apart (suc i) (suc j) p q e = ap suc (one_number xs (or_parts (list_any (bytes_eq x) xs) (has_repeat xs) apart).1 i j (omega (arith, p)) (omega (arith, q)) e)

pub names_are : (source : List ℕ) (program : ProgramTree) → IsProgram source program → AreNames program.globals
names_are source program is =
    let in_source = globals_stand_in_source is.tree program is.checked in
    let in_tokens = names_are_tokens is.tokens is.tree is.accepted in
    let spelled = names_are_spelled source is.tokens is.are_tokens in
    record {
      words = λ i within.
          let token = All-contains (Contains (token_names is.tokens)) (source_names is.tree) (global_name program.globals i) in_tokens (name_held (Contains (source_names is.tree)) program.globals i in_source within) in
          word_from (global_name program.globals i) (All-contains IsNameText (token_names is.tokens) (global_name program.globals i) spelled token).longest;
      apart = one_number program.globals (globals_are_apart is.tree program is.checked);
    }
