-- A mode and the name of a file, and no more.
use Rattle.std.proofs.Common.{◌≡◌, ◌≢◌, ℕ, List, [], ◌∷◌, Bool, true, false, Option, None, Some, refl, arith, ap, ap₂, ◌∙◌, ◌&&◌, if◌then◌else◌, slice_index, codes}
use Rattle.std.specs.Option.{option_map, option_and_then}
use Rattle.std.specs.Prelude.{nat_eq, is_some}
use Rattle.std.specs.Str.{IsUtf8, is_utf8}
use Rattle.std.proofs.lemmas.Str.{is_utf8-from_IsUtf8}
use Rattle.clap.proofs.OnLiterals.{clap_on_literals}
use Rattle.clap.specs.Words.{Rule, Kinds}
use Rattle.clap.specs.Simple.{Shape, built, entered}
use Rattle.clap.specs.Kinds.{or_else}
use Rattle.clap.specs.Walk.{Held, Walk, Step, idle, value, word_met, walked, after_step, to_positional, arg_by_index, walk_from, nothing_held, settled, finished}
use Rattle.clap.specs.Faults.{word_fault, turn_fault, step_fault, settle_fault, defaults_fault, check_fault, entered_fault}
use Rattle.tp_words.specs.Options.{the_app, mode_text, needs_other, has_other, size_spelled}
use Rattle.tp_words.specs.declared.mode.Mode.{Mode}
use Rattle.tp_words.specs.declared.mode.Mode.TheVariants.{Run, Print, Convert, Check, Drill}
use Rattle.tp_words.specs.Subject.{IsSubjectOf}
use Rattle.tp_words.specs.Words.{Wanted, wanted_without, wanted_in, wanted_of_texts, wanted_of}
use Rattle.tp_words.specs.Usual.{usual_wanted}

-- what a mode that is named asks for with the word after it
abbrev wanted_with : List ℕ → Mode → Option Wanted
wanted_with file mode = if has_other mode None then Some (usual_wanted mode file) else None

-- what the word `drill` asks for with the word after it, which spells this size or none
abbrev drill_wanted : List ℕ → Option ℕ → Option Wanted
drill_wanted file size = option_and_then (wanted_with file) (option_map Drill size)

-- what a mode and the name of a file ask for
abbrev wanted_of_two : Mode → List ℕ → Option Wanted
wanted_of_two Run file = wanted_with file Run
wanted_of_two Print file = wanted_with file Print
wanted_of_two Convert file = wanted_with file Convert
wanted_of_two Check file = wanted_with file Check
wanted_of_two (Drill size) file = drill_wanted file (size_spelled file)

empty_name : (mode : Mode) → wanted_of_texts (mode_text mode ∷ [] ∷ []) ≡ wanted_of_two mode []
unfolding clap_on_literals wanted_of_texts wanted_in
empty_name Run = refl
empty_name Print = refl
empty_name Convert = refl
empty_name Check = refl
empty_name (Drill size) = refl

not_equal : (x y : ℕ) → (x ≡ y → ⊥) → nat_eq x y ≡ false
not_equal x y apart = grind arith

abbrev the_shape : Shape
the_shape = (built the_app).top

abbrev first_walk : Walk
first_walk = walk_from nothing_held

module _ (x : ℕ) (xs : List ℕ) (e : nat_eq x 45 ≡ false) where
  met : (c : List Rule) (p : ℕ) (h : Held) → word_met c [] false idle p (x ∷ xs) h ≡ (h, value)
  met c p h = rw e (rw e refl)

  no_fault : (s : Shape) (h : Held) → word_fault s [] false idle (x ∷ xs) h ≡ []
  no_fault s h = rw e (rw e refl)

  moved : (c : List Rule) (h : Held) (p : ℕ) → walked c [] (record { held = h; waiting = idle; position = p; is_trailing = false; stopped = None }) (x ∷ xs)
      ≡ to_positional c (arg_by_index c p) (x ∷ xs) (record { held = h; waiting = idle; position = p; is_trailing = false; stopped = None }) h
  unfolding walked
  moved c h p = ap (λ (m : Held × Step). after_step c (x ∷ xs) (record { held = h; waiting = idle; position = p; is_trailing = false; stopped = None }) m.0 m.1) (met c p h)

  turned : (s : Shape) (h : Held) (p : ℕ) → turn_fault s [] (record { held = h; waiting = idle; position = p; is_trailing = false; stopped = None }) (x ∷ xs)
      ≡ step_fault s p h value
  turned s h p = ap₂ (λ (k : Kinds) (m : Held × Step). or_else k (step_fault s p m.0 m.1)) (no_fault s h) (met s.rules p h)

module _ (mode : Mode) where
  -- what is wanted where a walk over two words ended so, and the second had these faults
  abbrev ended : Walk → Kinds → Option Wanted
  ended w faults = wanted_without
      (or_else (or_else (turn_fault the_shape [] first_walk (mode_text mode)) (or_else faults []))
      (or_else (entered_fault (built the_app) w.stopped)
      (or_else (settle_fault the_shape.rules the_shape.args_override_self w.held)
      (or_else (defaults_fault (settled the_shape.rules w.held).rows the_shape.rules)
      (check_fault the_shape (finished the_shape.rules w.held) (is_some (entered (built the_app) w.stopped)))))))
      (finished the_shape.rules w.held)

  abbrev second_held : Held
  second_held = (walked the_shape.rules [] first_walk (mode_text mode)).held

  abbrev second_walk : Walk
  second_walk = record { held = second_held; waiting = idle; position = 2; is_trailing = false; stopped = None }

-- of each mode: what is wanted is what a walk over the second word gives, and where that word is no option the walk has ended
walks : (mode : Mode) (file : List ℕ)
    → (wanted_of_texts (mode_text mode ∷ file ∷ []) ≡ ended mode (walked the_shape.rules [] (second_walk mode) file) (turn_fault the_shape [] (second_walk mode) file))
    × (ended mode (to_positional the_shape.rules (arg_by_index the_shape.rules 2) file (second_walk mode) (second_held mode)) (step_fault the_shape 2 (second_held mode) value) ≡ wanted_of_two mode file)
unfolding clap_on_literals wanted_of_texts wanted_in
walks Run file = (refl, refl)
walks Print file = (refl, refl)
walks Convert file = (refl, refl)
walks Check file = (refl, refl)
walks (Drill size) file = (refl, refl)

enough : (mode : Mode) (file : List ℕ) → (slice_index file 0 ≡ 45 → ⊥) → wanted_of_texts (mode_text mode ∷ file ∷ []) ≡ wanted_of_two mode file
enough mode [] apart = empty_name mode
enough mode (x ∷ xs) apart =
    let other : nat_eq x 45 ≡ false = not_equal x 45 apart in
    let ends = walks mode (x ∷ xs) in
    ends.0 ∙ ap₂ (ended mode) (moved x xs other the_shape.rules (second_held mode) 2) (turned x xs other the_shape (second_held mode) 2) ∙ ends.1

mode_is_text : (mode : Mode) → is_utf8 (mode_text mode) ≡ true
unfolding is_utf8 clap_on_literals
mode_is_text Run = refl
mode_is_text Print = refl
mode_is_text Convert = refl
mode_is_text Check = refl
mode_is_text (Drill size) = refl

two_words : (mode : Mode) (file : List ℕ) → IsUtf8 file → slice_index file 0 ≢ 45 → wanted_of (mode_text mode ∷ file ∷ []) ≡ wanted_of_two mode file
two_words mode file u apart = ap (λ (b : Bool). if b then wanted_of_texts (mode_text mode ∷ file ∷ []) else None) (ap₂ (λ a b. a && (b && true)) (mode_is_text mode) (is_utf8-from_IsUtf8 file u)) ∙ enough mode file apart

enough_for : (mode : Mode) (file : List ℕ) → needs_other mode ≡ false → IsSubjectOf mode file → wanted_of_two mode file ≡ Some (usual_wanted mode file)
enough_for Run file one suits = refl
enough_for Print file one suits = refl
enough_for Convert file one suits = refl
enough_for Check file one suits = let bad : true ≡ false = one in cc
enough_for (Drill size) file one suits = ap (drill_wanted file) suits

too_few_for : (mode : Mode) (file : List ℕ) → needs_other mode ≡ true → wanted_of_two mode file ≡ None
too_few_for Check file two = refl
too_few_for Run file two = let bad : false ≡ true = two in cc
too_few_for Print file two = let bad : false ≡ true = two in cc
too_few_for Convert file two = let bad : false ≡ true = two in cc
too_few_for (Drill size) file two = let bad : false ≡ true = two in cc

pub two_are_enough : (mode : Mode) (file : List ℕ) → needs_other mode ≡ false → IsSubjectOf mode file → IsUtf8 file → slice_index file 0 ≢ 45 → wanted_of (mode_text mode ∷ file ∷ []) ≡ Some (usual_wanted mode file)
two_are_enough mode file one suits u apart = two_words mode file u apart ∙ enough_for mode file one suits

pub two_are_too_few : (mode : Mode) (file : List ℕ) → needs_other mode ≡ true → IsUtf8 file → slice_index file 0 ≢ 45 → wanted_of (mode_text mode ∷ file ∷ []) ≡ None
two_are_too_few mode file two u apart = two_words mode file u apart ∙ too_few_for mode file two

-- a drill with no size, whichever one is looked for
pub no_drill : (text : List ℕ) → size_spelled text ≡ None → IsUtf8 text → slice_index text 0 ≢ 45 → wanted_of (codes "drill" ∷ text ∷ []) ≡ None
no_drill text none u apart = two_words (Drill 1) text u apart ∙ ap (drill_wanted text) none
