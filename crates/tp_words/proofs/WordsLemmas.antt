-- Words that are no texts, and the range of the limits that words set.
use Rattle.std.proofs.Common.{◌≡◌, ℕ, List, [], ◌∷◌, Bool, true, false, Some, None, if◌then◌else◌, refl, subst, codes, rules}
use Rattle.std.specs.Int.{IsInRange}
use Rattle.std.specs.Str.{IsUtf8, is_utf8}
use Rattle.std.proofs.lemmas.Option.{option_and_then_some}
use Rattle.std.proofs.lemmas.Str.{IsUtf8-from_is_utf8}
use Rattle.clap.specs.Words.{Row, Kinds, first_of, fault_of, matches_of}
use Rattle.tp_words.specs.Options.{the_app, limit_set, greatest_limit, usual_states, usual_reductions, mode_named, has_other, order_set}
use Rattle.tp_words.specs.Subject.{HasSize}
use Rattle.tp_words.specs.Words.{Wanted, wanted_in, wanted_without, wanted_of_texts}
use Rattle.tp_words.proofs.NumeralLemmas.{limit_range}
use Rattle.tp_words.proofs.SizeLemmas.{mode_size}

pub not_text : (bytes : List ℕ) (b : Bool) → is_utf8 bytes ≡ b → (IsUtf8 bytes → ⊥) → is_utf8 bytes ≡ false
not_text bytes true u apart = absurd (apart (IsUtf8-from_is_utf8 bytes u))
not_text bytes false u apart = u

abbrev HasLimits : Wanted → Type 0
HasLimits w = IsInRange 1 greatest_limit w.states × IsInRange 1 greatest_limit w.reductions
    × (has_other w.mode w.other ≡ true) × HasSize w.mode

some_is : {A : Type 0} {a b : A} → Some a ≡ Some b → a ≡ b
some_is e = cc

-- what is there only where a test is passed
where_true : {A : Type 0} {a c : A} (b : Bool) → (if b then Some a else None) ≡ Some c → (b ≡ true) × (a ≡ c)
where_true true e = (refl, some_is e)
where_true false e = search rules

in_limits : (rows : List Row) (w : Wanted) → wanted_in rows ≡ Some w → HasLimits w
unfolding wanted_in
in_limits rows w e = option_and_then_some _ (first_of (codes "mode") rows) w e
    (λ name n e0. option_and_then_some _ (first_of (codes "file") rows) w e0
    (λ file f e1. option_and_then_some _ (mode_named name file) w e1
    (λ mode m e2. option_and_then_some _ (limit_set usual_states (first_of (codes "states") rows)) w e2
    (λ states s e3. option_and_then_some _ (limit_set usual_reductions (first_of (codes "reductions") rows)) w e3
    (λ reductions r e4. option_and_then_some _ (order_set (first_of (codes "order") rows)) w e4
    (λ order o e5. let found = where_true (has_other mode (first_of (codes "with") rows)) e5 in subst HasLimits found.1 (
      limit_range usual_states (first_of (codes "states") rows) states (search rules) s,
      limit_range usual_reductions (first_of (codes "reductions") rows) reductions (search rules) r,
      found.0,
      mode_size name file mode m,
    )))))))

without_limits : (kinds : Kinds) (rows : List Row) (w : Wanted) → wanted_without kinds rows ≡ Some w → HasLimits w
without_limits [] rows w e = in_limits rows w e
without_limits (kind ∷ kinds) rows w e = search rules

pub texts_limits : (texts : List (List ℕ)) (w : Wanted) → wanted_of_texts texts ≡ Some w → HasLimits w
unfolding wanted_of_texts
texts_limits texts w e = without_limits (fault_of the_app texts) (matches_of the_app texts) w e
