-- The size of a drill is one that words can ask for.
use Rattle.std.proofs.Common.{◌≡◌, ◌<◌, ◌^◌, ℕ, List, Bool, true, false, Option, None, Some, refl, subst, arith, rules, if◌then◌else◌, codes}
use Rattle.std.specs.Option.{option_map}
use Rattle.std.specs.Int.{IsInRange}
use Rattle.std.specs.Str.{bytes_eq}
use Rattle.tp_words.specs.declared.mode.Mode.{Mode}
use Rattle.tp_words.specs.declared.mode.Mode.TheVariants.{Run, Print, Convert, Check, Drill}
use Rattle.tp_words.specs.Options.{mode_text, mode_named, size_spelled, greatest_size}
use Rattle.tp_words.specs.Subject.{HasSize}
use Rattle.tp_words.proofs.NumeralLemmas.{numeral_range}

has_no_size : (mode : Mode) → ((size : ℕ) → mode ≡ Drill size → ⊥) → HasSize mode
has_no_size mode apart size e = absurd (apart size e)

drill_size : (text : List ℕ) (found : Option ℕ) (mode : Mode) → ((n : ℕ) → found ≡ Some n → IsInRange 1 greatest_size n) → option_map Drill found ≡ Some mode → HasSize mode
drill_size text None mode range e = search rules
drill_size text (Some n) mode range e = λ size is. let same : n ≡ size = cc (e, is) in subst (IsInRange 1 greatest_size) same (range n refl)

-- whichever of the names it is
named_size : (run print convert check drill : Bool) (subject : List ℕ) (mode : Mode)
    → (if run then Some Run
    else (if print then Some Print
    else (if convert then Some Convert
    else (if check then Some Check
    else (if drill then option_map Drill (size_spelled subject)
    else None))))) ≡ Some mode → HasSize mode
named_size true print convert check drill subject mode e = has_no_size mode (λ size is. absurd (cc (e, is)))
named_size false true convert check drill subject mode e = has_no_size mode (λ size is. absurd (cc (e, is)))
named_size false false true check drill subject mode e = has_no_size mode (λ size is. absurd (cc (e, is)))
named_size false false false true drill subject mode e = has_no_size mode (λ size is. absurd (cc (e, is)))
named_size false false false false true subject mode e = drill_size subject (size_spelled subject) mode (numeral_range 4 greatest_size subject) e
named_size false false false false false subject mode e = search rules

-- the mode that is named has a size that words can ask for
pub mode_size : (name subject : List ℕ) (mode : Mode) → mode_named name subject ≡ Some mode → HasSize mode
mode_size name subject mode e =
    named_size (bytes_eq name (mode_text Run)) (bytes_eq name (mode_text Print)) (bytes_eq name (mode_text Convert)) (bytes_eq name (mode_text Check)) (bytes_eq name (codes "drill")) subject mode e
