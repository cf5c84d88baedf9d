use Rattle.std.proofs.Common.{◌≡◌, ℕ, List, ◌∙◌, sym, ap, subst, Some, take, drop}
use Rattle.std.proofs.lemmas.Option.{none-some}
use Rattle.tp_value.specs.Limits.{length_limit}
use Rattle.tp_show.specs.Trace.{has_length}
use Rattle.tp_show.specs.TraceReading.{len_before, digits_within, IsPathFound, IsLengthAt}
use Rattle.tp_show.proofs.TraceParts.{LengthThere, length_there, length_at}
use Rattle.tp_show.proofs.trace_part.length_part.Goals as goal

pub returns-in_default : goal.returns-in_default
returns-in_default c = λ p rest l. (subst (IsPathFound c.args.path.now) c.in_default.is c.in_ok-path.ensures) l.name l.at l.spelled_path

pub returns-in_default-digits_within : goal.returns-in_default-digits_within
returns-in_default-digits_within c = λ p rest l.
    let there : LengthThere c.args.path.now c.args.text.now p rest = length_there c.args.path.now c.args.text.now p rest l in
    let n : c.len_before-len.result ≡ len_before 32 c.args.text.now = c.len_before-len.ensures.value in
    none-some there.number (sym c.in_default-digits_within.is ∙ c.digits_within.ensures ∙ ap (λ k. digits_within length_limit (take k c.args.text.now)) n ∙ there.within)

pub returns : goal.returns
returns c =
    let z : List ℕ = c.args.text.now in
    let k : ℕ = c.in-Some-digits_within.length in
    let n : c.len_before-len.result ≡ len_before 32 z = c.len_before-len.ensures.value in
    let within : digits_within length_limit (take (len_before 32 z) z) ≡ Some k = ap (λ j. digits_within length_limit (take j z)) (sym n) ∙ sym c.digits_within.ensures ∙ c.in-Some-digits_within.is in
    let at : IsLengthAt c.args.path.now z (has_length c.in-Some.path.name c.in-Some.path.at k) (drop (len_before 32 z) z) =
    length_at c.args.path.now z c.in-Some.path.name c.in-Some.path.at k (subst (IsPathFound c.args.path.now) c.in-Some.is c.in_ok-path.ensures) within in
    (c.len_before-len.ensures.within, subst (λ (j : ℕ). IsLengthAt c.args.path.now z (has_length c.in-Some.path.name c.in-Some.path.at k) (drop j z)) (sym n) at)
