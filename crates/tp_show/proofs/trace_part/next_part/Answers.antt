use Rattle.std.proofs.Common.{ℕ, List, ◌∙◌, sym, ap, subst, take, drop, length, ◌-◌}
use Rattle.std.proofs.lemmas.List.{take_rest}
use Rattle.tp_show.specs.TraceReading.{IsPartFound, BeginsWithPart}
use Rattle.tp_show.proofs.trace_part.next_part.Goals as goal

pub returns-in-None : goal.returns-in-None
returns-in-None c = λ p rest next.
    let z : List ℕ = c.args.text.now in
    let more : List ℕ = take (length z - 1) (drop 1 z) in
    let found = subst (IsPartFound more) c.in-None.is c.in_ok-part.ensures in
    found p rest (subst (λ (x : List ℕ). BeginsWithPart x p rest) (sym (take_rest z 1 ∙ ap (drop 1) next.1)) next.2)
