use Rattle.std.proofs.Common.{◌≡◌, ℕ, List, false, ◌∙◌, sym, ap, drop}
use Rattle.std.proofs.lemmas.List.{take_rest}
use Rattle.tp_value.specs.Read.{tree}
use Rattle.tp_show.specs.TraceReading.{is_apart}
use Rattle.tp_show.proofs.TraceParts.{no_value_there, not_apart_there}
use Rattle.tp_show.proofs.trace_part.apart_value.Goals as goal

pub returns-else-is_apart : goal.returns-else-is_apart
returns-else-is_apart c =
    let z : List ℕ = c.args.text.now in
    let no : is_apart (drop c.in-Ok.len z) ≡ false = ap is_apart (sym (take_rest z c.in-Ok.len)) ∙ sym c.is_apart.ensures ∙ c.if-is_apart.false in
    not_apart_there z (tree c.in-Ok.value) c.in-Ok.len c.in-Ok.ensures.found no

pub returns-in_ok-unless_memory-in-Err : goal.returns-in_ok-unless_memory-in-Err
returns-in_ok-unless_memory-in-Err c = no_value_there c.args.text.now c.in-Err.refusal (c.in-Err.ensures.not_found c.in_ok-unless_memory-in-Err.ensures)
