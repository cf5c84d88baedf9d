use Rattle.std.proofs.Common.{◌≡◌, ◌<◌, ℕ, List, [], ◌∷◌, ◌++◌, ◌∙◌, sym, ap, arith, subst, length, drop}
use Rattle.std.proofs.lemmas.Grind.{common_steps}
use Rattle.std.proofs.lemmas.List.{nil_from_length, take_rest, map_push}
use Rattle.tp_show.specs.TraceReading.{IsNextPart, trace_part_of, trace_parts_of}
use Rattle.tp_show.specs.declared.trace_part.ReadPart.{ReadPart}
use Rattle.tp_show.proofs.TraceSpelled.{PartsGoOn, parts_fail, parts_next, parts_end, next_longer}
use Rattle.tp_show.proofs.trace_part.read_parts.Goals as goal

pub slice_bounds-rest-start : goal.slice_bounds-rest-start
slice_bounds-rest-start c = (subst (IsNextPart c.loop-rest.rest.now) c.in-Some.is c.in_ok-part.ensures).0

pub loop-rest-smaller : goal.loop-rest-smaller
loop-rest-smaller c =
    let rest : List ℕ = c.loop-rest.rest.now in
    let found = subst (IsNextPart rest) c.in-Some.is c.in_ok-part.ensures in
    let longer : length (drop c.in-Some.len rest) < length rest = next_longer rest (trace_part_of c.in-Some.part) (drop c.in-Some.len rest) found.1 in
    let less = take_rest rest c.in-Some.len in
    omega (arith, ap length less, longer)

pub returns-in_default : goal.returns-in_default
returns-in_default c =
    let some : 0 < length c.loop-rest.rest.now = grind (arith, common_steps) in
    parts_fail c.args.text.now c.loop-rest.rest.now (trace_parts_of c.loop-rest.parts.items) c.loop-rest.invariant (λ e. let none = ap length e in absurd (omega (arith, some, none)))
    (subst (IsNextPart c.loop-rest.rest.now) c.in_default.is c.in_ok-part.ensures)

pub loop-rest-preserved : goal.loop-rest-preserved
loop-rest-preserved c =
    let text : List ℕ = c.args.text.now in
    let rest : List ℕ = c.loop-rest.rest.now in
    let parts : List ReadPart = c.loop-rest.parts.items in
    let len : ℕ = c.in-Some.len in
    let found = subst (IsNextPart rest) c.in-Some.is c.in_ok-part.ensures in
    let on : PartsGoOn text (drop len rest) (trace_parts_of parts ++ trace_part_of c.in-Some.part ∷ []) = parts_next text rest (trace_parts_of parts) (trace_part_of c.in-Some.part) (drop len rest) c.loop-rest.invariant found.1 in
    let pushed : trace_parts_of c.push.new.self.items ≡ trace_parts_of parts ++ trace_part_of c.in-Some.part ∷ [] = ap trace_parts_of c.in_ok-push.ensures.items ∙ map_push trace_part_of parts c.in-Some.part in
    subst (λ (z : List ℕ). PartsGoOn text z (trace_parts_of c.push.new.self.items)) (sym (take_rest rest len)) (subst (PartsGoOn text (drop len rest)) (sym pushed) on)

pub returns : goal.returns
returns c =
    let none : c.loop-rest.rest.now ≡ [] = nil_from_length c.loop-rest.rest.now (grind (arith, common_steps)) in
    parts_end c.args.text.now (trace_parts_of c.loop-rest.parts.items) (subst (λ (z : List ℕ). PartsGoOn c.args.text.now z (trace_parts_of c.loop-rest.parts.items)) none c.loop-rest.invariant)
