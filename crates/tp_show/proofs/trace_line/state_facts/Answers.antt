use Rattle.std.proofs.Common.{◌≡◌, List, ℕ, sym, ap, ◌∙◌, subst, true}
use Rattle.tp_show.specs.declared.trace_part.ReadPart.{ReadPart}
use Rattle.tp_show.specs.Trace.{parts_facts, have_clash}
use Rattle.tp_show.specs.TraceReading.{ArePartsFound, found_parts, trace_parts_of}
use Rattle.tp_show.proofs.TraceLines.{no_parts_there, clash_there}
use Rattle.tp_show.proofs.trace_line.state_facts.Goals as goal

pub returns-in_default-2 : goal.returns-in_default-2
returns-in_default-2 c =
    let rest : List ℕ = c.in-Some.rest.now in
    no_parts_there c.args.number c.args.line.now rest c.in-Some.ensures (subst (λ o. ArePartsFound rest (found_parts o)) c.in_default-2.is c.in_ok-parts.ensures)

pub returns-then-branch : goal.returns-then-branch
returns-then-branch c =
    let rest : List ℕ = c.in-Some.rest.now in
    let parts : List ReadPart = c.in-Some-2.parts.items in
    let spelled = subst (λ o. ArePartsFound rest (found_parts o)) c.in-Some-2.is c.in_ok-parts.ensures in
    let clash : have_clash (parts_facts (trace_parts_of parts)) ≡ true = ap (λ (ps : List ReadPart). have_clash (parts_facts (trace_parts_of ps))) (sym c.as_slice.ensures.value) ∙ (sym c.in_ok-facts_clash.ensures ∙ c.if-branch.true) in
    clash_there c.args.number c.args.line.now rest (trace_parts_of parts) c.in-Some.ensures spelled clash
