use Rattle.std.proofs.Common.{◌≡◌, ◌+◌, ◌++◌, ℕ, List, false, map, take, drop, ◌∙◌, sym, ap, subst, arith}
use Rattle.std.proofs.lemmas.List.{take_all}
use Rattle.tp_value.specs.Globals.{variable_of}
use Rattle.tp_value.specs.declared.path.VarId.{VarId}
use Rattle.tp_value.specs.declared.path.Fact.{Fact}
use Rattle.tp_store.specs.Known.{IsVariableOf, Variable, global_variable, addition, refuses}
use Rattle.tp_store.specs.Answers.{IsRefusal}
use Rattle.tp_show.specs.declared.named_fact.NamedFact.{NamedFact}
use Rattle.tp_show.specs.declared.trace_part.ReadPart.{ReadPart}
use Rattle.tp_show.specs.Trace.{TracePart, part_facts, parts_facts, have_clash}
use Rattle.tp_show.specs.TraceReading.{trace_part_of, trace_parts_of}
use Rattle.tp_show.specs.TraceFiling.{variable_facts}
use Rattle.tp_show.proofs.TraceNumbers.{variable_is_of}
use Rattle.tp_show.proofs.TraceFiled.{IsFiled, filed_after, filed_free, filed_clash, filed_more, facts_more, facts_split}
use Rattle.tp_show.proofs.trace_facts.facts_clash.Goals as goal

pub add_part-requires : goal.add_part-requires
add_part-requires c =
    let own : IsVariableOf (map global_variable c.variable_for.new.globals) c.in_ok-var.var = variable_is_of c.variable_for.new.globals _ c.in_ok-var.var c.in_ok-var.ensures.variable in
    subst (λ (vs : List Variable). IsVariableOf vs c.in_ok-var.var) (sym c.in_ok-var.ensures.variables) own

pub returns-in-Err-Clash : goal.returns-in-Err-Clash
returns-in-Err-Clash c =
    let seen : List NamedFact = parts_facts (trace_parts_of (take c.loop-part.part-index c.args.parts.now)) in
    let names : List (List ℕ) = c.variable_for.new.globals in
    let kept : List Fact = c.variable_for.new.store.facts in
    let filed : IsFiled names seen kept = filed_after c.loop-part.globals names c.name.result.now seen c.loop-part.store.facts kept c.in_ok-var.ensures.names c.loop-part.invariant.sound.no_clash c.in_ok-var.ensures.sound.no_clash c.in_ok-var.ensures.facts c.loop-part.invariant.filed in
    let i : ℕ = c.loop-part.part-index in
    let p : TracePart = trace_part_of c.part-item.result in
    let x : VarId = c.in_ok-var.var in
    let refused : addition kept (variable_facts x p) ≡ refuses c.in-Err-Clash.field-0-0 c.in-Err-Clash.field-0-1 = subst (IsRefusal (addition kept (variable_facts x p))) c.in-Err-Clash.field-0-is c.in-Err-Clash.ensures.refused in
    let clash = filed_clash names seen kept p x filed (ap (variable_of names) (sym c.name.ensures) ∙ c.in_ok-var.ensures.variable) c.in-Err-Clash.field-0-0 c.in-Err-Clash.field-0-1 refused (parts_facts (trace_parts_of (drop (i + 1) c.args.parts.now))) in
    sym (ap have_clash (facts_split c.args.parts.now i c.part-item.result (omega arith) c.part-item.is) ∙ clash)

pub loop-part-preserved : goal.loop-part-preserved
loop-part-preserved c =
    let seen : List NamedFact = parts_facts (trace_parts_of (take c.loop-part.part-index c.args.parts.now)) in
    let names : List (List ℕ) = c.variable_for.new.globals in
    let kept : List Fact = c.variable_for.new.store.facts in
    let filed : IsFiled names seen kept = filed_after c.loop-part.globals names c.name.result.now seen c.loop-part.store.facts kept c.in_ok-var.ensures.names c.loop-part.invariant.sound.no_clash c.in_ok-var.ensures.sound.no_clash c.in_ok-var.ensures.facts c.loop-part.invariant.filed in
    let added = c.in-Ok.ensures.added in
    let more : IsFiled names (seen ++ part_facts (trace_part_of c.part-item.result)) c.add_part.new.store.facts =
    filed_more names seen kept (trace_part_of c.part-item.result) c.in_ok-var.var filed (ap (variable_of names) (sym c.name.ensures) ∙ c.in_ok-var.ensures.variable) c.in-Ok.field-0 c.add_part.new.store.facts c.in-Ok.ensures.news c.in_ok-var.ensures.sound.no_clash c.in-Ok.ensures.sound.no_clash added.shapes in
    let all = facts_more c.args.parts.now c.loop-part.part-index c.part-item.result (omega arith) c.part-item.is in
    record {
      variables = added.variables ∙ c.in_ok-var.ensures.variables;
      sound = c.in-Ok.ensures.sound;
      filed = subst (λ (fs : List NamedFact). IsFiled names fs c.add_part.new.store.facts) (sym all) more;
    }

pub returns : goal.returns
returns c =
    let parts : List ReadPart = c.args.parts.now in
    let free : have_clash (parts_facts (trace_parts_of (take c.loop-part.part-index parts))) ≡ false = filed_free c.loop-part.globals (parts_facts (trace_parts_of (take c.loop-part.part-index parts))) c.loop-part.store.facts c.loop-part.invariant.filed c.loop-part.invariant.sound.no_clash in
    sym (ap (λ ps. have_clash (parts_facts (trace_parts_of ps))) (sym (take_all c.loop-part.part-index parts (omega arith))) ∙ free)
