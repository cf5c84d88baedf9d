use Rattle.std.proofs.Common.{List, ℕ, ◌≡◌, ◌∙◌, ◌∷◌, ap, sym, subst, arith}
use Rattle.std.proofs.lemmas.Grind.{common_steps}
use Rattle.std.specs.Str.Lines.{lines}
use Rattle.tp_inputs.specs.declared.span.LineHead.{LineHead}
use Rattle.tp_inputs.specs.Spans.{has_ranges, head_of}
use Rattle.tp_inputs.specs.Table.{IsLine}
use Rattle.tp_inputs.specs.Model.{table_of}
use Rattle.tp_inputs.specs.Read.{IsLineRefusal}
use Rattle.tp_inputs.specs.InputsRefusals.{IsInputsRefusal}
use Rattle.tp_inputs.proofs.PartLemmas.{no_more}
use Rattle.tp_inputs.proofs.TableLemmas.{ReadsSoFar, line_more, refused_in, table_whole}
use Rattle.tp_inputs.proofs.WithinLemmas.{tables_within}
use Rattle.tp_inputs.proofs.reading.read_inputs.Goals as goal

pub loop-rest-preserved : goal.loop-rest-preserved
loop-rest-preserved c =
    let bytes : List ℕ = c.args.bytes.now in
    let texts = lines bytes in
    let number = c.loop-rest.number in
    let line = c.first_line.result.0.now in
    let old = table_of c.loop-rest.ports in
    let new = table_of c.take_line.new.ports in
    let head : c.head_of.result ≡ head_of (has_ranges texts) number line = c.head_of.ensures.value ∙ ap (λ s. head_of s number line) c.has_ranges-second.ensures in
    let so_far : ReadsSoFar (has_ranges texts) texts number old (line ∷ lines c.first_line.result.1.now) = subst (ReadsSoFar (has_ranges texts) texts number old) c.first_line.ensures.lines c.loop-rest.invariant.so_far in
    let is = subst (λ (h : LineHead). IsLine h line old new) head c.in_default.ensures.line in
    record {
      so_far = line_more (has_ranges texts) texts number old new line (lines c.first_line.result.1.now) so_far is;
      apart = c.in_default.ensures.kept;
      few = let less = c.first_line.ensures.less in let few = c.loop-rest.invariant.few in omega arith;
    }

pub returns-in-Err-clause-refused : goal.returns-in-Err-clause-refused
returns-in-Err-clause-refused c =
    let bytes : List ℕ = c.args.bytes.now in
    let texts = lines bytes in
    let number = c.loop-rest.number in
    let line = c.first_line.result.0.now in
    let old = table_of c.loop-rest.ports in
    let head : c.head_of.result ≡ head_of (has_ranges texts) number line = c.head_of.ensures.value ∙ ap (λ s. head_of s number line) c.has_ranges-second.ensures in
    let so_far : ReadsSoFar (has_ranges texts) texts number old (line ∷ lines c.first_line.result.1.now) = subst (ReadsSoFar (has_ranges texts) texts number old) c.first_line.ensures.lines c.loop-rest.invariant.so_far in
    subst (IsInputsRefusal bytes) (sym c.in_line.ensures) (refused_in bytes number old line (lines c.first_line.result.1.now) c.in-Err.refusal so_far (subst (λ (h : LineHead). IsLineRefusal h line old c.in-Err.refusal) head c.in-Err.ensures.refused))

pub returns-clause-table : goal.returns-clause-table
returns-clause-table c = table_whole c.args.bytes.now c.loop-rest.rest.now c.loop-rest.number (table_of c.loop-rest.ports) c.loop-rest.invariant.so_far (no_more c.loop-rest.rest.now (grind (arith, common_steps)))

pub invariant_of-result : goal.invariant_of-result
invariant_of-result c =
    let table = table_of c.loop-rest.ports in
    let bytes : List ℕ = c.args.bytes.now in
    record { within = tables_within bytes table (table_whole bytes c.loop-rest.rest.now c.loop-rest.number table c.loop-rest.invariant.so_far (no_more c.loop-rest.rest.now (grind (arith, common_steps)))); apart = c.loop-rest.invariant.apart }
