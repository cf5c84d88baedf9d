use Rattle.std.proofs.Common.{List, ℕ, arith, subst, sym}
use Rattle.std.proofs.lemmas.List.{take_rest}
use Rattle.std.proofs.lemmas.Grind.{common_steps}
use Rattle.std.proofs.lemmas.Result.{err_from_is_err_and}
use Rattle.tp_inputs.specs.Model.{table_of}
use Rattle.tp_inputs.proofs.PartLemmas.{no_more}
use Rattle.tp_inputs.proofs.LineLemmas.{Continues, passes_on, refused_on, at_end, ports_after}
use Rattle.tp_inputs.proofs.line.take_pairs.Goals as goal

pub returns-in_err-len-clause-refused : goal.returns-in_err-len-clause-refused
returns-in_err-len-clause-refused c =
    let p = err_from_is_err_and c.from_residual.result c.from_residual.ensures.1 in
    rw (p.1, p.2) (refused_on c.args.span c.args.text.now c.loop-rest.rest.now (table_of c.args.ports.now) (table_of c.loop-rest.ports) c.in_err-len.field-0.0 c.loop-rest.invariant.so_far c.in_err-len.ensures.refused)

pub loop-rest-preserved : goal.loop-rest-preserved
loop-rest-preserved c =
    let text : List ℕ = c.args.text.now in
    let old = table_of c.loop-rest.ports in
    let new = table_of c.take_part.new.ports in
    record {
      so_far = subst (λ (z : List ℕ). Continues c.args.span text (table_of c.args.ports.now) z new) (sym (take_rest c.loop-rest.rest.now c.in_ok-len.len))
          (passes_on c.args.span text c.loop-rest.rest.now (table_of c.args.ports.now) old new c.in_ok-len.len c.loop-rest.invariant.so_far c.in_ok-len.ensures.passed);
      apart = ports_after c.args.span c.loop-rest.rest.now old new c.in_ok-len.len c.loop-rest.invariant.apart c.in_ok-len.ensures.passed;
    }

pub returns-clause-pairs : goal.returns-clause-pairs
returns-clause-pairs c = at_end c.args.span c.args.text.now c.loop-rest.rest.now (table_of c.args.ports.now) (table_of c.loop-rest.ports) c.loop-rest.invariant.so_far (no_more c.loop-rest.rest.now (grind (arith, common_steps)))
