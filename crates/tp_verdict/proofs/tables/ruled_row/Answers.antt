use Rattle.std.proofs.Common.{◌∙◌, arith}
use Rattle.tp_verdict.specs.Code.{verdict_of}
use Rattle.tp_verdict.specs.Ruled.{ruled}
use Rattle.tp_verdict.proofs.TableLemmas.{row_more}
use Rattle.tp_verdict.proofs.tables.ruled_row.Goals as goal

pub ends-preserved : goal.ends-preserved
ends-preserved c =
    let before = c.ends.invariant in
    let low = c.ends.auto.j in
    record {
      width = c.add.ensures.width ∙ before.width;
      before = λ j h. c.add.ensures.others j (λ q. omega (arith, low, q, h)) ∙ before.before j h;
      parts = row_more (ruled c.args.rule.now c.args.i) c.args.i c.ends.j c.ends.row c.add.new.self (verdict_of c.judge-verdict.result)
          c.add.ensures.here (before.after c.ends.j (omega arith)) c.judge-verdict.ensures c.add.ensures.others before.parts;
      after = λ j h. c.add.ensures.others j (λ q. omega (arith, q, h)) ∙ before.after j (omega (arith, h));
    }

pub returns-clause-parts : goal.returns-clause-parts
returns-clause-parts c = λ j lo hi. c.ends.invariant.parts j lo (let out = c.ends-test.false in omega (arith, out, hi))
