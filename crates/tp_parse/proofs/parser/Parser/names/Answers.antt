use Rattle.std.proofs.Common.{rules, arith}
use Rattle.std.proofs.lemmas.Grind.{common_steps}
use Rattle.tp_parse.specs.Readers.{names_from}
use Rattle.tp_parse.proofs.Steps.{one_more, no_more}
use Rattle.tp_parse.proofs.parser.Parser.names.Goals as goal

pub returns-then-not-sees : goal.returns-then-not-sees
unfolding names_from
returns-then-not-sees c =
    let e = one_more (λ n. names_from n c.loop-turn.items.items c.loop-turn.self) _ c.loop-turn._turn c.loop-turn-test.true c.loop-turn.invariant in
    first_of (search rules, grind (arith, common_steps))

pub returns-in_err-any_name-2 : goal.returns-in_err-any_name-2
unfolding names_from
returns-in_err-any_name-2 c =
    let e = one_more (λ n. names_from n c.loop-turn.items.items c.loop-turn.self) _ c.loop-turn._turn c.loop-turn-test.true c.loop-turn.invariant in
    first_of (search rules, grind (arith, common_steps))

pub loop-turn-preserved : goal.loop-turn-preserved
unfolding names_from
loop-turn-preserved c =
    let e = one_more (λ n. names_from n c.loop-turn.items.items c.loop-turn.self) _ c.loop-turn._turn c.loop-turn-test.true c.loop-turn.invariant in
    first_of (search rules, grind (arith, common_steps))

pub returns : goal.returns
unfolding names_from
returns c =
    let e = no_more (λ n. names_from n c.loop-turn.items.items c.loop-turn.self) _ c.loop-turn._turn c.loop-turn-test.false c.loop-turn.invariant in
    first_of (search rules, grind (arith, common_steps))
