use Rattle.std.proofs.Common.{◌≡◌, ◌++◌, ◌∷◌, [], map, rules, arith}
use Rattle.std.proofs.lemmas.Grind.{common_steps}
use Rattle.std.proofs.lemmas.List.{map_push}
use Rattle.tp_tree.specs.Read.{definition_tree}
use Rattle.tp_parse.specs.Source.{definitions, definitions_from}
use Rattle.tp_parse.proofs.Steps.{one_more, no_more}
use Rattle.tp_parse.proofs.parser.Parser.definitions.Goals as goal

pub loop-turn-init : goal.loop-turn-init
unfolding definitions
loop-turn-init c = first_of (search rules, grind (arith, common_steps))

pub returns-then-not-sees : goal.returns-then-not-sees
unfolding definitions_from
returns-then-not-sees c =
    let e = one_more (λ n. definitions_from n (map definition_tree c.loop-turn.items.items) c.loop-turn.self) _ c.loop-turn._turn c.loop-turn-test.true c.loop-turn.invariant in
    first_of (search rules, grind (arith, common_steps))

pub returns-in_err-definition : goal.returns-in_err-definition
unfolding definitions_from
returns-in_err-definition c =
    let e = one_more (λ n. definitions_from n (map definition_tree c.loop-turn.items.items) c.loop-turn.self) _ c.loop-turn._turn c.loop-turn-test.true c.loop-turn.invariant in
    first_of (search rules, grind (arith, common_steps))

pub loop-turn-preserved : goal.loop-turn-preserved
unfolding definitions_from
loop-turn-preserved c =
    let e = one_more (λ n. definitions_from n (map definition_tree c.loop-turn.items.items) c.loop-turn.self) _ c.loop-turn._turn c.loop-turn-test.true c.loop-turn.invariant in
    let items : map definition_tree c.push.new.self.items ≡ map definition_tree c.loop-turn.items.items ++ definition_tree c.in_ok-definition.field-0 ∷ [] = rw c.in_ok-push.ensures.items (map_push _ c.loop-turn.items.items c.in_ok-definition.field-0) in
    rw items (first_of (search rules, grind (arith, common_steps)))

pub returns : goal.returns
unfolding definitions_from
returns c =
    let e = no_more (λ n. definitions_from n (map definition_tree c.loop-turn.items.items) c.loop-turn.self) _ c.loop-turn._turn c.loop-turn-test.false c.loop-turn.invariant in
    first_of (search rules, grind (arith, common_steps))
