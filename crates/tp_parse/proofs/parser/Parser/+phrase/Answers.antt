use Rattle.std.proofs.Common.{◌≡◌, ◌≤◌, ◌≢◌, ℕ, suc, sym, ◌+◌, ◌-◌, ◌<◌, ◌++◌, ◌∷◌, [], rules, arith, ap, ◌∙◌, map, Err}
use Rattle.std.proofs.lemmas.Grind.{common_steps}
use Rattle.std.proofs.lemmas.List.{map_push}
use Rattle.std.proofs.lemmas.Result.{err_from_is_err_and}
use Rattle.tp_tree.specs.Read.{phrase_tree}
use Rattle.tp_parse.specs.Marks.{before, role_at, Tokens, mark}
use Rattle.tp_parse.specs.declared.mark.TokenRole.TheVariants.{Ends}
use Rattle.tp_parse.specs.Grammar.{operands_of}
use Rattle.tp_parse.specs.Seen.{seen}
use Rattle.tp_parse.specs.Reading.{read, operations, go, others, others_from, levels}
use Rattle.tp_parse.proofs.Steps.{one_more, no_more, NoneBetween, read_levels, levels_first, level_next, err_last, operations_end}
use Rattle.tp_parse.proofs.parser.Parser.+phrase.Goals as goal
use Rattle.tp_parse.proofs.parser.Parser.+phrase.Goals.{phrase-then-not-ends+in_ok-left-2, phrase-else-not-ends}

pub operations-loop-turn-init : goal.operations-loop-turn-init
unfolding operations
operations-loop-turn-init t c = first_of (search rules, grind (arith, common_steps))

pub operations-returns-in_err-next-clause-reads : goal.operations-returns-in_err-next-clause-reads
unfolding go
operations-returns-in_err-next-clause-reads t c =
    let e = one_more (λ n. go (read c.args.room) c.args.room c.args.level c.args.at n (seen c.loop-turn.left) c.loop-turn.self) _ c.loop-turn._turn c.loop-turn-test.true c.loop-turn.invariant.reads in
    first_of (search rules, grind (arith, common_steps))

pub operations-returns-then-not-more-clause-reads : goal.operations-returns-then-not-more-clause-reads
unfolding go
operations-returns-then-not-more-clause-reads t c =
    let e = one_more (λ n. go (read c.args.room) c.args.room c.args.level c.args.at n (seen c.loop-turn.left) c.loop-turn.self) _ c.loop-turn._turn c.loop-turn-test.true c.loop-turn.invariant.reads in
    first_of (search rules, grind (arith, common_steps))

pub operations-loop-turn-preserved : goal.operations-loop-turn-preserved
unfolding go
operations-loop-turn-preserved t c =
    let e = one_more (λ n. go (read c.args.room) c.args.room c.args.level c.args.at n (seen c.loop-turn.left) c.loop-turn.self) _ c.loop-turn._turn c.loop-turn-test.true c.loop-turn.invariant.reads in
    first_of (search rules, grind (arith, common_steps))

pub operations-returns-clause-reads : goal.operations-returns-clause-reads
unfolding go
operations-returns-clause-reads t c =
    let e = no_more (λ n. go (read c.args.room) c.args.room c.args.level c.args.at n (seen c.loop-turn.left) c.loop-turn.self) _ c.loop-turn._turn c.loop-turn-test.false c.loop-turn.invariant.reads in
    first_of (search rules, grind (arith, common_steps))

pub others-loop-turn-init : goal.others-loop-turn-init
unfolding others
others-loop-turn-init t c =
    let items : map phrase_tree c.push.new.self.items ≡ phrase_tree c.args.first.phrase ∷ [] = ap (map phrase_tree) c.in_ok-push.ensures.items ∙ ap (λ xs. map phrase_tree (xs ++ c.args.first.phrase ∷ [])) c.new-items.ensures.items in
    record { reads = rw items (first_of (search rules, grind (arith, common_steps))); low = omega arith }

pub others-returns-then-not-sees-clause-reads : goal.others-returns-then-not-sees-clause-reads
unfolding others_from
others-returns-then-not-sees-clause-reads t c =
    let e = one_more (λ n. others_from (read c.args.room) c.args.room c.args.level c.args.separator n (operands_of (map phrase_tree c.loop-turn.items.items) c.loop-turn.height) c.loop-turn.self) _ c.loop-turn._turn c.loop-turn-test.true c.loop-turn.invariant.reads in
    first_of (search rules, grind (arith, common_steps))

pub others-returns-in_err-next-clause-reads : goal.others-returns-in_err-next-clause-reads
unfolding others_from
others-returns-in_err-next-clause-reads t c =
    let e = one_more (λ n. others_from (read c.args.room) c.args.room c.args.level c.args.separator n (operands_of (map phrase_tree c.loop-turn.items.items) c.loop-turn.height) c.loop-turn.self) _ c.loop-turn._turn c.loop-turn-test.true c.loop-turn.invariant.reads in
    first_of (search rules, grind (arith, common_steps))

pub others-loop-turn-preserved : goal.others-loop-turn-preserved
unfolding others_from
others-loop-turn-preserved t c =
    let e = one_more (λ n. others_from (read c.args.room) c.args.room c.args.level c.args.separator n (operands_of (map phrase_tree c.loop-turn.items.items) c.loop-turn.height) c.loop-turn.self) _ c.loop-turn._turn c.loop-turn-test.true c.loop-turn.invariant.reads in
    let items : map phrase_tree c.push-in-loop-turn.new.self.items ≡ map phrase_tree c.loop-turn.items.items ++ phrase_tree c.in_ok-next.next.phrase ∷ [] = rw c.in_ok-push-2.ensures.items (map_push _ c.loop-turn.items.items c.in_ok-next.next.phrase) in
    record { reads = rw items (first_of (search rules, grind (arith, common_steps))); low = first_of (search rules, grind (arith, common_steps)) }

pub others-returns-clause-reads : goal.others-returns-clause-reads
unfolding others_from
others-returns-clause-reads t c =
    let e = no_more (λ n. others_from (read c.args.room) c.args.room c.args.level c.args.separator n (operands_of (map phrase_tree c.loop-turn.items.items) c.loop-turn.height) c.loop-turn.self) _ c.loop-turn._turn c.loop-turn-test.false c.loop-turn.invariant.reads in
    first_of (search rules, grind (arith, common_steps))

none_between : (start level : ℕ) (ts : Tokens) → ((j : ℕ) → start ≤ j → j < level → before (mark ts) ≢ j + 1) → NoneBetween start level ts
none_between start level ts others j le lt e = others j le lt (let one : j + 1 ≡ suc j = omega arith in rw one e)

pub phrase-returns-then-room-eq0-clause-reads : goal.phrase-returns-then-room-eq0-clause-reads
unfolding read
phrase-returns-then-room-eq0-clause-reads t c = let none : c.args.room ≡ 0 = omega arith in rw none (λ _. ap (λ r. Err r) (sym c.unfit.ensures))

pub phrase-loop-lower-init : goal.phrase-loop-lower-init
phrase-loop-lower-init t c = record {
  reads = levels_first (read (c.args.room - 1)) (c.args.room - 1) c.start_level-start.result c.args.self.now (λ q. ap before (sym c.mark.ensures) ∙ c.start_level-start.ensures.own q) ∙ c.in_ok-left.ensures.reads;
  low = omega (arith, c.in_ok-left.ensures.low);
}

pub phrase-returns-in_err-left-clause-reads : goal.phrase-returns-in_err-left-clause-reads
phrase-returns-in_err-left-clause-reads t c =
    let ts = c.args.self.now in
    let room = c.args.room - 1 in
    let p = err_from_is_err_and c.from_residual.result c.from_residual.ensures.1 in
    let others = none_between c.start_level-start.result c.args.level ts (λ j le lt e. c.start_level-start.ensures.others j le lt (ap before c.mark.ensures ∙ e)) in
    rw (p.1, p.2) (λ q. read_levels c.args.room c.args.level ts (omega arith) ∙ err_last (read room) room c.start_level-start.result c.args.level ts c.in_err-left.field-0.0 others c.start_level-start.ensures.low
    (levels_first (read room) room c.start_level-start.result ts (λ z. ap before (sym c.mark.ensures) ∙ c.start_level-start.ensures.own z) ∙ c.in_err-left.ensures.reads q))

pub phrase-returns-in_err-left-2-clause-reads : goal.phrase-returns-in_err-left-2-clause-reads
phrase-returns-in_err-left-2-clause-reads t c =
    let ts = c.args.self.now in
    let room = c.args.room - 1 in
    let p = err_from_is_err_and c.from_residual-in_err-left-2.result c.from_residual-in_err-left-2.ensures.1 in
    let others : NoneBetween c.loop-lower.lower c.args.level ts = none_between c.loop-lower.lower c.args.level ts (λ j le lt e. c.start_level-start.ensures.others j (omega arith) lt (ap before c.mark.ensures ∙ e)) in
    let higher : NoneBetween (c.loop-lower.lower + 1) c.args.level ts = (λ j le lt e. others j (omega arith) lt e) in
    let next = level_next (read room) room c.loop-lower.lower c.args.level ts c.loop-lower.self (seen c.loop-lower.left) others c.loop-lower-test.true c.loop-lower.invariant.reads in
    rw (p.1, p.2) (λ q. read_levels c.args.room c.args.level ts (omega arith) ∙ err_last (read room) room (c.loop-lower.lower + 1) c.args.level ts c.in_err-left-2.field-0.0 higher (omega arith)
    (next ∙ ap (λ a. operations (read room) room (c.loop-lower.lower + 1) a (seen c.loop-lower.left) c.loop-lower.self) (sym c.from-at.ensures) ∙ c.in_err-left-2.ensures.reads q))

pub phrase-loop-lower-preserved : goal.phrase-loop-lower-preserved
phrase-loop-lower-preserved t c =
    let ts = c.args.self.now in
    let room = c.args.room - 1 in
    let others : NoneBetween c.loop-lower.lower c.args.level ts = none_between c.loop-lower.lower c.args.level ts (λ j le lt e. c.start_level-start.ensures.others j (omega arith) lt (ap before c.mark.ensures ∙ e)) in
    let next = level_next (read room) room c.loop-lower.lower c.args.level ts c.loop-lower.self (seen c.loop-lower.left) others c.loop-lower-test.true c.loop-lower.invariant.reads in
    let here = next ∙ ap (λ a. operations (read room) room (c.loop-lower.lower + 1) a (seen c.loop-lower.left) c.loop-lower.self) (sym c.from-at.ensures) in
    elim c.if-not-ends.branch [
      | phrase-then-not-ends+in_ok-left-2 w ↦ record {
        reads = rw (w.left-is, w.self-is) (here ∙ w.in_ok-left-2.ensures.reads);
        low = rw w.left-is (omega (arith, w.in_ok-left-2.ensures.low));
      }
      | phrase-else-not-ends w ↦
          let role = c.ends.ensures.0 w.if-not-ends.false in
          let none : role_at (c.loop-lower.lower + 1) (mark c.loop-lower.self) ≡ Ends = ap (role_at (c.loop-lower.lower + 1)) (sym c.mark-in-loop-lower.ensures) ∙ sym c.role_at.ensures ∙ role in
          record {
            reads = rw (w.left-is, w.self-is) (here ∙ operations_end (read room) room (c.loop-lower.lower + 1) c.from-at.result (seen c.loop-lower.left) c.loop-lower.self none);
            low = rw w.left-is c.loop-lower.invariant.low;
          }
    ]

pub phrase-returns-clause-reads : goal.phrase-returns-clause-reads
phrase-returns-clause-reads t c =
    let ts = c.args.self.now in
    let room = c.args.room - 1 in
    let same : c.loop-lower.lower ≡ c.args.level = omega arith in
    read_levels c.args.room c.args.level ts (omega arith) ∙ ap (λ k. levels (read room) room k ts) (sym same) ∙ c.loop-lower.invariant.reads
