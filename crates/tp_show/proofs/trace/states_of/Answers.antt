use Rattle.std.proofs.Common.{◌≡◌, ◌<◌, ◌+◌, ◌++◌, List, ℕ, [], ◌∷◌, sym, ap, ◌∙◌, subst, length, arith}
use Rattle.std.proofs.lemmas.Grind.{common_steps}
use Rattle.std.proofs.lemmas.List.{nil_from_length}
use Rattle.std.specs.Str.Lines.{lines}
use Rattle.tp_show.specs.declared.named_fact.NamedFact.{NamedFact}
use Rattle.tp_show.specs.TraceReading.{IsKindOf}
use Rattle.tp_show.proofs.TraceLines.{some_line}
use Rattle.tp_show.proofs.TraceRuns.{TraceSoFar, line_read, all_read, so_far_state, so_far_passed, end_whole, bad_here, bad_behind_end, stop_whole, stop_bad}
use Rattle.tp_show.proofs.trace.states_of.Goals as goal
use Rattle.tp_show.proofs.trace.states_of.Goals.{in-State+in_ok-push-in-State, in-PassedOver}

pub returns-then-is_empty-clause-trace : goal.returns-then-is_empty-clause-trace
returns-then-is_empty-clause-trace c =
    let text : List ℕ = c.first_line.result.0.now in
    let states : List (List NamedFact) = c.loop-rest.states.items in
    let read = line_read (lines c.args.bytes.now) (lines c.first_line.result.1.now) (lines c.loop-rest.rest.now) text c.loop-rest.line states c.in_ok-state.field-0 c.len.result c.loop-rest.invariant.so_far c.first_line.ensures.lines (omega (arith, c.len.ensures, c.loop-rest.states.ok.0)) (omega (arith, c.len.type_inv)) c.in_ok-state.ensures in
    let ends = subst (IsKindOf (length states) text) c.in-End.is read.told in
    let none : length c.first_line.result.1.now ≡ 0 = grind (arith, common_steps) in
    end_whole (lines c.args.bytes.now) _ text c.loop-rest.line states read.small read.so_far (ap lines (nil_from_length c.first_line.result.1.now none)) ends.0 ends.1

pub returns-in-End-clause-refused : goal.returns-in-End-clause-refused
returns-in-End-clause-refused c =
    let text : List ℕ = c.first_line.result.0.now in
    let states : List (List NamedFact) = c.loop-rest.states.items in
    let read = line_read (lines c.args.bytes.now) (lines c.first_line.result.1.now) (lines c.loop-rest.rest.now) text c.loop-rest.line states c.in_ok-state.field-0 c.len.result c.loop-rest.invariant.so_far c.first_line.ensures.lines (omega (arith, c.len.ensures, c.loop-rest.states.ok.0)) (omega (arith, c.len.type_inv)) c.in_ok-state.ensures in
    let ends = subst (IsKindOf (length states) text) c.in-End.is read.told in
    let some : 0 < length c.first_line.result.1.now = grind (arith, common_steps) in
    let next = some_line c.first_line.result.1.now some in
    let z = subst (λ (ls : List (List ℕ)). TraceSoFar (lines c.args.bytes.now) (text ∷ ls) c.loop-rest.line states) next.2 read.so_far in
    bad_behind_end (lines c.args.bytes.now) next.1 text next.0 c.loop-rest.line states read.small z ends.0 ends.1

pub returns-in-Bad-clause-refused : goal.returns-in-Bad-clause-refused
returns-in-Bad-clause-refused c =
    let text : List ℕ = c.first_line.result.0.now in
    let states : List (List NamedFact) = c.loop-rest.states.items in
    let read = line_read (lines c.args.bytes.now) (lines c.first_line.result.1.now) (lines c.loop-rest.rest.now) text c.loop-rest.line states c.in_ok-state.field-0 c.len.result c.loop-rest.invariant.so_far c.first_line.ensures.lines (omega (arith, c.len.ensures, c.loop-rest.states.ok.0)) (omega (arith, c.len.type_inv)) c.in_ok-state.ensures in
    let bad = subst (IsKindOf (length states) text) c.in-Bad.is read.told in
    bad_here (lines c.args.bytes.now) _ text c.loop-rest.line states read.so_far bad.0 bad.1

pub loop-rest-preserved : goal.loop-rest-preserved
loop-rest-preserved c =
    let text : List ℕ = c.first_line.result.0.now in
    let states : List (List NamedFact) = c.loop-rest.states.items in
    let read = line_read (lines c.args.bytes.now) (lines c.first_line.result.1.now) (lines c.loop-rest.rest.now) text c.loop-rest.line states c.in_ok-state.field-0 c.len.result c.loop-rest.invariant.so_far c.first_line.ensures.lines (omega (arith, c.len.ensures, c.loop-rest.states.ok.0)) (omega (arith, c.len.type_inv)) c.in_ok-state.ensures in
    record {
      short = omega (arith, c.first_line.ensures.less, c.loop-rest.invariant.short);
      so_far = elim c.match-branch-2.branch [
        | in-State+in_ok-push-in-State w ↦
            let facts : List NamedFact = w.in-State.state in
            let told = subst (IsKindOf (length states) text) w.in-State.is read.told in
            let pushed : c.match-branch-2.states.items ≡ states ++ facts ∷ [] = ap (λ v. v.items) w.states-is ∙ w.in_ok-push-in-State.ensures.items in
            subst (λ (ss : List (List NamedFact)). TraceSoFar (lines c.args.bytes.now) (lines c.first_line.result.1.now) (c.loop-rest.line + 1) ss) (sym pushed) (so_far_state _ _ text c.loop-rest.line states read.small read.so_far facts told)
        | in-PassedOver w ↦
            let over = subst (IsKindOf (length states) text) w.in-PassedOver.is read.told in
            let kept : c.match-branch-2.states.items ≡ states = ap (λ v. v.items) w.states-is in
            subst (λ (ss : List (List NamedFact)). TraceSoFar (lines c.args.bytes.now) (lines c.first_line.result.1.now) (c.loop-rest.line + 1) ss) (sym kept) (so_far_passed _ _ text c.loop-rest.line states read.small read.so_far over.0 over.1)
      ];
    }

pub returns-then-is_empty-2-clause-refused : goal.returns-then-is_empty-2-clause-refused
returns-then-is_empty-2-clause-refused c =
    let none : length c.loop-rest.rest.now ≡ 0 = grind (arith, common_steps) in
    let z = all_read (lines c.args.bytes.now) c.loop-rest.rest.now c.loop-rest.line c.loop-rest.states.items none c.loop-rest.invariant.so_far in
    stop_bad _ c.loop-rest.line c.loop-rest.states.items z (grind (arith, common_steps, c.loop-rest.states.ok.0))

pub returns-clause-trace : goal.returns-clause-trace
returns-clause-trace c =
    let none : length c.loop-rest.rest.now ≡ 0 = grind (arith, common_steps) in
    let z = all_read (lines c.args.bytes.now) c.loop-rest.rest.now c.loop-rest.line c.loop-rest.states.items none c.loop-rest.invariant.so_far in
    stop_whole _ c.loop-rest.line c.loop-rest.states.items z (grind (arith, common_steps, c.loop-rest.states.ok.0))
