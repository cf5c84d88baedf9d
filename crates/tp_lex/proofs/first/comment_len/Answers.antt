use Rattle.std.proofs.Common.{◌+◌, ◌≤◌, length, rules}
use Rattle.tp_lex.proofs.CommentLemmas.{star_closes, star_passes, star_within}
use Rattle.tp_lex.proofs.first.comment_len.Goals as goal

pub overflow_add-star : goal.overflow_add-star
overflow_add-star c =
    let within : c.loop-at.at + c.run_len.result ≤ length c.args.text.now = star_within c.args.text.now c.loop-at.at c.run_len.result c.loop-at-test.true c.run_len.ensures in
    search (rules, within)

pub slice_bounds-starts_with-count : goal.slice_bounds-starts_with-count
slice_bounds-starts_with-count c = star_within c.args.text.now c.loop-at.at c.run_len.result c.loop-at-test.true c.run_len.ensures

pub slice_bounds-starts_with-start : goal.slice_bounds-starts_with-start
slice_bounds-starts_with-start c =
    let within : c.loop-at.at + c.run_len.result ≤ length c.args.text.now = star_within c.args.text.now c.loop-at.at c.run_len.result c.loop-at-test.true c.run_len.ensures in
    search (rules, within)

pub returns-then-starts_with-clause-value : goal.returns-then-starts_with-clause-value
returns-then-starts_with-clause-value c =
    star_closes c.args.text.now c.loop-at.at c.run_len.result c.loop-at-test.true c.loop-at.invariant c.run_len.ensures (first_of (cc, search rules))

pub overflow_add-at : goal.overflow_add-at
overflow_add-at c =
    let within : c.loop-at.at + c.run_len.result ≤ length c.args.text.now = star_within c.args.text.now c.loop-at.at c.run_len.result c.loop-at-test.true c.run_len.ensures in
    search (rules, within)

pub loop-at-preserved : goal.loop-at-preserved
loop-at-preserved c =
    star_passes c.args.text.now c.loop-at.at c.run_len.result c.loop-at-test.true c.loop-at.invariant c.run_len.ensures (first_of (cc, search rules))
