use Rattle.std.proofs.Common.{◌+◌, ◌≤◌, length, arith, rules}
use Rattle.tp_lanes.specs.Classes.{in_class}
use Rattle.tp_lanes.proofs.RunLemmas.{run_low, short_run, full_run}
use Rattle.tp_lanes.proofs.run.run_len.Goals as goal

pub overflow_add-end : goal.overflow_add-end
overflow_add-end c =
    let room : c.by_block.end + 16 ≤ length c.args.bytes.now = omega (arith, c.by_block-test.true, c.by_block.invariant.within) in
    let low : c.by_block.end + c.run_in-run.result ≤ length c.args.bytes.now = run_low (in_class c.args.class.now) c.args.bytes.now c.by_block.end 16 _ room c.run_in-run.ensures in
    search (rules, low)

pub returns-then-run-lt-LANES : goal.returns-then-run-lt-LANES
returns-then-run-lt-LANES c =
    let room : c.by_block.end + 16 ≤ length c.args.bytes.now = omega (arith, c.by_block-test.true, c.by_block.invariant.within) in
    short_run (in_class c.args.class.now) c.args.bytes.now c.by_block.end 16 _ room c.run_in-run.ensures (omega (arith, c.if-run-lt-LANES.true)) c.by_block.invariant.so_far

pub by_block-preserved : goal.by_block-preserved
by_block-preserved c =
    let room : c.by_block.end + 16 ≤ length c.args.bytes.now = omega (arith, c.by_block-test.true, c.by_block.invariant.within) in
    record {
      within = run_low (in_class c.args.class.now) c.args.bytes.now c.by_block.end 16 _ room c.run_in-run.ensures;
      so_far = full_run (in_class c.args.class.now) c.args.bytes.now c.by_block.end 16 _ room c.run_in-run.ensures (omega (arith, c.if-run-lt-LANES.false)) c.by_block.invariant.so_far;
    }
