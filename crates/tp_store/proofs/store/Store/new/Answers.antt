use Rattle.std.proofs.Common.{arith}
use Rattle.tp_store.proofs.Parts.{new_parts, new_contents}
use Rattle.tp_store.proofs.store.Store.new.Goals as goal

pub invariant_of-result : goal.invariant_of-result
invariant_of-result c = new_parts c.in_ok-entries.entries.items c.in_ok-state.state c.in_ok-fixed.fixed c.in_ok-state.ensures.kind c.in_ok-state.ensures.facts c.in_ok-fixed.ensures.kind c.in_ok-fixed.ensures.facts (omega (arith, c.len.ensures, c.in_ok-entries.entries.ok.0, c.in_ok-state.ensures.placed)) (omega (arith, c.len-2.ensures, c.in_ok-entries.entries.ok.0, c.in_ok-fixed.ensures.placed))

pub returns : goal.returns
returns c = new_contents c.in_ok-entries.entries.items c.in_ok-state.state c.in_ok-fixed.fixed c.args.globals.now c.in_ok-state.ensures.facts c.in_ok-fixed.ensures.facts c.in_ok-entries.ensures
