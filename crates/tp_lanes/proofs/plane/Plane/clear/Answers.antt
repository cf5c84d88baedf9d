use Rattle.std.proofs.Common.{sym, ◌∙◌}
use Rattle.tp_lanes.proofs.OneNumber.{word_there, row_there, count_some, size_some, clear_flags, clear_plane}
use Rattle.tp_lanes.proofs.plane.Plane.clear.Goals as goal

pub index_mut-requires : goal.index_mut-requires
index_mut-requires c = word_there c.self.inside c.self.invariant c.self.view_is c.args.n c.requires

pub index_mut-requires-then-has : goal.index_mut-requires-then-has
index_mut-requires-then-has c = row_there c.self.inside c.self.invariant c.self.view_is c.args.n c.requires

pub overflow_sub-index_mut : goal.overflow_sub-index_mut
overflow_sub-index_mut c =
    let row = c.index_mut-then-has in
    count_some c.self.inside c.self.invariant c.self.view_is c.args.n c.requires row.result.now row.ensures.value (sym c.has.ensures ∙ c.if-has.true)

pub overflow_sub-self : goal.overflow_sub-self
overflow_sub-self c = size_some c.self.inside c.self.invariant c.self.view_is c.args.n c.requires (sym c.has.ensures ∙ c.if-has.true)

pub invariant_of-self : goal.invariant_of-self
invariant_of-self c =
    let row = c.index_mut-then-has in
    clear_plane c.self.inside c.self.invariant c.self.view_is c.args.n c.requires c.index_mut.result.now c.index_mut.ensures.value row.result.now row.ensures.value (sym c.has.ensures ∙ c.if-has.true)

pub returns-then-has : goal.returns-then-has
returns-then-has c = clear_flags c.self.inside c.self.invariant c.self.view_is c.args.n c.requires c.index_mut.result.now c.index_mut.ensures.value
