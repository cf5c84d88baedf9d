use Rattle.std.proofs.Common.{sym, ◌∙◌, rules}
use Rattle.tp_lanes.proofs.OneNumber.{word_there, row_there, count_small, size_small, set_flags, set_plane}
use Rattle.tp_lanes.proofs.plane.Plane.set.Goals as goal

pub index_mut-requires : goal.index_mut-requires
index_mut-requires c = word_there c.self.inside c.self.invariant c.self.view_is c.args.n c.requires

pub index_mut-requires-then-not-has : goal.index_mut-requires-then-not-has
index_mut-requires-then-not-has c = row_there c.self.inside c.self.invariant c.self.view_is c.args.n c.requires

pub overflow_add-index_mut : goal.overflow_add-index_mut
overflow_add-index_mut c =
    let row = c.index_mut-then-not-has in
    let small = count_small c.self.inside c.self.invariant c.self.view_is c.args.n c.requires row.result.now row.ensures.value in
    search (rules, small)

pub overflow_add-self : goal.overflow_add-self
overflow_add-self c =
    let small = size_small c.self.inside c.self.invariant c.self.view_is c.args.n c.requires (sym c.has.ensures ∙ c.if-not-has.true) in
    search (rules, small)

pub invariant_of-self : goal.invariant_of-self
invariant_of-self c =
    let row = c.index_mut-then-not-has in
    set_plane c.self.inside c.self.invariant c.self.view_is c.args.n c.requires c.index_mut.result.now c.index_mut.ensures.value row.result.now row.ensures.value (sym c.has.ensures ∙ c.if-not-has.true)

pub returns-then-not-has : goal.returns-then-not-has
returns-then-not-has c = set_flags c.self.inside c.self.invariant c.self.view_is c.args.n c.requires c.index_mut.result.now c.index_mut.ensures.value
