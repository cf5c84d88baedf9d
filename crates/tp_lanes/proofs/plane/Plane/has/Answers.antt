use Rattle.tp_lanes.proofs.OneNumber.{word_there, bit_read}
use Rattle.tp_lanes.proofs.plane.Plane.has.Goals as goal

pub index-requires : goal.index-requires
index-requires c = word_there c.self.inside c.self.invariant c.self.view_is c.args.n c.requires

pub returns : goal.returns
returns c = bit_read c.self.inside c.self.invariant c.self.view_is c.args.n c.requires c.index.result.now c.index.ensures c.bit.result c.bit.ensures
