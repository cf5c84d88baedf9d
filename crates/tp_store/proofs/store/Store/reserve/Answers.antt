use Rattle.std.proofs.Common.{refl}
use Rattle.tp_store.proofs.Parts.{sound_same}
use Rattle.tp_store.proofs.store.Store.reserve.Goals as goal

pub returns-in_err-reserve-clause-sound : goal.returns-in_err-reserve-clause-sound
returns-in_err-reserve-clause-sound c = sound_same c.self.inside.entries.items _ c.self.inside.state c.self.inside.fixed c.reserve.new.self c.self.inside.fixed refl c.reserve.ensures.facts refl c.self.invariant

pub returns-in_err-reserve-2-clause-sound : goal.returns-in_err-reserve-2-clause-sound
returns-in_err-reserve-2-clause-sound c =
    sound_same c.self.inside.entries.items _ c.self.inside.state c.self.inside.fixed c.reserve.new.self c.reserve-2.new.self refl c.reserve.ensures.facts c.reserve-2.ensures.facts c.self.invariant

pub returns-in_err-reserve-3-clause-sound : goal.returns-in_err-reserve-3-clause-sound
returns-in_err-reserve-3-clause-sound c =
    sound_same c.self.inside.entries.items c.reserve-3.new.self.items c.self.inside.state c.self.inside.fixed c.reserve.new.self c.reserve-2.new.self c.reserve-3.ensures.items c.reserve.ensures.facts c.reserve-2.ensures.facts c.self.invariant

pub returns-clause-sound : goal.returns-clause-sound
returns-clause-sound c =
    sound_same c.self.inside.entries.items c.reserve-3.new.self.items c.self.inside.state c.self.inside.fixed c.reserve.new.self c.reserve-2.new.self c.reserve-3.ensures.items c.reserve.ensures.facts c.reserve-2.ensures.facts c.self.invariant
