use Rattle.std.proofs.Common.{ap, refl, arith}
use Rattle.tp_store.specs.Stock.{contents_in}
use Rattle.tp_store.proofs.Parts.{sound, sound_view, sound_same, state_same, static_same, fresh_parts}
use Rattle.tp_store.proofs.store.Store.fresh.Goals as goal

pub returns-in_err-name-clause-sound : goal.returns-in_err-name-clause-sound
returns-in_err-name-clause-sound c = sound_view c.self.inside.entries.items c.self.inside.state c.self.inside.fixed _ (ap contents_in c.self.view_is) c.self.invariant

pub returns-in_err-place-clause-sound : goal.returns-in_err-place-clause-sound
returns-in_err-place-clause-sound c = sound_same c.self.inside.entries.items _ c.self.inside.state c.self.inside.fixed c.place.new.self c.self.inside.fixed refl c.place.ensures.facts refl c.self.invariant

pub returns-in_err-place-2-clause-sound : goal.returns-in_err-place-2-clause-sound
returns-in_err-place-2-clause-sound c =
    sound_same c.self.inside.entries.items _ c.self.inside.state c.self.inside.fixed c.place.new.self c.place-2.new.self refl c.place.ensures.facts c.place-2.ensures.facts c.self.invariant

pub returns-in_err-push-clause-sound : goal.returns-in_err-push-clause-sound
returns-in_err-push-clause-sound c =
    sound_same c.self.inside.entries.items c.push.new.self.items c.self.inside.state c.self.inside.fixed c.place.new.self c.place-2.new.self c.in_err-push.ensures.items c.place.ensures.facts c.place-2.ensures.facts c.self.invariant

pub invariant_of-self-2 : goal.invariant_of-self-2
invariant_of-self-2 c =
    fresh_parts c.self.inside.entries.items c.push.new.self.items _ c.place.new.self c.place-2.new.self c.in_ok-push.ensures.items
    (omega (arith, c.len-number.ensures, c.self.inside.entries.ok.0, c.in_ok-place.ensures.ok)) (omega (arith, c.len-number.ensures, c.self.inside.entries.ok.0, c.in_ok-place-2.ensures.ok))
    (static_same c.self.inside.entries.items c.place.new.self c.self.inside.fixed c.place-2.new.self c.place-2.ensures.kind c.place-2.ensures.facts c.place-2.ensures.more
    (state_same c.self.inside.entries.items c.self.inside.state c.self.inside.fixed c.place.new.self c.place.ensures.kind c.place.ensures.facts c.place.ensures.more c.self.invariant))

pub returns-clause-sound : goal.returns-clause-sound
returns-clause-sound c = sound c.push.new.self.items c.place.new.self c.place-2.new.self (invariant_of-self-2 c)
