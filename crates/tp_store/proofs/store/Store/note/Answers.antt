use Rattle.std.proofs.Common.{ap, sym, subst}
use Rattle.tp_store.specs.Facts.{fact}
use Rattle.tp_store.specs.Known.{IsVariableOf}
use Rattle.tp_store.specs.Stock.{Stock, contents_in}
use Rattle.tp_store.specs.Entries.{part_by_kind}
use Rattle.tp_store.proofs.Parts.{sound, noted_view, variable_placed, state_noted, state_noted_adds, static_noted, static_noted_adds}
use Rattle.tp_store.proofs.store.Store.note.Goals as goal

pub note_in-requires-else-path-clause-placed : goal.note_in-requires-else-path-clause-placed
note_in-requires-else-path-clause-placed c =
    let P : Stock → Type 0 = λ s. IsVariableOf s.variables c.args.path.now.var in
    variable_placed c.self.inside.entries.items c.args.path.now.var _ (subst P (sym c.self.view_is) c.requires.variable) c.self.invariant.state_placed

pub invariant_of-self : goal.invariant_of-self
invariant_of-self c =
    static_noted c.self.inside.entries.items c.self.inside.state c.self.inside.fixed _ (ap contents_in c.self.view_is) c.self.invariant (fact c.args.path.now c.args.shape) c.requires.variable c.note_in.new.kept c.note_in.result
    c.note_in.ensures.answer c.note_in.ensures.new c.note_in.ensures.same

pub returns-then-path-clause-answer : goal.returns-then-path-clause-answer
returns-then-path-clause-answer c =
    noted_view c.self.inside.entries.items c.self.inside.state c.self.inside.fixed _ (ap contents_in c.self.view_is) c.self.invariant (fact c.args.path.now c.args.shape) c.self.inside.fixed c.note_in.result
    (sym (ap (λ b. part_by_kind b c.self.inside.state c.self.inside.fixed) c.if-path.true)) c.note_in.ensures.answer

pub returns-then-path-clause-added : goal.returns-then-path-clause-added
returns-then-path-clause-added c =
    static_noted_adds c.self.inside.entries.items c.self.inside.state c.self.inside.fixed _ (ap contents_in c.self.view_is) c.self.invariant (fact c.args.path.now c.args.shape) c.requires.variable c.note_in.new.kept c.note_in.result
    c.note_in.ensures.answer c.note_in.ensures.new

pub returns-then-path-clause-sound : goal.returns-then-path-clause-sound
returns-then-path-clause-sound c = sound c.self.inside.entries.items c.self.inside.state c.note_in.new.kept (invariant_of-self c)

pub invariant_of-self-else-path : goal.invariant_of-self-else-path
invariant_of-self-else-path c =
    state_noted c.self.inside.entries.items c.self.inside.state c.self.inside.fixed _ (ap contents_in c.self.view_is) c.self.invariant (fact c.args.path.now c.args.shape) c.requires.variable c.note_in-else-path.new.kept c.note_in-else-path.result
    c.if-path.false c.note_in-else-path.ensures.answer c.note_in-else-path.ensures.new c.note_in-else-path.ensures.same

pub returns-else-path-clause-answer : goal.returns-else-path-clause-answer
returns-else-path-clause-answer c =
    noted_view c.self.inside.entries.items c.self.inside.state c.self.inside.fixed _ (ap contents_in c.self.view_is) c.self.invariant (fact c.args.path.now c.args.shape) c.self.inside.state c.note_in-else-path.result
    (sym (ap (λ b. part_by_kind b c.self.inside.state c.self.inside.fixed) c.if-path.false)) c.note_in-else-path.ensures.answer

pub returns-else-path-clause-added : goal.returns-else-path-clause-added
returns-else-path-clause-added c =
    state_noted_adds c.self.inside.entries.items c.self.inside.state c.self.inside.fixed _ (ap contents_in c.self.view_is) c.self.invariant (fact c.args.path.now c.args.shape) c.requires.variable c.note_in-else-path.new.kept c.note_in-else-path.result
    c.if-path.false c.note_in-else-path.ensures.answer c.note_in-else-path.ensures.new

pub returns-else-path-clause-sound : goal.returns-else-path-clause-sound
returns-else-path-clause-sound c = sound c.self.inside.entries.items c.note_in-else-path.new.kept c.self.inside.fixed (invariant_of-self-else-path c)
