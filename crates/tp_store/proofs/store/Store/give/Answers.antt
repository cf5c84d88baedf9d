use Rattle.std.proofs.Common.{◌++◌, List, arith, rules, ap, sym, ◌∙◌, subst}
use Rattle.tp_value.specs.Read.{tree}
use Rattle.tp_value.specs.declared.value.Value.{Value}
use Rattle.tp_value.specs.declared.path.Fact.{Fact}
use Rattle.tp_store.specs.Known.{adds}
use Rattle.tp_store.specs.Changes.{AddsFacts}
use Rattle.tp_store.specs.Entries.{contents_of}
use Rattle.tp_store.specs.Stock.{contents_in}
use Rattle.tp_store.specs.Wholes.{facts_of_value}
use Rattle.tp_store.proofs.Parts.{sound, sound_view, state_same, static_same}
use Rattle.tp_store.proofs.Giving.{free_of_state, free_of_static, given_news, given_state, given_static, given_to_state, given_to_static}
use Rattle.tp_store.proofs.store.Store.give.Goals as goal

pub returns-in_err-kept-clause-sound : goal.returns-in_err-kept-clause-sound
returns-in_err-kept-clause-sound c = sound_view c.self.inside.entries.items c.self.inside.state c.self.inside.fixed _ (ap contents_in c.self.view_is) c.self.invariant

pub give-requires-clause-free : goal.give-requires-clause-free
give-requires-clause-free c = free_of_static c.self.inside.entries.items c.self.inside.state c.self.inside.fixed _ (ap contents_in c.self.view_is) c.self.invariant c.args.var (tree c.args.value.value) c.requires.free

pub give-requires-2-clause-free : goal.give-requires-2-clause-free
give-requires-2-clause-free c = free_of_state c.self.inside.entries.items c.self.inside.state c.self.inside.fixed _ (ap contents_in c.self.view_is) c.self.invariant c.args.var (tree c.args.value.value) c.requires.free

pub returns-in_err-give-clause-sound : goal.returns-in_err-give-clause-sound
returns-in_err-give-clause-sound c =
    sound c.self.inside.entries.items c.self.inside.state c.give.new.self
    (static_same c.self.inside.entries.items c.self.inside.state c.self.inside.fixed c.give.new.self c.give.ensures.kind c.in_err-give.ensures.err (omega (arith, c.give.ensures.placed)) c.self.invariant)

pub returns-in_err-give-2-clause-sound : goal.returns-in_err-give-2-clause-sound
returns-in_err-give-2-clause-sound c =
    sound c.self.inside.entries.items c.give-2.new.self c.self.inside.fixed
    (state_same c.self.inside.entries.items c.self.inside.state c.self.inside.fixed c.give-2.new.self c.give-2.ensures.kind c.in_err-give-2.ensures.err (omega (arith, c.give-2.ensures.placed)) c.self.invariant)

pub invariant_of-self-then-var : goal.invariant_of-self-then-var
invariant_of-self-then-var c = given_static c.self.inside.entries.items c.self.inside.state c.self.inside.fixed _ (ap contents_in c.self.view_is) c.self.invariant c.args.var (tree c.args.value.value) c.requires.free c.requires.variable c.give.new.self c.in_ok-give.ensures.of_kind c.in_ok-give.ensures.apart c.in_ok-give.ensures.kind c.in_ok-give.ensures.placed (c.in_ok-give.ensures.ok ∙ ap (λ (w : Value). c.self.inside.fixed.facts ++ facts_of_value c.args.var (tree w)) (search rules))

pub returns-then-var-clause-sound : goal.returns-then-var-clause-sound
returns-then-var-clause-sound c = sound c.self.inside.entries.items c.self.inside.state c.give.new.self (given_static c.self.inside.entries.items c.self.inside.state c.self.inside.fixed _ (ap contents_in c.self.view_is) c.self.invariant c.args.var (tree c.args.value.value) c.requires.free c.requires.variable c.give.new.self c.in_ok-give.ensures.of_kind c.in_ok-give.ensures.apart c.in_ok-give.ensures.kind c.in_ok-give.ensures.placed (c.in_ok-give.ensures.ok ∙ ap (λ (w : Value). c.self.inside.fixed.facts ++ facts_of_value c.args.var (tree w)) (search rules)))

pub returns-then-var-clause-added : goal.returns-then-var-clause-added
returns-then-var-clause-added c =
    subst (λ (ns : List Fact). AddsFacts (contents_in c.args.self.now) ns (contents_of c.self.inside.entries.items c.self.inside.state c.give.new.self)) (sym c.whole.ensures)
    (given_to_static c.self.inside.entries.items c.self.inside.state c.self.inside.fixed _ (ap contents_in c.self.view_is) c.self.invariant c.args.var (tree c.args.value.value) c.requires.free c.requires.variable c.give.new.self c.in_ok-give.ensures.of_kind c.in_ok-give.ensures.apart c.in_ok-give.ensures.kind c.in_ok-give.ensures.placed (c.in_ok-give.ensures.ok ∙ ap (λ (w : Value). c.self.inside.fixed.facts ++ facts_of_value c.args.var (tree w)) (search rules)))

pub invariant_of-self-2 : goal.invariant_of-self-2
invariant_of-self-2 c = given_state c.self.inside.entries.items c.self.inside.state c.self.inside.fixed _ (ap contents_in c.self.view_is) c.self.invariant c.args.var (tree c.args.value.value) c.requires.free c.requires.variable c.give-2.new.self c.in_ok-give-2.ensures.of_kind c.in_ok-give-2.ensures.apart c.in_ok-give-2.ensures.kind c.in_ok-give-2.ensures.placed (c.in_ok-give-2.ensures.ok ∙ ap (λ (w : Value). c.self.inside.state.facts ++ facts_of_value c.args.var (tree w)) (search rules)) c.if-var.false

pub returns-clause-added : goal.returns-clause-added
returns-clause-added c =
    subst (λ (ns : List Fact). AddsFacts (contents_in c.args.self.now) ns (contents_of c.self.inside.entries.items c.give-2.new.self c.self.inside.fixed)) (sym c.whole-2.ensures)
    (given_to_state c.self.inside.entries.items c.self.inside.state c.self.inside.fixed _ (ap contents_in c.self.view_is) c.self.invariant c.args.var (tree c.args.value.value) c.requires.free c.requires.variable c.give-2.new.self c.in_ok-give-2.ensures.of_kind c.in_ok-give-2.ensures.apart c.in_ok-give-2.ensures.kind c.in_ok-give-2.ensures.placed (c.in_ok-give-2.ensures.ok ∙ ap (λ (w : Value). c.self.inside.state.facts ++ facts_of_value c.args.var (tree w)) (search rules)) c.if-var.false)

pub returns-clause-sound : goal.returns-clause-sound
returns-clause-sound c = sound c.self.inside.entries.items c.give-2.new.self c.self.inside.fixed (given_state c.self.inside.entries.items c.self.inside.state c.self.inside.fixed _ (ap contents_in c.self.view_is) c.self.invariant c.args.var (tree c.args.value.value) c.requires.free c.requires.variable c.give-2.new.self c.in_ok-give-2.ensures.of_kind c.in_ok-give-2.ensures.apart c.in_ok-give-2.ensures.kind c.in_ok-give-2.ensures.placed (c.in_ok-give-2.ensures.ok ∙ ap (λ (w : Value). c.self.inside.state.facts ++ facts_of_value c.args.var (tree w)) (search rules)) c.if-var.false)

pub returns-then-var-clause-news : goal.returns-then-var-clause-news
returns-then-var-clause-news c =
    given_news c.self.inside.entries.items c.self.inside.state c.self.inside.fixed _ (ap contents_in c.self.view_is) c.self.invariant c.args.var (tree c.args.value.value) c.requires.free
    ∙ ap adds (sym c.whole.ensures)

pub returns-clause-news : goal.returns-clause-news
returns-clause-news c =
    given_news c.self.inside.entries.items c.self.inside.state c.self.inside.fixed _ (ap contents_in c.self.view_is) c.self.invariant c.args.var (tree c.args.value.value) c.requires.free
    ∙ ap adds (sym c.whole-2.ensures)
