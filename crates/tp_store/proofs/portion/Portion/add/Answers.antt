use Rattle.std.proofs.Common.{◌≡◌, ◌++◌, None, ap, sym, ◌∙◌, subst, append-nil}
use Rattle.std.specs.Option.{option_copied}
use Rattle.tp_store.specs.Facts.{kept_shape}
use Rattle.tp_store.specs.Known.{addition, adds}
use Rattle.tp_store.specs.FactMap.{AreOf, AreOfKind}
use Rattle.tp_store.specs.Wholes.{whole_value, AreWholes}
use Rattle.tp_store.proofs.Adding.{NoClash-adds}
use Rattle.tp_store.proofs.Parts.{news_of}
use Rattle.tp_store.proofs.Remembering.{said_with}
use Rattle.tp_store.proofs.WholeLooks.{none_there, some_there}
use Rattle.tp_store.proofs.WholeValues.{all_apart, all_kinds}
use Rattle.tp_store.proofs.PortionViews.{seen_kinds, none_new, addition_beside, grown_wholes, grown_shapes}
use Rattle.tp_store.proofs.portion.Portion.add.Goals as goal

pub returns-then-is_some-clause-of_kind : goal.returns-then-is_some-clause-of_kind
returns-then-is_some-clause-of_kind c = seen_kinds c.self.inside.lasting c.self.inside.parts c.self.inside.wholes.entries _ c.self.view_is c.self.invariant

pub returns-then-is_some-clause-ok : goal.returns-then-is_some-clause-ok
returns-then-is_some-clause-ok c = λ p.
    let r = some_there c.whole_of.result (sym c.if-is_some.ensures) in
    let found = sym c.whole_of.ensures ∙ ap option_copied r.1 in
    let none = none_new c.self.inside.lasting c.self.inside.parts c.self.inside.wholes.entries _ c.self.view_is c.self.invariant c.args.var r.0.now found c.args.facts.items c.in_ok-news.news.items c.requires.filed c.in_ok-news.ensures.added in
    ap (λ fs. kept_shape fs p) (sym (append-nil c.args.self.now.facts) ∙ ap (λ ns. c.args.self.now.facts ++ ns) (sym none))

added_to_parts : (c : goal.After-as_slice) → addition c.self.inside.parts.facts c.args.facts.items ≡ adds c.as_slice.result.now
added_to_parts c =
    let none = sym c.whole_of.ensures ∙ ap option_copied (none_there c.whole_of.result (sym c.if-is_some.ensures)) in
    addition_beside c.self.inside.lasting c.self.inside.parts c.self.inside.wholes.entries _ c.self.view_is c.self.invariant c.args.var none c.args.facts.items c.requires.filed ∙ c.in_ok-news.ensures.added ∙ ap adds (sym c.as_slice.ensures.value)

of_variable : (c : goal.After-as_slice) → AreOf c.args.var c.as_slice.result.now
of_variable c = news_of c.args.var c.self.inside.parts.facts c.args.facts.items c.as_slice.result.now (added_to_parts c) c.requires.filed

pub add-requires-clause-of : goal.add-requires-clause-of
add-requires-clause-of c = of_variable c

pub add-requires-clause-apart : goal.add-requires-clause-apart
add-requires-clause-apart c = NoClash-adds c.self.inside.parts.facts c.args.facts.items c.as_slice.result.now (added_to_parts c) c.self.invariant.1 c.requires.apart

pub add-requires-clause-said : goal.add-requires-clause-said
add-requires-clause-said c =
    said_with c.args.value c.args.var c.self.inside.parts.facts c.args.facts.items c.as_slice.result.now c.requires.value (added_to_parts c) c.self.invariant.1 c.requires.apart

beside : (c : goal.In_ok-add) → whole_value c.self.inside.lasting c.self.inside.wholes.entries c.args.var ≡ None
beside c = sym c.whole_of.ensures ∙ ap option_copied (none_there c.whole_of.result (sym c.if-is_some.ensures))

own_kind : (c : goal.In_ok-add) → c.add.new.self.lasting ≡ c.self.inside.lasting
own_kind c = c.in_ok-add.ensures.kind ∙ c.self.invariant.0

kinds : (c : goal.In_ok-add) → AreOfKind c.self.inside.lasting c.add.new.self.facts
kinds c = subst (λ b. AreOfKind b c.add.new.self.facts) (own_kind c) c.in_ok-add.ensures.of_kind

wholes : (c : goal.In_ok-add) → AreWholes c.self.inside.wholes.entries c.add.new.self.facts
wholes c =
    grown_wholes c.self.inside.lasting c.self.inside.parts c.self.inside.wholes.entries _ c.self.view_is c.self.invariant c.args.var (beside c) c.requires.kind c.as_slice.result.now (of_variable c.before.before.before) c.add.new.self c.in_ok-add.ensures.apart c.in_ok-add.ensures.ok

pub invariant_of-self-2 : goal.invariant_of-self-2
invariant_of-self-2 c = (own_kind c, c.in_ok-add.ensures.apart, kinds c, wholes c)

pub returns-clause-of_kind : goal.returns-clause-of_kind
returns-clause-of_kind c = all_kinds c.self.inside.lasting c.self.inside.wholes.entries c.add.new.self.facts (wholes c) (kinds c)

pub returns-clause-apart : goal.returns-clause-apart
returns-clause-apart c = all_apart c.self.inside.lasting c.self.inside.wholes.entries c.add.new.self.facts (wholes c) c.in_ok-add.ensures.apart

pub returns-clause-ok : goal.returns-clause-ok
returns-clause-ok c = λ p.
    grown_shapes c.self.inside.lasting c.self.inside.parts c.self.inside.wholes.entries _ c.self.view_is c.self.invariant c.args.var (beside c) c.requires.kind c.as_slice.result.now (of_variable c.before.before.before) c.add.new.self c.in_ok-add.ensures.apart c.in_ok-add.ensures.ok p
    ∙ ap (λ ns. kept_shape (c.args.self.now.facts ++ ns) p) c.as_slice.ensures.value
