use Rattle.std.proofs.Common.{◌≡◌, ◌∷◌, [], refl, ◌∙◌, subst}
use Rattle.tp_store.specs.Facts.{fact}
use Rattle.tp_store.specs.FactMap.{AreOfKind}
use Rattle.tp_store.specs.Wholes.{AreWholes}
use Rattle.tp_store.proofs.WholeValues.{all_apart, all_kinds}
use Rattle.tp_store.proofs.PortionViews.{new_beside, new_in_parts, grown_wholes, grown_shapes}
use Rattle.tp_store.proofs.portion.Portion.keep.Goals as goal

pub keep-requires-clause-new : goal.keep-requires-clause-new
keep-requires-clause-new c = new_in_parts c.self.inside.lasting c.self.inside.parts c.self.inside.wholes.entries _ c.self.view_is c.self.invariant (fact c.args.path.now c.args.shape) c.requires.new

own_kind : (c : goal.After-keep) → c.keep.new.self.lasting ≡ c.self.inside.lasting
own_kind c = c.keep.ensures.kind ∙ c.self.invariant.0

kinds : (c : goal.After-keep) → AreOfKind c.self.inside.lasting c.keep.new.self.facts
kinds c = subst (λ b. AreOfKind b c.keep.new.self.facts) (own_kind c) c.keep.ensures.of_kind

wholes : (c : goal.After-keep) → AreWholes c.self.inside.wholes.entries c.keep.new.self.facts
wholes c =
    let f = fact c.args.path.now c.args.shape in
    grown_wholes c.self.inside.lasting c.self.inside.parts c.self.inside.wholes.entries _ c.self.view_is c.self.invariant f.path.var (new_beside c.self.inside.lasting c.self.inside.parts c.self.inside.wholes.entries _ c.self.view_is c.self.invariant f c.requires.new) c.requires.kind (f ∷ []) (refl, tt) c.keep.new.self c.keep.ensures.apart c.keep.ensures.kept

pub invariant_of-self : goal.invariant_of-self
invariant_of-self c = (own_kind c, c.keep.ensures.apart, kinds c, wholes c)

pub returns-clause-of_kind : goal.returns-clause-of_kind
returns-clause-of_kind c = all_kinds c.self.inside.lasting c.self.inside.wholes.entries c.keep.new.self.facts (wholes c) (kinds c)

pub returns-clause-apart : goal.returns-clause-apart
returns-clause-apart c = all_apart c.self.inside.lasting c.self.inside.wholes.entries c.keep.new.self.facts (wholes c) c.keep.ensures.apart

pub returns-clause-kept : goal.returns-clause-kept
returns-clause-kept c =
    let f = fact c.args.path.now c.args.shape in
    grown_shapes c.self.inside.lasting c.self.inside.parts c.self.inside.wholes.entries _ c.self.view_is c.self.invariant f.path.var (new_beside c.self.inside.lasting c.self.inside.parts c.self.inside.wholes.entries _ c.self.view_is c.self.invariant f c.requires.new) c.requires.kind (f ∷ []) (refl, tt) c.keep.new.self c.keep.ensures.apart c.keep.ensures.kept
