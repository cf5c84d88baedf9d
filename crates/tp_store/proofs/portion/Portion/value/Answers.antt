use Rattle.std.proofs.Common.{◌≡◌, [], ap, sym, ◌∙◌, if◌then◌else◌}
use Rattle.std.specs.Option.{option_copied}
use Rattle.std.proofs.lemmas.List.{nil_from_length}
use Rattle.std.proofs.lemmas.Bool.Decides.{Decides-eqb}
use Rattle.std.specs.declared.rc.Rc.{Rc}
use Rattle.std.specs.declared.alloc.Global.{Global}
use Rattle.tp_value.specs.declared.value.Value.{Value}
use Rattle.tp_value.specs.Read.{tree}
use Rattle.tp_store.specs.Known.{full, value, too_long}
use Rattle.tp_store.specs.Nodes.{path_along}
use Rattle.tp_store.proofs.WholeValues.{whole_limit}
use Rattle.tp_store.proofs.PortionViews.{full_alone, full_beside}
use Rattle.tp_store.proofs.portion.Portion.value.Goals as goal

pub returns-then-is_empty : goal.returns-then-is_empty
returns-then-is_empty c = λ v e.
    let found = sym c.whole_of.ensures ∙ ap option_copied c.in-Some.is in
    let limit = whole_limit c.self.inside.lasting c.self.inside.wholes.entries c.self.inside.parts.facts c.self.invariant.3 _ _ found in
    let x = c.path.inside.0.0 in
    let w = c.in-Some.value.now in
    let same : w ≡ v = cc e in
    let none : c.as_slice.result.now ≡ [] = nil_from_length _ ((Decides-eqb _ 0).0 (sym c.is_empty.ensures ∙ c.if-is_empty.true)) in
    let root : path_along x [] ≡ c.args.path.now = ap (path_along x) (sym none ∙ c.as_slice.ensures.value) ∙ c.path.view_is in
    ap (full c.args.self.now.facts) (sym root) ∙ sym (full_alone c.self.inside.lasting c.self.inside.parts c.self.inside.wholes.entries _ c.self.view_is c.self.invariant x w found [])
    ∙ ap (λ b. if b then value (tree w.value) else too_long) limit ∙ ap (λ (u : Rc Value Global). value (tree u.value)) same

pub returns-in-None : goal.returns-in-None
returns-in-None c = λ v e.
    let none = sym c.whole_of.ensures ∙ ap option_copied c.in-None.is in
    ap (full c.args.self.now.facts) (sym c.path.view_is) ∙ sym (full_beside c.self.inside.lasting c.self.inside.parts c.self.inside.wholes.entries _ c.self.view_is c.self.invariant _ none _)
    ∙ ap (full c.self.inside.parts.facts) c.path.view_is ∙ c.kept_at.ensures v e
