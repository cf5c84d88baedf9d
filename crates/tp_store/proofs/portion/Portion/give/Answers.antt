use Rattle.std.proofs.Common.{◌≡◌, ◌++◌, ◌∷◌, [], nat_eq, List, ℕ, ap, sym, ◌∙◌, subst}
use Rattle.std.specs.declared.rc.Rc.{Rc}
use Rattle.std.specs.declared.alloc.Global.{Global}
use Rattle.indexmap.proofs.CallerLemmas.{insert_entry-new}
use Rattle.tp_value.specs.declared.value.Value.{Value}
use Rattle.tp_store.specs.Known.{NoClash}
use Rattle.tp_store.specs.FactMap.{AreOfKind}
use Rattle.tp_store.specs.Wholes.{whole_facts, AreWholes}
use Rattle.tp_store.proofs.WholeValues.{all_apart, all_kinds}
use Rattle.tp_store.proofs.PortionViews.{given_free, given_wholes, given_facts}
use Rattle.tp_store.proofs.portion.Portion.give.Goals as goal

pub returns-in_err-insert-clause-of_kind : goal.returns-in_err-insert-clause-of_kind
returns-in_err-insert-clause-of_kind c =
    let b = c.self.inside.lasting in
    let P : List (ℕ × Rc Value Global) → Type 0 = λ es. AreOfKind b (c.self.inside.parts.facts ++ whole_facts b es) in
    subst P (sym c.in_err-insert.ensures.err) (all_kinds b c.self.inside.wholes.entries c.self.inside.parts.facts c.self.invariant.3 c.self.invariant.2)

pub returns-in_err-insert-clause-apart : goal.returns-in_err-insert-clause-apart
returns-in_err-insert-clause-apart c =
    let b = c.self.inside.lasting in
    let P : List (ℕ × Rc Value Global) → Type 0 = λ es. NoClash (c.self.inside.parts.facts ++ whole_facts b es) in
    subst P (sym c.in_err-insert.ensures.err) (all_apart b c.self.inside.wholes.entries c.self.inside.parts.facts c.self.invariant.3 c.self.invariant.1)

inserted : (c : goal.Joined-branch-2) → c.insert.new.self.entries ≡ c.self.inside.wholes.entries ++ (c.args.var.number, c.args.value) ∷ []
inserted c =
    c.in_ok-insert.ensures.entries
    ∙ insert_entry-new nat_eq c.self.inside.wholes c.args.var.number c.args.value (given_free c.self.inside.lasting c.self.inside.parts c.self.inside.wholes.entries _ c.self.view_is c.self.invariant c.args.var.number c.requires.free)

now_wholes : (c : goal.Joined-branch-2) → AreWholes c.insert.new.self.entries c.self.inside.parts.facts
now_wholes c =
    let P : List (ℕ × Rc Value Global) → Type 0 = λ es. AreWholes es c.self.inside.parts.facts in
    subst P (sym (inserted c)) (given_wholes c.self.inside.lasting c.self.inside.parts c.self.inside.wholes.entries _ c.self.view_is c.self.invariant c.args.var.number c.args.value c.requires.free c.requires.limit)

pub invariant_of-self-2 : goal.invariant_of-self-2
invariant_of-self-2 c = (c.self.invariant.0, c.self.invariant.1, c.self.invariant.2, now_wholes c)

pub returns-clause-of_kind : goal.returns-clause-of_kind
returns-clause-of_kind c = all_kinds c.self.inside.lasting c.insert.new.self.entries c.self.inside.parts.facts (now_wholes c) c.self.invariant.2

pub returns-clause-apart : goal.returns-clause-apart
returns-clause-apart c = all_apart c.self.inside.lasting c.insert.new.self.entries c.self.inside.parts.facts (now_wholes c) c.self.invariant.1

pub returns-clause-ok : goal.returns-clause-ok
returns-clause-ok c =
    ap (λ es. c.self.inside.parts.facts ++ whole_facts c.self.inside.lasting es) (inserted c)
    ∙ given_facts c.self.inside.lasting c.self.inside.parts c.self.inside.wholes.entries _ c.self.view_is c.self.invariant c.args.var c.args.value c.requires.kind
