use Rattle.std.proofs.Common.{◌+◌, ◌++◌, List, drop, ap, sym, ◌∙◌, append_assoc, arith}
use Rattle.std.proofs.lemmas.Bool.{lt-ltb, le-ltb}
use Rattle.tp_value.specs.Read.{tree}
use Rattle.tp_value.specs.declared.path.Fact.{Fact}
use Rattle.tp_store.specs.Known.{facts_below}
use Rattle.tp_store.specs.declared.copies.AskedVariables.TheVariants.{Below}
use Rattle.tp_store.specs.Wholes.{facts_of_value, whole_facts}
use Rattle.tp_store.proofs.WholeValues.{variable_of, next_asked, next_not_asked, none_next, all_asked}
use Rattle.tp_store.proofs.wholes.copy_wholes.Goals as goal
use Rattle.tp_store.proofs.wholes.copy_wholes.Goals.{in-Some+then-number-below+in_ok-append_value, in-Some+else-number-below, in_default}

pub loop-i-preserved : goal.loop-i-preserved
loop-i-preserved c =
    let b = c.args.lasting in
    let es = c.args.wholes.now.entries in
    let which = Below c.args.below in
    let i = c.loop-i.i in
    let items : List Fact = c.loop-i.facts.items in
    let rest = facts_below c.args.below (whole_facts b (drop (i + 1) es)) in
    elim c.match-get_index.branch [
      | in-Some+then-number-below+in_ok-append_value w ↦ (
          let x = variable_of b w.in-Some.number.now in
          ap (λ v. v.items ++ rest) w.facts-is ∙ ap (λ (xs : List Fact). xs ++ rest) (w.in_ok-append_value.ensures ∙ ap (λ t. items ++ facts_of_value x t) (ap tree w.deref.ensures))
          ∙ append_assoc items (facts_of_value x (tree w.in-Some.value.now.value)) rest
          ∙ ap (λ (xs : List Fact). items ++ xs) (sym (next_asked which b es i w.in-Some.number.now w.in-Some.value.now (sym w.in-Some.ensures.entry) (lt-ltb w.in-Some.number.now c.args.below w.if-number-below.true)))
          ∙ c.loop-i.invariant)
      | in-Some+else-number-below w ↦ (
          ap (λ v. v.items ++ rest) w.facts-is
          ∙ ap (λ (xs : List Fact). items ++ xs) (sym (next_not_asked which b es i w.in-Some.number.now w.in-Some.value.now (sym w.in-Some.ensures.entry) (le-ltb w.in-Some.number.now c.args.below w.if-number-below.false)))
          ∙ c.loop-i.invariant)
      | in_default w ↦ (
          ap (λ v. v.items ++ rest) w.facts-is ∙ ap (λ (xs : List Fact). items ++ xs) (sym (none_next which b es i (omega (arith, c.len-i-end.ensures.len, c.loop-i-test.true)) (sym w.in_default.ensures.entry)))
          ∙ c.loop-i.invariant)
    ]

pub returns : goal.returns
returns c = all_asked (Below c.args.below) c.args.lasting c.args.wholes.now.entries c.loop-i.i c.loop-i.facts.items _ (omega (arith, c.len-i-end.ensures.len, c.loop-i-test.false)) c.loop-i.invariant
