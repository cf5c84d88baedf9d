use Rattle.std.proofs.Common.{refl, ap, sym, ◌∙◌, ◌≡◌, Bool, true, false, cond, not}
use Rattle.tp_value.specs.Read.{tree}
use Rattle.tp_inputs.specs.declared.fault.LineFault.TheVariants.{Twice}
use Rattle.tp_inputs.specs.FirstPart.{Blank, Given, Faulty}
use Rattle.tp_inputs.specs.Table.{blank, given}
use Rattle.tp_inputs.specs.Model.{table_of}
use Rattle.tp_inputs.specs.Read.{part_of}
use Rattle.tp_inputs.specs.Spans.{is_given}
use Rattle.tp_inputs.proofs.LineLemmas.{part_found}
use Rattle.tp_inputs.proofs.line.take_part.Goals as goal

pub returns-in-Blank-clause-passed : goal.returns-in-Blank-clause-passed
returns-in-Blank-clause-passed c =
    let old = table_of c.args.ports.now in
    blank (part_found c.args.span old c.args.text.now Blank c.requires.some (ap (part_of c.args.span old) (sym c.in-Blank.is) ∙ c.in_ok-first_part.ensures c.args.span old))

not_given : (given : Bool) → true ≡ not given → given ≡ false
not_given true e = absurd cc
not_given false e = refl

was_given : (given : Bool) → false ≡ not given → given ≡ true
was_given true e = refl
was_given false e = absurd cc

pub returns-then-branch-clause-passed : goal.returns-then-branch-clause-passed
returns-then-branch-clause-passed c =
    let old = table_of c.args.ports.now in
    let part = Given c.in-Pair.port (tree c.in-Pair.value) c.in-Pair.len in
    let new = not_given (is_given old c.args.span c.in-Pair.port) (sym c.if-branch.true ∙ c.in_ok-give-in-Pair.ensures.told) in
    given (part_found c.args.span old c.args.text.now part c.requires.some (sym (ap (λ b. cond b (Faulty Twice) part) new) ∙ (ap (part_of c.args.span old) (sym c.in-Pair.is) ∙ c.in_ok-first_part.ensures c.args.span old)))
    (c.in_ok-give-in-Pair.ensures.gives c.if-branch.true)

pub returns-in-Pair-clause-refused : goal.returns-in-Pair-clause-refused
returns-in-Pair-clause-refused c =
    let old = table_of c.args.ports.now in
    let part = Given c.in-Pair.port (tree c.in-Pair.value) c.in-Pair.len in
    let twice = was_given (is_given old c.args.span c.in-Pair.port) (sym c.if-branch.false ∙ c.in_ok-give-in-Pair.ensures.told) in
    part_found c.args.span old c.args.text.now (Faulty Twice) c.requires.some (sym (ap (λ b. cond b (Faulty Twice) part) twice) ∙ (ap (part_of c.args.span old) (sym c.in-Pair.is) ∙ c.in_ok-first_part.ensures c.args.span old))

pub returns-then-has-clause-refused : goal.returns-then-has-clause-refused
returns-then-has-clause-refused c =
    let old = table_of c.args.ports.now in
    part_found c.args.span old c.args.text.now (Faulty Twice) c.requires.some (sym (ap (λ b. cond b (Faulty Twice) (Faulty c.in-Valueless.fault)) (sym c.has.ensures ∙ c.if-has.true)) ∙ (ap (part_of c.args.span old) (sym c.in-Valueless.is) ∙ c.in_ok-first_part.ensures c.args.span old))

pub returns-in-Valueless-clause-refused : goal.returns-in-Valueless-clause-refused
returns-in-Valueless-clause-refused c =
    let old = table_of c.args.ports.now in
    part_found c.args.span old c.args.text.now (Faulty c.in-Valueless.fault) c.requires.some (sym (ap (λ b. cond b (Faulty Twice) (Faulty c.in-Valueless.fault)) (sym c.has.ensures ∙ c.if-has.false)) ∙ (ap (part_of c.args.span old) (sym c.in-Valueless.is) ∙ c.in_ok-first_part.ensures c.args.span old))

pub returns-clause-refused : goal.returns-clause-refused
returns-clause-refused c =
    let old = table_of c.args.ports.now in
    part_found c.args.span old c.args.text.now (Faulty c.in-Fault.fault) c.requires.some (ap (part_of c.args.span old) (sym c.in-Fault.is) ∙ c.in_ok-first_part.ensures c.args.span old)
