-- The way outward ends where the region around isn't due.
use Rattle.std.proofs.Common.{◌<◌, ap, sym, ◌∙◌, subst, inr, arith, rules}
use Rattle.std.proofs.lemmas.Bool.{both_ways}
use Rattle.tp_agenda.specs.Outward.{is_due}
use Rattle.tp_agenda.proofs.Outward.{AreInLine, line_out, line_ends}
use Rattle.tp_agenda.proofs.Taking.{due_within}
use Rattle.tp_agenda.proofs.ends.outermost_due.Goals as goal

pub outward-init : goal.outward-init
outward-init c = record { due = c.requires.due; line = λ top x. inr x }

pub region_around-outer-requires-clause-within : goal.region_around-outer-requires-clause-within
region_around-outer-requires-clause-within c = due_within c.args.scene.now c.requires.kept c.args.taken.now c.outward.at c.outward.invariant.due

pub returns-then-not-is_due-clause-leads : goal.returns-then-not-is_due-clause-leads
returns-then-not-is_due-clause-leads c = λ top x.
    let s = c.args.scene.now in
    let taken = c.args.taken.now in
    let isnt = sym c.is_due.ensures ∙ c.if-not-is_due.true in
    line_ends s taken top c.outward.at (λ above due. both_ways (is_due s taken c.region_around-outer.result) isnt (ap (is_due s taken) c.region_around-outer.ensures.value ∙ due)) (c.outward.invariant.line top x)

pub outward-preserved : goal.outward-preserved
outward-preserved c =
    let s = c.args.scene.now in
    let taken = c.args.taken.now in
    let above : 0 < c.outward.at = search rules in
    let is_so = sym c.is_due.ensures ∙ c.if-not-is_due.false in
    let around = c.region_around-outer.ensures.value in
    record {
      due = is_so;
      line = λ top x. subst (AreInLine s taken top) (sym around) (line_out s taken top c.outward.at above (ap (is_due s taken) (sym around) ∙ is_so) (c.outward.invariant.line top x));
    }

pub returns-clause-leads : goal.returns-clause-leads
returns-clause-leads c = λ top x.
    let last = c.outward-test.false in
    line_ends c.args.scene.now c.args.taken.now top c.outward.at (λ above due. absurd (omega (arith, above, last))) (c.outward.invariant.line top x)
