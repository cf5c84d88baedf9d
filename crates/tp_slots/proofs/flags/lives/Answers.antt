-- The walk outward tells whether the region is live.
use Rattle.std.proofs.Common.{◌<◌, ◌&&◌, ap, sym, ◌∙◌, arith, rules}
use Rattle.tp_slots.specs.Lives.{lives_in}
use Rattle.tp_slots.specs.Read.{holders_of, slots_of}
use Rattle.tp_slots.proofs.Seeing.{next_lives, home_less}
use Rattle.tp_slots.proofs.flags.lives.Goals as goal

pub returns-then-not-leads : goal.returns-then-not-leads
returns-then-not-leads c =
    let a : 0 < c.outward.at = search rules in
    let n = next_lives c.args.scene.now c.requires.kept.shape c.outward.at c.outward.invariant.0 a c.index.result.now c.index-slot.result.now c.index.ensures c.index-slot.ensures in
    sym (n ∙ ap (λ b. b && lives_in (slots_of c.args.scene.now) (holders_of c.args.scene.now) c.index-slot.result.now.home) (sym c.leads.ensures ∙ c.if-not-leads.true)) ∙ c.outward.invariant.1

less : (c : goal.Else-not-leads) → c.index-slot.result.now.home < c.outward.at
less c =
    let a : 0 < c.outward.at = search rules in
    home_less c.args.scene.now c.requires.kept.shape c.outward.at c.outward.invariant.0 a c.index.result.now c.index-slot.result.now c.index.ensures c.index-slot.ensures

pub outward-smaller : goal.outward-smaller
outward-smaller c = less c

pub outward-preserved : goal.outward-preserved
outward-preserved c =
    let a : 0 < c.outward.at = search rules in
    let n = next_lives c.args.scene.now c.requires.kept.shape c.outward.at c.outward.invariant.0 a c.index.result.now c.index-slot.result.now c.index.ensures c.index-slot.ensures in
    let u = less c in
    let i = c.outward.invariant.0 in
    (omega (arith, u, i), sym (n ∙ ap (λ b. b && lives_in (slots_of c.args.scene.now) (holders_of c.args.scene.now) c.index-slot.result.now.home) (sym c.leads.ensures ∙ c.if-not-leads.false)) ∙ c.outward.invariant.1)
