use Rattle.std.proofs.Common.{◌≡◌, length, ap, sym, ◌∙◌, arith}
use Rattle.std.proofs.lemmas.Bool.Decides.{Decides-eqb}
use Rattle.tp_agenda.proofs.Waking.{newest_fits}
use Rattle.tp_agenda.proofs.wake.newest_by.Goals as goal

pub returns-then-is_empty : goal.returns-then-is_empty
returns-then-is_empty c =
    let x = c.args.index.now in
    let none : length x.links.items ≡ 0 = ap length (sym c.as_slice.ensures.value) ∙ (Decides-eqb _ 0).0 (sym c.is_empty.ensures ∙ c.if-is_empty.true) in
    let fits = newest_fits x c.requires c.args.cause.now in
    omega (arith, fits, none)
