use Rattle.std.proofs.Common.{length, refl, ◌+◌, arith}
use Rattle.tp_agenda.specs.declared.index.Index.{Index}
use Rattle.tp_agenda.proofs.Filing.{filed_under_end, pushed}
use Rattle.tp_agenda.proofs.index.file_for.Goals as goal

abbrev after : goal.In_ok-put_link → Index
after c = let old = c.args.index.now in record { wholes = old.wholes; items = old.items; parts = old.parts; ends = c.put_link.new.heads; links = c.put_link.new.links }

pub returns-clause-ok : goal.returns-clause-ok
returns-clause-ok c =
    let old = c.args.index.now in
    let v = length old.links.items + 1 in
    filed_under_end old (after c) c.args.region c.args.place v c.requires.chained c.in_ok-put_link.ensures.link (omega arith)
    c.in_ok-put_link.ensures.head.0 (λ q. refl)

pub returns-clause-links : goal.returns-clause-links
returns-clause-links c = pushed c.args.index.now (after c) c.args.place _ c.in_ok-put_link.ensures.link
