use Rattle.std.proofs.Common.{length, refl, ◌+◌, arith}
use Rattle.tp_store.specs.FactMap.{outer_path}
use Rattle.tp_agenda.specs.declared.index.Index.{Index}
use Rattle.tp_agenda.proofs.Filing.{filed_under_path, pushed, whole_kept}
use Rattle.tp_agenda.proofs.index.file_whole.Goals as goal

abbrev after : goal.In_ok-put_link → Index
after c = let old = c.args.index.now in record { wholes = c.put_link.new.heads; items = old.items; parts = old.parts; ends = old.ends; links = c.put_link.new.links }

pub returns-clause-ok : goal.returns-clause-ok
returns-clause-ok c =
    let old = c.args.index.now in
    let p = c.args.path.now in
    let v = length old.links.items + 1 in
    filed_under_path old (after c) (outer_path p 0) c.args.place v c.requires.chained c.in_ok-put_link.ensures.link (omega arith)
    (λ q. whole_kept old (after c) p.var v c.in_ok-put_link.ensures.head.0 refl refl q q.at) (λ r. refl)

pub returns-clause-links : goal.returns-clause-links
returns-clause-links c = pushed c.args.index.now (after c) c.args.place _ c.in_ok-put_link.ensures.link
