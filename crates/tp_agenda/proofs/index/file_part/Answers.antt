use Rattle.std.proofs.Common.{◌≡◌, length, unwrap_or, refl, ap, sym, ◌∙◌, ◌+◌, ◌++◌, ◌∷◌, [], ℕ, arith}
use Rattle.tp_agenda.specs.declared.index.Index.{Index}
use Rattle.tp_agenda.specs.Index.{newest_at}
use Rattle.tp_agenda.proofs.Filing.{filed_under_path, part_found, part_kept, pushed}
use Rattle.tp_agenda.proofs.index.file_part.Goals as goal

abbrev after : goal.In_ok-put_link → Index
after c = let old = c.args.index.now in record { wholes = old.wholes; items = old.items; parts = c.put_link.new.heads; ends = old.ends; links = c.put_link.new.links }

pub returns-clause-ok : goal.returns-clause-ok
returns-clause-ok c =
    let old = c.args.index.now in
    let p = c.args.path in
    let v = length old.links.items + 1 in
    let link : (after c).links.items ≡ old.links.items ++ record { place = c.args.place; next = newest_at old p } ∷ [] = c.in_ok-put_link.ensures.link ∙ ap (λ (z : ℕ). old.links.items ++ record { place = c.args.place; next = z } ∷ [])
    (ap (λ o. unwrap_or o 0) (sym (part_found old p p.at c.requires.part))) in
    filed_under_path old (after c) p c.args.place v c.requires.chained link (omega arith)
    (λ q. part_kept old (after c) p v c.in_ok-put_link.ensures.head.0 refl refl q p.at q.at c.requires.part refl refl) (λ r. refl)

pub returns-clause-links : goal.returns-clause-links
returns-clause-links c = pushed c.args.index.now (after c) c.args.place _ c.in_ok-put_link.ensures.link
