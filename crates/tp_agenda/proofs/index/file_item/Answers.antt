use Rattle.std.proofs.Common.{◌≡◌, length, get_or, unwrap_or, cond, Some, false, refl, ap, sym, subst, ◌+◌, ◌++◌, ◌∷◌, [], List, ℕ, arith}
use Rattle.indexmap.specs.IndexMap.{get}
use Rattle.tp_value.specs.declared.path.Path.{Path}
use Rattle.tp_agenda.specs.declared.index.Item.{Item}
use Rattle.tp_agenda.specs.declared.index.Index.{Index}
use Rattle.tp_agenda.specs.Index.{HasFiled, equal_items, equal_paths}
use Rattle.tp_agenda.proofs.Filing.{filed_under_path, first_taken, item_kept, pushed}
use Rattle.tp_agenda.proofs.index.file_item.Goals as goal

abbrev after : goal.In_ok-put_link → Index
after c = let old = c.args.index.now in record { wholes = old.wholes; items = c.put_link.new.heads; parts = old.parts; ends = old.ends; links = c.put_link.new.links }

pub returns-clause-ok : goal.returns-clause-ok
returns-clause-ok c =
    let old = c.args.index.now in
    let p = c.args.path.now in
    let v = length old.links.items + 1 in
    let place = c.args.place in
    let i : Item = record { var = p.var; index = get_or p.at 0 0 } in
    let along : List ℕ → Path = λ ks. record { var = p.var; at = ks } in
    let link = subst (λ (j : Item). (after c).links.items ≡ old.links.items ++ record { place = place; next = unwrap_or (get equal_items old.items j) 0 } ∷ [])
    c.first_item.ensures c.in_ok-put_link.ensures.link in
    let head = subst (λ (j : Item). (x : Item) → get equal_items (after c).items x ≡ cond (equal_items j x) (Some v) (get equal_items old.items x))
    c.first_item.ensures c.in_ok-put_link.ensures.head.0 in
    subst (λ (q : Path). HasFiled old (after c) place (equal_paths q) (λ r. false)) (ap along (sym (first_taken p.at c.requires.item)))
    (filed_under_path old (after c) (along (i.index ∷ [])) place v c.requires.chained link (omega arith) (λ q. item_kept old (after c) i v head refl refl q q.at) (λ r. refl))

pub returns-clause-links : goal.returns-clause-links
returns-clause-links c = pushed c.args.index.now (after c) c.args.place _ c.in_ok-put_link.ensures.link
