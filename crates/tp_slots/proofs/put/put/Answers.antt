-- What was put is a step.
use Rattle.std.proofs.Common.{◌≡◌, ◌+◌, length, map, ap, sym, ◌∙◌, subst}
use Rattle.std.proofs.lemmas.List.{length-map}
use Rattle.tp_slots.specs.Read.{holders_of, what_of}
use Rattle.tp_slots.specs.Row.{AllBelow, begun, held_after}
use Rattle.tp_slots.specs.declared.scene.Region.{Region}
use Rattle.tp_slots.proofs.Changing.{same_slots}
use Rattle.tp_slots.proofs.Preparing.{prepared_below, prepared_holders}
use Rattle.tp_slots.proofs.put.put.Goals as goal

pub commit-requires-clause-below : goal.commit-requires-clause-below
commit-requires-clause-below c =
    let news = c.in_ok-news.ensures in
    let ins = map what_of c.args.inner.items in
    let outs = map what_of c.args.outs.items in
    let many = sym (length-map c.args.inner.items what_of) in
    let count : length c.args.scene.now.regions.items + length (begun 0 (length c.args.inner.items)) ≡ length c.prepare.new.scene.regions.items + length (begun 0 (length ins)) = λ i. length (sym news.same.regions i) + length (begun 0 (many i)) in
    prepared_below c.args.item ins outs c.prepare.new.scene c.in_ok-news.news news.prepared c.requires.bare (subst (λ n. AllBelow n outs) count c.requires.below)

pub returns-clause-holders : goal.returns-clause-holders
returns-clause-holders c =
    let s = c.args.scene.now in
    let mid = c.prepare.new.scene in
    let news = c.in_ok-news.ensures in
    let ins = map what_of c.args.inner.items in
    let outs = map what_of c.args.outs.items in
    let holders : holders_of mid ≡ holders_of s = ap (map (λ (x : Region). x.holder)) news.same.regions in
    prepared_holders c.args.item ins outs mid c.in_ok-news.news news.prepared c.commit.new.scene c.requires.bare c.commit.ensures.holders
    ∙ (λ i. held_after (same_slots s mid news.same i) ins outs (holders i))
