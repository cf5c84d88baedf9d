-- Each new item holds its regions.
use Rattle.std.proofs.Common.{◌≡◌, ◌+◌, map, take, length, get_or, ap, sym, ◌∙◌, subst, arith}
use Rattle.std.proofs.lemmas.List.{get_or-map, length-map, map_more, length-take-le}
use Rattle.tp_slots.specs.Plain as plain
use Rattle.tp_slots.specs.Row.{hold, hold_all, AreBelow}
use Rattle.tp_slots.specs.Read.{what_of}
use Rattle.tp_slots.specs.declared.scene.Slot.{Slot}
use Rattle.tp_slots.specs.declared.scene.Region.{Region}
use Rattle.tp_slots.proofs.Lists.{hold_more, below_at}
use Rattle.tp_slots.proofs.put.hold_news.Goals as goal

abbrev seen : Slot → plain.What
seen x = what_of x.what

pub hold_what-requires : goal.hold_what-requires
hold_what-requires c =
    let l = c.loop-i-test.true in
    let m = length-map c.args.news.now seen in
    let e = get_or-map seen c.args.news.now c.loop-i.i c.index-news-i.result (seen c.index-news-i.result) l in
    subst (λ n. AreBelow n (seen (get_or c.args.news.now c.loop-i.i c.index-news-i.result))) (sym c.loop-i.auto.list)
    (subst (AreBelow (length c.args.list.now)) e (below_at (length c.args.list.now) (map seen c.args.news.now) c.loop-i.i (seen c.index-news-i.result) c.requires.below (omega (arith, l, m))))

pub loop-i-preserved : goal.loop-i-preserved
loop-i-preserved c = record {
  holders =
      let l = c.loop-i-test.true in
      let old = map (λ (x : Region). x.holder) c.args.list.now in
      let before = map seen (take c.loop-i.i c.args.news.now) in
      let w = seen (get_or c.args.news.now c.loop-i.i c.index-news-i.result) in
      let n : length before ≡ c.loop-i.i = length-map (take c.loop-i.i c.args.news.now) seen ∙ length-take-le c.loop-i.i c.args.news.now (omega (arith, l)) in
      c.hold_what.ensures.holders
      ∙ (ap (hold (c.args.first + c.loop-i.i) w) c.loop-i.invariant.holders
      ∙ (ap (λ i. hold (c.args.first + i) w (hold_all c.args.first before old)) (sym n)
      ∙ (sym (hold_more c.args.first before w old)
      ∙ ap (λ ws. hold_all c.args.first ws old) (sym (map_more seen c.args.news.now c.loop-i.i c.index-news-i.result l)))));
  slots = c.hold_what.ensures.slots ∙ c.loop-i.invariant.slots;
  ends = c.hold_what.ensures.ends ∙ c.loop-i.invariant.ends;
  goes = c.hold_what.ensures.goes ∙ c.loop-i.invariant.goes;
}
