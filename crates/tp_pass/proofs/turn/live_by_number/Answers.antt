use Rattle.std.proofs.Common.{◌+◌, ◌<◌, subst, sym, ap, arith, ◌∙◌}
use Rattle.tp_slots.specs.Read.{scene_of}
use Rattle.tp_pass.proofs.Live.{AreLiveBelow, one_live, not_live, all_live}
use Rattle.tp_step.proofs.LiveNumbers.{live_below}
use Rattle.tp_pass.proofs.turn.live_by_number.Goals.{then-has_item+in_ok-push_back, else-has_item}
use Rattle.tp_pass.proofs.turn.live_by_number.Goals as goal

pub loop-item-preserved : goal.loop-item-preserved
loop-item-preserved c =
    let n = c.loop-item.item in
    let es = (scene_of c.args.scene.now).root.entries in
    let before = c.loop-item.live.items in
    let h = c.loop-item.invariant in
    elim c.if-has_item.branch [
      | then-has_item+in_ok-push_back w ↦
          subst (AreLiveBelow es (n + 1)) (sym (ap (λ q. q.items) w.live-is ∙ w.in_ok-push_back.ensures.items)) (one_live es n before h (sym c.has_item.ensures ∙ w.if-has_item.true))
      | else-has_item w ↦ subst (AreLiveBelow es (n + 1)) (sym (ap (λ q. q.items) w.live-is)) (not_live es n before h (sym c.has_item.ensures ∙ w.if-has_item.false))
    ]

pub returns : goal.returns
returns c =
    let s = c.args.scene.now in
    let n = c.loop-item.item in
    let below = live_below s c.requires.kept in
    record {
      live = all_live (scene_of s).root.entries n c.loop-item.live.items c.loop-item.invariant
          (λ t lives. let less : t < (scene_of s).next_item = below t lives in omega (arith, less, c.loop-item-test.false, c.next_number-item-end.ensures.number));
    }
