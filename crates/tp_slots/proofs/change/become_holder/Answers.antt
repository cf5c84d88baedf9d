-- The new items are a step by a holder.
use Rattle.std.proofs.Common.{◌≡◌, ◌+◌, List, [], ◌∷◌, ◌++◌, map, length, false, refl, None, ap, sym, ◌∙◌, subst, arith, rules}
use Rattle.std.specs.List.{range_with_len}
use Rattle.std.proofs.lemmas.List.{length-map}
use Rattle.tp_scene.specs.Pick.{scene_after}
use Rattle.tp_scene.specs.Step.{region_of}
use Rattle.tp_slots.specs.News.{new_items}
use Rattle.tp_slots.proofs.Newly.{holder_news}
use Rattle.tp_scene.specs.Scene as S
use Rattle.tp_decide.specs.ReadBound.{env_of, formula_of}
use Rattle.tp_slots.specs.Plain as plain
use Rattle.tp_slots.specs.Plain.{RegionSlot}
use Rattle.tp_slots.specs.Row.{AllBelow, begun, stepped, held_after}
use Rattle.tp_slots.specs.Threads.{afters_then}
use Rattle.tp_slots.specs.Read.{afters_of, ends_of, goes_of, holders_of, plain_holder, region_slot_of, scene_of, slot_of, slots_of, what_of}
use Rattle.tp_slots.specs.Reductions.{AreBare, becomes_holder, holder_then}
use Rattle.tp_slots.specs.declared.scene.What as code
use Rattle.tp_slots.proofs.Instances.{one_lives}
use Rattle.tp_slots.proofs.Changing.{home_within, lives_within, begins_scene, begins_kept}
use Rattle.tp_slots.proofs.change.become_holder.Goals as goal
use Rattle.tp_slots.proofs.change.become_holder.Goals.{In_ok-put}

pub put-requires-clause-item : goal.put-requires-clause-item
put-requires-clause-item c = lives_within c.args.scene.now c.args.item c.requires.kept.shape.ordered c.requires.lives

pub put-requires-clause-home : goal.put-requires-clause-home
put-requires-clause-home c = home_within c.args.scene.now c.args.item c.requires.kept.shape.ordered (lives_within c.args.scene.now c.args.item c.requires.kept.shape.ordered c.requires.lives)

pub put-requires-clause-bare : goal.put-requires-clause-bare
put-requires-clause-bare c = subst (λ (l : List code.What). AreBare (map what_of l)) (sym c.in_ok-inner.ensures) (tt, tt)

pub put-requires-clause-below : goal.put-requires-clause-below
put-requires-clause-below c =
    subst (λ (l : List code.What). AllBelow (length c.args.scene.now.regions.items + length (begun 0 (length l))) (map what_of c.in_ok-outs.outs.items)) (sym c.in_ok-inner.ensures)
    (subst (λ (l : List code.What). AllBelow (length c.args.scene.now.regions.items + 1) (map what_of l)) (sym c.in_ok-outs.ensures)
    (subst (λ w. AllBelow (length c.args.scene.now.regions.items + 1) (w ∷ [])) (sym c.requires.one.1) (omega arith, tt)))

pub returns : goal.returns
returns c =
    let a = c.args in
    let s = c.args.scene.now in
    let next = c.put.new.scene in
    let k = c.requires in
    let put = c.in_ok-put.ensures in
    let ins = c.in_ok-inner.ensures in
    let outs = c.in_ok-outs.ensures in
    let due = plain.bare (S.Do (formula_of a.first) (env_of a.first)) in
    let holder = k.one.0 in
    let alone = k.one.2 in
    let asleep = one_lives holder alone in
    let first : c.len.result ≡ length s.slots.items = search rules in
    let count = sym (length-map s.regions.items region_slot_of) in
    let held : plain_holder a.holder ≡ plain.holds holder (length (slots_of s).regions) None = k.one.1 ∙ (λ i. plain.holds holder (count i) None) in
    let slots = put.slots ∙ ((λ i. stepped (slots_of s) a.item None (map what_of (ins i)) (map what_of (outs i))) ∙ (λ i. stepped (slots_of s) a.item None (due ∷ []) (held i ∷ []))) in
    let holders = put.holders ∙ ((λ i. held_after (slots_of s) (map what_of (ins i)) (map what_of (outs i)) (holders_of s)) ∙ (λ i. held_after (slots_of s) (due ∷ []) (held i ∷ []) (holders_of s))) in
    let ends = put.ends ∙ ap (λ (l : List code.What). ends_of s ++ map (λ (x : RegionSlot). false) (begun 0 (length l))) ins in
    let goes = put.goes ∙ ap (λ (l : List code.What). goes_of s ++ map (λ (x : RegionSlot). false) (begun 0 (length l))) ins in
    let afters = put.afters ∙ (λ i. afters_then (afters_of s) (length (ins i)) (length (outs i)) a.item) in
    let reduction = becomes_holder (scene_of s) (formula_of a.first) (env_of a.first) (plain_holder a.holder) in
    let news = ap (λ w. holder_then (1 + length (slots_of s).slots) w (region_of (length (slots_of s).regions) (0 + length (slots_of s).slots) (formula_of a.first) (env_of a.first))) held in
    let scene : scene_of next ≡ scene_after a.item reduction (scene_of s) = begins_scene s a.item (formula_of a.first) (env_of a.first) holder alone asleep k.kept k.lives k.free next 0 slots holders ends goes reduction news refl refl refl in
    record {
      kept = begins_kept s a.item (formula_of a.first) (env_of a.first) holder alone asleep k.kept k.lives k.free next 0 slots holders ends goes c.put.ensures.looks afters;
      scene = scene;
      news = c.in_ok-fresh.ensures
          ∙ (ap (λ n. range_with_len n 2) (first ∙ sym (length-map s.slots.items slot_of))
          ∙ sym (ap (new_items (scene_of s)) scene ∙ (ap (λ w. new_items (scene_of s) (scene_after a.item (becomes_holder (scene_of s) (formula_of a.first) (env_of a.first) w) (scene_of s))) held
          ∙ holder_news s a.item k.kept k.lives (formula_of a.first) (env_of a.first) holder (length (slots_of s).regions) asleep)));
      err = tt;
    }
